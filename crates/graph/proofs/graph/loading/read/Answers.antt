use Rattle.std.proofs.Common.{ℕ, List, Some, None, subst, ◌∙◌}
use Rattle.words.specs.Records.{StartsAs, reached}
use Rattle.graph.specs.Reads.{circuit}
use Rattle.graph.proofs.Fills as lemma
use Rattle.graph.proofs.graph.loading.read.Goals as goal

pub loop-item-init : goal.loop-item-init
loop-item-init c = rw (c.into_iter-item-iterator.ensures.into_iter_gives, c.records-item-items.ensures.start) (
  c.records-item-items.ensures.words,
  lemma.begun c.args.words.now c.requires.0 _ _ c.requires.1 c.new-graph.ensures.circuit,
)

pub loop-item-preserved : goal.loop-item-preserved
loop-item-preserved c =
    let old = c.loop-item.graph in
    let at = reached c.loop-item.item-iterator in
    let s = c.in-Some.ensures.steps in
    let i = c.loop-item.invariant in
    let t = subst (λ (ws : List ℕ). StartsAs ws at (Some c.in-Some.item)) i.0 s.starts.outcome in
    (s.same ∙ i.0, rw (s.behind, c.add.ensures.circuit, c.add.ensures.clock) (lemma.turn c.args.words.now at (circuit old) old.clock i.1 c.in-Some.item t))

pub returns : goal.returns
returns c =
    let g = c.loop-item.graph in
    let at = reached c.loop-item.item-iterator in
    let f = c.loop-item.invariant.1 in
    let t = subst (λ (ws : List ℕ). StartsAs ws at None) c.loop-item.invariant.0 c.in-None.ensures.steps.starts.outcome in
    let d = lemma.finish c.args.words.now at (circuit g) g.clock f t in
    record { netlist = f.netlist; spelled = f.file; held = record { graph = d.circuit_is; clock = d.clock_is } }
