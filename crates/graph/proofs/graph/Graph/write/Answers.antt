use Rattle.std.proofs.Common.{◌≡◌, ◌-◌, length, take, drop, Some, ap, ◌∙◌, subst, arith}
use Rattle.std.proofs.lemmas.List.{take_all, length-drop}
use Rattle.std.specs.Result.{result_ok}
use Rattle.graph.specs.Tables.{Ticks}
use Rattle.graph.proofs.Writing as lemma
use Rattle.graph.proofs.graph.Graph.write.Goals as goal

pub put_file-requires-clause-fits : goal.put_file-requires-clause-fits
put_file-requires-clause-fits c =
    let g = c.args.self.now in
    let xs = c.as_slice.result.now in
    let ds : take (length xs - 1) (drop 1 xs) ≡ drop 1 g.delays.items = take_all (length xs - 1) (drop 1 xs) (let h = length-drop 1 xs in omega arith) ∙ ap (drop 1) c.as_slice.ensures.value in
    let clocked : g.clock ≡ Some c.in_ok-clock.clock = c.ok_or.ensures.ok_part ∙ ap result_ok c.in_ok-clock.was in
    let n = c.gates.ensures.count in
    let few = c.gates.ensures.few in
    let m = ap length (c.as_slice-2.ensures.value ∙ c.listing-wires.ensures.wires) in
    let held = c.as_slice-2.ensures.fits in
    rw (ds, c.as_slice-2.ensures.value, c.listing-wires.ensures.wires) (lemma.tabled g (omega arith) (omega arith) c.listing-wires.ensures.ranged c.in_ok-clock.clock (subst Ticks clocked g.ticks))

pub returns : goal.returns
returns c =
    let g = c.args.self.now in
    let xs = c.as_slice.result.now in
    let ds : take (length xs - 1) (drop 1 xs) ≡ drop 1 g.delays.items = take_all (length xs - 1) (drop 1 xs) (let h = length-drop 1 xs in omega arith) ∙ ap (drop 1) c.as_slice.ensures.value in
    let f = rw (ds, c.as_slice-2.ensures.value, c.listing-wires.ensures.wires) at c.put_file.ensures in
    record {
      outcome = record {
        clock = c.in_ok-clock.clock;
        clocked = c.ok_or.ensures.ok_part ∙ ap result_ok c.in_ok-clock.was;
        long = lemma.file_length g c.in_ok-clock.clock c.put_file.result c.args.out.now c.put_file.new.out f;
        file = f;
      };
    }
