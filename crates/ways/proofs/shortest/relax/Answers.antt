use Rattle.std.proofs.Common.{◌<◌, length, sym, refl, ◌∙◌, rules}
use Rattle.std.proofs.lemmas.Bool.{not-true, not-false}
use Rattle.ways.proofs.Steps.{one_more, within, is_better, no_better}
use Rattle.ways.proofs.shortest.relax.Goals as goal

pub plus-sum-requires : goal.plus-sum-requires
plus-sum-requires g c =
    one_more g.met.N.Length.Distance.distances _ _ _ _ c.requires.sound c.requires.kept c.args.i c.in-Some.arc (sym c.arc.ensures ∙ c.in-Some.is)
    _ c.in-Some-distance.far c.in-Some-distance.is

pub offset_bounds-found-arc-2 : goal.offset_bounds-found-arc-2
offset_bounds-found-arc-2 g c = let h : c.in-Some.arc.head < length c.args.found.now = c.requires.sound.head _ _ (sym c.arc.ensures ∙ c.in-Some.is) in search rules

pub returns-then-not-beats : goal.returns-then-not-beats
returns-then-not-beats g c = (
  no_better g.met.N.Length.Distance.distances _ _ _ _ c.requires.sound c.requires.kept c.args.i c.in-Some.arc (sym c.arc.ensures ∙ c.in-Some.is)
      _ c.in-Some-distance.far c.in-Some-distance.is c.plus-sum.result c.plus-sum.ensures _ (not-false _ (sym c.beats.ensures ∙ c.if-not-beats.true)),
  refl,
)

pub improve-requires : goal.improve-requires
improve-requires g c = record {
  sound = c.requires.sound;
  kept = c.requires.kept;
  better = is_better g.met.N.Length.Distance.distances _ _ _ _ c.requires.sound c.requires.kept c.args.i c.in-Some.arc (sym c.arc.ensures ∙ c.in-Some.is)
      _ c.in-Some-distance.far c.in-Some-distance.is c.plus-sum.result c.plus-sum.ensures _ (not-true _ (sym c.beats.ensures ∙ c.if-not-beats.false));
  within = within g.met.N.Length.Distance.distances _ _ _ _ c.requires.sound c.requires.kept c.args.i c.in-Some.arc (sym c.arc.ensures ∙ c.in-Some.is)
      _ c.in-Some-distance.far c.in-Some-distance.is;
}
