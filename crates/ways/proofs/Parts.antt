-- A write in one of the two parts of a list is a write in the list.
use Rattle.std.proofs.Common.{◌≡◌, ℕ, ◌-◌, ◌<◌, List, [], ◌++◌, length, get_or, set, None, sym, ap, ◌∙◌, arith}
use Rattle.std.proofs.lemmas.List.{get_or_default, get_or_append_left, get_or-append_right, set-append_left, set-append_right}
use Rattle.ways.specs.Walks.{known, led}
use Rattle.ways.specs.declared.walk.Way.{Way}

module _ {L : Type 0} (low high : List (Way L)) (i : ℕ) (far : L) (e way : Way L) (arcs : List ℕ) (led_on : way ≡ led arcs i far) where
  blank : Way L
  blank = record { distance = None; arcs = record { items = [] } }

  -- from the low part to the first of the high part
  pub led_high : (from to : ℕ) → length low ≡ to → from < to → arcs ≡ (get_or low from e).arcs.items
      → low ++ set high 0 way ≡ set (low ++ high) to (led (known (low ++ high) from).arcs.items i far)
  unfolding blank
  led_high from to len lt read =
      let h : from < length low = omega arith in
      let z : 0 ≡ to - to = omega arith in
      let there : get_or low from e ≡ known (low ++ high) from = get_or_default low from e blank h ∙ sym (get_or_append_left low high blank from h) in
      ap (λ k. low ++ set high k way) z
      ∙ sym (set-append_right low high to to way len (omega arith))
      ∙ ap (set (low ++ high) to) (led_on ∙ ap (λ ps. led ps i far) (read ∙ ap (λ (w : Way L). w.arcs.items) there))

  -- from the first of the high part to the low part
  pub led_low : (from to : ℕ) → length low ≡ from → 0 < length high → to < from → arcs ≡ (get_or high 0 e).arcs.items
      → set low to way ++ high ≡ set (low ++ high) to (led (known (low ++ high) from).arcs.items i far)
  unfolding blank
  led_low from to len some lt read =
      let z : 0 ≡ from - from = omega arith in
      let there : get_or high 0 e ≡ known (low ++ high) from =
      get_or_default high 0 e blank some ∙ ap (λ k. get_or high k blank) z ∙ sym (get_or-append_right low high from from blank len (omega arith)) in
      sym (set-append_left low high to way (omega arith))
      ∙ ap (set (low ++ high) to) (led_on ∙ ap (λ ps. led ps i far) (read ∙ ap (λ (w : Way L). w.arcs.items) there))
