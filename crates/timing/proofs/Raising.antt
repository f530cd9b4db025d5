-- One head more that waits for the time.
use Rattle.std.proofs.lemmas.Grind.{common_steps}
use Rattle.std.proofs.Common.{◌≡◌, ℕ, ◌<◌, max, List, [], ◌∷◌, ◌++◌, length, get_or, set, arith}
use Rattle.timing.specs.Groups.{entered}
use Rattle.timing.specs.Lowered.{RaisedBy}

pub raised_as : (c d : ℕ → ℕ) (t : ℕ) (old new : List ℕ) → ((v : ℕ) → c v ≡ d v) → RaisedBy c t old new → RaisedBy d t old new
raised_as c d t old new e r = grind (arith, e)

module _ (hs : List ℕ) (x t : ℕ) (old new : List ℕ) (h : x < length new) (r : RaisedBy (entered hs) t old new) where
  abbrev later : List ℕ
  later = set new x (max (get_or new x 0) t)

  same : get_or later x 0 ≡ max (get_or old x 0) t
  same = grind (arith, common_steps)

  pub raised_more : RaisedBy (entered (hs ++ x ∷ [])) t old later
  raised_more = grind (arith, common_steps)
