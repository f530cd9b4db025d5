-- The wires that two rows hold, and what a write to the rows does to them.
use Rattle.std.proofs.Common.{◌≡◌, ℕ, zero, suc, ◌<◌, List, [], ◌∷◌, ◌++◌, map, length, get_or, set, is_some, Some, None, Option, refl, ap, ◌∙◌, inl, inr, arith}
use Rattle.std.proofs.lemmas.Grind.{common_steps}
use Rattle.std.proofs.lemmas.List.{length-set}
use Rattle.std.specs.List.{zip}
use Rattle.arrayvec.specs.ArrayVec.{ArrayVec, with_items}
use Rattle.arrayvec.proofs.ArrayVecLemmas.{items-with_items}
use Rattle.model.specs.declared.Wire.{Wire}
use Rattle.model.specs.Circuit.{◌∈◌, kept}
use Rattle.graph.specs.declared.graph.ends.Ends.{Ends}
use Rattle.graph.specs.Tables.{At}
use Rattle.graph.specs.Reads.{wire_by, wire_of, wires_of}
use Rattle.graph.specs.Calls.{holding}

pub wires_length : (es : List (Option Ends)) (rs : List ℕ) → length rs ≡ length es → length (wires_of es rs) ≡ length es
wires_length [] rs e = refl
wires_length (x ∷ es) [] e = absurd (omega arith)
wires_length (x ∷ es) (r ∷ rs) e = ap suc (wires_length es rs (omega arith))

pub wires_at : (es : List (Option Ends)) (rs : List ℕ) (k : ℕ) → length rs ≡ length es → get_or (wires_of es rs) k None ≡ wire_of (get_or es k None) (get_or rs k 0)
wires_at [] rs k e = refl
wires_at (x ∷ es) [] k e = absurd (omega arith)
wires_at (x ∷ es) (r ∷ rs) zero e = refl
wires_at (x ∷ es) (r ∷ rs) (suc k) e = wires_at es rs k (omega arith)

pub wires_push : (es : List (Option Ends)) (rs : List ℕ) (e : Option Ends) (r : ℕ) → length rs ≡ length es → wires_of (es ++ e ∷ []) (rs ++ r ∷ []) ≡ wires_of es rs ++ wire_of e r ∷ []
wires_push [] [] e r h = refl
wires_push [] (y ∷ rs) e r h = absurd (omega arith)
wires_push (x ∷ es) [] e r h = absurd (omega arith)
wires_push (x ∷ es) (y ∷ rs) e r h = ap (λ (ws : List (Option Wire)). wire_of x y ∷ ws) (wires_push es rs e r (omega arith))

holding_by : (r y : ℕ) (e : Option Ends) → wire_of e r ≡ holding r (wire_of e y)
holding_by r y None = refl
holding_by r y (Some e) = refl

pub wires_set : (es : List (Option Ends)) (rs : List ℕ) (k r : ℕ) → wires_of es (set rs k r) ≡ set (wires_of es rs) k (holding r (get_or (wires_of es rs) k None))
wires_set [] rs k r = refl
wires_set (x ∷ es) [] zero r = refl
wires_set (x ∷ es) [] (suc k) r = refl
wires_set (x ∷ es) (y ∷ rs) zero r = ap (λ (w : Option Wire). w ∷ wires_of es rs) (holding_by r y x)
wires_set (x ∷ es) (y ∷ rs) (suc k) r = ap (λ (ws : List (Option Wire)). wire_of x y ∷ ws) (wires_set es rs k r)

pub wires_drop : (es : List (Option Ends)) (rs : List ℕ) (k : ℕ) → wires_of (set es k None) rs ≡ set (wires_of es rs) k None
wires_drop [] rs k = refl
wires_drop (x ∷ es) [] zero = refl
wires_drop (x ∷ es) [] (suc k) = refl
wires_drop (x ∷ es) (y ∷ rs) zero = refl
wires_drop (x ∷ es) (y ∷ rs) (suc k) = ap (λ (ws : List (Option Wire)). wire_of x y ∷ ws) (wires_drop es rs k)

-- ---- the live wires of two rows
pub live_in : (es : List (Option Ends)) (rs : List ℕ) (j : ℕ) (e : Ends) → length rs ≡ length es → At es j e → wire_by e (get_or rs j 0) ∈ kept (wires_of es rs)
live_in [] rs j e l h = absurd (cc)
live_in (x ∷ es) [] j e l h = absurd (omega arith)
live_in (None ∷ es) (r ∷ rs) zero e l h = absurd (cc)
live_in (Some x ∷ es) (r ∷ rs) zero e l h = let q : e ≡ x = cc in inl (ap (λ (y : Ends). wire_by y r) q)
live_in (None ∷ es) (r ∷ rs) (suc j) e l h = live_in es rs j e (omega arith) h
live_in (Some x ∷ es) (r ∷ rs) (suc j) e l h = inr (live_in es rs j e (omega arith) h)

pub record Found (es : List (Option Ends)) (rs : List ℕ) (w : Wire) : Type 0 where
  pub at : ℕ
  pub ends : Ends
  pub there : at < length es
  pub lives : At es at ends
  pub is : w ≡ wire_by ends (get_or rs at 0)

further : {x : Option Ends} {es : List (Option Ends)} {r : ℕ} {rs : List ℕ} {w : Wire} → Found es rs w → Found (x ∷ es) (r ∷ rs) w
further f = record { at = suc f.at; ends = f.ends; there = (let a = f.there in omega arith); lives = f.lives; is = f.is }

pub in_live : (es : List (Option Ends)) (rs : List ℕ) (w : Wire) → w ∈ kept (wires_of es rs) → Found es rs w
in_live [] rs w m = absurd m
in_live (x ∷ es) [] w m = absurd m
in_live (None ∷ es) (r ∷ rs) w m = further (in_live es rs w m)
in_live (Some x ∷ es) (r ∷ rs) w (inl q) = record { at = 0; ends = x; there = omega arith; lives = refl; is = q }
in_live (Some x ∷ es) (r ∷ rs) w (inr m) = further (in_live es rs w m)

-- ---- which slots are there
some_by : (e : Option Ends) (r : ℕ) → is_some (wire_of e r) ≡ is_some e
some_by None r = refl
some_by (Some e) r = refl

-- a wire is there where its slot is not empty
pub wires_there : (es : List (Option Ends)) (rs : List ℕ) (k : ℕ) → length rs ≡ length es → is_some (get_or (wires_of es rs) k None) ≡ is_some (get_or es k None)
wires_there es rs k e = ap is_some (wires_at es rs k e) ∙ some_by (get_or es k None) (get_or rs k 0)

pub wires_zip : (es : List (Option Ends)) (rs : List ℕ) → map (λ (p : Option Ends × ℕ). wire_of p.0 p.1) (zip es rs) ≡ wires_of es rs
wires_zip [] rs = refl
wires_zip (e ∷ es) [] = refl
wires_zip (e ∷ es) (r ∷ rs) = ap (λ (ws : List (Option Wire)). wire_of e r ∷ ws) (wires_zip es rs)

-- after a write through the slice of an `ArrayVec`
pub written : {X : Type 0} (v : ArrayVec X) (xs : List X) (k : ℕ) (x : X) → xs ≡ v.items → (with_items v (set xs k x)).items ≡ set v.items k x
written {X = X} v xs k x e = items-with_items v (set xs k x) (length-set xs k x ∙ ap length e) ∙ ap (λ (ys : List X). set ys k x) e

-- a drop leaves the other wires
pub at_drop : (es : List (Option Ends)) (k j : ℕ) (e : Ends) → At (set es k None) j e → At es j e
at_drop [] k j e h = h
at_drop (x ∷ es) zero zero e h = absurd (cc)
at_drop (x ∷ es) zero (suc j) e h = h
at_drop (x ∷ es) (suc k) zero e h = h
at_drop (x ∷ es) (suc k) (suc j) e h = at_drop es k j e h

-- what the calls on wires need
pub ruleset rows = (common_steps, wires_length, wires_push, wires_set, wires_drop, wires_there, written)
