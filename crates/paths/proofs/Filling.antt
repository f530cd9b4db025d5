-- Rows of the tables.
use Rattle.std.proofs.Common.{◌≡◌, ℕ, ◌+◌, ◌-◌, ◌*◌, ◌<◌, ◌≤◌, List, ◌++◌, length, get_or, slice_index, take, drop, replicate, sym, ap, ◌∙◌, subst, inl, inr, ⊎_elim, mul-le-mul_right, add-mul, one-mul, arith}
use Rattle.std.proofs.lemmas.List.{length-take-le, length-replicate, length-append, length-drop, get_or_append_left, get_or-append_right, get_or-replicate, get_or-drop}
use Rattle.std.proofs.lemmas.Bool.{cases_eq}
use Rattle.model.specs.Circuit.{Circuit, gates}
use Rattle.paths.specs.Rows.{Cell, Rows, Outside, Beyond}

-- the row of u is filled, and the other cells are as they were
pub record Rowed (c : Circuit) (u : ℕ) (W D W' D' : List ℕ) : Type 0 where
  pub row : (v : ℕ) → v < gates c → Cell c u v (slice_index W' (u * gates c + v)) (slice_index D' (u * gates c + v))
  pub least : Outside (u * gates c) (gates c) W W'
  pub most : Outside (u * gates c) (gates c) D D'

-- the row of u ends where that of the next gate begins
pub row_in : (u m n : ℕ) → u < m → u * n + n ≤ m * n
row_in u m n lt =
    let e = add-mul u 1 n in
    let f = one-mul n in
    let h : u + 1 ≤ m = omega arith in
    let k = mul-le-mul_right n h in
    omega arith

pub rows_more : (c : Circuit) (u : ℕ) (W D W' D' : List ℕ) → Rows c u W D → Rowed c u W D W' D' → Rows c (u + 1) W' D'
rows_more c u W D W' D' h r a v lt vn = ⊎_elim
    (λ e. subst (λ b. Cell c b v (get_or W' (b * gates c + v) 0) (get_or D' (b * gates c + v) 0)) (sym e) (r.row v vn))
    (λ ne.
    let au : a < u = omega arith in
    let k = row_in a u (gates c) au in
    let below : a * gates c + v < u * gates c = omega arith in
    subst (λ w. Cell c a v w (get_or D' (a * gates c + v) 0)) (sym (r.least.1 (a * gates c + v) (inl below)))
    (subst (λ d. Cell c a v (get_or W (a * gates c + v) 0) d) (sym (r.most.1 (a * gates c + v) (inl below))) (h a v au vn)))
    (cases_eq a u)

-- a row of the table lies before its end
pub beyond_more : (u n : ℕ) (V W W' : List ℕ) → u < n → Beyond (n * n) V W → Outside (u * n) n W W' → Beyond (n * n) V W'
beyond_more u n V W W' lt h r =
    let k = row_in u n n lt in
    (r.0 ∙ h.0, λ i le. r.1 i (inr (omega arith)) ∙ h.1 i le)

-- the first n cells are filled, and the rest is as it was
pub front_filled : (n x : ℕ) (W front : List ℕ) → n ≤ length W → front ≡ replicate (length (take n W)) x → ((v : ℕ) → v < n → get_or (front ++ drop n W) v 0 ≡ x) × Beyond n W (front ++ drop n W)
front_filled n x W front le e =
    let size : length (take n W) ≡ n = length-take-le n W le in
    let long : length front ≡ n = ap length e ∙ length-replicate (length (take n W)) x ∙ size in (
      λ v lt. get_or_append_left front (drop n W) 0 v (omega arith) ∙ ap (λ ys. get_or ys v 0) e ∙ get_or-replicate (length (take n W)) v x 0 (omega arith),
      (
        length-append front (drop n W) ∙ (let d = length-drop n W in omega arith),
        λ i far. get_or-append_right front (drop n W) n i 0 long far ∙ get_or-drop n W (i - n) 0 ∙ ap (λ k. get_or W k 0) (let z : n + (i - n) ≡ i = omega arith in z),
      ),
    )

-- the first row of a square lies in it
pub beyond_square : (n : ℕ) (V W : List ℕ) → 0 < n → Beyond n V W → Beyond (n * n) V W
beyond_square n V W some h = let k = row_in 0 n n some in (h.0, λ i far. h.1 i (omega arith))
