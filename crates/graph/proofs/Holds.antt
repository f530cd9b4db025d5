-- The circuit that a graph holds is sound, and what follows from that.
use Rattle.std.proofs.Common.{◌≡◌, ℕ, zero, suc, ◌+◌, ◌-◌, ◌<◌, ◌≤◌, List, [], ◌∷◌, ◌++◌, length, get_or, drop, replicate, Some, None, Option, sym, refl, ap, ◌∙◌, subst, inl, inr, arith}
use Rattle.std.specs.List.{AllByRecursion}
use Rattle.std.proofs.lemmas.List.{get_or-append_right, get_or-drop}
use Rattle.timing.proofs.Blank.{blank_all}
use Rattle.words.specs.Netlist.{Joins}
use Rattle.paths.specs.Arcs.{registers_of}
use Rattle.model.specs.declared.Wire.{Wire}
use Rattle.model.specs.Circuit.{Sound, Ranged, kept, live, ◌∈◌}
use Rattle.graph.specs.declared.graph.Graph.{Graph}
use Rattle.graph.specs.declared.graph.ends.Ends.{Ends}
use Rattle.graph.specs.Reads.{circuit, wires_of}
use Rattle.graph.proofs.Rows.{in_live}
use Rattle.graph.proofs.Present.{present}

pub circuit_sound : (g : Graph) → Sound (circuit g)
circuit_sound g = record {
  host = g.some;
  idle = g.idle;
  joined = λ w m.
      let f = in_live g.wires.items g.registers.items w m in
      let i = g.inside f.at f.ends f.lives in
      let from = ap (λ (x : Wire). x.from) f.is in
      let to = ap (λ (x : Wire). x.to) f.is in
      ((let a = i.0 in omega arith), (let a = i.1 in omega arith));
}

pub wires_ranged : (g : Graph) → ((k : ℕ) → get_or g.registers.items k 0 < 256) → (w : Wire) → w ∈ live (circuit g) → Ranged w
wires_ranged g bytes w m =
    let f = in_live g.wires.items g.registers.items w m in
    let i = g.inside f.at f.ends f.lives in
    subst Ranged (sym f.is)
    (record {
      registers = (let b = bytes f.at in omega arith);
      cheap = i.2;
      dear = i.3;
      order = i.4;
      ceiling = g.capped f.at f.ends f.lives;
    })

-- the live wires are the slots that are not empty
kept_count : (es : List (Option Ends)) (rs : List ℕ) → length rs ≡ length es → length (kept (wires_of es rs)) ≡ length (present es)
kept_count [] rs h = refl
kept_count (e ∷ es) [] h = absurd (omega arith)
kept_count (None ∷ es) (r ∷ rs) h = kept_count es rs (omega arith)
kept_count (Some e ∷ es) (r ∷ rs) h = ap suc (kept_count es rs (omega arith))

pub live_held : (g : Graph) → length (live (circuit g)) ≡ length (present g.wires.items)
live_held g = kept_count g.wires.items g.registers.items g.paired

pub kept_few : (ws : List (Option Wire)) → length (kept ws) ≤ length ws
kept_few [] = omega arith
kept_few (None ∷ ws) = let h = kept_few ws in omega arith
kept_few (Some w ∷ ws) = let h = kept_few ws in omega arith

-- ---- wires in their ranges
pub deep : (ws : List (Option Wire)) → ((w : Wire) → w ∈ kept ws → Ranged w) → (i : ℕ) → registers_of (get_or ws i None) ≤ 255
deep [] r i = omega arith
deep (None ∷ ws) r zero = omega arith
deep (Some w ∷ ws) r zero = (r w (inl refl)).registers
deep (None ∷ ws) r (suc i) = deep ws r i
deep (Some w ∷ ws) r (suc i) = deep ws (λ v m. r v (inr m)) i

pub all_join : (n : ℕ) (ws : List Wire) → ((w : Wire) → w ∈ ws → Ranged w) → ((w : Wire) → w ∈ ws → (w.from < n + 1) × (w.to < n + 1)) → AllByRecursion (Joins n) ws
all_join n [] r j = tt
all_join n (w ∷ ws) r j =
    let x = r w (inl refl) in
    let y = j w (inl refl) in (
      record { from = omega arith; to = omega arith; registers = omega arith; cheap = x.dear; priced = x.cheap; ordered = x.order; ceiling = omega arith },
      all_join n ws (λ v m. r v (inr m)) (λ v m. j v (inr m)),
    )

-- past a list that stands at the front of empty slots there is none
pub beyond_front : (front ws : List (Option Wire)) (n m : ℕ) → front ≡ ws → n ≡ length ws → (k : ℕ) → length ws ≤ k → get_or (front ++ drop n (replicate m None)) k None ≡ None
beyond_front front ws n m e l k h =
    let f : length front ≡ n = ap length e ∙ sym l in
    get_or-append_right front (drop n (replicate m None)) n k None f (omega arith)
    ∙ get_or-drop n (replicate m None) (k - n) None
    ∙ blank_all m (n + (k - n)) None
