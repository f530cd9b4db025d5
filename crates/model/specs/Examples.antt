-- Two worked graphs.
use Rattle.std.specs.Prelude.{◌≡◌, ℕ, List, [], ◌∷◌, map, ℤ, pos, negsuc, Some, Option, slice_index_or}
use Rattle.model.specs.Circuit.{Wire, Circuit, live, NoFreeLoop, IsPeriod, ◌∈◌}
use Rattle.model.specs.Labels.{cost, retimed}
use Rattle.model.specs.Limits.{Limit, IsAnswer, Keeps, BadChain, IsLimit, Share, Balanced, standing}

-- price 1, floor 0, ceiling 255
abbrev pub plain : ℕ → ℕ → ℕ → Option Wire
plain u v k = Some (record { from = u; to = v; registers = k; price = 1; floor = 0; ceiling = 255 })

abbrev pub R : Circuit
R = record { delays = 0 ∷ 3 ∷ 4 ∷ 2 ∷ []; wires = plain 0 1 1 ∷ plain 1 2 0 ∷ plain 2 3 0 ∷ plain 3 0 1 ∷ [] }

abbrev pub R_empty : Circuit
R_empty = record { delays = 0 ∷ 3 ∷ 4 ∷ 2 ∷ []; wires = plain 0 1 1 ∷ plain 1 2 0 ∷ plain 2 3 0 ∷ plain 3 0 0 ∷ [] }

abbrev pub J : Circuit
J = record { delays = 0 ∷ 1 ∷ 1 ∷ 1 ∷ []; wires = plain 0 1 1 ∷ plain 0 2 1 ∷ plain 1 3 0 ∷ plain 2 3 0 ∷ plain 3 0 0 ∷ [] }

-- one gate of delay 1, and empty wires to the host and back: no path runs through the host
abbrev pub through_host : Circuit
through_host = record { delays = 0 ∷ 1 ∷ []; wires = plain 1 0 0 ∷ plain 0 1 0 ∷ [] }

abbrev pub host_alone : Circuit
host_alone = record { delays = 0 ∷ []; wires = [] }

abbrev pub labels : List ℤ → ℕ → ℤ
labels ls g = slice_index_or ls g (pos 0)

abbrev pub registers_of : Circuit → List ℕ
registers_of c = map (λ w. w.registers) (live c)

abbrev pub limit : ℕ → ℕ → ℤ → Limit
limit x y b = record { first = x; second = y; bound = b }

abbrev pub share : ℕ → ℕ → ℤ → ℕ → Share
share x y b n = record { limit = limit x y b; amount = n }

-- hold 3 in 1 to 5, and together 1, 3
abbrev pub hold_3 : List Limit
hold_3 = limit 0 3 (negsuc 0) ∷ limit 3 0 (pos 5) ∷ []

abbrev pub together_1_3 : List Limit
together_1_3 = limit 1 3 (pos 0) ∷ limit 3 1 (pos 0) ∷ []

-- r is of least cost, and costs k
pub record Best (c : Circuit) (t : ℕ) (rule : List Limit) (r : List ℤ) (k : ℤ) : Type 0 where
  pub answer : IsAnswer c t rule (labels r)
  pub costs : cost c (labels r) ≡ k

-- ls are limits of the circuit, a chain of which sums below zero, and no labelling keeps all
pub record Refused (c : Circuit) (t : ℕ) (rule : List Limit) (ls : List Limit) : Type 0 where
  pub chain : BadChain ls
  pub limits : (l : Limit) → l ∈ ls → IsLimit c t rule l
  pub none : (r : ℕ → ℤ) → Keeps c t rule r → ⊥

pub record Worked : Type 0 where
  pub R_period : IsPeriod R 9
  pub R_clock_5 : Best R 5 [] (pos 0 ∷ negsuc 0 ∷ pos 0 ∷ pos 1 ∷ []) (pos 2)
  pub R_applied : registers_of (retimed (labels (pos 0 ∷ negsuc 0 ∷ pos 0 ∷ pos 1 ∷ [])) R) ≡ 0 ∷ 1 ∷ 1 ∷ 0 ∷ []
  pub R_clock_3 : Refused R 3 [] (limit 2 2 (negsuc 0) ∷ [])
  pub R_empty_clock_5 : Refused R_empty 5 [] (limit 1 2 (negsuc 0) ∷ limit 2 3 (negsuc 0) ∷ limit 3 0 (pos 0) ∷ limit 0 1 (pos 1) ∷ [])
  pub J_clock_3 : Best J 3 [] (pos 0 ∷ negsuc 0 ∷ negsuc 0 ∷ negsuc 0 ∷ []) (pos 1)
  pub J_stands : Balanced J (share 0 1 (pos 1) 1 ∷ share 1 3 (pos 0) 1 ∷ []) × (standing J (share 0 1 (pos 1) 1 ∷ share 1 3 (pos 0) 1 ∷ []) ≡ pos 1)
  pub J_clock_1 : Best J 1 [] (pos 0 ∷ negsuc 0 ∷ negsuc 0 ∷ pos 0 ∷ []) (pos 2)
  pub J_hold : Refused J 3 hold_3 (limit 0 3 (negsuc 0) ∷ limit 3 0 (pos 0) ∷ [])
  pub J_together : Refused J 1 together_1_3 (limit 1 3 (negsuc 0) ∷ limit 3 1 (pos 0) ∷ [])
  pub host_clock_1 : Best host_alone 1 [] (pos 0 ∷ []) (pos 0)
  pub host_passes_none : NoFreeLoop through_host × IsPeriod through_host 1
