-- The worked graphs: each row by a test that antt computes.
use Rattle.std.proofs.Common.{ℕ, List, [], ◌∷◌, get_or, pos, negsuc, Some, None, refl, ap, inl, inr, arith}
use lib.Signed.{lt_z_yes}
use Rattle.std.specs.List.{AllByRecursion}
use Rattle.model.specs.Circuit.{Wire, Circuit, Inner, Link, live, NoFreeLoop, IsPeriod, ◌∈◌}
use Rattle.model.specs.Limits.{Limit, IsLimit, by_floor, by_rule, BadChain, end, link}
use Rattle.model.specs.Examples.{R, R_empty, J, through_host, host_alone, limit, share, hold_3, together_1_3, Best, Refused, Worked}
use Rattle.model.proofs.Clock.{starts}
use Rattle.model.proofs.Duality.{none_by_chain}
use Rattle.model.proofs.Certificates.{is_period, answers, by_table, all_in, balanced, stop, via, lives_at, wire_at, Entry}

abbrev bounds : List ℕ → ℕ → ℕ
bounds xs g = get_or xs g 0

abbrev column : List Entry → ℕ → Entry
column xs g = get_or xs g None

refused : (c : Circuit) (t : ℕ) (rule ls : List Limit) → BadChain ls → AllByRecursion (IsLimit c t rule) ls → Refused c t rule ls
refused c t rule ls bad limits =
    let each = all_in (IsLimit c t rule) ls limits in
    record { chain = bad; limits = each; none = none_by_chain c t rule ls bad each }

R_period : IsPeriod R 9
R_period = is_period R 9 (bounds (0 ∷ 9 ∷ 6 ∷ 2 ∷ [])) refl 1 3 (via R 1 refl (via R 2 refl (stop R 3 refl))) refl refl

R_clock_5 : Best R 5 [] (pos 0 ∷ negsuc 0 ∷ pos 0 ∷ pos 1 ∷ []) (pos 2)
R_clock_5 = record {
  answer = answers R 5 [] _ (bounds (0 ∷ 3 ∷ 4 ∷ 2 ∷ [])) [] refl (λ l m. absurd m) (λ l m. absurd m) tt;
  costs = refl;
}

R_clock_3 : Refused R 3 [] (limit 2 2 (negsuc 0) ∷ [])
R_clock_3 = refused R 3 [] _
    (record { at = 2; once = ((λ m. omega arith), tt); closed = link (limit 2 2 (negsuc 0)) end; below = lt_z_yes tt })
    (by_table R 3 [] (column (None ∷ Some (0, 7) ∷ Some (0, 4) ∷ [])) 2 2 0 4 refl refl (stop R 2 refl) refl refl, tt)

R_empty_clock_5 : Refused R_empty 5 [] (limit 1 2 (negsuc 0) ∷ limit 2 3 (negsuc 0) ∷ limit 3 0 (pos 0) ∷ limit 0 1 (pos 1) ∷ [])
R_empty_clock_5 = refused R_empty 5 [] _
    (record {
      at = 1;
      once = ((λ m. omega arith), ((λ m. omega arith), ((λ m. omega arith), ((λ m. omega arith), tt))));
      closed = link (limit 1 2 (negsuc 0)) (link (limit 2 3 (negsuc 0)) (link (limit 3 0 (pos 0)) (link (limit 0 1 (pos 1)) end)));
      below = lt_z_yes tt;
    }) (
      by_table R_empty 5 [] (column (None ∷ Some (0, 7) ∷ Some (0, 4) ∷ [])) 1 2 0 7 refl refl (via R_empty 1 refl (stop R_empty 2 refl)) refl refl,
      (
        by_table R_empty 5 [] (column (None ∷ Some (0, 9) ∷ Some (0, 6) ∷ Some (0, 2) ∷ [])) 2 3 0 6 refl refl (via R_empty 2 refl (stop R_empty 3 refl)) refl refl,
        (
          by_floor (wire_at R_empty 3) (lives_at R_empty 3 refl) refl,
          (by_floor (wire_at R_empty 0) (lives_at R_empty 0 refl) refl, tt),
        ),
      ),
    )

J_clock_3 : Best J 3 [] (pos 0 ∷ negsuc 0 ∷ negsuc 0 ∷ negsuc 0 ∷ []) (pos 1)
J_clock_3 = record {
  answer = answers J 3 [] _ (bounds (0 ∷ 2 ∷ 2 ∷ 1 ∷ [])) (share 0 1 (pos 1) 1 ∷ share 1 3 (pos 0) 1 ∷ []) refl (λ l m. absurd m) (λ l m. absurd m)
      (by_floor (wire_at J 0) (lives_at J 0 refl) refl, (by_floor (wire_at J 2) (lives_at J 2 refl) refl, tt));
  costs = refl;
}

J_slow : (rule : List Limit) → IsLimit J 1 rule (limit 1 3 (negsuc 0))
J_slow rule = by_table J 1 rule (column (None ∷ Some (0, 2) ∷ Some (0, 2) ∷ Some (0, 1) ∷ [])) 1 3 0 2 refl refl (via J 2 refl (stop J 3 refl)) refl refl

J_clock_1 : Best J 1 [] (pos 0 ∷ negsuc 0 ∷ negsuc 0 ∷ pos 0 ∷ []) (pos 2)
J_clock_1 = record {
  answer = answers J 1 [] _ (bounds (0 ∷ 1 ∷ 1 ∷ 1 ∷ [])) (share 0 1 (pos 1) 1 ∷ share 1 3 (negsuc 0) 1 ∷ []) refl (λ l m. absurd m) (λ l m. absurd m)
      (by_floor (wire_at J 0) (lives_at J 0 refl) refl, (J_slow [], tt));
  costs = refl;
}

J_hold : Refused J 3 hold_3 (limit 0 3 (negsuc 0) ∷ limit 3 0 (pos 0) ∷ [])
J_hold = refused J 3 hold_3 _
    (record { at = 0; once = ((λ m. omega arith), ((λ m. omega arith), tt)); closed = link (limit 0 3 (negsuc 0)) (link (limit 3 0 (pos 0)) end); below = lt_z_yes tt })
    (by_rule (inl refl), (by_floor (wire_at J 4) (lives_at J 4 refl) refl, tt))

J_together : Refused J 1 together_1_3 (limit 1 3 (negsuc 0) ∷ limit 3 1 (pos 0) ∷ [])
J_together = refused J 1 together_1_3 _
    (record { at = 1; once = ((λ m. omega arith), ((λ m. omega arith), tt)); closed = link (limit 1 3 (negsuc 0)) (link (limit 3 1 (pos 0)) end); below = lt_z_yes tt })
    (J_slow together_1_3, (by_rule (inr (inl refl)), tt))

-- both ends of a path's wire are gates that are not the host, and each wire here has the host at one end
no_link : (u x : ℕ) → Inner through_host u → Inner through_host x → Link through_host u x → ⊥
no_link u x i j l = go l.lives
  where
    go : l.wire ∈ live through_host → ⊥
    go (inl e) = let a = ap (λ (w : Wire). w.to) e in let b = l.enters in let d = j.apart in omega arith
    go (inr (inl e)) = let a = ap (λ (w : Wire). w.from) e in let b = l.leaves in let d = i.apart in omega arith
    go (inr (inr m)) = m

host_passes_none : NoFreeLoop through_host × IsPeriod through_host 1
host_passes_none = (
  λ f. no_link f.start f.next f.inner (starts f.back) f.link,
  is_period through_host 1 (bounds (0 ∷ 1 ∷ [])) refl 1 1 (stop through_host 1 refl) refl refl,
)

pub worked : Worked
worked = record {
  R_period = R_period;
  R_clock_5 = R_clock_5;
  R_applied = refl;
  R_clock_3 = R_clock_3;
  R_empty_clock_5 = R_empty_clock_5;
  J_clock_3 = J_clock_3;
  J_stands = (balanced J (share 0 1 (pos 1) 1 ∷ share 1 3 (pos 0) 1 ∷ []) refl, refl);
  J_clock_1 = J_clock_1;
  J_hold = J_hold;
  J_together = J_together;
  host_passes_none = host_passes_none;
  host_clock_1 = record { answer = answers host_alone 1 [] _ (bounds []) [] refl (λ l m. absurd m) (λ l m. absurd m) tt; costs = refl };
}
