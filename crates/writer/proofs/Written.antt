-- A file that is put into a memory.
use Rattle.std.proofs.Common.{◌≡◌, ℕ, ◌+◌, ◌*◌, ◌<◌, ◌≤◌, List, [], ◌∷◌, ◌++◌, map, length, take, drop, set, Some, None, Option, sym, refl, ap, ◌∙◌, subst, arith}
use Rattle.std.specs.List.{AllByRecursion}
use Rattle.std.proofs.lemmas.List.{append_assoc, length-append, length-map, length_push, take_at}
use borrow.Rule.Slice.PartMut.{put_mid}
use Rattle.words.specs.Layout.{gate_word, clock_word, end_word}
use Rattle.words.specs.Netlist.{Wire, Netlist, WithinLimits, Spells}
use Rattle.model.specs.Circuit.{kept}
use Rattle.writer.specs.Writing.{body_of, file_of, Puts, Tabled, FileIn}
use Rattle.writer.proofs.Putting.{puts_more, puts_behind, length_body, of_body}

-- the file with every fill says what it was made of
pub file_spells : (s : Netlist) → WithinLimits s → Spells (file_of s) s
file_spells s f = record { fits = f; body = body_of s.wires; wires = of_body s.wires; whole = refl }

kept_few : (ws : List (Option Wire)) → length (kept ws) ≤ length ws
kept_few [] = omega arith
kept_few (None ∷ ws) = let h = kept_few ws in omega arith
kept_few (Some w ∷ ws) = let h = kept_few ws in omega arith

module _ (delays : List ℕ) (wires : List (Option Wire)) (clock : ℕ) (t : Tabled delays wires clock) where
  abbrev netlist : Netlist
  netlist = record { delays = delays; wires = kept wires; clock = clock }

  pub small : length delays + 2 * length (kept wires) + 1 < 0x1000_0000
  small = let a = kept_few wires in let b = t.held in let c = t.few in omega arith

  fits : AllByRecursion (λ (d : ℕ). d < 0x1_0000) delays → WithinLimits netlist
  fits s = record { few = t.few; short = s; held = let a = kept_few wires in let b = t.held in omega arith; joins = t.joins; ticks = t.ticks; limit = t.limit }

  pub put : (old one part : List ℕ) (k n x y : ℕ) → length delays + 2 * length (kept wires) + 2 ≤ length old → AllByRecursion (λ (d : ℕ). d < 0x1_0000) delays
      → Puts old (map gate_word delays) one → Puts (take k (drop (length delays) one)) (body_of (kept wires)) part → length one ≤ length delays + k
      → n ≡ length delays + 2 * length (kept wires) → x ≡ clock_word clock → y ≡ end_word (n + 1) → FileIn netlist old (n + 2) (set (set (put_mid (length delays) k one part) n x) (n + 1) y)
  put old one part k n x y room short p q h e f g =
      let m = length-map delays gate_word in
      let b = length_body (kept wires) in
      let gs = map gate_word delays in
      let ws = body_of (kept wires) in
      let two = put_mid (length delays) k one part in
      let a = puts_behind old gs one ws part (length delays) k p (sym m) q h in
      let l = length-append gs ws in
      let c = puts_more old (gs ++ ws) two n x a (omega arith) (omega arith) in
      let d = puts_more old ((gs ++ ws) ++ x ∷ []) (set two n x) (n + 1) y c (omega (arith, length_push (gs ++ ws) x)) (omega arith) in
      let count : y ≡ end_word (length delays + length ws + 1) = g ∙ omega arith in
      let same : ((gs ++ ws) ++ x ∷ []) ++ y ∷ [] ≡ file_of netlist =
      append_assoc (gs ++ ws) (x ∷ []) (y ∷ [])
      ∙ append_assoc gs ws (x ∷ y ∷ [])
      ∙ ap (λ (z : ℕ). gs ++ (ws ++ (z ∷ y ∷ []))) f
      ∙ ap (λ (z : ℕ). gs ++ (ws ++ (clock_word clock ∷ z ∷ []))) count in
      let long : n + 2 ≡ length (file_of netlist) = omega (arith, length_push (gs ++ ws) x, length_push ((gs ++ ws) ++ x ∷ []) y, ap length same) in
      let out = set (set two n x) (n + 1) y in
      let o : out ≡ file_of netlist ++ drop (n + 2) old = subst (λ (z : List ℕ). Puts old z out) same d ∙ ap (λ (z : ℕ). file_of netlist ++ drop z old) (sym long) in
      record {
        long = long;
        words = o;
        reads = subst (λ (z : List ℕ). Spells z netlist) (sym (ap (take (n + 2)) o ∙ take_at (file_of netlist) (drop (n + 2) old) (n + 2) (sym long))) (file_spells netlist (fits short));
      }
