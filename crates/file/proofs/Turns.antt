-- The turns of the loop over a file's words, and its ends.
use Rattle.std.proofs.Common.{◌≡◌, ℕ, ◌+◌, ◌<◌, ◌≤◌, Bool, List, [], ◌∷◌, ◌++◌, map, length, get_or, take, Some, None, Ok, Err, sym, refl, ap, ◌∙◌, subst, arith}
use Rattle.std.proofs.lemmas.List.{append_assoc, take_more, take_all, length-take-le}
use Rattle.words.specs.declared.Kind.{Kind}
use Rattle.words.specs.declared.Kind.TheVariants.{End}
use Rattle.words.specs.Layout.{kind_of, gate_word, clock_word, end_word}
use Rattle.words.proofs.Both.{trips}
use Rattle.refusals.specs.declared.Refusal.TheVariants.{BadEnd}
use Rattle.refusals.specs.declared.LoadRefusal.{LoadRefusal}
use Rattle.refusals.specs.declared.LoadRefusal.TheVariants.{Call}
use Rattle.file.specs.declared.machine.Seen.{Seen}
use Rattle.file.specs.declared.machine.State.{State}
use Rattle.file.specs.declared.machine.State.TheVariants.{End as Ended}
use Rattle.words.specs.Netlist.{Netlist, Spells}
use Rattle.file.specs.Faults.{Before, wrong, word, missing, Judged}
use Rattle.file.specs.Stepping.{start, more, up_to}
use Rattle.file.specs.Stepping.{last_of, shown}
use Rattle.file.proofs.Rights.{reached, wrong_is, Right, right_more, up_to_more, words_up_to}
use Rattle.file.proofs.Rows.{right_begins, right_spells}
use Rattle.file.proofs.Files.{body_long}
use Rattle.file.proofs.Single.{front_long}

-- the last word of a file is the end
pub file_ends : (ws : List ℕ) (s : Netlist) → Spells ws s → (reached ws).last ≡ End
file_ends ws s p =
    let m = length s.delays + length p.body + 1 in
    let short : m < 0x1000_0000 = let x = body_long p.wires in let y = p.fits.held in let z = p.fits.few in omega arith in
    let f = map gate_word s.delays ++ (p.body ++ clock_word s.clock ∷ []) in
    let e : ws ≡ f ++ end_word m ∷ [] =
    p.whole
    ∙ ap (λ (x : List ℕ). map gate_word s.delays ++ x) (sym (append_assoc p.body (clock_word s.clock ∷ []) (end_word m ∷ [])))
    ∙ sym (append_assoc (map gate_word s.delays) (p.body ++ clock_word s.clock ∷ []) (end_word m ∷ [])) in
    ap (λ (x : List ℕ). (reached x).last) e
    ∙ ap (λ (b : Before). b.last) (up_to_more start f (end_word m))
    ∙ ap (λ (k : Kind). (more k (reached f)).last) (trips.end m short).0.kind

-- what the loop knows after i words
pub record Come (ws : List ℕ) (i : ℕ) (s : Seen) : Type 0 where
  pub seen : shown s ≡ reached (take i ws)
  pub right : Right start (take i ws)

module _ (ws : List ℕ) (i : ℕ) (s : Seen) (h : i < length ws) (c : Come ws i s) where
  pub turn : (t : Seen) → None ≡ wrong (shown s) (get_or ws i 0) → shown t ≡ more (kind_of (get_or ws i 0)) (shown s) → Come ws (i + 1) t
  turn t e f =
      let g = take_more ws i 0 h in
      record {
        seen = f ∙ ap (more (kind_of (get_or ws i 0))) c.seen ∙ sym (up_to_more start (take i ws) (get_or ws i 0)) ∙ ap reached (sym g);
        right = subst (Right start) (sym g) (right_more start (take i ws) (get_or ws i 0) c.right (ap (λ (b : Before). wrong b (get_or ws i 0)) (sym c.seen) ∙ sym e));
      }

  pub stopped : (f : LoadRefusal) → Some f ≡ wrong (shown s) (get_or ws i 0) → Judged ws (Err f)
  stopped f e = record { outcome = word i (right_begins (take i ws) c.right) h (sym (wrong_is (take i ws) (get_or ws i 0)) ∙ ap (λ (b : Before). wrong b (get_or ws i 0)) (sym c.seen) ∙ sym e) }

-- as many words as were read, and no file is longer than 1,153
words_read : (ws : List ℕ) (i : ℕ) (s : Seen) → i ≤ length ws → Come ws i s → s.words ≡ i
words_read ws i s h c =
    let a : s.words ≡ (up_to start (take i ws)).words = ap (λ (b : Before). b.words) c.seen in
    let b = words_up_to start (take i ws) in
    let d = length-take-le i ws h in
    omega arith

pub short : (ws : List ℕ) (i : ℕ) (s : Seen) → i ≤ length ws → Come ws i s → s.words ≤ 1153
short ws i s h c =
    let a = words_read ws i s h c in
    let b = front_long (take i ws) (right_begins (take i ws) c.right) in
    let d = length-take-le i ws h in
    omega arith

module _ (ws : List ℕ) (i : ℕ) (s : Seen) (h : length ws ≤ i) (c : Come ws i s) where
  all : Right start ws
  all = subst (Right start) (take_all i ws h) c.right

  last : last_of s.state s.unfilled ≡ (reached ws).last
  last = ap (λ (b : Before). b.last) c.seen ∙ ap (λ (x : List ℕ). (reached x).last) (take_all i ws h)

  all_words : s.words ≡ length ws
  all_words =
      let a : s.words ≡ (up_to start ws).words = ap (λ (b : Before). b.words) c.seen ∙ ap (λ (x : List ℕ). (up_to start x).words) (take_all i ws h) in
      let b = words_up_to start ws in
      omega arith

  pub finished : s.state ≡ Ended → Judged ws (Ok tt)
  finished e = record { outcome = right_spells ws all (sym last ∙ ap (λ (x : State). last_of x s.unfilled) e) }

  not_ended : (x : State) (u : Bool) → (x ≡ Ended → ⊥) → last_of x u ≡ End → ⊥
  not_ended Ended u f e = f refl
  not_ended x u f e = grind arith

  pub unfinished : (s.state ≡ Ended → ⊥) → Judged ws (Err (Call (BadEnd s.words)))
  unfinished f = rw all_words (record { outcome = missing (right_begins ws all) (λ t p. not_ended s.state s.unfilled f (last ∙ file_ends ws t p)) })

-- what the loop's calls and its ends ask
pub ruleset turns = (short, stopped, finished, unfinished)
