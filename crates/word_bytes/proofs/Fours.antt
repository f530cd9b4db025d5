-- Four bytes a word.
use Rattle.std.proofs.Common.{◌≡◌, ℕ, zero, suc, ◌+◌, ◌*◌, ◌/◌, ◌%◌, ◌^◌, ◌<◌, ◌≤◌, List, [], ◌∷◌, ◌++◌, map, length, take, w32, drop, set, refl, ap, ◌∙◌, arith}
use Rattle.std.specs.List.{flat_map, AllByRecursion, slice_get}
use Rattle.std.specs.Option.{option_map}
use Rattle.std.specs.Int.{from_le_bytes}
use Rattle.std.specs.Simd.{first_chunks}
use borrow.Rule.Slice.PartMut.{put_mid}
use Rattle.std.proofs.lemmas.List.{append_assoc}
use Rattle.std.proofs.lemmas.Option.{slice_get-map}
use Rattle.std.proofs.lemmas.Slice.{put_mid-paste}
use Rattle.word_bytes.specs.Bytes.{word_of, bytes_of, words_of, Written}

-- a word is made of its bytes, and gives them back
pub word_back : (w : ℕ) → w < 2 ^ 32 → word_of (w % 0x100) (w / 0x100 % 0x100) (w / 0x1_0000 % 0x100) (w / 0x100_0000 % 0x100) ≡ w
word_back w h = omega arith

pub bytes_back : (a b c d : ℕ) → a < 0x100 → b < 0x100 → c < 0x100 → d < 0x100 → bytes_of (word_of a b c d) ≡ a ∷ b ∷ c ∷ d ∷ []
bytes_back a b c d h i j k = grind arith

-- the words are what each four bytes make
pub by_fours : (bs : List ℕ) → words_of bs ≡ map (from_le_bytes w32) (first_chunks 4 (length bs / 4) bs)
by_fours [] = refl
by_fours (a ∷ []) = refl
by_fours (a ∷ b ∷ []) = refl
by_fours (a ∷ b ∷ c ∷ []) = refl
by_fours (a ∷ b ∷ c ∷ d ∷ rest) =
    let e : length (a ∷ b ∷ c ∷ d ∷ rest) / 4 ≡ suc (length rest / 4) = omega arith in
    rw e (ap (λ (xs : List ℕ). word_of a b c d ∷ xs) (by_fours rest))

pub word_at : (i : ℕ) (bs : List ℕ) → slice_get (words_of bs) i ≡ option_map (from_le_bytes w32) (slice_get (first_chunks 4 (length bs / 4) bs) i)
word_at i bs = ap (λ (ws : List ℕ). slice_get ws i) (by_fours bs) ∙ slice_get-map (from_le_bytes w32) (first_chunks 4 (length bs / 4) bs) i

four_more : (i k : ℕ) → 4 * suc i + k ≡ suc (suc (suc (suc (4 * i + k))))
four_more i k = omega arith

-- a word written among the bytes is that word among the words
pub written : (i : ℕ) (bs : List ℕ) (w : ℕ) → w < 2 ^ 32 → 4 * i + 4 ≤ length bs → words_of (take (4 * i) bs ++ (bytes_of w ++ drop (4 * i + 4) bs)) ≡ set (words_of bs) i w
written i [] w h l = absurd (omega arith)
written i (a ∷ []) w h l = absurd (omega arith)
written i (a ∷ b ∷ []) w h l = absurd (omega arith)
written i (a ∷ b ∷ c ∷ []) w h l = absurd (omega arith)
written zero (a ∷ b ∷ c ∷ d ∷ rest) w h l = ap (λ (x : ℕ). x ∷ words_of rest) (word_back w h)
written (suc i) (a ∷ b ∷ c ∷ d ∷ rest) w h l =
    let e : 4 * suc i ≡ suc (suc (suc (suc (4 * i)))) = omega arith in
    rw (four_more i 4, e) (ap (λ (xs : List ℕ). word_of a b c d ∷ xs) (written i rest w h (omega arith)))

pub put : (i at k : ℕ) (old part : List ℕ) (w : ℕ) → part ≡ bytes_of w → at ≡ 4 * i → k ≡ 4 → 4 * i + 4 ≤ length old → w < 2 ^ 32 → Written old i w (put_mid at k old part)
put i at k old part w p e f h l =
    let q : put_mid (4 * i) 4 old part ≡ take (4 * i) old ++ (bytes_of w ++ drop (4 * i + 4) old) =
    put_mid-paste (4 * i) 4 old part (bytes_of w) 4 p refl refl ∙ append_assoc (take (4 * i) old) (bytes_of w) (drop (4 * i + 4) old) in
    rw (e, f) (record { within = h; bytes = q; words = ap words_of q ∙ written i old w l h })

-- the bytes of words read back
pub words_back : (ws : List ℕ) → AllByRecursion (λ w. w < 2 ^ 32) ws → words_of (flat_map bytes_of ws) ≡ ws
words_back [] h = refl
words_back (w ∷ ws) h = rw (word_back w h.0, words_back ws h.1)

pub all_bytes_back : (bs : List ℕ) → AllByRecursion (λ b. b < 0x100) bs → length bs % 4 ≡ 0 → flat_map bytes_of (words_of bs) ≡ bs
all_bytes_back [] h e = refl
all_bytes_back (a ∷ []) h e = absurd (omega arith)
all_bytes_back (a ∷ b ∷ []) h e = absurd (omega arith)
all_bytes_back (a ∷ b ∷ c ∷ []) h e = absurd (omega arith)
all_bytes_back (a ∷ b ∷ c ∷ d ∷ rest) h e =
    ap (λ (xs : List ℕ). xs ++ flat_map bytes_of (words_of rest)) (bytes_back a b c d h.0 h.1.0 h.1.1.0 h.1.1.1.0)
    ∙ ap (λ (xs : List ℕ). a ∷ b ∷ c ∷ d ∷ xs) (all_bytes_back rest h.1.1.1.1 (omega arith))
