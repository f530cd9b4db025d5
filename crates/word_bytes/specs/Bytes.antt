-- Words as bytes.
use Rattle.std.specs.Prelude.{◌≡◌, ℕ, ◌+◌, ◌*◌, ◌/◌, ◌%◌, ◌^◌, ◌<◌, ◌≤◌, Bool, true, false, List, [], ◌∷◌, ◌++◌, length, take, drop, slice_set}
use Rattle.std.specs.List.{flat_map, AllByRecursion}

-- four bytes make a word, the lowest first
abbrev pub word_of : ℕ → ℕ → ℕ → ℕ → ℕ
word_of a b c d = a + b * 0x100 + c * 0x1_0000 + d * 0x100_0000

abbrev pub bytes_of : ℕ → List ℕ
bytes_of w = (w % 0x100) ∷ (w / 0x100 % 0x100) ∷ (w / 0x1_0000 % 0x100) ∷ (w / 0x100_0000 % 0x100) ∷ []

-- each four bytes a word; what is left over is dropped
abbrev pub words_of : List ℕ → List ℕ
words_of [] = []
words_of (a ∷ []) = []
words_of (a ∷ b ∷ []) = []
words_of (a ∷ b ∷ c ∷ []) = []
words_of (a ∷ b ∷ c ∷ d ∷ rest) = word_of a b c d ∷ words_of rest

-- The bytes of word i are the word's, the others are as they were, and so are the other words.
pub record Written (old : List ℕ) (i w : ℕ) (new : List ℕ) : Type 0 where
  pub within : 4 * i + 4 ≤ length old
  pub bytes : new ≡ take (4 * i) old ++ (bytes_of w ++ drop (4 * i + 4) old)
  pub words : words_of new ≡ slice_set (words_of old) i w

-- Word i does not fit, and nothing changes.
pub record Unwritten (old : List ℕ) (i : ℕ) (new : List ℕ) : Type 0 where
  pub short : length old < 4 * i + 4
  pub same : new ≡ old

abbrev pub PutsAs : List ℕ → ℕ → ℕ → Bool → List ℕ → Type 0
PutsAs old i w true new = Written old i w new
PutsAs old i w false new = Unwritten old i new

pub record Puts (old : List ℕ) (i w : ℕ) (r : Bool) (new : List ℕ) : Type 0 where
  pub outcome : PutsAs old i w r new

-- the bytes of words read as those words, and whole words give their bytes
pub record ReadBack : Type 0 where
  pub words : (ws : List ℕ) → AllByRecursion (λ w. w < 2 ^ 32) ws → words_of (flat_map bytes_of ws) ≡ ws
  pub bytes : (bs : List ℕ) → AllByRecursion (λ b. b < 0x100) bs → length bs % 4 ≡ 0 → flat_map bytes_of (words_of bs) ≡ bs
