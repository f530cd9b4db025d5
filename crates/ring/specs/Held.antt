-- What a ring holds, and what the calls do to it.
use Rattle.std.specs.Prelude.{◌≡◌, ℕ, ◌<◌, List, [], ◌∷◌, ◌++◌, length, Some, None, Ok, Err, Option, Result}

-- the elements, oldest first, how many there is room for, what the lent slots hold, and at which of them the elements begin
pub record Queue (X : Type 0) : Type 0 where
  pub held : List X
  pub room : ℕ
  pub lent : List X
  pub first : ℕ

-- `push` of `x` adds it at the end where there is room; a full ring is refused, and stays, its slots too.
abbrev pub Pushed : {X : Type 0} → Queue X → X → Queue X → Result Unit X → Type 0
Pushed a x b (Ok _) = (length a.held < a.room) × (b.held ≡ a.held ++ x ∷ []) × (b.room ≡ a.room)
Pushed a x b (Err y) = (length a.held ≡ a.room) × (y ≡ x) × (b ≡ a)

-- `take` gives the oldest and leaves the others; an empty ring gives none, and stays, its slots too.
abbrev pub Taken : {X : Type 0} → Queue X → Queue X → Option X → Type 0
Taken a b (Some x) = (a.held ≡ x ∷ b.held) × (b.room ≡ a.room)
Taken a b None = (a.held ≡ []) × (b ≡ a)
