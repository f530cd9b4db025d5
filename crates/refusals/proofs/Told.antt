-- Number and place tell which refusal it is.
use Rattle.std.proofs.Common.{◌≡◌, ℕ, ◌-◌, [], ◌∷◌, get_or, sym, refl, ap, ◌∙◌}
use Rattle.refusals.specs.declared.Refusal.{Refusal}
use Rattle.refusals.specs.declared.Refusal.TheVariants.{Range, NoGate, NoWire, Reversed, Memory, RuleTooLong, NotNext, StrayBit, BadEnd, AfterEnd, Full, WiresUsed, NoClock, Loop, LogFull, NoLabelling, Apart, LogEmpty, Waiting, WrongSlip}
use Rattle.refusals.specs.Refusals.{number_of, place_of}

-- the refusal of that number, from 1, at that place
abbrev refusal_at : ℕ → ℕ → Refusal
refusal_at n p = get_or (Range p ∷ NoGate p ∷ NoWire p ∷ Reversed p ∷ Memory p ∷ RuleTooLong ∷ NotNext p ∷ StrayBit p ∷ BadEnd p ∷ AfterEnd p ∷ Full p ∷ WiresUsed ∷ NoClock ∷ Loop p ∷ LogFull ∷ NoLabelling p ∷ Apart p ∷ LogEmpty ∷ Waiting ∷ WrongSlip ∷ []) (n - 1) WrongSlip

told : (r : Refusal) → refusal_at (number_of r) (place_of r) ≡ r
told (Range p) = refl
told r = refl

pub told_apart : (r s : Refusal) → number_of r ≡ number_of s → place_of r ≡ place_of s → r ≡ s
told_apart r s e f = sym (told r) ∙ ap (λ (n : ℕ). refusal_at n (place_of r)) e ∙ ap (refusal_at (number_of s)) f ∙ told s
