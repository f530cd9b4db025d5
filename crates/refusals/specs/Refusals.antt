-- The number and the place of each refusal.
use Rattle.std.specs.Prelude.{ℕ}
use Rattle.refusals.specs.declared.Refusal.{Refusal}
use Rattle.refusals.specs.declared.Refusal.TheVariants.{Range, NoGate, NoWire, Reversed, Memory, RuleTooLong, NotNext, StrayBit, BadEnd, AfterEnd, Full, WiresUsed, NoClock, Loop, LogFull, NoLabelling, Apart, LogEmpty, Waiting, WrongSlip}
use Rattle.refusals.specs.declared.LoadRefusal.{LoadRefusal}
use Rattle.refusals.specs.declared.LoadRefusal.TheVariants.{Call, Word}

abbrev pub number_of : Refusal → ℕ
number_of (Range at) = 1
number_of (NoGate at) = 2
number_of (NoWire at) = 3
number_of (Reversed at) = 4
number_of (Memory at) = 5
number_of RuleTooLong = 6
number_of (NotNext at) = 7
number_of (StrayBit at) = 8
number_of (BadEnd at) = 9
number_of (AfterEnd at) = 10
number_of (Full at) = 11
number_of WiresUsed = 12
number_of NoClock = 13
number_of (Loop at) = 14
number_of LogFull = 15
number_of (NoLabelling at) = 16
number_of (Apart at) = 17
number_of LogEmpty = 18
number_of Waiting = 19
number_of WrongSlip = 20

abbrev pub place_of : Refusal → ℕ
place_of (Range at) = at
place_of (NoGate at) = at
place_of (NoWire at) = at
place_of (Reversed at) = at
place_of (Memory at) = at
place_of RuleTooLong = 0
place_of (NotNext at) = at
place_of (StrayBit at) = at
place_of (BadEnd at) = at
place_of (AfterEnd at) = at
place_of (Full at) = at
place_of WiresUsed = 0
place_of NoClock = 0
place_of (Loop at) = at
place_of LogFull = 0
place_of (NoLabelling at) = at
place_of (Apart at) = at
place_of LogEmpty = 0
place_of Waiting = 0
place_of WrongSlip = 0

-- a refused load has its refusal's number, and the place of the call or the index of the word
abbrev pub load_number_of : LoadRefusal → ℕ
load_number_of (Call refusal) = number_of refusal
load_number_of (Word index refusal) = number_of refusal

abbrev pub load_place_of : LoadRefusal → ℕ
load_place_of (Call refusal) = place_of refusal
load_place_of (Word index refusal) = index
