-- Refusals by number. 01, 'When a call is turned down': each cause has a number. 02, C-24: 18 and 19.
use Rattle.std.specs.Prelude.{ℕ, ◌≡◌, Result, Ok, Err}
use Rattle.std.proofs.Common.{arith}
use Rattle.datatypes.specs.declared.Refusal.{Refusal}
use Rattle.datatypes.specs.declared.Refusal.TheVariants.{WrongLength, OutOfRange, SlotTooHigh, SlotReading, SlotNotReading, WriteInHand, NoWriteInHand, KeyNotHeld, IndexFull, TooFewFree, NodeMissing, ListWrong, IndexNotEmpty}

abbrev pub number_of : Refusal → ℕ
number_of WrongLength = 1
number_of OutOfRange = 2
number_of SlotTooHigh = 3
number_of SlotReading = 4
number_of SlotNotReading = 5
number_of WriteInHand = 6
number_of NoWriteInHand = 7
number_of KeyNotHeld = 9
number_of IndexFull = 10
number_of TooFewFree = 11
number_of NodeMissing = 12
number_of ListWrong = 18
number_of IndexNotEmpty = 19

-- no refusal has the number 0
pub number_of-ne0 : (e : Refusal) → number_of e ≡ 0 → ⊥
number_of-ne0 WrongLength h = omega arith
number_of-ne0 OutOfRange h = omega arith
number_of-ne0 SlotTooHigh h = omega arith
number_of-ne0 SlotReading h = omega arith
number_of-ne0 SlotNotReading h = omega arith
number_of-ne0 WriteInHand h = omega arith
number_of-ne0 NoWriteInHand h = omega arith
number_of-ne0 KeyNotHeld h = omega arith
number_of-ne0 IndexFull h = omega arith
number_of-ne0 TooFewFree h = omega arith
number_of-ne0 NodeMissing h = omega arith
number_of-ne0 ListWrong h = omega arith
number_of-ne0 IndexNotEmpty h = omega arith

-- what tests find: 0 if they pass, else the number of the refusal
abbrev pub found_number : {A : Type 0} → Result A Refusal → ℕ
found_number (Ok x) = 0
found_number (Err e) = number_of e
