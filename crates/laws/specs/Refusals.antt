-- The paper's number for each case of a refusal, and for a check that passes ("Numbers a call may answer").
use Rattle.std.specs.Prelude.{ℕ, Result, Ok, Err}
use Rattle.laws.specs.declared.Refusal.{Refusal}
use Rattle.laws.specs.declared.Refusal.TheVariants.{Malformed, OutOfRange, OutOfOrder, UnknownCode, NoSuchDate, WrongCount, TooManyLots, BookFull, NotFree, NotAllowed, PairsFull, NoSuchPair, WrongDay, LineMissing, BufferShort, NotSound}

-- the number of a refusal
abbrev pub number_of : Refusal → ℕ
number_of Malformed = 1
number_of OutOfRange = 2
number_of OutOfOrder = 3
number_of UnknownCode = 4
number_of NoSuchDate = 5
number_of WrongCount = 6
number_of TooManyLots = 7
number_of BookFull = 8
number_of NotFree = 9
number_of NotAllowed = 10
number_of PairsFull = 11
number_of NoSuchPair = 12
number_of WrongDay = 13
number_of LineMissing = 14
number_of BufferShort = 15
number_of NotSound = 16

-- the number that an answer has: 0 where nothing is refused
abbrev pub number_in : {A : Type 0} → Result A Refusal → ℕ
number_in (Ok a) = 0
number_in (Err r) = number_of r
