-- Laws of refusals: none has the number 0, and no two have one number.
use Rattle.std.specs.Prelude.{◌≡◌, refl, ℕ, ◌<◌, eqb, Result, Ok, Err}
use Rattle.std.proofs.Common.{arith, ap, sym, ◌∙◌}
use Rattle.laws.specs.declared.Refusal.{Refusal}
use Rattle.laws.specs.declared.Refusal.TheVariants.{Malformed, OutOfRange, OutOfOrder, UnknownCode, NoSuchDate, WrongCount, TooManyLots, BookFull, NotFree, NotAllowed, PairsFull, NoSuchPair, WrongDay, LineMissing, BufferShort, NotSound}
use Rattle.laws.specs.Truth.{pick}
use Rattle.laws.specs.Checks.{or_else}
use Rattle.laws.specs.Refusals.{number_of, number_in}

pub refusal_positive : (r : Refusal) → 0 < number_of r
refusal_positive Malformed = omega arith
refusal_positive OutOfRange = omega arith
refusal_positive OutOfOrder = omega arith
refusal_positive UnknownCode = omega arith
refusal_positive NoSuchDate = omega arith
refusal_positive WrongCount = omega arith
refusal_positive TooManyLots = omega arith
refusal_positive BookFull = omega arith
refusal_positive NotFree = omega arith
refusal_positive NotAllowed = omega arith
refusal_positive PairsFull = omega arith
refusal_positive NoSuchPair = omega arith
refusal_positive WrongDay = omega arith
refusal_positive LineMissing = omega arith
refusal_positive BufferShort = omega arith
refusal_positive NotSound = omega arith

-- the refusal of a number
abbrev named : ℕ → Refusal
named n =
    pick (eqb n 1) Malformed (
    pick (eqb n 2) OutOfRange (
    pick (eqb n 3) OutOfOrder (
    pick (eqb n 4) UnknownCode (
    pick (eqb n 5) NoSuchDate (
    pick (eqb n 6) WrongCount (
    pick (eqb n 7) TooManyLots (
    pick (eqb n 8) BookFull (
    pick (eqb n 9) NotFree (
    pick (eqb n 10) NotAllowed (
    pick (eqb n 11) PairsFull (
    pick (eqb n 12) NoSuchPair (
    pick (eqb n 13) WrongDay (
    pick (eqb n 14) LineMissing (
    pick (eqb n 15) BufferShort NotSound))))))))))))))

named_back : (r : Refusal) → named (number_of r) ≡ r
named_back Malformed = refl
named_back OutOfRange = refl
named_back OutOfOrder = refl
named_back UnknownCode = refl
named_back NoSuchDate = refl
named_back WrongCount = refl
named_back TooManyLots = refl
named_back BookFull = refl
named_back NotFree = refl
named_back NotAllowed = refl
named_back PairsFull = refl
named_back NoSuchPair = refl
named_back WrongDay = refl
named_back LineMissing = refl
named_back BufferShort = refl
named_back NotSound = refl

-- no two refusals have one number
pub one_refusal : (q r : Refusal) → number_of q ≡ number_of r → q ≡ r
one_refusal q r e = sym (named_back q) ∙ ap named e ∙ named_back r

-- answers with nothing in them are told apart by their numbers
pub one_verdict : (x y : Result Unit Refusal) → number_in x ≡ number_in y → x ≡ y
one_verdict (Ok a) (Ok b) e = refl
one_verdict (Ok a) (Err r) e = let h = refusal_positive r in absurd (omega arith)
one_verdict (Err q) (Ok a) e = let h = refusal_positive q in absurd (omega arith)
one_verdict (Err q) (Err r) e = ap (λ (s : Refusal). Err s) (one_refusal q r e)

-- A refusal stands before all checks behind it, and what passes before none.
pub or_else_refused : (r : Refusal) (rest : ℕ) → or_else (number_of r) rest ≡ number_of r
or_else_refused Malformed rest = refl
or_else_refused OutOfRange rest = refl
or_else_refused OutOfOrder rest = refl
or_else_refused UnknownCode rest = refl
or_else_refused NoSuchDate rest = refl
or_else_refused WrongCount rest = refl
or_else_refused TooManyLots rest = refl
or_else_refused BookFull rest = refl
or_else_refused NotFree rest = refl
or_else_refused NotAllowed rest = refl
or_else_refused PairsFull rest = refl
or_else_refused NoSuchPair rest = refl
or_else_refused WrongDay rest = refl
or_else_refused LineMissing rest = refl
or_else_refused BufferShort rest = refl
or_else_refused NotSound rest = refl
