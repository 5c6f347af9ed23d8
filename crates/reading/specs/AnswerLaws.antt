-- A read is told by its answer: two reads of one answer are the same.
use Rattle.std.specs.Prelude.{◌≡◌, Result, Ok, Err}
use Rattle.std.proofs.Common.{ap, arith}
use Rattle.laws.specs.Refusals.{number_of}
use Rattle.laws.specs.RefusalLaws.{refusal_positive, one_refusal}
use Rattle.rows.specs.declared.Book.{Book}
use Rattle.reading.specs.declared.RefusedText.{RefusedText}
use Rattle.reading.specs.Reading.{Answer, read_as, answer_in}

pub one_reading : (x y : Result Book RefusedText) → answer_in x ≡ answer_in y → x ≡ y
unfolding read_as
one_reading (Ok a) (Ok b) e = ap (λ (c : Book). Ok c) (ap (λ (z : Answer). z.book) e)
one_reading (Ok a) (Err f) e =
    let h = refusal_positive f.fault.refusal in
    let n : 0 ≡ number_of f.fault.refusal = ap (λ (z : Answer). z.number) e in
    absurd (omega arith)
one_reading (Err f) (Ok b) e =
    let h = refusal_positive f.fault.refusal in
    let n : number_of f.fault.refusal ≡ 0 = ap (λ (z : Answer). z.number) e in
    absurd (omega arith)
one_reading (Err f) (Err g) e =
    let r = one_refusal f.fault.refusal g.fault.refusal (ap (λ (z : Answer). z.number) e) in
    let l : f.fault.line ≡ g.fault.line = ap (λ (z : Answer). z.line) e in
    let b : f.book ≡ g.book = ap (λ (z : Answer). z.book) e in
    λ i. Err (record { fault = record { refusal = r i; line = l i }; book = b i })
