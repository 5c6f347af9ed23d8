-- An outcome on a book stands for one answer alone, and so does that of a make.
use Rattle.std.specs.Prelude.{◌≡◌, Result, Ok, Err}
use Rattle.std.proofs.Common.{arith, ap}
use Rattle.laws.specs.declared.Refusal.{Refusal}
use Rattle.laws.specs.RefusalLaws.{refusal_positive, one_refusal}
use Rattle.rows.specs.declared.Book.{Book}
use Rattle.calls.specs.declared.RefusedMake.{RefusedMake}
use Rattle.calls.specs.Outcome.{Outcome, outcome_in, made_in}

pub one_outcome : (b : Book) (x y : Result Book Refusal) → outcome_in b x ≡ outcome_in b y → x ≡ y
one_outcome b (Ok c) (Ok d) e = ap (λ (o : Outcome). Ok o.book) e
one_outcome b (Ok c) (Err r) e =
    let h = refusal_positive r in
    let k = ap (λ (o : Outcome). o.number) e in
    absurd (omega arith)
one_outcome b (Err q) (Ok d) e =
    let h = refusal_positive q in
    let k = ap (λ (o : Outcome). o.number) e in
    absurd (omega arith)
one_outcome b (Err q) (Err r) e = ap (λ (s : Refusal). Err s) (one_refusal q r (ap (λ (o : Outcome). o.number) e))

pub one_make : (x y : Result Book RefusedMake) → made_in x ≡ made_in y → x ≡ y
one_make (Ok c) (Ok d) e = ap (λ (o : Outcome). Ok o.book) e
one_make (Ok c) (Err r) e =
    let h = refusal_positive r.refusal in
    let k = ap (λ (o : Outcome). o.number) e in
    absurd (omega arith)
one_make (Err q) (Ok d) e =
    let h = refusal_positive q.refusal in
    let k = ap (λ (o : Outcome). o.number) e in
    absurd (omega arith)
one_make (Err q) (Err r) e =
    let same = one_refusal q.refusal r.refusal (ap (λ (o : Outcome). o.number) e) in
    let book : q.book ≡ r.book = ap (λ (o : Outcome). o.book) e in
    λ i. Err (record { refusal = same i; book = book i })
