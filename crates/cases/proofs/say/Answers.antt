-- Two writes, one behind the other: the head, which is the number and an LF, and the text.
use Rattle.std.proofs.Common.{◌≡◌, ℕ, List, [], ◌∷◌, ◌++◌, drop, Result, Ok, Err, OnOk, ap, subst, ◌∙◌, append_assoc, arith}
use Rattle.std.specs.declared.option.Option.{Option}
use Rattle.std.specs.Io.KnownBytes.{Appends}
use Rattle.std.proofs.KnownBytes.{Appends-trans}
use Rattle.digits.specs.Digits.{fixed}
use Rattle.digits.specs.FigureLaws.{length_fixed}
use Rattle.lines.specs.Pieces.{lf}
use Rattle.put.specs.Put.{laid}
use Rattle.put.specs.PutLaws.{laid_start}
use Rattle.cases.specs.Numbered.{numbered}
use Rattle.cases.proofs.say.Goals as goal

both_written : {T E : Type 0} (r : Result T E) (a b c : Option (List ℕ)) (head text all : List ℕ) → head ++ text ≡ all → Appends a b head
    → OnOk r (Appends b c text) → OnOk r (Appends a c all)
both_written (Ok x) a b c head text all whole first second = subst (Appends a c) whole (Appends-trans a b c head text first second)
both_written (Err e) a b c head text all whole first second = tt

abbrev zeros : List ℕ
zeros = 48 ∷ 48 ∷ 48 ∷ 48 ∷ lf ∷ []

head_is : (number : ℕ) → laid zeros 0 (fixed 4 number) ≡ fixed 4 number ++ (lf ∷ [])
head_is number =
    let four = length_fixed 4 number in
    laid_start zeros (fixed 4 number) (omega (arith, four)) ∙ ap (λ k. fixed 4 number ++ drop k zeros) four

pub returns : goal.returns
returns g c =
    let number = c.args.number in
    let text = c.args.text.now in
    let whole : c.put_fixed.new.dst ++ text ≡ numbered number text =
    ap (λ h. h ++ text) (c.put_fixed.ensures.1 ∙ head_is number) ∙ append_assoc (fixed 4 number) (lf ∷ []) text in
    both_written _ _ _ _ _ _ _ whole c.in_ok-write_all.ensures.bytes c.write_all-2.ensures.bytes
