-- A contract of the form `r ≡ x` has one answer: two results that meet it are the same (document 01, "How much each
-- contract has to say").
use Rattle.std.specs.Prelude.{◌≡◌}
use Rattle.std.proofs.Common.{sym, ◌∙◌}

pub one_answer : {A : Type 0} {x r s : A} → r ≡ x → s ≡ x → r ≡ s
one_answer p q = p ∙ sym q
