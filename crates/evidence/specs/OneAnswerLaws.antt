-- Document 01, "How much each contract has to say": "That no second answer satisfies it is proved", for the forms that contracts have.
use Rattle.std.specs.Prelude.{◌≡◌, refl, ℕ, Option, Some, None, Result}
use Rattle.std.proofs.Common.{ap, sym}
use Rattle.laws.specs.OneAnswer.{one_answer}
use Rattle.laws.specs.TruthLaws.{clash}
use Rattle.laws.specs.declared.Refusal.{Refusal}
use Rattle.laws.specs.Refusals.{number_in}
use Rattle.laws.specs.RefusalLaws.{one_verdict}
use Rattle.price_lines.specs.declared.Figures as taken
use Rattle.price_lines.specs.Heads.{Head, Figures, head_of, figures_of}

-- An equation of the answer, where nothing is lent to be written.
pub by_equation : {R E : Type 0} {x r s : R} {e : E} → r ≡ x → s ≡ x → (r ≡ s) × (e ≡ e)
by_equation p q = (one_answer p q, refl)

-- And one of the bytes of a lent buffer; `lent` is its place among the parameters.
pub by_equations : {R B E : Type 0} {x r s : R} {y b c : B} (lent : B → E) → (r ≡ x) × (b ≡ y) → (s ≡ x) × (c ≡ y) → (r ≡ s) × (lent b ≡ lent c)
by_equations lent p q = (one_answer p.0 q.0, ap lent (one_answer p.1 q.1))

-- And one of what is lent alone, where nothing is answered.
pub by_writing : {B E : Type 0} {y b c : B} {r s : Unit {0}} (lent : B → E) → b ≡ y → c ≡ y → (r ≡ s) × (lent b ≡ lent c)
by_writing lent p q = (refl, ap lent (one_answer p q))

-- An equation of the number of an answer that says no more.
pub by_number : {E : Type 0} {x : ℕ} {r s : Result (Unit {0}) Refusal} {e : E} → number_in r ≡ x → number_in s ≡ x → (r ≡ s) × (e ≡ e)
by_number p q = (one_verdict _ _ (one_answer p q), refl)

-- An equation of what an answer stands for, where no two answers stand for the same.
pub by_image : {R A E : Type 0} (image : R → A) → ((x y : R) → image x ≡ image y → x ≡ y) → {x : A} {r s : R} {e : E} → image r ≡ x → image s ≡ x → (r ≡ s) × (e ≡ e)
by_image image one p q = (one _ _ (one_answer p q), refl)

-- And one of what is lent besides.
pub by_images : {R A B E : Type 0} (image : R → A) → ((x y : R) → image x ≡ image y → x ≡ y) → {x : A} {r s : R} {y b c : B} (lent : B → E) → (image r ≡ x) × (b ≡ y) → (image s ≡ x) × (c ≡ y) → (r ≡ s) × (lent b ≡ lent c)
by_images image one lent p q = (one _ _ (one_answer p.0 q.0), ap lent (one_answer p.1 q.1))

-- No two heads or two figures of an option's Q line.
pub one_head : (x y : Option ℕ) → head_of x ≡ head_of y → x ≡ y
one_head (Some a) (Some b) e = ap (λ (h : Head). Some h.at) e
one_head (Some a) None e = absurd (clash (ap (λ (h : Head). h.right) (sym e)) refl)
one_head None (Some b) e = absurd (clash (ap (λ (h : Head). h.right) e) refl)
one_head None None e = refl

pub one_figures : (x y : Option taken.Figures) → figures_of x ≡ figures_of y → x ≡ y
one_figures (Some f) (Some g) e = ap (λ (h : Figures). Some (record { mark = h.mark; strike = h.strike; price = h.price; stop = h.stop })) e
one_figures (Some f) None e = absurd (clash (ap (λ (h : Figures). h.right) (sym e)) refl)
one_figures None (Some g) e = absurd (clash (ap (λ (h : Figures). h.right) e) refl)
one_figures None None e = refl
