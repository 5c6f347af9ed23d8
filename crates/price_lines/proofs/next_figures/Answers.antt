use Rattle.std.proofs.Common.{◌≡◌, ℕ, Option, None, Some, ap, arith, sym, ◌∙◌}
use Rattle.laws.specs.TruthLaws.{clash}
use Rattle.price_lines.specs.Heads.{Figures, head_of, figures_of, figures_at}
use Rattle.price_lines.specs.TestLaws.{inside_is, with_next, without_next}
use Rattle.price_lines.proofs.next_figures.Goals as goal

pub returns-in_err-from : goal.returns-in_err-from
returns-in_err-from c = ap figures_of c.from_residual.ensures ∙ without_next c.args.t.now (head_of c.args.head) c.args.at c.args.mark c.args.strike (λ s. clash s.right (ap (λ (x : Option ℕ). (head_of x).right) c.in_err-from.was))

pub returns-then-at-from : goal.returns-then-at-from
returns-then-at-from c = without_next c.args.t.now (head_of c.args.head) c.args.at c.args.mark c.args.strike (λ s. let b = s.behind in let e = ap (λ (x : Option ℕ). (head_of x).at) c.in_ok-from.was in omega arith)

pub returns-then-not-is_inside : goal.returns-then-not-is_inside
returns-then-not-is_inside c = without_next c.args.t.now (head_of c.args.head) c.args.at c.args.mark c.args.strike (λ s. clash s.inside (sym c.is_inside.ensures ∙ c.if-not-is_inside.true))

pub same_head-requires : goal.same_head-requires
same_head-requires c = let i = inside_is _ _ (sym c.is_inside.ensures ∙ c.if-not-is_inside.false) in (omega (arith, i), omega (arith, i))

pub returns-then-not-same_head : goal.returns-then-not-same_head
returns-then-not-same_head c = without_next c.args.t.now (head_of c.args.head) c.args.at c.args.mark c.args.strike (λ s. clash (rw c.in_ok-from.was at s.same) (sym c.same_head.ensures ∙ c.if-not-same_head.true))

pub figures_at-requires : goal.figures_at-requires
figures_at-requires c = inside_is _ _ (sym c.is_inside.ensures ∙ c.if-not-is_inside.false)

pub returns-in_err-f : goal.returns-in_err-f
returns-in_err-f c =
    let e : figures_of None ≡ figures_at c.args.t.now c.args.at = sym (ap figures_of c.in_err-f.was) ∙ c.figures_at.ensures in
    ap figures_of c.from_residual-in_err-f.ensures
    ∙ without_next c.args.t.now (head_of c.args.head) c.args.at c.args.mark c.args.strike
    (λ s. let after = s.after in let m = ap (λ (g : Figures). g.mark) e in let n = ap (λ (g : Figures). g.strike) e in omega arith)

pub returns-then-place_of : goal.returns-then-place_of
returns-then-place_of c =
    let e : figures_of (Some c.in_ok-f.f) ≡ figures_at c.args.t.now c.args.at = sym (ap figures_of c.in_ok-f.was) ∙ c.figures_at.ensures in
    let m = ap (λ (g : Figures). g.mark) e in
    let n = ap (λ (g : Figures). g.strike) e in
    let h = ap (λ (x : Option ℕ). (head_of x).at) c.in_ok-from.was in
    e
    ∙ with_next c.args.t.now (head_of c.args.head) c.args.at c.args.mark c.args.strike
    (record {
      right = ap (λ (x : Option ℕ). (head_of x).right) c.in_ok-from.was;
      behind = omega arith;
      inside = sym c.is_inside.ensures ∙ c.if-not-is_inside.false;
      same = rw c.in_ok-from.was (sym c.same_head.ensures ∙ c.if-not-same_head.false);
      after = omega (arith, c.if-place_of.true, c.place_of.ensures, c.place_of-2.ensures, m, n);
    })

pub returns-else-place_of : goal.returns-else-place_of
returns-else-place_of c =
    let e : figures_of (Some c.in_ok-f.f) ≡ figures_at c.args.t.now c.args.at = sym (ap figures_of c.in_ok-f.was) ∙ c.figures_at.ensures in
    without_next c.args.t.now (head_of c.args.head) c.args.at c.args.mark c.args.strike
    (λ s. let after = s.after in let m = ap (λ (g : Figures). g.mark) e in let n = ap (λ (g : Figures). g.strike) e in omega (arith, c.if-place_of.false, c.place_of.ensures, c.place_of-2.ensures))
