use Rattle.std.proofs.Common.{arith, subst, sym, ℕ, ◌≡◌, ◌∙◌, get_or}
use Rattle.lines.specs.RunLaws.{RunIs, ascii_digit, run_starts, run_small, run_digit, run_on, run_halts, run_ends}
use Rattle.lines.proofs.run_at.Goals as goal

pub loop-stop-init : goal.loop-stop-init
loop-stop-init c = run_starts _ _ _ c.requires.0 c.requires.1 (omega arith, (omega arith, λ n. omega arith))

pub returns-then-not-is_ascii_digit : goal.returns-then-not-is_ascii_digit
returns-then-not-is_ascii_digit c =
    run_halts c.loop-stop.invariant (ascii_digit (get_or c.args.t.now c.loop-stop.stop 0) ∙ sym c.is_ascii_digit.ensures.value ∙ c.if-not-is_ascii_digit.true)

pub overflow_mul-number : goal.overflow_mul-number
overflow_mul-number c = let h = run_small c.loop-stop.invariant (λ z. omega arith) in omega (arith, h)

pub overflow_add-number : goal.overflow_add-number
overflow_add-number c =
    let h = run_small c.loop-stop.invariant (λ z. omega arith) in
    let d = run_digit c.loop-stop.invariant (ascii_digit (get_or c.args.t.now c.loop-stop.stop 0) ∙ sym c.is_ascii_digit.ensures.value ∙ c.if-not-is_ascii_digit.false) in
    omega (arith, h, d.1)

pub loop-stop-preserved : goal.loop-stop-preserved
loop-stop-preserved c =
    rw c.from.ensures
    (run_on c.loop-stop.invariant (λ z. omega arith) (ascii_digit (get_or c.args.t.now c.loop-stop.stop 0) ∙ sym c.is_ascii_digit.ensures.value ∙ c.if-not-is_ascii_digit.false))

pub returns : goal.returns
returns c =
    let g = c.loop-stop.invariant in
    let b = g.before in
    let e : c.loop-stop.stop ≡ c.min-end.result = omega arith in
    subst (λ (n : ℕ). RunIs c.args.t.now c.args.from c.args.most c.loop-stop.number n) e (run_ends g e)
