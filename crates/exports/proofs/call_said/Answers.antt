use Rattle.std.proofs.Common.{arith, ◌≡◌}
use Rattle.std.proofs.lemmas.Grind.{common_steps}
use Rattle.calls.specs.Outcome.{outcome_in}
use Rattle.exports.specs.Script.{call_said}
use Rattle.exports.specs.ExportLaws.{make_said_lem, open_said, close_said, pair_call, split_said, turn_said}
use Rattle.exports.proofs.call_said.Goals as goal
use Rattle.exports.proofs.call_said.Goals.{in-1, in-2, in-3, in-4, in_default}

pub returns-in_err-b : goal.returns-in_err-b
returns-in_err-b c =
    let said : outcome_in c.args.b.now c.match-word.answer ≡ call_said c.args.b.now c.args.words.now c.args.at =
    elim c.match-word.branch [
      | in-1 w ↦ rw w.answer-is (open_said _ _ _ c.word.ensures (λ z. omega arith) w.in-1.is w.series_said.ensures w.word-in-1.ensures w.side_said-side.ensures w.word-in-1-2.ensures w.open-answer.ensures)
      | in-2 w ↦ rw w.answer-is (close_said _ _ _ c.word.ensures (λ z. omega arith) (λ z. omega arith) w.in-2.is w.series_said-in-2.ensures w.word-in-2.ensures w.side_said-side-in-2.ensures w.word-in-2-2.ensures w.close-answer.ensures)
      | in-3 w ↦ rw w.answer-is (pair_call _ _ _ c.word.ensures (λ z. omega arith) (λ z. omega arith) (λ z. omega arith) w.in-3.is w.pair_said.ensures w.pair-answer.ensures)
      | in-4 w ↦ rw w.answer-is (split_said _ _ _ c.word.ensures (λ z. omega arith) (λ z. omega arith) (λ z. omega arith) (λ z. omega arith) w.in-4.is w.pair_said-in-4.ensures w.split-answer.ensures)
      | in_default w ↦ rw w.answer-is (turn_said _ _ _ c.word.ensures (λ z. omega arith) (λ z. omega arith) (λ z. omega arith) (λ z. omega arith) (λ z. omega arith) w.word-in_default.ensures w.turn-answer.ensures)
    ] in
    grind (arith, common_steps, said)

pub returns : goal.returns
returns c =
    let said : outcome_in c.args.b.now c.match-word.answer ≡ call_said c.args.b.now c.args.words.now c.args.at =
    elim c.match-word.branch [
      | in-1 w ↦ rw w.answer-is (open_said _ _ _ c.word.ensures (λ z. omega arith) w.in-1.is w.series_said.ensures w.word-in-1.ensures w.side_said-side.ensures w.word-in-1-2.ensures w.open-answer.ensures)
      | in-2 w ↦ rw w.answer-is (close_said _ _ _ c.word.ensures (λ z. omega arith) (λ z. omega arith) w.in-2.is w.series_said-in-2.ensures w.word-in-2.ensures w.side_said-side-in-2.ensures w.word-in-2-2.ensures w.close-answer.ensures)
      | in-3 w ↦ rw w.answer-is (pair_call _ _ _ c.word.ensures (λ z. omega arith) (λ z. omega arith) (λ z. omega arith) w.in-3.is w.pair_said.ensures w.pair-answer.ensures)
      | in-4 w ↦ rw w.answer-is (split_said _ _ _ c.word.ensures (λ z. omega arith) (λ z. omega arith) (λ z. omega arith) (λ z. omega arith) w.in-4.is w.pair_said-in-4.ensures w.split-answer.ensures)
      | in_default w ↦ rw w.answer-is (turn_said _ _ _ c.word.ensures (λ z. omega arith) (λ z. omega arith) (λ z. omega arith) (λ z. omega arith) (λ z. omega arith) w.word-in_default.ensures w.turn-answer.ensures)
    ] in
    grind (arith, common_steps, said)

pub returns-in-0 : goal.returns-in-0
returns-in-0 c = make_said_lem _ _ _ c.word.ensures c.in-0.is c.word-in-0-2.ensures c.word-in-0.ensures c.identity_said-identity.ensures c.word-in-0-3.ensures c.make_said.ensures
