use Rattle.std.proofs.Common.{true, not, ap, arith, ◌≡◌, ◌∙◌}
use Rattle.std.proofs.lemmas.Grind.{common_steps}
use Rattle.rules.specs.Lots.{free}
use Rattle.rules.specs.Rules.{sound_book}
use Rattle.sound.specs.AnswerLaws.{checked_unsound, checked_sound, checked_free}
use Rattle.calls.specs.NumberLaws.{close_says, free_is}
use Rattle.calls.proofs.AnswerLaws.{tested}
use Rattle.moves.proofs.close_check.Goals as goal

pub returns-in_err-ensure : goal.returns-in_err-ensure
returns-in_err-ensure c =
    let is = c.checked_book-c.ensures in
    let t : c.checked_book-c.result.sound ≡ sound_book c.args.b = tested _ (checked_unsound _ is) (checked_sound _ is) in
    grind (arith, common_steps, close_says)

pub returns-in_err-check : goal.returns-in_err-check
returns-in_err-check c =
    let is = c.checked_book-c.ensures in
    let t : c.checked_book-c.result.sound ≡ sound_book c.args.b = tested _ (checked_unsound _ is) (checked_sound _ is) in
    grind (arith, common_steps, close_says)

pub returns-in_err-ensure-2 : goal.returns-in_err-ensure-2
returns-in_err-ensure-2 c =
    let is = c.checked_book-c.ensures in
    let t : c.checked_book-c.result.sound ≡ sound_book c.args.b = tested _ (checked_unsound _ is) (checked_sound _ is) in
    grind (arith, common_steps, close_says)

pub returns : goal.returns
returns c =
    let is = c.checked_book-c.ensures in
    let t : c.checked_book-c.result.sound ≡ sound_book c.args.b = tested _ (checked_unsound _ is) (checked_sound _ is) in
    let f : sound_book c.args.b ≡ true → c.lots_on.result ≡ free c.args.b c.args.s c.args.side =
    λ e. c.lots_on.ensures ∙ rw c.holding_in-h.ensures (free_is _ e _ _ _ (checked_free _ is (ap not (t ∙ e)))) in
    grind (arith, common_steps, close_says, f)
