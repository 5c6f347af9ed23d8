use Rattle.std.proofs.Common.{true, not, ltb, ap, arith, ◌≡◌, ◌∙◌}
use Rattle.std.proofs.lemmas.Grind.{common_steps}
use Rattle.laws.specs.Truth.{pick, both, either}
use Rattle.laws.specs.Refusals.{number_in}
use Rattle.rows.specs.Rows.{no_units}
use Rattle.rows.specs.Book.{pairs_of, pair_in}
use Rattle.rules.specs.Lots.{first_leg, second_leg}
use Rattle.rules.specs.Rules.{sound_book}
use Rattle.sound.specs.AnswerLaws.{checked_unsound, checked_sound, checked_free}
use Rattle.calls.specs.Calls.{leg_free}
use Rattle.calls.specs.NumberLaws.{pair_says, free_is}
use Rattle.calls.proofs.AnswerLaws.{tested, true_by, goes_on, goes_past}
use Rattle.ties.proofs.pair_check.Goals as goal

pub returns-in_err-ensure : goal.returns-in_err-ensure
returns-in_err-ensure c =
    let is = c.checked_book-c.ensures in
    let t : c.checked_book-c.result.sound ≡ sound_book c.args.b = tested _ (checked_unsound _ is) (checked_sound _ is) in
    rw (pair_says _ _) (grind (arith, common_steps))

pub returns-in_err-check : goal.returns-in_err-check
returns-in_err-check c =
    let is = c.checked_book-c.ensures in
    let t : c.checked_book-c.result.sound ≡ sound_book c.args.b = tested _ (checked_unsound _ is) (checked_sound _ is) in
    rw (pair_says _ _) (grind (arith, common_steps))

pub returns-in_err-check-2 : goal.returns-in_err-check-2
returns-in_err-check-2 c =
    let is = c.checked_book-c.ensures in
    let t : c.checked_book-c.result.sound ≡ sound_book c.args.b = tested _ (checked_unsound _ is) (checked_sound _ is) in
    rw (pair_says _ _) (grind (arith, common_steps))

pub returns-in_err-ensure-2 : goal.returns-in_err-ensure-2
returns-in_err-ensure-2 c =
    let is = c.checked_book-c.ensures in
    let t : c.checked_book-c.result.sound ≡ sound_book c.args.b = tested _ (checked_unsound _ is) (checked_sound _ is) in
    rw (pair_says _ _) (grind (arith, common_steps))

pub returns-in_err-check-3 : goal.returns-in_err-check-3
returns-in_err-check-3 c =
    let is = c.checked_book-c.ensures in
    let t : c.checked_book-c.result.sound ≡ sound_book c.args.b = tested _ (checked_unsound _ is) (checked_sound _ is) in
    rw (pair_says _ _) (grind (arith, common_steps))

pub returns-in_err-ensure-3 : goal.returns-in_err-ensure-3
unfolding leg_free first_leg second_leg pairs_of
returns-in_err-ensure-3 c =
    let last : number_in c.from_residual-in_err-ensure-3.result ≡ pick (both c.leg_free-first.result c.leg_free-second.result) (pick (either (not (no_units (pair_in (pairs_of c.args.b) c.args.p))) (ltb c.args.b.paired 128)) 0 11) 9 =
    grind (arith, common_steps) in
    let is = c.checked_book-c.ensures in
    let t : c.checked_book-c.result.sound ≡ sound_book c.args.b = tested _ (checked_unsound _ is) (checked_sound _ is) in
    let ok : 0 ≡ pick (sound_book c.args.b) 0 16 = rw t at c.in_ok-ensure.ensures in
    let e : sound_book c.args.b ≡ true = true_by _ 15 ok in
    let free = checked_free _ is (ap not (t ∙ e)) in
    let f : c.leg_free-first.result ≡ leg_free c.args.b (first_leg c.args.p) =
    rw (c.leg_free-first.ensures, c.first_side.ensures, c.holding_in-h.ensures, free_is _ e _ _ _ free) in
    let g : c.leg_free-second.result ≡ leg_free c.args.b (second_leg c.args.p) =
    rw (c.leg_free-second.ensures, c.second_side.ensures, c.holding_in-k.ensures, free_is _ e _ _ _ free) in
    rw (pair_says _ _, ← f, ← g)
    (goes_on _ 15 ok (goes_past c.in_ok-check.ensures (goes_past c.in_ok-check-2.ensures (goes_on _ 5 (rw c.counts_fit.ensures at c.in_ok-ensure-2.ensures) (goes_past c.in_ok-check-3.ensures last)))))

pub returns : goal.returns
unfolding leg_free first_leg second_leg pairs_of
returns c =
    let last : number_in c.ensure-4.result ≡ pick (both c.leg_free-first.result c.leg_free-second.result) (pick (either (not (no_units (pair_in (pairs_of c.args.b) c.args.p))) (ltb c.args.b.paired 128)) 0 11) 9 =
    grind (arith, common_steps) in
    let is = c.checked_book-c.ensures in
    let t : c.checked_book-c.result.sound ≡ sound_book c.args.b = tested _ (checked_unsound _ is) (checked_sound _ is) in
    let ok : 0 ≡ pick (sound_book c.args.b) 0 16 = rw t at c.in_ok-ensure.ensures in
    let e : sound_book c.args.b ≡ true = true_by _ 15 ok in
    let free = checked_free _ is (ap not (t ∙ e)) in
    let f : c.leg_free-first.result ≡ leg_free c.args.b (first_leg c.args.p) =
    rw (c.leg_free-first.ensures, c.first_side.ensures, c.holding_in-h.ensures, free_is _ e _ _ _ free) in
    let g : c.leg_free-second.result ≡ leg_free c.args.b (second_leg c.args.p) =
    rw (c.leg_free-second.ensures, c.second_side.ensures, c.holding_in-k.ensures, free_is _ e _ _ _ free) in
    rw (pair_says _ _, ← f, ← g)
    (goes_on _ 15 ok (goes_past c.in_ok-check.ensures (goes_past c.in_ok-check-2.ensures (goes_on _ 5 (rw c.counts_fit.ensures at c.in_ok-ensure-2.ensures) (goes_past c.in_ok-check-3.ensures last)))))
