use Rattle.std.proofs.Common.{ap, sym, true, ◌∙◌}
use Rattle.account.specs.CallLaws.{margin_worked, margin_unsound, margin_sheet, margin_day, margin_missing}
use Rattle.account.specs.AccountLaws.{part_there, part_gone, loose_most, loose_total, loose_ready, loose_sum, pairs_stand, tied_total, tied_ready, tied_sum, loose_missing, none_missing, account_sum}
use Rattle.sound.specs.WalkedLaws.{walked_sound, walked_free, walked_keys, walked_legs}
use Rattle.rules.specs.RuleLaws.{sound_is}
use Rattle.levels.specs.declared.Levels.{Levels}
use Rattle.account.specs.declared.Margin.{Margin}
use borrow.Author.Tests.{not-true, not-false}
use Rattle.account.proofs.margin_on.Goals as goal

pub returns-then-not-w : goal.returns-then-not-w
returns-then-not-w c = (rw c.number.ensures at c.refused.ensures) ∙ sym (margin_unsound _ _ (sym (walked_sound _ c.walked_book-w.ensures) ∙ not-true _ c.if-not-w.true))

pub returns-then-sheet-ne0 : goal.returns-then-sheet-ne0
returns-then-sheet-ne0 c =
    let sound = sym (walked_sound _ c.walked_book-w.ensures) ∙ not-false _ c.if-not-w.false in
    c.refused-then-sheet-ne0.ensures ∙ sym (margin_sheet _ _ sound c.if-sheet-ne0.true)

pub returns-then-sheet-b : goal.returns-then-sheet-b
returns-then-sheet-b c =
    let sound = sym (walked_sound _ c.walked_book-w.ensures) ∙ not-false _ c.if-not-w.false in
    (rw c.number-then-sheet-b.ensures at c.refused-then-sheet-b.ensures) ∙ sym (margin_day _ _ sound c.if-sheet-ne0.false c.if-sheet-b.true)

pub quote_rows-quotes-requires : goal.quote_rows-quotes-requires
quote_rows-quotes-requires c =
    let sound = sym (walked_sound _ c.walked_book-w.ensures) ∙ not-false _ c.if-not-w.false in
    ((sound_is _ sound).holdings_sound_lem.few, walked_keys _ c.walked_book-w.ensures sound)

pub holdings_margin-requires : goal.holdings_margin-requires
holdings_margin-requires c =
    let sound = sym (walked_sound _ c.walked_book-w.ensures) ∙ not-false _ c.if-not-w.false in
    let s = sound_is _ sound in
    (s.holdings_sound_lem.few, loose_most s c.quote_rows-quotes.ensures (walked_free _ c.walked_book-w.ensures sound))

pub returns-in_default : goal.returns-in_default
returns-in_default c =
    let sound = sym (walked_sound _ c.walked_book-w.ensures) ∙ not-false _ c.if-not-w.false in
    let f = walked_free _ c.walked_book-w.ensures sound in
    let less = sym (loose_ready (sound_is _ sound) c.quote_rows-quotes.ensures f) ∙ part_gone _ _ _ c.holdings_margin.ensures c.in_default.not-Some in
    (rw c.number-in_default.ensures at c.refused-in_default.ensures) ∙ sym (margin_missing _ _ sound c.if-sheet-ne0.false c.if-sheet-b.false (loose_missing _ _ less))

pub pairs_margin-requires : goal.pairs_margin-requires
pairs_margin-requires c =
    let sound = sym (walked_sound _ c.walked_book-w.ensures) ∙ not-false _ c.if-not-w.false in
    let s = sound_is _ sound in
    (s.pairs_sound_lem.few, pairs_stand s c.quote_rows-quotes.ensures (walked_legs _ c.walked_book-w.ensures sound) true)

pub returns-in_default-pairs_margin : goal.returns-in_default-pairs_margin
returns-in_default-pairs_margin c =
    let sound = sym (walked_sound _ c.walked_book-w.ensures) ∙ not-false _ c.if-not-w.false in
    let s = sound_is _ sound in
    let q = c.quote_rows-quotes.ensures in
    let f = walked_free _ c.walked_book-w.ensures sound in
    let l = walked_legs _ c.walked_book-w.ensures sound in
    let all = sym (loose_ready s q f) ∙ (part_there _ _ c.holdings_margin.ensures c.in-Some.is).0 in
    let less = sym (tied_ready s q l) ∙ part_gone _ _ _ c.pairs_margin.ensures c.in_default-pairs_margin.not-Some in
    (rw c.number-in_default-pairs_margin.ensures at c.refused-in_default-pairs_margin.ensures) ∙ sym (margin_missing _ _ sound c.if-sheet-ne0.false c.if-sheet-b.false (none_missing _ _ all less))

pub add-levels-requires : goal.add-levels-requires
add-levels-requires c =
    let sound = sym (walked_sound _ c.walked_book-w.ensures) ∙ not-false _ c.if-not-w.false in
    let s = sound_is _ sound in
    let q = c.quote_rows-quotes.ensures in
    let f = walked_free _ c.walked_book-w.ensures sound in
    let l = walked_legs _ c.walked_book-w.ensures sound in
    let loose = (part_there _ _ c.holdings_margin.ensures c.in-Some.is).0 in
    let tied = (part_there _ _ c.pairs_margin.ensures c.in-Some-pairs_margin.is).0 in
    (rw ((part_there _ _ c.holdings_margin.ensures c.in-Some.is).1) (loose_total s q f), rw ((part_there _ _ c.pairs_margin.ensures c.in-Some-pairs_margin.is).1) (tied_total s q l true))

pub returns : goal.returns
returns c =
    let sound = sym (walked_sound _ c.walked_book-w.ensures) ∙ not-false _ c.if-not-w.false in
    let s = sound_is _ sound in
    let q = c.quote_rows-quotes.ensures in
    let f = walked_free _ c.walked_book-w.ensures sound in
    let l = walked_legs _ c.walked_book-w.ensures sound in
    let loose = (part_there _ _ c.holdings_margin.ensures c.in-Some.is).0 in
    let tied = (part_there _ _ c.pairs_margin.ensures c.in-Some-pairs_margin.is).0 in
    let sum = account_sum _ _ ((part_there _ _ c.holdings_margin.ensures c.in-Some.is).1 ∙ loose_sum s q f) ((part_there _ _ c.pairs_margin.ensures c.in-Some-pairs_margin.is).1 ∙ tied_sum s q l true tied) in
    ap {B = Margin} (λ (l : Levels). record { number = 0; line = 0; levels = l }) (c.add-levels.ensures ∙ sum)
    ∙ sym (margin_worked _ _ sound c.if-sheet-ne0.false c.if-sheet-b.false (none_missing _ _ (sym (loose_ready s q f) ∙ loose) (sym (tied_ready s q l) ∙ tied)))
