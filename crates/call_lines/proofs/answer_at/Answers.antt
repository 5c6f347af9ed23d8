use Rattle.std.proofs.Common.{refl, ℕ, ltb}
use Rattle.laws.specs.Truth.{pick}
use Rattle.rows.specs.declared.Pair.{Pair}
use Rattle.calls.specs.Calls.{outcome, make_answer, open_answer, close_answer, pair_answer, split_answer, turn_answer}
use Rattle.call_lines.specs.declared.Make.{Make}
use Rattle.call_lines.specs.declared.Lots.{Lots}
use Rattle.lines.specs.LoopLaws.{stops_low}
use Rattle.call_lines.specs.LineLaws.{name_ends, no_call, make_line, open_line, close_line, pair_line, split_line, turn_line, told, untold}
use Rattle.call_lines.proofs.answer_at.Goals as goal

pub slice_bounds-name_of-count : goal.slice_bounds-name_of-count
slice_bounds-name_of-count c = stops_low _ _ c.stop_of-stop.ensures

pub slice_bounds-name_of-start : goal.slice_bounds-name_of-start
slice_bounds-name_of-start c = stops_low _ _ c.stop_of-stop.ensures

pub slice_bounds-name_of-end : goal.slice_bounds-name_of-end
slice_bounds-name_of-end c = name_ends _ _ c.stop_of-stop.ensures c.requires

pub returns-in-Nothing : goal.returns-in-Nothing
returns-in-Nothing c = no_call _ _ _ _ c.stop_of-stop.ensures c.name_of.ensures c.in-Nothing.is refl

pub returns-in-Some : goal.returns-in-Some
returns-in-Some c =
    make_line _ _ _ _ c.stop_of-stop.ensures c.name_of.ensures c.in-Make.is refl
    (told c.args.b.now _ _ (λ (m : Make). pick c.args.first (make_answer m.account (pick (ltb m.identity 256) m.identity 0) m.day) (outcome 3 c.args.b.now)) (rw c.in-Some.is at c.make_behind.ensures) c.make_with.ensures)

pub returns-in-None : goal.returns-in-None
returns-in-None c =
    make_line _ _ _ _ c.stop_of-stop.ensures c.name_of.ensures c.in-Make.is refl
    (untold _ _ _ _ (rw c.in-None.is at c.make_behind.ensures) refl)

pub returns-in-Some-lots_behind : goal.returns-in-Some-lots_behind
returns-in-Some-lots_behind c =
    open_line _ _ _ _ c.stop_of-stop.ensures c.name_of.ensures c.in-Open.is refl
    (told c.args.b.now _ _ (λ (l : Lots). open_answer c.args.b.now l.series l.side l.lots) (rw c.in-Some-lots_behind.is at c.lots_behind.ensures) c.open_with.ensures)

pub returns-in-None-lots_behind : goal.returns-in-None-lots_behind
returns-in-None-lots_behind c =
    open_line _ _ _ _ c.stop_of-stop.ensures c.name_of.ensures c.in-Open.is refl
    (untold _ _ _ _ (rw c.in-None-lots_behind.is at c.lots_behind.ensures) refl)

pub returns-in-Some-lots_behind-2 : goal.returns-in-Some-lots_behind-2
returns-in-Some-lots_behind-2 c =
    close_line _ _ _ _ c.stop_of-stop.ensures c.name_of.ensures c.in-Close.is refl
    (told c.args.b.now _ _ (λ (l : Lots). close_answer c.args.b.now l.series l.side l.lots) (rw c.in-Some-lots_behind-2.is at c.lots_behind-in-Close.ensures) c.close_with.ensures)

pub returns-in-None-lots_behind-2 : goal.returns-in-None-lots_behind-2
returns-in-None-lots_behind-2 c =
    close_line _ _ _ _ c.stop_of-stop.ensures c.name_of.ensures c.in-Close.is refl
    (untold _ _ _ _ (rw c.in-None-lots_behind-2.is at c.lots_behind-in-Close.ensures) refl)

pub returns-in-Some-units_behind : goal.returns-in-Some-units_behind
returns-in-Some-units_behind c =
    pair_line _ _ _ _ c.stop_of-stop.ensures c.name_of.ensures c.in-Pair.is refl
    (told c.args.b.now _ _ (λ (p : Pair). pair_answer c.args.b.now p) (rw c.in-Some-units_behind.is at c.units_behind.ensures) c.pair_with.ensures)

pub returns-in-None-units_behind : goal.returns-in-None-units_behind
returns-in-None-units_behind c =
    pair_line _ _ _ _ c.stop_of-stop.ensures c.name_of.ensures c.in-Pair.is refl
    (untold _ _ _ _ (rw c.in-None-units_behind.is at c.units_behind.ensures) refl)

pub returns-in-Some-units_behind-2 : goal.returns-in-Some-units_behind-2
returns-in-Some-units_behind-2 c =
    split_line _ _ _ _ c.stop_of-stop.ensures c.name_of.ensures c.in-Split.is refl
    (told c.args.b.now _ _ (λ (p : Pair). split_answer c.args.b.now p) (rw c.in-Some-units_behind-2.is at c.units_behind-in-Split.ensures) c.split_with.ensures)

pub returns-in-None-units_behind-2 : goal.returns-in-None-units_behind-2
returns-in-None-units_behind-2 c =
    split_line _ _ _ _ c.stop_of-stop.ensures c.name_of.ensures c.in-Split.is refl
    (untold _ _ _ _ (rw c.in-None-units_behind-2.is at c.units_behind-in-Split.ensures) refl)

pub returns-in-Some-day_behind : goal.returns-in-Some-day_behind
returns-in-Some-day_behind c =
    turn_line _ _ _ _ c.stop_of-stop.ensures c.name_of.ensures c.in-Turn.is refl
    (told c.args.b.now _ _ (λ (day : ℕ). turn_answer c.args.b.now day) (rw c.in-Some-day_behind.is at c.day_behind.ensures) c.turn_with.ensures)

pub returns-in-None-day_behind : goal.returns-in-None-day_behind
returns-in-None-day_behind c =
    turn_line _ _ _ _ c.stop_of-stop.ensures c.name_of.ensures c.in-Turn.is refl
    (untold _ _ _ _ (rw c.in-None-day_behind.is at c.day_behind.ensures) refl)
