-- What a pairing that no check refuses has; and the book that comes back of a close and of a pairing is sound where the one handed in was.
use Rattle.std.specs.Prelude.{◌≡◌, true, ℕ}
use Rattle.laws.specs.TruthLaws.{both_true}
use Rattle.laws.specs.Checks.{all_pass}
use Rattle.laws.specs.CheckLaws.{pass_both}
use Rattle.series.specs.declared.Series.{Series}
use Rattle.series.specs.declared.Side.{Side}
use Rattle.pairing.specs.Rules.{parts_of, pair_checks, may_stand}
use Rattle.rows.specs.declared.Pair.{Pair}
use Rattle.rows.specs.declared.Book.{Book}
use Rattle.rules.specs.Lots.{first_leg, second_leg}
use Rattle.rules.specs.Rules.{counts_fit}
use Rattle.rules.specs.Facts.{Sound}
use Rattle.calls.specs.Calls.{close_checks, leg_free, pairing_checks}
use Rattle.calls.specs.Facts.{Pairs}
use Rattle.calls.specs.Calls.{closed, close_answer, joined, pair_answer}
use Rattle.calls.specs.OpenLaws.{close_sound}
use Rattle.calls.specs.TieLaws.{pair_sound}
use Rattle.calls.specs.PassLaws.{first_of, last_two, after_two, leg_is_free, close_passes}
use Rattle.calls.specs.CallLaws.{outcome_has}

pub pair_passes : (b : Book) (p : Pair) → all_pass (pairing_checks b p) ≡ true → Pairs b p
unfolding pairing_checks may_stand
pair_passes b p e =
    let h = after_two b p.first p.second _ e in
    let c = first_of 6 (counts_fit p.r1 p.r2 p.units) _ h.3 in
    let k = pass_both (pair_checks (parts_of p.kind p.first p.second p.r1 p.r2)) _ c.1 in
    let m = last_two 9 11 _ _ k.1 in
    let f = both_true (leg_free b (first_leg p)) (leg_free b (second_leg p)) m.0 in
    record {
      sound = h.0;
      first_good = h.1;
      second_good = h.2;
      counts = c.0;
      allowed = k.0;
      first_free = leg_is_free b (first_leg p) f.0;
      second_free = leg_is_free b (second_leg p) f.1;
      room = m.1;
    }

pub close_keeps : (b : Book) (s : Series) (d : Side) (n : ℕ) → Sound b → Sound (close_answer b s d n).book
unfolding close_answer
close_keeps b s d n h = outcome_has (close_checks b s d n) b (closed b s d n) Sound h (λ e. close_sound (close_passes b s d n e))

pub pair_keeps : (b : Book) (p : Pair) → Sound b → Sound (pair_answer b p).book
unfolding pair_answer
pair_keeps b p h = outcome_has (pairing_checks b p) b (joined b p) Sound h (λ e. pair_sound (pair_passes b p e))
