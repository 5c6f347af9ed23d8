-- Laws of open and close: what they do to the lots of every series and side, and that a sound book stays sound.
use Rattle.std.specs.Prelude.{◌≡◌, ℕ, ◌+◌, ◌-◌, ◌≤◌, ltb, length}
use Rattle.std.proofs.Math.Path.{ap, subst}
use Rattle.std.proofs.Common.{sym, ◌∙◌}
use Rattle.std.proofs.Math.Logic.{⊎_elim}
use Rattle.std.proofs.Math.Bool.{true}
use mathlib.Core.List.{List}
use native.Mathlib.Omega.{arith}
use Rattle.laws.specs.Truth.{either}
use Rattle.laws.specs.Search.{every_line}
use Rattle.lists.specs.Sorted.{ascending, stands, kept}
use Rattle.lists.specs.SortedLaws.{kept_ascends, kept_every}
use Rattle.lists.proofs.FitLaws.{kept_fits}
use Rattle.series.specs.declared.Series.{Series}
use Rattle.series.specs.declared.Side.{Side}
use Rattle.rows.specs.declared.Holding.{Holding}
use Rattle.rows.specs.declared.Pair.{Pair}
use Rattle.rows.specs.declared.Book.{Book}
use Rattle.rows.specs.Rows.{series_rank, holding_rank, no_lots, added, lessened, empty_holding}
use Rattle.rows.specs.Book.{holdings_of, pairs_of, with_holdings}
use Rattle.rows.specs.BookLaws.{new_holdings, same_pairs}
use Rattle.rules.specs.Lots.{ties, tied, total, free, units_of}
use Rattle.rules.specs.LotLaws.{one_rank, total_of_one, tied_of_one, ties_of_one, ties_own, ties_itself}
use Rattle.rules.specs.Rules.{good_holding}
use Rattle.rules.specs.Facts.{Sound}
use Rattle.rules.specs.RuleLaws.{sound_full, holdings_good, holdings_order, holdings_count}
use Rattle.calls.specs.Calls.{held_of, opened, closed}
use Rattle.calls.specs.HeldLaws.{lots_of, opened_rank, closed_rank, lots_stand, opened_total, closed_total, opened_good, closed_good}
use Rattle.calls.specs.Facts.{Opens, Closes}

-- A sound book with other holdings, which cover what its pairs tie.
pub sound_holdings : (b : Book) (hs : List Holding) → Sound b → length hs ≤ 128 → every_line good_holding hs ≡ true → ascending holding_rank hs ≡ true → ((s : Series) (d : Side) → tied (pairs_of b) s d ≤ total hs s d) → Sound (with_holdings b hs)
unfolding with_holdings pairs_of
sound_holdings b hs s few g a never =
    record {
      account_fits_lem = s.account_fits_lem;
      identity_is = s.identity_is;
      day_is = s.day_is;
      holdings_sound_lem = sound_full empty_holding good_holding holding_rank hs few g a;
      pairs_sound_lem = s.pairs_sound_lem;
      never_negative = λ t d. subst (λ (l : List Holding). tied (pairs_of b) t d ≤ total l t d) (sym (new_holdings b hs)) (never t d);
    }

-- Open: its lots come to the total of its series and side, and to no other.
module _ {b : Book} {s : Series} {d : Side} {n : ℕ} (o : Opens b s d n) where
  pub open_total : (t : Series) (e : Side) → total (holdings_of (opened b s d n)) t e ≡ total (holdings_of b) t e + ties t e (lots_of s d n)
  unfolding opened
  open_total t e =
      ap (λ (l : List Holding). total l t e) (new_holdings b _)
      ∙ opened_total (holdings_of b) s d n (holdings_order o.sound) t e

  pub open_tied : (t : Series) (e : Side) → tied (pairs_of (opened b s d n)) t e ≡ tied (pairs_of b) t e
  unfolding opened
  open_tied t e = ap (λ (l : List Pair). tied l t e) (same_pairs b _)

  pub open_units : (q : Pair) → units_of (pairs_of (opened b s d n)) q ≡ units_of (pairs_of b) q
  unfolding opened
  open_units q = ap (λ (l : List Pair). units_of l q) (same_pairs b _)

  pub open_free : (t : Series) (e : Side) → free (opened b s d n) t e ≡ free b t e + ties t e (lots_of s d n)
  unfolding free
  open_free t e =
      let x = open_total t e in
      let y = open_tied t e in
      let z = o.sound.never_negative t e in
      omega arith

  pub open_sound : Sound (opened b s d n)
  unfolding opened
  open_sound =
      let hs = holdings_of b in
      let x = added d n (held_of hs s) in
      let a = holdings_order o.sound in
      let g = holdings_good o.sound in
      let count = holdings_count o.sound in
      let few = o.sound.holdings_sound_lem.few in
      sound_holdings b (kept holding_rank no_lots x hs) o.sound
      (kept_fits holding_rank no_lots (held_of hs s) x hs a 128 (omega arith) (opened_room o.room))
      (kept_every holding_rank no_lots (held_of hs s) x hs a good_holding (λ q. opened_good hs s d n g o.series_good o.some o.fits) g)
      (kept_ascends holding_rank no_lots (held_of hs s) x hs a)
      (λ t e. let y = opened_total hs s d n a t e in let z = o.sound.never_negative t e in omega arith)
    where
      opened_room : either (stands holding_rank (series_rank s) (holdings_of b)) (ltb b.held 128) ≡ true → either (stands holding_rank (holding_rank (added d n (held_of (holdings_of b) s))) (holdings_of b)) (ltb (length (holdings_of b)) 128) ≡ true
      opened_room e = rw (opened_rank (holdings_of b) s d n, holdings_count o.sound) e

-- Close: its lots, which are free, leave the total of its series and side, and of no other.
module _ {b : Book} {s : Series} {d : Side} {n : ℕ} (o : Closes b s d n) where
  pub close_total : (t : Series) (e : Side) → total (holdings_of (closed b s d n)) t e ≡ total (holdings_of b) t e - ties t e (lots_of s d n)
  unfolding closed
  close_total t e =
      ap (λ (l : List Holding). total l t e) (new_holdings b _)
      ∙ closed_total (holdings_of b) s d n (holdings_order o.sound) t e

  pub close_tied : (t : Series) (e : Side) → tied (pairs_of (closed b s d n)) t e ≡ tied (pairs_of b) t e
  unfolding closed
  close_tied t e = ap (λ (l : List Pair). tied l t e) (same_pairs b _)

  -- the lots that leave were there, and free
  pub close_enough : (t : Series) (e : Side) → ties t e (lots_of s d n) ≤ free b t e
  unfolding free
  close_enough t e =
      ⊎_elim (λ z. omega arith)
      (λ m.
      let k = one_rank s t m.0 in
      let x = total_of_one (holdings_of b) d s t k in
      let y = tied_of_one (pairs_of b) d s t k in
      let own = ties_of_one d (lots_of s d n) s t k in
      let itself = ties_itself (lots_of s d n) in
      let f = o.enough in
      let v : ties t d (lots_of s d n) ≤ total (holdings_of b) t d - tied (pairs_of b) t d = omega arith in
      subst (λ (c : Side). ties t c (lots_of s d n) ≤ total (holdings_of b) t c - tied (pairs_of b) t c) m.1 v)
      (ties_own t e (lots_of s d n))

  pub close_units : (q : Pair) → units_of (pairs_of (closed b s d n)) q ≡ units_of (pairs_of b) q
  unfolding closed
  close_units q = ap (λ (l : List Pair). units_of l q) (same_pairs b _)

  pub close_free : (t : Series) (e : Side) → free (closed b s d n) t e ≡ free b t e - ties t e (lots_of s d n)
  unfolding free
  close_free t e =
      let x = close_total t e in
      let y = close_tied t e in
      omega arith

  pub close_sound : Sound (closed b s d n)
  unfolding closed free
  close_sound =
      let hs = holdings_of b in
      let x = lessened d n (held_of hs s) in
      let a = holdings_order o.sound in
      let g = holdings_good o.sound in
      let count = holdings_count o.sound in
      let few = o.sound.holdings_sound_lem.few in
      let enough = o.enough in
      let some = o.some in
      sound_holdings b (kept holding_rank no_lots x hs) o.sound
      (kept_fits holding_rank no_lots (held_of hs s) x hs a 128 (omega arith) (closed_room (lots_stand hs s d (omega arith))))
      (kept_every holding_rank no_lots (held_of hs s) x hs a good_holding (λ q. closed_good hs s d n g o.series_good q) g)
      (kept_ascends holding_rank no_lots (held_of hs s) x hs a)
      (λ t e. let y = closed_total hs s d n a t e in let z = close_enough t e in let w = o.sound.never_negative t e in omega arith)
    where
      closed_room : stands holding_rank (series_rank s) (holdings_of b) ≡ true → either (stands holding_rank (holding_rank (lessened d n (held_of (holdings_of b) s))) (holdings_of b)) (ltb (length (holdings_of b)) 128) ≡ true
      closed_room e = rw (closed_rank (holdings_of b) s d n, e)
