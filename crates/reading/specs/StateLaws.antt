-- Laws of what goes along with the book from line to line: the keys and free lots of its holdings.
use Rattle.std.specs.Prelude.{◌≡◌, Bool, true, List, [], ◌∷◌, ◌++◌, leb, eqb, get_or, length, take, set}
use Rattle.std.proofs.Math.Path.{refl, ap, sym, subst}
use Rattle.std.proofs.Common.{◌∙◌, add-one, length-append, take-suc-set, get_or-take, get_or-set_same, get_or-set_other}
use Prim.Native.Nat.{ℕ, ◌+◌, ◌-◌, ◌*◌, ◌%◌, ◌<◌, ◌≤◌}
use native.Mathlib.Omega.{arith}
use Rattle.std.proofs.Math.Decide.{dec_lt}
use Rattle.std.proofs.lemmas.Bool.{eqb-false}
use Rattle.std.proofs.Math.ListN.{length-set}
use Rattle.laws.specs.Truth.{both, either}
use Rattle.laws.specs.TruthLaws.{by_test}
use Rattle.laws.specs.Checks.{first_failing}
use Rattle.laws.specs.Order.{is_less, bytes_order}
use Rattle.lists.specs.Places.{full}
use Rattle.lists.specs.PlaceLaws.{set_end}
use Rattle.lists.specs.Sorted.{ascending, after, sum_of}
use Rattle.lists.specs.SortedLaws.{sum_joined}
use Rattle.lists.specs.LastLaws.{ascends_after}
use Rattle.series.specs.declared.Series.{Series}
use Rattle.series.specs.declared.Side.{Side}
use Rattle.series.specs.declared.Side.TheVariants.{Long, Short}
use Rattle.series.specs.Checks.{good_series}
use Rattle.series.specs.Key.{high_key, nature_key, halves_of}
use Rattle.pairing.specs.Sides.{first_side, second_side}
use Rattle.rows.specs.declared.Holding.{Holding}
use Rattle.rows.specs.declared.Pair.{Pair}
use Rattle.rows.specs.declared.Book.{Book}
use Rattle.rows.specs.Rows.{holding_rank, pair_rank, lots_on}
use Rattle.rows.specs.Book.{holdings_of, pairs_of, held_rows, paired_rows, with_holdings, with_pairs, book_of, empty_book, no_book}
use Rattle.rules.specs.Facts.{SoundRows, Sound}
use Rattle.rules.specs.Lots.{first_leg, second_leg, ties, tied, tied_by, free as freeLots}
use Rattle.rules.specs.Rules.{is_identity}
use Rattle.rules.specs.RuleLaws.{holdings_count, holdings_order, pairs_count, pairs_order, pair_is, identity_between}
use Rattle.sound.specs.Walk.{no_row, no_pair, Keyed}
use Rattle.sound.specs.KeyedLaws.{keyed_starts, keyed_next}
use Rattle.sound.specs.WalkLaws.{rows_long}
use Rattle.calls.specs.Calls.{leg_free}
use Rattle.book_lines.specs.declared.Item.{Item}
use Rattle.book_lines.specs.Lines.{Line, head, holding, pair, formless}
use Rattle.book_lines.specs.Facts.{pair_of, line_of, order_behind, room_behind, number_behind}
use Rattle.book_lines.specs.LetterLaws.{says_pair}
use Rattle.book_lines.specs.NumberLaws.{free_counts}
use Rattle.reading.specs.declared.Legs.{Legs}
use Rattle.reading.specs.Reading.{in_order, has_room, lots_free, line_checks, with_line}
use Rattle.reading.specs.Facts.{slot, first_slot, second_slot, legs_found, legs_at, less_at, less_legs}
use Rattle.reading.specs.Next.{NextHolding, NextPair}
use Rattle.reading.specs.FreeLaws.{slot_has, leg_takes}

-- What goes along with the book b.
pub record Along (b : Book) (highs lows free : List ℕ) : Type 0 where
  pub sound : Sound b
  pub highs_long : length highs ≡ 128
  pub lows_long : length lows ≡ 128
  pub free_long : length free ≡ 256
  pub keyed : Keyed no_row b.holdings b.held highs lows
  pub lots : (i : ℕ) (d : Side) → i < b.held → get_or free (slot i d) 0 ≡ lots_on d (get_or b.holdings i no_row) - tied (pairs_of b) (get_or b.holdings i no_row).series d

-- Of an empty book nothing goes along.
pub along_empty : (b : Book) (highs lows free : List ℕ) → Sound b → b.held ≡ 0 → b.paired ≡ 0 → length highs ≡ 128 → length lows ≡ 128 → length free ≡ 256 → Along b highs lows free
along_empty b highs lows free s h p hl ll fl =
    record {
      sound = s;
      highs_long = hl;
      lows_long = ll;
      free_long = fl;
      keyed = subst (λ (n : ℕ). Keyed no_row b.holdings n highs lows) (sym h) (keyed_starts no_row b.holdings highs lows);
      lots = λ i d lt. absurd (omega arith);
    }

-- A row after the last one, by any row of the last one's rank.
after_same : {A : Type 0} (rank : A → List ℕ) (n : ℕ) (x y z : A) → (0 < n → rank x ≡ rank y) → after rank n x z ≡ after rank n y z
after_same rank n x y z e =
    by_test (λ (t : Bool). eqb n 0 ≡ t → either t (is_less (bytes_order (rank x) (rank z))) ≡ either t (is_less (bytes_order (rank y) (rank z)))) (eqb n 0)
    (λ q f. refl)
    (λ q f. let k = eqb-false n 0 f in ap (λ (r : List ℕ). is_less (bytes_order r (rank z))) (e (omega arith)))
    refl

-- The last rows of a book, where there are any.
pub record Lasts (b : Book) (last : Holding) (newest : Pair) : Type 0 where
  pub last_is : 0 < b.held → last ≡ get_or b.holdings (b.held - 1) no_row
  pub newest_is : 0 < b.paired → newest ≡ get_or b.pairs (b.paired - 1) no_pair

pub no_lasts : {b : Book} (last : Holding) (newest : Pair) → b ≡ no_book → Lasts b last newest
unfolding no_book empty_book book_of
no_lasts last newest e =
    let h = ap (λ (z : Book). z.held) e in
    let p = ap (λ (z : Book). z.paired) e in
    record { last_is = λ lt. absurd (omega arith); newest_is = λ lt. absurd (omega arith) }

-- A row after the last one of the book.
module _ {b : Book} (sound : Sound b) {last : Holding} {newest : Pair} (lasts : Lasts b last newest) where
  after_holdings : (h : Holding) → after holding_rank b.held last h ≡ ascending holding_rank (holdings_of b ++ (h ∷ []))
  unfolding holdings_of
  after_holdings h =
      after_same holding_rank b.held last (get_or (holdings_of b) (b.held - 1) no_row) h
      (λ lt. ap holding_rank (lasts.last_is lt ∙ sym (get_or-take b.held b.holdings (b.held - 1) no_row (omega arith))))
      ∙ sym (ascends_after holding_rank h no_row (holdings_of b) b.held (holdings_count sound) (holdings_order sound))

  after_pairs : (p : Pair) → after pair_rank b.paired newest p ≡ ascending pair_rank (pairs_of b ++ (p ∷ []))
  unfolding pairs_of
  after_pairs p =
      after_same pair_rank b.paired newest (get_or (pairs_of b) (b.paired - 1) no_pair) p
      (λ lt. ap pair_rank (lasts.newest_is lt ∙ sym (get_or-take b.paired b.pairs (b.paired - 1) no_pair (omega arith))))
      ∙ sym (ascends_after pair_rank p no_pair (pairs_of b) b.paired (pairs_count sound) (pairs_order sound))

  -- What counts and last rows tell a line is what the book does.
  order_told : (x : Line) → order_behind last b.held newest b.paired x ≡ in_order b x
  unfolding order_behind in_order
  order_told (head account identity day) = refl
  order_told (holding h) = ap (both (eqb b.paired 0)) (after_holdings h)
  order_told (pair p) = after_pairs p
  order_told formless = refl

room_told : (b : Book) (x : Line) → room_behind b.held b.paired x ≡ has_room b x
unfolding room_behind has_room
room_told b (head account identity day) = refl
room_told b (holding h) = refl
room_told b (pair p) = refl
room_told b formless = refl

-- Rows in an array with one more at the end of the live ones.
row_more : {A : Type 0} {empty : A} {good : A → Bool} {rank : A → List ℕ} {n : ℕ} {rows : List A} (x : A) → SoundRows empty good rank n rows → n < 128 → (set rows n x ≡ full 128 empty (take n rows ++ (x ∷ []))) × (n + 1 ≡ length (take n rows ++ (x ∷ [])))
row_more {A} {empty} {good} {rank} {n} {rows} x s lt =
    let c = s.counted in
    (ap (λ (l : List A). set l n x) s.filled ∙ subst (λ (k : ℕ). set (full 128 empty (take n rows)) k x ≡ full 128 empty (take n rows ++ (x ∷ []))) c (set_end 128 empty x (take n rows) (omega arith)), omega (arith, length-append (take n rows) (x ∷ [])))

-- An A line, which is the first: the book is still the one that is read from no line.
abbrev pub headed : Book → ℕ → ℕ → ℕ → Book
headed b account identity day = record { account = account; identity = identity; day = day; holdings = b.holdings; held = b.held; pairs = b.pairs; paired = b.paired }

pub head_lasts : {b : Book} {last : Holding} {newest : Pair} → Lasts b last newest → (account identity day : ℕ) → Lasts (headed b account identity day) last newest
head_lasts lasts account identity day = record { last_is = lasts.last_is; newest_is = lasts.newest_is }

pub head_book_is : (b : Book) (account identity day : ℕ) → b ≡ no_book → is_identity identity ≡ true → headed b account (identity % 256) day ≡ with_line b (head account identity day)
unfolding with_line no_book empty_book book_of
head_book_is b account identity day is e =
    let small = identity_between identity e in
    let same : identity % 256 ≡ identity = omega arith in
    ap (λ (c : Book). headed c account (identity % 256) day) is ∙ ap (λ (i : ℕ). empty_book account i day) same

-- The free lots with a row entered behind the others.
slot_low : (i : ℕ) (d : Side) → slot i d ≤ 2 * i + 1
unfolding slot
slot_low i Long = omega arith
slot_low i Short = omega arith

entered_before : (free : List ℕ) (n i : ℕ) (d : Side) (h : Holding) → i < n → get_or (set (set free (2 * n) h.long) (2 * n + 1) h.short) (slot i d) 0 ≡ get_or free (slot i d) 0
entered_before free n i d h lt =
    let low = slot_low i d in
    get_or-set_other (set free (2 * n) h.long) (2 * n + 1) (slot i d) h.short 0 (λ e. omega arith) ∙ get_or-set_other free (2 * n) (slot i d) h.long 0 (λ e. omega arith)

entered_here : (free : List ℕ) (n : ℕ) (d : Side) (h : Holding) → length free ≡ 256 → n < 128 → get_or (set (set free (2 * n) h.long) (2 * n + 1) h.short) (slot n d) 0 ≡ lots_on d h
unfolding slot
entered_here free n Long h long few =
    get_or-set_other (set free (2 * n) h.long) (2 * n + 1) (2 * n) h.short 0 (λ e. omega arith) ∙ get_or-set_same free (2 * n) h.long 0 (omega arith)
entered_here free n Short h long few = get_or-set_same (set free (2 * n) h.long) (2 * n + 1) h.short 0 (simp length-set (omega arith))

-- An H line: its row is the last, with its key and all its lots free.
module _ {b : Book} {highs lows free : List ℕ} (a : Along b highs lows free) {row : Holding} (next : NextHolding b row) where
  held_few : b.held < 128
  held_few = let c = holdings_count a.sound in let r = next.row.room in omega arith

  pub holding_book_is : held_rows b (set b.holdings b.held row) (b.held + 1) ≡ with_line b (holding row)
  unfolding with_line with_holdings holdings_of
  holding_book_is = let m = row_more row a.sound.holdings_sound_lem held_few in λ i. held_rows b (m.0 i) (m.1 i)

  -- the rows before it stay
  stays : (i : ℕ) → i < b.held → get_or (set b.holdings b.held row) i no_row ≡ get_or b.holdings i no_row
  stays i lt = get_or-set_other b.holdings b.held i row no_row (λ e. omega arith)

  here : get_or (set b.holdings b.held row) b.held no_row ≡ row
  here = let long = rows_long a.sound.holdings_sound_lem in let few = held_few in get_or-set_same b.holdings b.held row no_row (omega arith)

  keyed_more : Keyed no_row (set b.holdings b.held row) (b.held + 1) (set highs b.held (high_key row.series)) (set lows b.held (nature_key row.series.nature))
  keyed_more =
      let k = a.keyed in
      let hl = a.highs_long in
      let ll = a.lows_long in
      let few = held_few in
      keyed_next {highs = highs} {lows = lows} {k = halves_of row.series}
      (record {
        highs_long = k.highs_long;
        lows_long = k.lows_long;
        highs_are = λ i lt. k.highs_are i lt ∙ ap (λ (h : Holding). high_key h.series) (sym (stays i lt));
        lows_are = λ i lt. k.lows_are i lt ∙ ap (λ (h : Holding). nature_key h.series.nature) (sym (stays i lt));
      })
      (omega arith) (omega arith) (ap (λ (h : Holding). halves_of h.series) (sym here))

  none_tied : (t : Series) (d : Side) → tied (pairs_of b) t d ≡ 0
  unfolding pairs_of tied sum_of
  none_tied t d = ap (λ (n : ℕ). tied (take n b.pairs) t d) next.no_pairs

  lots_more : (i : ℕ) (d : Side) → i < b.held + 1 → get_or (set (set free (2 * b.held) row.long) (2 * b.held + 1) row.short) (slot i d) 0 ≡ lots_on d (get_or (set b.holdings b.held row) i no_row) - tied (pairs_of b) (get_or (set b.holdings b.held row) i no_row).series d
  lots_more i d lt = go (dec_lt i b.held)
    where
      go : Dec (i < b.held) → get_or (set (set free (2 * b.held) row.long) (2 * b.held + 1) row.short) (slot i d) 0 ≡ lots_on d (get_or (set b.holdings b.held row) i no_row) - tied (pairs_of b) (get_or (set b.holdings b.held row) i no_row).series d
      go (yes q) = entered_before free b.held i d row q ∙ a.lots i d q ∙ rw (stays i q)
      go (no q) =
          let is : i ≡ b.held = omega arith in
          rw (is, here, none_tied row.series d) (entered_here free b.held d row a.free_long held_few ∙ omega arith)

  -- What goes along, with one more.
  pub holding_last : {last : Holding} {newest : Pair} → Lasts b last newest → Lasts (held_rows b (set b.holdings b.held row) (b.held + 1)) row newest
  holding_last lasts =
      let own : b.held + 1 - 1 ≡ b.held = omega arith in
      record { last_is = λ lt. rw own (sym here); newest_is = lasts.newest_is }

  pub holding_along : Sound (with_line b (holding row)) → Along (held_rows b (set b.holdings b.held row) (b.held + 1)) (set highs b.held (high_key row.series)) (set lows b.held (nature_key row.series.nature)) (set (set free (2 * b.held) row.long) (2 * b.held + 1) row.short)
  unfolding pairs_of
  holding_along s =
      record {
        sound = subst Sound (sym holding_book_is) s;
        highs_long = simp length-set a.highs_long;
        lows_long = simp length-set a.lows_long;
        free_long = simp length-set a.free_long;
        keyed = keyed_more;
        lots = lots_more;
      }

-- An M line: its legs find their lots in their slots, and take them there.
module _ {b : Book} {highs lows free : List ℕ} (a : Along b highs lows free) (p : Pair) (first_good : good_series p.first ≡ true) (second_good : good_series p.second ≡ true) where
  pub legs_are_free : legs_found highs lows free b.held p ≡ both (leg_free b (first_leg p)) (leg_free b (second_leg p))
  unfolding legs_found leg_free freeLots first_leg second_leg
  legs_are_free =
      let x = slot_has a.sound a.keyed free (pairs_of b) a.free_long a.lots p.first first_good (first_side p.kind p.second) in
      let y = slot_has a.sound a.keyed free (pairs_of b) a.free_long a.lots p.second second_good (second_side p.kind) in
      λ i. both (leb (p.r1 * p.units) (x i)) (leb (p.r2 * p.units) (y i))

  lots_less : (i : ℕ) (d : Side) → i < b.held → get_or (less_legs free (first_slot highs lows b.held p) (second_slot highs lows b.held p) p) (slot i d) 0 ≡ lots_on d (get_or b.holdings i no_row) - tied (pairs_of b ++ (p ∷ [])) (get_or b.holdings i no_row).series d
  unfolding first_leg second_leg tied tied_by sum_of
  lots_less i d lt =
      let v : ℕ → Side → ℕ = λ (j : ℕ) (e : Side). lots_on e (get_or b.holdings j no_row) - tied (pairs_of b) (get_or b.holdings j no_row).series e in
      let one = leg_takes a.sound a.keyed (first_leg p) first_good free v a.free_long a.lots in
      let two = leg_takes a.sound a.keyed (second_leg p) second_good (less_at free (first_slot highs lows b.held p) (p.r1 * p.units)) (λ (j : ℕ) (e : Side). v j e - ties (get_or b.holdings j no_row).series e (first_leg p)) (simp length-set a.free_long) one i d lt in
      let sum = sum_joined (tied_by (get_or b.holdings i no_row).series d) (pairs_of b) (p ∷ []) in
      two ∙ omega arith

-- So the number of a line that letter and items say is that of its first check that fails.
module _ {b : Book} {highs lows free : List ℕ} (a : Along b highs lows free) (letter : ℕ) (items : List Item) {p : Pair} (p-is : p ≡ pair_of items) {legs : Legs} (found : legs ≡ legs_at highs lows free b.held letter p) where
  free_told : letter ≡ 77 → good_series (pair_of items).first ≡ true → good_series (pair_of items).second ≡ true → legs.free ≡ lots_free b (line_of letter items)
  unfolding legs_at lots_free
  free_told l f s =
      ap (λ (z : Legs). z.free) (rw (l, p-is) at found)
      ∙ legs_are_free a (pair_of items) f s
      ∙ sym (ap (lots_free b) (says_pair items l))

  pub number_told : (first : Bool) {last : Holding} {newest : Pair} → Lasts b last newest → {number : ℕ} → number ≡ number_behind first last b.held newest b.paired legs.free (line_of letter items) → first_failing (line_checks first b (line_of letter items)) ≡ number
  unfolding number_behind line_checks
  number_told first lasts is =
      let x = line_of letter items in
      sym (is ∙ rw (order_told a.sound lasts x, room_told b x) (free_counts first (in_order b x) (has_room b x) letter items free_told))

-- With the pair as the last one.
module _ {b : Book} {highs lows free : List ℕ} (a : Along b highs lows free) {newest : Pair} (next : NextPair b newest) where
  paired_few : b.paired < 128
  paired_few = let c = pairs_count a.sound in let r = next.row.room in omega arith

  pub pair_book_is : paired_rows b (set b.pairs b.paired newest) (b.paired + 1) ≡ with_line b (pair newest)
  unfolding with_line with_pairs pairs_of
  pair_book_is = let m = row_more newest a.sound.pairs_sound_lem paired_few in λ i. paired_rows b (m.0 i) (m.1 i)

  pub pair_last : {last : Holding} {other : Pair} → Lasts b last other → Lasts (paired_rows b (set b.pairs b.paired newest) (b.paired + 1)) last newest
  pair_last lasts =
      let long = rows_long a.sound.pairs_sound_lem in
      let few = paired_few in
      let own : b.paired + 1 - 1 ≡ b.paired = omega arith in
      record { last_is = lasts.last_is; newest_is = λ lt. rw own (sym (get_or-set_same b.pairs b.paired newest no_pair (omega arith))) }

  its_pairs_are : pairs_of (paired_rows b (set b.pairs b.paired newest) (b.paired + 1)) ≡ pairs_of b ++ (newest ∷ [])
  unfolding pairs_of
  its_pairs_are =
      let long = rows_long a.sound.pairs_sound_lem in
      let few = paired_few in
      rw (add-one b.paired) (take-suc-set b.pairs b.paired newest (omega arith))

  pub pair_along : Sound (with_line b (pair newest)) → Along (paired_rows b (set b.pairs b.paired newest) (b.paired + 1)) highs lows (less_legs free (first_slot highs lows b.held newest) (second_slot highs lows b.held newest) newest)
  pair_along s =
      let g = pair_is newest next.row.is_good in
      record {
        sound = subst Sound (sym pair_book_is) s;
        highs_long = a.highs_long;
        lows_long = a.lows_long;
        free_long = simp length-set a.free_long;
        keyed = a.keyed;
        lots = λ i d lt. rw its_pairs_are (lots_less a newest g.first_good g.second_good i d lt);
      }
