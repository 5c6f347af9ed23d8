-- Laws of the loop over the parts of a line: each has its form and the next begins behind it, or the line has not the
-- form.
use Rattle.std.specs.Prelude.{◌≡◌, refl, Bool, true, not, ℕ, suc, ◌+◌, ◌-◌, ◌<◌, ◌≤◌, get_or, drop, set}
use Rattle.std.proofs.Math.Path.{ap, sym}
use Rattle.std.proofs.Common.{◌∙◌, subst, drop_of_length-le, drop-cons, get_or-take}
use Rattle.std.proofs.Math.Bool.{false}
use mathlib.Core.List.{List, [], ◌∷◌, ◌++◌, append-nil}
use native.Mathlib.Omega.{arith}
use Rattle.std.proofs.Math.Decide.{dec_lt}
use Rattle.std.proofs.Math.Numerals.{add-one}
use borrow.Author.Tests.{ne_eqb, not-true, not-false}
use Rattle.std.proofs.Math.ListN.{length, take, length-set, get_or-eq_default}
use Rattle.std.proofs.Math.Seq.{append_snoc, take-suc-set, take_all}
use Rattle.laws.specs.Truth.{both}
use Rattle.laws.specs.TruthLaws.{clash, both_true}
use Rattle.lines.specs.Pieces.{tab, lf, stops, stop_of}
use Rattle.lines.specs.Fields.{cell_of}
use Rattle.lines.specs.StopLaws.{stop_byte, stops_lf}
use Rattle.lines.specs.LoopLaws.{in_table}
use Rattle.lines.specs.Behind.{chain_behind, series_form, written_in}
use Rattle.lines.specs.BehindLaws.{behind_on, behind_off}
use Rattle.book_lines.specs.declared.Part.{Part}
use Rattle.book_lines.specs.declared.Part.TheVariants.{Nothing, Number, Account, Mark, Date, Series}
use Rattle.book_lines.specs.declared.Item.{Item}
use Rattle.book_lines.specs.Lines.{Line, holding, pair}
use Rattle.book_lines.specs.Facts.{letter_in, parts_for, part_table, place_for, parts_count, item, Items, item_behind, items_behind, head_of, holding_of, pair_of, line_of}
use Rattle.book_lines.specs.LetterLaws.{by_letters, Known, says_head, says_holding, says_pair}
use Rattle.book_lines.specs.TurnLaws.{Formless, letter_text, Says, unsaid, head_said, holding_said, pair_said_lem}

-- A part that has its form ends behind its tab and inside the text; without a tab none has.
item_on : (p : Part) (t : List ℕ) (at : ℕ) → (item_behind p t at).right ≡ true → (at < (item_behind p t at).stop) × (((item_behind p t at).stop < length t) × (stops (get_or t (item_behind p t at).stop 0) ≡ true))
unfolding item_behind chain_behind series_form written_in cell_of
item_on Nothing t at e = absurd (clash e refl)
item_on Number t at e = behind_on _ t at e
item_on Account t at e = behind_on _ t at e
item_on Mark t at e = behind_on _ t at e
item_on Date t at e = behind_on _ t at e
item_on Series t at e =
    let a = both_true _ _ e in
    let b = both_true _ _ a.1 in
    let c = both_true _ _ b.1 in
    let d = both_true _ _ c.1 in
    let w = behind_on _ t at a.0 in
    let x = behind_on _ t _ b.0 in
    let y = behind_on _ t _ c.0 in
    let z = behind_on _ t _ d.0 in
    (omega arith, z.1)

item_off : (p : Part) (t : List ℕ) (at : ℕ) → (get_or t at 0 ≡ tab → ⊥) → (item_behind p t at).right ≡ false
unfolding item_behind chain_behind series_form written_in cell_of
item_off Nothing t at n = refl
item_off Number t at n = behind_off _ t at n
item_off Account t at n = behind_off _ t at n
item_off Mark t at n = behind_off _ t at n
item_off Date t at n = behind_off _ t at n
item_off Series t at n = rw (behind_off _ t at n)

-- No form has more than six parts.
parts_few : (letter : ℕ) → length (parts_for letter) ≤ 6
unfolding parts_for
parts_few letter =
    by_letters letter (length (parts_for letter) ≤ 6) (λ l. rw l (omega arith)) (λ l. rw l (omega arith)) (λ l. rw l (omega arith))
    (λ x y z. rw (ne_eqb letter 65 x, ne_eqb letter 72 y, ne_eqb letter 77 z) (omega arith))

-- a letter of a book has as many parts as it is told to have
count_known : (letter : ℕ) → Known letter → parts_count letter ≡ length (parts_for letter)
unfolding parts_for parts_count
count_known letter known =
    by_letters letter (parts_count letter ≡ length (parts_for letter)) (λ l. rw l) (λ l. rw l) (λ l. rw l) (λ x y z. absurd (known x y z))

-- In the table the parts of a letter's form stand from its place on, and Nothing behind them.
part_at : (letter k : ℕ) → k ≤ length (parts_for letter) → (place_for letter + k < 15) × (get_or part_table (place_for letter + k) Nothing ≡ get_or (parts_for letter) k Nothing)
unfolding parts_for place_for part_table
part_at letter k h =
    by_letters letter ((place_for letter + k < 15) × (get_or part_table (place_for letter + k) Nothing ≡ get_or (parts_for letter) k Nothing))
    (λ l. let few : k ≤ 3 = rw l at h in rw l (omega arith, in_table Nothing part_table (parts_for 65) _ 0 refl k few))
    (λ l. let few : k ≤ 3 = rw l at h in rw l (omega arith, in_table Nothing part_table (parts_for 72) _ 4 refl k few))
    (λ l. let few : k ≤ 6 = rw l at h in rw l (omega arith, in_table Nothing part_table (parts_for 77) _ 8 refl k few))
    (λ x y z. let few : k ≤ 0 = rw (ne_eqb letter 65 x, ne_eqb letter 72 y, ne_eqb letter 77 z) at h in rw (ne_eqb letter 65 x, ne_eqb letter 72 y, ne_eqb letter 77 z) (omega arith, in_table Nothing part_table [] _ 14 refl k few))

-- The loop is at the part k of the line that begins at `at`: those before it have their form, and it begins behind the
-- tab at `stop`.
pub record AtPart (t : List ℕ) (at letter : ℕ) (items : List Item) (k stop : ℕ) : Type 0 where
  pub letter_is : letter ≡ letter_in (letter_text t at)
  pub opened : stop_of t at < length t
  pub few : k ≤ length (parts_for letter)
  pub long : length items ≡ 6
  pub inside : stop < length t
  pub ends : stops (get_or t stop 0) ≡ true
  pub goes : items_behind (parts_for letter) t (stop_of t at) ≡ record { right = (items_behind (drop k (parts_for letter)) t stop).right; items = take k items ++ (items_behind (drop k (parts_for letter)) t stop).items; stop = (items_behind (drop k (parts_for letter)) t stop).stop }

-- what the line comes to
abbrev pub read_at : List ℕ → ℕ → ℕ → Items
read_at t at letter = items_behind (parts_for letter) t (stop_of t at)

pub parts_begin : (t : List ℕ) (at : ℕ) {letter stop : ℕ} (items : List Item) → stop ≡ stop_of t at → letter ≡ letter_in (take (stop - at) (drop at t)) → stop < length t → length items ≡ 6 → AtPart t at letter items 0 stop
parts_begin t at items is l lt long = record { letter_is = rw is at l; opened = rw is at lt; few = omega arith; long = long; inside = lt; ends = rw is (stop_byte t at (rw is at lt)); goes = rw is }

module _ {t : List ℕ} {at letter : ℕ} {items : List Item} {k stop : ℕ} (a : AtPart t at letter items k stop) where
  -- the part at k, where there is one
  rest_is : k < length (parts_for letter) → drop k (parts_for letter) ≡ get_or (parts_for letter) k Nothing ∷ drop (suc k) (parts_for letter)
  rest_is lt = drop-cons (parts_for letter) k Nothing lt

  rest_none : (k < length (parts_for letter) → ⊥) → drop k (parts_for letter) ≡ []
  rest_none n = let le : length (parts_for letter) ≤ k = omega arith in drop_of_length-le (parts_for letter) le

  module _ {place : ℕ} (place_is : place ≡ place_for letter) where
    pub part_fits_lem : place + k < 15
    part_fits_lem = rw place_is (part_at letter k a.few).0

    module _ {table : List Part} (table_is : table ≡ part_table) {i : Item} (is : i ≡ item_behind (get_or table (place + k) Nothing) t stop) where
      item_is : i ≡ item_behind (get_or (parts_for letter) k Nothing) t stop
      item_is = is ∙ ap (λ (p : Part). item_behind p t stop) (rw (table_is, place_is) (part_at letter k a.few).1)

      -- A part without its form, behind a tab.
      pub part_wrong : get_or t stop 0 ≡ tab → not i.right ≡ true → (read_at t at letter).right ≡ true → get_or t (read_at t at letter).stop 0 ≡ lf → ⊥
      unfolding items_behind
      part_wrong is-tab e r l = go (dec_lt k (length (parts_for letter)))
        where
          wrong : (item_behind (get_or (parts_for letter) k Nothing) t stop).right ≡ false
          wrong = ap (λ (j : Item). j.right) (sym item_is) ∙ not-true i.right e

          go : Dec (k < length (parts_for letter)) → ⊥
          go (yes q) = clash (both_true _ _ (rw (rest_is q) at (sym (ap (λ (x : Items). x.right) a.goes) ∙ r))).0 wrong
          go (no q) = let here = rw (rest_none q) at (ap (λ (x : Items). x.stop) a.goes) in let b = rw here at l in omega arith

      module _ (e : not i.right ≡ false) where
        right_is : (item_behind (get_or (parts_for letter) k Nothing) t stop).right ≡ true
        right_is = ap (λ (j : Item). j.right) (sym item_is) ∙ not-false i.right e

        some_left : k < length (parts_for letter)
        unfolding item_behind cell_of
        some_left = go (dec_lt k (length (parts_for letter)))
          where
            go : Dec (k < length (parts_for letter)) → k < length (parts_for letter)
            go (yes q) = q
            go (no q) = let le : length (parts_for letter) ≤ k = omega arith in absurd (clash right_is (ap (λ (p : Part). (item_behind p t stop).right) (get_or-eq_default (parts_for letter) Nothing le)))

        pub part_room : k < 6
        part_room = let h = some_left in let f = parts_few letter in omega arith

        pub part_less : length t - i.stop < length t - stop
        part_less =
            let h = item_on _ t stop right_is in
            let s = ap (λ (j : Item). j.stop) item_is in
            let l = a.inside in
            omega (arith, h.0, h.1.0, s)

        pub part_on : AtPart t at letter (set items k i) (k + 1) i.stop
        unfolding items_behind
        part_on =
            let h = some_left in
            let f = parts_few letter in
            let long = a.long in
            let here = item_behind (get_or (parts_for letter) k Nothing) t stop in
            let rest = items_behind (drop (suc k) (parts_for letter)) t here.stop in
            record {
              letter_is = a.letter_is;
              opened = a.opened;
              few = omega arith;
              long = simp length-set long;
              inside = rw item_is (item_on _ t stop right_is).1.0;
              ends = rw item_is (item_on _ t stop right_is).1.1;
              goes = rw (item_is, add-one k, take-suc-set items k (item_behind (get_or (parts_for letter) k Nothing) t stop) (omega arith), append_snoc) (rw (rest_is h) at a.goes ∙ ap (λ (b : Bool). record { right = both b rest.right; items = take k items ++ (here ∷ rest.items); stop = rest.stop }) right_is);
            }

  -- Behind the last tab.
  module _ (no_tab : get_or t stop 0 ≡ tab → ⊥) {count : ℕ} (count_is : count ≡ parts_count letter) where
    -- Too few parts.
    pub parts_wrong : (k ≡ count → ⊥) → Known letter → (read_at t at letter).right ≡ true → get_or t (read_at t at letter).stop 0 ≡ lf → ⊥
    unfolding items_behind
    parts_wrong n known r l =
        let c = count_known letter known in
        let few = a.few in
        clash (both_true _ _ (rw (rest_is (omega arith)) at (sym (ap (λ (x : Items). x.right) a.goes) ∙ r))).0 (item_off _ t stop no_tab)

    -- All of them, and then an LF.
    module _ (e : k ≡ count) where
      pub letter_known : Known letter
      unfolding parts_count
      letter_known x y z =
          let few = a.few in
          let f = parts_few letter in
          let n : k ≡ 7 = e ∙ count_is ∙ rw (ne_eqb letter 65 x, ne_eqb letter 72 y, ne_eqb letter 77 z) in
          omega arith

      pub parts_done : ((read_at t at letter).right ≡ true) × (((read_at t at letter).items ≡ take k items) × (((read_at t at letter).stop ≡ stop) × (get_or t (read_at t at letter).stop 0 ≡ lf)))
      unfolding items_behind
      parts_done =
          let c = count_known letter letter_known in
          let g = rw (rest_none (λ lt. omega arith)) at a.goes in
          let s = ap (λ (x : Items). x.stop) g in
          (ap (λ (x : Items). x.right) g, (ap (λ (x : Items). x.items) g ∙ append-nil (take k items), (s, rw s (stops_lf a.ends no_tab))))

-- What a line says by its items, once they are all read.
item_taken : (n : ℕ) (is : List Item) (i : ℕ) → i < n → item (take n is) i ≡ item is i
item_taken n is i lt = get_or-take n is i _ lt

holding_taken : (is : List Item) → holding_of (take 3 is) ≡ holding_of is
unfolding holding_of
holding_taken is = rw (item_taken 3 is 0 (omega arith), item_taken 3 is 1 (omega arith), item_taken 3 is 2 (omega arith))

head_taken : (is : List Item) → head_of (take 3 is) ≡ head_of is
head_taken is = rw (item_taken 3 is 0 (omega arith), item_taken 3 is 1 (omega arith), item_taken 3 is 2 (omega arith))

module _ {t : List ℕ} {at letter : ℕ} {items : List Item} {k stop : ℕ} (a : AtPart t at letter items k stop) where
  -- A line without the form of its letter.
  pub part_unsaid : (Known letter → (read_at t at letter).right ≡ true → get_or t (read_at t at letter).stop 0 ≡ lf → ⊥) → Formless t at
  part_unsaid n = unsaid t at a.letter_is a.opened n

  module _ (no_tab : get_or t stop 0 ≡ tab → ⊥) {count : ℕ} (count_is : count ≡ parts_count letter) (e : k ≡ count) where
    head_line : letter ≡ 65 → Says t at (head_of items) stop
    unfolding parts_count
    head_line l =
        let d = parts_done a no_tab count_is e in
        let n : k ≡ 3 = e ∙ count_is ∙ rw l in
        rw (sym (head_taken items), sym d.1.1.0) (rw (d.1.0, n) at (head_said t at a.letter_is a.opened d.0 d.1.1.1 l))

    holding_line : letter ≡ 72 → Says t at (holding (holding_of items)) stop
    unfolding parts_count
    holding_line l =
        let d = parts_done a no_tab count_is e in
        let n : k ≡ 3 = e ∙ count_is ∙ rw l in
        rw (sym (holding_taken items), sym d.1.1.0) (rw (d.1.0, n) at (holding_said t at a.letter_is a.opened d.0 d.1.1.1 l))

    pair_line : letter ≡ 77 → Says t at (pair (pair_of items)) stop
    unfolding parts_count
    pair_line l =
        let d = parts_done a no_tab count_is e in
        let n : k ≡ 6 = e ∙ count_is ∙ rw l in
        let all = take_all 6 items (let long = a.long in omega arith) in
        rw (sym (ap pair_of all), sym d.1.1.0) (rw (d.1.0, n) at (pair_said_lem t at a.letter_is a.opened d.0 d.1.1.1 l))

    -- So the line says what letter and items do; and its letter is one of a book.
    pub line_read : Says t at (line_of letter items) stop
    line_read =
        by_letters letter (Says t at (line_of letter items) stop)
        (λ l. subst (λ (x : Line). Says t at x stop) (sym (says_head items l)) (head_line l))
        (λ l. subst (λ (x : Line). Says t at x stop) (sym (says_holding items l)) (holding_line l))
        (λ l. subst (λ (x : Line). Says t at x stop) (sym (says_pair items l)) (pair_line l))
        (λ x y z. absurd (letter_known a no_tab count_is e x y z))

    pub letter_last : (letter ≡ 65 → ⊥) → (letter ≡ 72 → ⊥) → letter ≡ 77
    letter_last x y = by_letters letter (letter ≡ 77) (λ z. absurd (x z)) (λ z. absurd (y z)) (λ z. z) (λ u v w. absurd (letter_known a no_tab count_is e u v w))
