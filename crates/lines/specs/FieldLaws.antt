-- Fields both ways: what is printed in a field reads as itself, and the only field that reads as it is the printed one; for each of which a form is asked
-- of field, and for a series.
use Rattle.std.specs.Prelude.{◌≡◌, Bool, true, false, not, List, [], ◌∷◌, ◌++◌, ℕ, ◌^◌, ◌<◌, ◌≤◌, eqb, ltb, length, get_or}
use Rattle.std.proofs.Math.Path.{refl}
use Rattle.std.proofs.Common.{ap, sym, subst, ◌∙◌, arith, lt-ltb, ne_eqb, eqb-true}
use Rattle.std.proofs.lemmas.Bool.{not-true}
use Rattle.laws.specs.Truth.{both}
use Rattle.laws.specs.TruthLaws.{both_true, both_hold, within_true, picked, clash}
use Rattle.laws.specs.Text.{byte}
use Rattle.laws.specs.Bytes.{same_bytes}
use Rattle.laws.specs.ByteLaws.{are_same, three_bytes}
use Rattle.laws.specs.Search.{first_where, every_line}
use Rattle.laws.specs.SearchLaws.{found_has, every_weaker}
use Rattle.codes.specs.declared.Class.{Class}
use Rattle.codes.specs.declared.Product.{Product}
use Rattle.codes.specs.Codes.{listed, capital, names_stock, unlisted, product_of, known, is_option_class}
use Rattle.codes.specs.CodeLaws.{known_three}
use Rattle.series.specs.declared.Nature.{Nature}
use Rattle.series.specs.declared.Nature.TheVariants.{Future, Call, Put}
use Rattle.series.specs.declared.Series.{Series}
use Rattle.series.specs.Natures.{letter_of, strike_of}
use Rattle.series.specs.Checks.{strike_fits, suits, class_of, good_series}
use Rattle.series.specs.CheckLaws.{series_parts, series_date}
use Rattle.series.specs.KeyLaws.{suited_strike}
use Rattle.digits.specs.Digits.{is_digit, value_of, is_fixed, figure_of, fixed, numerals}
use Rattle.digits.specs.DigitLaws.{number_trip, number_only, numeral, fixed_trip, fixed_only, fixed_digits}
use Rattle.lines.specs.declared.Asked.{Asked}
use Rattle.lines.specs.declared.Asked.TheVariants.{Number, Account, Date, Code, Mark}
use Rattle.lines.specs.declared.Cell.{Cell}
use Rattle.lines.specs.Pieces.{lf}
use Rattle.lines.specs.Fields.{no_code, code_in, mark_in, number_cell, cell_of, has_form, cells_of, nature_of, series_of}
use Rattle.lines.specs.Texts.{letters_of, series_fields}
use Rattle.lines.specs.CellLaws.{two_bytes}
use Rattle.lines.specs.PieceLaws.{plain}

-- Natures.
nature_trip : (n : Nature) → nature_of (letter_of n) (strike_of n) ≡ n
unfolding nature_of
nature_trip Future = refl
nature_trip (Call k) = refl
nature_trip (Put k) = refl

-- a mark and a strike that some class takes for a nature are the letter and the strike of that nature
nature_only : (c : Class) (mark strike : ℕ) → suits c (nature_of mark strike) ≡ true → (letter_of (nature_of mark strike) ≡ mark) × (strike_of (nature_of mark strike) ≡ strike)
unfolding nature_of
nature_only c mark strike =
    let Says : Nature → Type 0 = λ (n : Nature). suits c n ≡ true → (letter_of n ≡ mark) × (strike_of n ≡ strike) in
    picked Says (eqb mark (byte "C")) _ _ (λ e s. (sym (eqb-true mark (byte "C") e), refl))
    (λ no_call. picked Says (eqb mark (byte "P")) _ _ (λ e s. (sym (eqb-true mark (byte "P") e), refl))
    (λ no-put. picked Says (both (eqb mark (byte "F")) (eqb strike 0)) _ _
    (λ e s. let h = both_true (eqb mark (byte "F")) _ e in (sym (eqb-true mark (byte "F") h.0), sym (eqb-true strike 0 h.1)))
    (λ no-future s. absurd (clash (both_true (is_option_class c) (strike_fits 0) s).1 refl))))

letter_above : (n : Nature) → lf < letter_of n
letter_above Future = omega arith
letter_above (Call k) = omega arith
letter_above (Put k) = omega arith

-- Codes.
three_trip : (x y z : ℕ) → code_in (letters_of (x ∷ y ∷ z ∷ [])) ≡ x ∷ y ∷ z ∷ []
unfolding code_in letters_of
three_trip x y z =
    picked (λ (f : List ℕ). code_in f ≡ x ∷ y ∷ z ∷ []) (eqb z 0) (x ∷ y ∷ []) (x ∷ y ∷ z ∷ []) (λ e. rw (eqb-true z 0 e)) (λ e. rw e)

code_trip : (code : List ℕ) → known (product_of code).class ≡ true → code_in (letters_of code) ≡ code
code_trip code k = rw (three_bytes code (known_three code k).three) (three_trip (get_or code 0 0) (get_or code 1 0) (get_or code 2 0))

-- the letters of the listed codes, then of a stock's: two capitals, and F or O
listed_plain : every_line (λ (p : Product). plain (letters_of p.code)) listed ≡ true
unfolding every_line listed plain letters_of
listed_plain = refl

capital_above : (b : ℕ) → capital b ≡ true → ltb lf b ≡ true
capital_above b e = let h = within_true (byte "A") (byte "Z") b e in lt-ltb lf b (omega arith)

stock_plain : (code : List ℕ) (last : ℕ) → lf < last → names_stock code ≡ true → eqb (get_or code 2 0) last ≡ true → plain (letters_of code) ≡ true
unfolding names_stock plain letters_of every_line
stock_plain code last h e f =
    let k = both_true (eqb (length code) 3) _ e in
    let l = both_true (capital (get_or code 0 0)) _ k.1 in
    let is : code ≡ get_or code 0 0 ∷ get_or code 1 0 ∷ last ∷ [] = three_bytes code (eqb-true (length code) 3 k.0) ∙ rw (eqb-true (get_or code 2 0) last f) in
    rw (is, ne_eqb last 0 (λ (q : last ≡ 0). omega arith)) (both_hold (capital_above (get_or code 0 0) l.0) (both_hold (capital_above (get_or code 1 0) l.1) (both_hold (lt-ltb lf last h) refl)))

unlisted_plain : (code : List ℕ) → known (unlisted code).class ≡ true → plain (letters_of code) ≡ true
unfolding unlisted
unlisted_plain code =
    let Says : Product → Type 0 = λ (p : Product). known p.class ≡ true → plain (letters_of code) ≡ true in
    picked Says (names_stock code) _ _
    (λ s. picked Says (eqb (get_or code 2 0) (byte "F")) _ _ (λ e k. stock_plain code (byte "F") (omega arith) s e)
    (λ no-future. picked Says (eqb (get_or code 2 0) (byte "O")) _ _ (λ e k. stock_plain code (byte "O") (omega arith) s e) (λ no-option k. absurd (clash k refl))))
    (λ no-stock k. absurd (clash k refl))

code_plain : (code : List ℕ) → known (product_of code).class ≡ true → plain (letters_of code) ≡ true
unfolding product_of
code_plain code =
    found_has (λ (p : Product). known p.class ≡ true → plain (letters_of code) ≡ true) (λ (p : Product). same_bytes code p.code) (λ (p : Product). plain (letters_of p.code)) (λ (p : Product). p) (unlisted code) listed listed_plain
    (λ p t e k. rw (are_same code p.code e) t)
    (unlisted_plain code)

-- Fields that are printed, and what they read as: of which ks is asked, without tab and LF.
pub record Reads (ks : List Asked) (fs : List (List ℕ)) (cs : List Cell) : Type 0 where
  pub form : has_form ks fs ≡ true
  pub cells : cells_of ks fs ≡ cs
  pub plain_fields : every_line plain fs ≡ true

pub no_fields : Reads [] [] []
unfolding has_form cells_of every_line
no_fields = record { form = refl; cells = refl; plain_fields = refl }

-- what stands in a field of a number or a mark, and in that of a code
abbrev pub numbered : ℕ → Cell
numbered n = record { right = true; number = n; code = no_code }

abbrev pub spelled : List ℕ → Cell
spelled code = record { right = true; number = 0; code = code }

digits_plain : (t : List ℕ) → every_line is_digit t ≡ true → plain t ≡ true
unfolding plain is_digit
digits_plain = every_weaker is_digit (λ (b : ℕ). ltb lf b) (λ b e. let h = within_true (byte "0") (byte "9") b e in lt-ltb lf b (omega arith))

figure_is : (right : Bool) (t : List ℕ) (n : ℕ) → (right ≡ true) × (value_of t ≡ n) → number_cell (figure_of right t) ≡ numbered n
unfolding figure_of
figure_is right t n e = rw (e.0, e.1)

-- A printed field in front of others.
module _ {ks : List Asked} {fs : List (List ℕ)} {cs : List Cell} (r : Reads ks fs cs) where
  field_reads : (k : Asked) (f : List ℕ) (c : Cell) → c.right ≡ true → cell_of k f ≡ c → plain f ≡ true → Reads (k ∷ ks) (f ∷ fs) (c ∷ cs)
  unfolding has_form cells_of every_line
  field_reads k f c right is p =
      record {
        form = both_hold (ap (λ (c : Cell). c.right) is ∙ right) r.form;
        cells = rw (is, r.cells);
        plain_fields = both_hold p r.plain_fields;
      }

  pub number_reads : (n : ℕ) → n < 1000000000 → Reads (Number ∷ ks) (numerals n ∷ fs) (numbered n ∷ cs)
  unfolding cell_of
  number_reads n h = field_reads Number (numerals n) (numbered n) refl (figure_is _ _ n (number_trip n h)) (digits_plain _ (numeral n (omega arith)).digits)

  fixed_reads : (k : Asked) (w n : ℕ) → cell_of k (fixed w n) ≡ number_cell (figure_of (is_fixed w (fixed w n)) (fixed w n)) → w ≤ 9 → n < 10 ^ w → Reads (k ∷ ks) (fixed w n ∷ fs) (numbered n ∷ cs)
  fixed_reads k w n is few h = field_reads k (fixed w n) (numbered n) refl (is ∙ figure_is _ _ n (fixed_trip w n few h)) (digits_plain _ (fixed_digits w n))

  pub account_reads : (n : ℕ) → n < 10000000 → Reads (Account ∷ ks) (fixed 7 n ∷ fs) (numbered n ∷ cs)
  unfolding cell_of
  account_reads n = fixed_reads Account 7 n refl (omega arith)

  pub date_reads : (n : ℕ) → n < 100000000 → Reads (Date ∷ ks) (fixed 8 n ∷ fs) (numbered n ∷ cs)
  unfolding cell_of
  date_reads n = fixed_reads Date 8 n refl (omega arith)

  code_reads : (code : List ℕ) → known (product_of code).class ≡ true → Reads (Code ∷ ks) (letters_of code ∷ fs) (spelled code ∷ cs)
  unfolding cell_of
  code_reads code k = field_reads Code (letters_of code) (spelled code) refl (ap spelled (code_trip code k)) (code_plain code k)

  pub mark_reads : (b : ℕ) → lf < b → Reads (Mark ∷ ks) ((b ∷ []) ∷ fs) (numbered b ∷ cs)
  unfolding cell_of mark_in plain every_line
  mark_reads b h = field_reads Mark (b ∷ []) (numbered b) refl refl (both_hold (lt-ltb lf b h) refl)

-- A series that passes its checks.
pub series_reads : {ks : List Asked} {fs : List (List ℕ)} {cs : List Cell} → Reads ks fs cs → (s : Series) → good_series s ≡ true → Reads (Code ∷ Date ∷ Mark ∷ Number ∷ ks) (series_fields s ++ fs) (spelled s.code ∷ numbered s.date ∷ numbered (letter_of s.nature) ∷ numbered (strike_of s.nature) ∷ cs)
unfolding series_fields class_of
series_reads r s e =
    let g = series_parts s e in
    let strike = suited_strike (class_of s) s.nature g.2 in
    code_reads (date_reads (mark_reads (number_reads r (strike_of s.nature) (omega arith)) (letter_of s.nature) (letter_above s.nature)) s.date (series_date s e)) s.code g.0

pub series_is : (s : Series) → series_of (spelled s.code) (numbered s.date) (numbered (letter_of s.nature)) (numbered (strike_of s.nature)) ≡ s
unfolding series_of
series_is s = rw (nature_trip s.nature)

-- Fields that have the form that is asked, one by one.
pub data Formed : List Asked → List (List ℕ) → Type 0 where
  none : Formed [] []
  next : {k : Asked} {ks : List Asked} {f : List ℕ} {fs : List (List ℕ)} → (cell_of k f).right ≡ true → Formed ks fs → Formed (k ∷ ks) (f ∷ fs)

pub formed : (ks : List Asked) (fs : List (List ℕ)) → has_form ks fs ≡ true → Formed ks fs
unfolding has_form
formed [] [] e = none
formed [] (f ∷ fs) e = absurd (clash e refl)
formed (k ∷ ks) [] e = absurd (clash e refl)
formed (k ∷ ks) (f ∷ fs) e = let h = both_true (cell_of k f).right _ e in next h.0 (formed ks fs h.1)

-- A field that has its form is what is printed of its cell.
pub number_back : (f : List ℕ) → (cell_of Number f).right ≡ true → (numerals (cell_of Number f).number ≡ f) × ((cell_of Number f).number < 1000000000)
unfolding cell_of figure_of
number_back f e = rw e (number_only f e)

pub account_back : (f : List ℕ) → (cell_of Account f).right ≡ true → (fixed 7 (cell_of Account f).number ≡ f) × ((cell_of Account f).number < 10000000)
unfolding cell_of figure_of
account_back f e = rw e (fixed_only 7 f e)

pub date_back : (f : List ℕ) → (cell_of Date f).right ≡ true → (fixed 8 (cell_of Date f).number ≡ f) × ((cell_of Date f).number < 100000000)
unfolding cell_of figure_of
date_back f e = rw e (fixed_only 8 f e)

one_byte : (f : List ℕ) → length f ≡ 1 → get_or f 0 0 ∷ [] ≡ f
one_byte [] h = absurd (omega arith)
one_byte (b ∷ []) h = refl
one_byte (b ∷ c ∷ f) h = absurd (omega arith)

pub mark_back : (f : List ℕ) → lf < (cell_of Mark f).number → (cell_of Mark f).number ∷ [] ≡ f
unfolding cell_of mark_in
mark_back f =
    picked (λ (m : ℕ). lf < m → m ∷ [] ≡ f) (eqb (length f) 1) (get_or f 0 0) 0 (λ e h. one_byte f (eqb-true (length f) 1 e)) (λ e h. absurd (omega arith))

no_code_lem : known (product_of no_code).class ≡ false
unfolding product_of first_where listed same_bytes unlisted names_stock
no_code_lem = refl

code_back : (f : List ℕ) → known (product_of (cell_of Code f).code).class ≡ true → letters_of (cell_of Code f).code ≡ f
unfolding cell_of code_in letters_of
code_back f =
    let Says : List ℕ → Type 0 = λ (c : List ℕ). known (product_of c).class ≡ true → letters_of c ≡ f in
    picked Says (eqb (length f) 2) _ _ (λ e k. rw (two_bytes f (eqb-true (length f) 2 e)))
    (λ not-two. picked Says (both (eqb (length f) 3) (not (eqb (get_or f 2 0) 0))) _ _
    (λ e k. rw (not-true (eqb (get_or f 2 0) 0) (both_true (eqb (length f) 3) _ e).1))
    (λ none k. absurd (clash k no_code_lem)))

-- And the four fields of a series that passes its checks are what is printed of it.
pub series_back : (a b c d : List ℕ) → (cell_of Date b).right ≡ true → (cell_of Number d).right ≡ true → good_series (series_of (cell_of Code a) (cell_of Date b) (cell_of Mark c) (cell_of Number d)) ≡ true → series_fields (series_of (cell_of Code a) (cell_of Date b) (cell_of Mark c) (cell_of Number d)) ≡ a ∷ b ∷ c ∷ d ∷ []
unfolding series_fields series_of class_of
series_back a b c d date strike e =
    let g = series_parts _ e in
    let mark = (cell_of Mark c).number in
    let k = (cell_of Number d).number in
    let n = nature_only _ mark k g.2 in
    let above = letter_above (nature_of mark k) in
    let p : letters_of (cell_of Code a).code ≡ a = code_back a g.0 in
    let q = (date_back b date).0 in
    let m : letter_of (nature_of mark k) ∷ [] ≡ c = ap (λ (l : ℕ). l ∷ []) n.0 ∙ mark_back c (subst (λ (l : ℕ). lf < l) n.0 above) in
    let t : numerals (strike_of (nature_of mark k)) ≡ d = ap numerals n.1 ∙ (number_back d strike).0 in
    λ i. p i ∷ q i ∷ m i ∷ t i ∷ []
