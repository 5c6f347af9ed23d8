-- Texts laid where there is room for them: how far they reach, and that the buffer keeps its length.
use Rattle.std.specs.Prelude.{◌≡◌, refl, Bool, true, ℕ, suc, ◌+◌, ◌*◌, ◌/◌, ◌%◌, ◌^◌, ◌≤◌, ◌<◌, length, get_or, set, take}
use Rattle.std.proofs.Common.{◌∙◌, ap, suc-mul, add-one, arith, eq-eqb, ne_eqb, length-set, length-take, take-suc, get_or-take}
use mathlib.Core.List.{List, [], ◌∷◌, ◌++◌}
use Rattle.laws.specs.Text.{byte}
use Rattle.laws.specs.Search.{every_line}
use Rattle.laws.specs.SearchLaws.{every_at}
use Rattle.series.specs.declared.Series.{Series}
use Rattle.series.specs.Natures.{letter_of, strike_of}
use Rattle.digits.specs.Digits.{fixed, numerals}
use Rattle.put.specs.Put.{end_of}
use Rattle.put.specs.PutLaws.{Put, put_then, put_none, byte_laid, length_laid}
use Rattle.lines.specs.Pieces.{tab, lf}
use Rattle.lines.specs.Texts.{tabbed, line_text, letters_of, series_fields}
use Rattle.printed.specs.Printed.{texts_of}
use Rattle.printed.specs.PartLaws.{fixed_rest, fixed_parts, numerals_parts, one_digit, two_numerals, two_digits}
use Rattle.put.specs.LineLaws.{field_laid, fields_then, line_laid}
use Rattle.printed.specs.PrintedLaws.{texts_last}

-- p was laid over d from at on: e is the buffer behind it, r the place behind p, at most so many bytes further.
pub record Placed (d : List ℕ) (at : ℕ) (p e : List ℕ) (r most : ℕ) : Type 0 where
  pub done : Put d at p e r
  pub near : r ≤ at + most
  pub same : length e ≡ length d

-- What was laid reaches no further than its length.
pub placed : {d p e : List ℕ} {at r most : ℕ} → Put d at p e r → length p ≤ most → Placed d at p e r most
unfolding end_of
placed {d} {p} {e} {at} {r} {most} a h =
    record { done = a; near = omega (arith, a.ends); same = ap length a.holds ∙ length_laid d at p }

pub byte_placed : (d : List ℕ) (at b : ℕ) → at + 1 ≤ length d → Placed d at (b ∷ []) (set d at b) (at + 1) 1
byte_placed d at b h = record { done = byte_laid d at b (omega arith); near = omega arith; same = length-set d at b }

pub placed_then : {d p e q f : List ℕ} {at r u m n : ℕ} → Placed d at p e r m → Placed e r q f u n → Placed d at (p ++ q) f u (m + n)
placed_then {d} {p} {e} {q} {f} {at} {r} {u} {m} {n} a b =
    record { done = put_then a.done b.done; near = omega (arith, a.near, b.near); same = b.same ∙ a.same }

pub wider : {d p e : List ℕ} {at r m n : ℕ} → Placed d at p e r m → m ≤ n → Placed d at p e r n
wider {d} {p} {e} {at} {r} {m} {n} a h = record { done = a.done; near = omega (arith, a.near); same = a.same }

-- The room behind it.
pub room_left : {d p e : List ℕ} {at r m : ℕ} → Placed d at p e r m → (k : ℕ) → at + (m + k) ≤ length d → r + k ≤ length e
room_left {d} {p} {e} {at} {r} {m} a k h = omega (arith, a.near, a.same)

-- Digits in two parts, zeros kept; all digits of a number in two parts; numbers of one digit and of two.
pub two_placed : {d e f : List ℕ} {at r u : ℕ} (n : ℕ) → n < 100 → Placed d at ((byte "0" + n / 10) ∷ []) e r 1 → Placed e r ((byte "0" + n % 10) ∷ []) f u 1 → Placed d at (fixed 2 n) f u 2
two_placed n h a b = rw (two_digits n h) (placed_then a b)

module _ {d e f : List ℕ} {at r u m k : ℕ} (n : ℕ) where
  pub fixed_placed : (v w : ℕ) → Placed d at (fixed v (n / 10 ^ w)) e r m → Placed e r (fixed w (n % 10 ^ w)) f u k → Placed d at (fixed (v + w) n) f u (m + k)
  fixed_placed v w a b = rw (fixed_parts v w n) (placed_then a b)

  pub number_placed : (w : ℕ) → w ≤ 8 → 10 ^ w ≤ n → n < 10000000000 → Placed d at (numerals (n / 10 ^ w)) e r m → Placed e r (fixed w (n % 10 ^ w)) f u k → Placed d at (numerals n) f u (m + k)
  number_placed w few h l a b = rw (numerals_parts w n few h l) (placed_then a b)

module _ {d e : List ℕ} {at r : ℕ} (n : ℕ) where
  pub digit_placed : n < 10 → Placed d at ((byte "0" + n) ∷ []) e r 1 → Placed d at (numerals n) e r 2
  digit_placed h a = rw (one_digit n h) (wider a (omega arith))

  pub two_wide : 10 ≤ n → n < 100 → Placed d at (fixed 2 n) e r 2 → Placed d at (numerals n) e r 2
  two_wide h k a = rw (two_numerals n h k) a

-- Fields, and a line of them.
pub field_placed : {d e f g : List ℕ} {at r u m : ℕ} → Placed d at (tab ∷ []) e r 1 → Placed e r f g u m → Placed d at (tabbed (f ∷ [])) g u (1 + m)
field_placed {d} {e} {f} {g} {at} {r} {u} {m} a b =
    record { done = field_laid a.done b.done; near = omega (arith, a.near, b.near); same = b.same ∙ a.same }

pub fields_placed : {d e f : List ℕ} {at r u m n : ℕ} (fs gs : List (List ℕ)) → Placed d at (tabbed fs) e r m → Placed e r (tabbed gs) f u n → Placed d at (tabbed (fs ++ gs)) f u (m + n)
fields_placed {d} {e} {f} {at} {r} {u} {m} {n} fs gs a b =
    record { done = fields_then fs gs a.done b.done; near = omega (arith, a.near, b.near); same = b.same ∙ a.same }

pub line_placed : {d e f g : List ℕ} {letter at r u w m most : ℕ} (fs : List (List ℕ)) → length (line_text letter fs) ≤ most → Placed d at (letter ∷ []) e r 1 → Placed e r (tabbed fs) f u m → Placed f u (lf ∷ []) g w 1 → Placed d at (line_text letter fs) g w most
line_placed fs h a b c = placed (line_laid fs a.done b.done c.done) h

-- A date as eight digits.
pub date_placed : {d e : List ℕ} {at r m : ℕ} (n : ℕ) → Placed d at (fixed 8 (n % 100000000)) e r m → Placed d at (fixed 8 n) e r m
date_placed n a = rw (fixed_rest 8 n) at a

-- The letters of a code.
module _ {d e f : List ℕ} {at r u : ℕ} where
  pub two_letters : (code : List ℕ) → length code ≡ 3 → get_or code 2 0 ≡ 0 → Placed d at (get_or code 0 0 ∷ []) e r 1 → Placed e r (get_or code 1 0 ∷ []) f u 1 → Placed d at (letters_of code) f u 3
  unfolding letters_of
  two_letters (x ∷ y ∷ z ∷ []) l h a b =
      simp (eq-eqb _ _ h) (wider (placed_then a b) (omega arith))
  two_letters [] l h a b = absurd (omega arith)
  two_letters (x ∷ []) l h a b = absurd (omega arith)
  two_letters (x ∷ y ∷ []) l h a b = absurd (omega arith)
  two_letters (x ∷ y ∷ z ∷ w ∷ t) l h a b = absurd (omega arith)

  pub three_letters : {g : List ℕ} {v : ℕ} (code : List ℕ) → length code ≡ 3 → (get_or code 2 0 ≡ 0 → ⊥) → Placed d at (get_or code 0 0 ∷ []) e r 1 → Placed e r (get_or code 1 0 ∷ []) f u 1 → Placed f u (get_or code 2 0 ∷ []) g v 1 → Placed d at (letters_of code) g v 3
  unfolding letters_of
  three_letters (x ∷ y ∷ z ∷ []) l h a b c = simp (ne_eqb _ _ h) (placed_then a (placed_then b c))
  three_letters [] l h a b c = absurd (omega arith)
  three_letters (x ∷ []) l h a b c = absurd (omega arith)
  three_letters (x ∷ y ∷ []) l h a b c = absurd (omega arith)
  three_letters (x ∷ y ∷ z ∷ w ∷ t) l h a b c = absurd (omega arith)

-- The fields of a series, its letter and its strike as they were asked for.
pub series_placed : {d e f g h : List ℕ} {at r u w v letter strike : ℕ} (s : Series) → letter ≡ letter_of s.nature → strike ≡ strike_of s.nature → Placed d at (tabbed (letters_of s.code ∷ [])) e r 4 → Placed e r (tabbed (fixed 8 s.date ∷ [])) f u 9 → Placed f u (tabbed ((letter ∷ []) ∷ [])) g w 2 → Placed g w (tabbed (numerals strike ∷ [])) h v 11 → Placed d at (tabbed (series_fields s)) h v 26
unfolding series_fields
series_placed s l k a b c p = fields_placed _ _ a (fields_placed _ _ b (fields_placed _ _ (rw l at c) (rw k at p)))

-- Rows: the first i of n rows, of at most so many bytes each, are laid over d from at on, e is the buffer and r the place behind them.
pub record Rows {A : Type 0} (text : A → List ℕ) (rows : List A) (n most : ℕ) (d : List ℕ) (at : ℕ) (e : List ℕ) (r i : ℕ) : Type 0 where
  pub low : i ≤ n
  pub same : length e ≡ length d
  pub near : r ≤ at + i * most
  pub done : Put d at (texts_of text (take i rows)) e r

pub rows_start : {A : Type 0} (text : A → List ℕ) (rows : List A) (n most : ℕ) (d : List ℕ) (at : ℕ) → at ≤ length d → Rows text rows n most d at d at 0
unfolding texts_of
rows_start text rows n most d at h = record { low = omega arith; same = refl; near = omega arith; done = put_none d at h }

module _ {A : Type 0} {text : A → List ℕ} {rows : List A} {n most : ℕ} {d : List ℕ} {at : ℕ} {e : List ℕ} {r i : ℕ} (g : Rows text rows n most d at e r i) where
  pub rows_on : {f : List ℕ} {u : ℕ} (x : A) → i < n → i < length rows → Placed e r (text (get_or rows i x)) f u most → Rows text rows n most d at f u (i + 1)
  rows_on {f} {u} x h k p =
      let close : u ≤ at + suc i * most = rw (suc-mul i most) (omega (arith, g.near, p.near)) in
      record {
        low = omega arith;
        same = p.same ∙ g.same;
        near = rw (add-one i) close;
        done = rw (add-one i, take-suc rows i x k, texts_last text (take i rows) (get_or rows i x)) (put_then g.done p.done);
      }

  pub rows_out : n ≤ i → Placed d at (texts_of text (take n rows)) e r (n * most)
  rows_out h = let z : i ≡ n = omega (arith, g.low) in record { done = rw z at g.done; near = rw z at g.near; same = g.same }

-- A live row is good where all are.
pub row_good : {A : Type 0} (good : A → Bool) (rows : List A) (n i : ℕ) (x : A) → every_line good (take n rows) ≡ true → i < n → i < length rows → good (get_or rows i x) ≡ true
row_good good rows n i x e h k =
    rw (get_or-take n rows i x h) at (every_at good (take n rows) i x e (rw (length-take n rows) (omega arith)))
