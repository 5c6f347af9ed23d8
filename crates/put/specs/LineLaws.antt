-- Laws of lines: fields laid one behind the other, how long lines can be, and a line in its room.
use Rattle.std.specs.Prelude.{◌≡◌, refl, List, [], ◌∷◌, ◌++◌, ℕ, zero, suc, ◌+◌, ◌-◌, ◌≤◌, length, take, drop, replicate}
use Rattle.std.proofs.Common.{ap, sym, ◌∙◌, append_assoc, append-nil, arith, length-append, length-take-le}
use Rattle.std.proofs.Math.Nat.{sub-zero, zero-sub, suc-sub-suc}
use Rattle.std.proofs.lemmas.List.{length-replicate}
use Rattle.laws.specs.Text.{byte}
use Rattle.lists.specs.Places.{full}
use Rattle.lists.specs.PlaceLaws.{length_full, take_full}
use Rattle.digits.specs.Digits.{fixed, width_of, numerals}
use Rattle.digits.specs.FigureLaws.{length_fixed, width_few}
use Rattle.lines.specs.Pieces.{tab, lf}
use Rattle.lines.specs.Texts.{tabbed, line_text}
use Rattle.put.specs.declared.Output.{Output}
use Rattle.put.specs.Put.{laid, end_of}
use Rattle.put.specs.PutLaws.{Put, put_then, laid_start}
use Rattle.put.specs.Output.{refusal_text, output_of}

-- Fields, and a line of them.

pub tabbed_two : (fs gs : List (List ℕ)) → tabbed (fs ++ gs) ≡ tabbed fs ++ tabbed gs
unfolding tabbed
tabbed_two [] gs = refl
tabbed_two (f ∷ fs) gs = rw (tabbed_two fs gs) (ap (λ (l : List ℕ). tab ∷ l) (sym (append_assoc f (tabbed fs) (tabbed gs))))

pub field_laid : {d e f g : List ℕ} {at r u : ℕ} → Put d at (tab ∷ []) e r → Put e r f g u → Put d at (tabbed (f ∷ [])) g u
unfolding tabbed
field_laid {f = f} a b = rw (append-nil f) (put_then a b)

pub fields_then : {d e f : List ℕ} {at r u : ℕ} (fs gs : List (List ℕ)) → Put d at (tabbed fs) e r → Put e r (tabbed gs) f u → Put d at (tabbed (fs ++ gs)) f u
fields_then fs gs a b = rw (tabbed_two fs gs) (put_then a b)

pub line_laid : {d e f g : List ℕ} {letter at r u w : ℕ} (fs : List (List ℕ)) → Put d at (letter ∷ []) e r → Put e r (tabbed fs) f u → Put f u (lf ∷ []) g w → Put d at (line_text letter fs) g w
unfolding line_text
line_laid fs a b c = put_then a (put_then b c)

-- How long fields and lines can be: no number is printed with more than twenty digits.

pub field_fits : {m n : ℕ} (f : List ℕ) (fs : List (List ℕ)) → length f ≤ m → length (tabbed fs) ≤ n → length (tabbed (f ∷ fs)) ≤ suc (m + n)
unfolding tabbed
field_fits f fs h k = rw (length-append f (tabbed fs)) (omega arith)

pub last_fits : {m : ℕ} (f : List ℕ) → length f ≤ m → length (tabbed (f ∷ [])) ≤ suc m
unfolding tabbed
last_fits f h = rw (append-nil f) (omega arith)

pub fields_fit : {m n : ℕ} (fs gs : List (List ℕ)) → length (tabbed fs) ≤ m → length (tabbed gs) ≤ n → length (tabbed (fs ++ gs)) ≤ m + n
fields_fit fs gs h k = rw (tabbed_two fs gs, length-append (tabbed fs) (tabbed gs)) (omega arith)

pub line_fits : {n : ℕ} (letter : ℕ) (fs : List (List ℕ)) → length (tabbed fs) ≤ n → length (line_text letter fs) ≤ n + 2
unfolding line_text
line_fits letter fs h = rw (length-append (tabbed fs) (lf ∷ [])) (omega arith)

pub fixed_few : (w n : ℕ) → length (fixed w n) ≤ w
fixed_few w n = omega (arith, length_fixed w n)

pub numerals_most : (n : ℕ) → length (numerals n) ≤ 20
unfolding numerals
numerals_most n = rw (length_fixed (width_of n) n) (width_few n)

pub refusal_fits : (number line : ℕ) → length (refusal_text number line) ≤ 96
unfolding refusal_text
refusal_fits number line =
    let f = line_fits (byte "X") _ (field_fits (numerals number) _ (numerals_most number) (last_fits (numerals line) (numerals_most line))) in
    omega (arith, f)

-- A line that fits, laid over zeros from the start on, is the line in its room.

drop_same : {A : Type 0} (k n : ℕ) (x : A) → drop k (replicate n x) ≡ replicate (n - k) x
drop_same zero n x = rw (sub-zero n)
drop_same (suc k) zero x = rw (zero-sub (suc k))
drop_same (suc k) (suc n) x = rw (suc-sub-suc n k) (drop_same k n x)

pub laid_full : (n : ℕ) (p : List ℕ) → length p ≤ n → laid (replicate n 0) 0 p ≡ full n 0 p
unfolding full
laid_full n p h =
    let e = length-replicate {A = ℕ} n 0 in
    laid_start (replicate n 0) p (omega arith) ∙ ap (λ (l : List ℕ). p ++ l) (drop_same (length p) n 0)

pub stated : (p : List ℕ) {text : List ℕ} {n : ℕ} → length p ≤ 96 → Put (replicate 96 0) 0 p text n → record { text = text; length = n } ≡ output_of p
unfolding output_of end_of
stated p h put =
    let e = length-replicate {A = ℕ} 96 0 in
    let k : length p ≡ end_of (replicate 96 0) 0 p = omega arith in
    rw (put.ends, put.holds, laid_full 96 p h, ← k)

-- A line in its room: its length is in the room, and the bytes before that are the line.
module _ (p : List ℕ) (fits : length p ≤ 96) (s : Output) (is : s ≡ output_of p) where
  pub line_inside : s.length ≤ length s.text
  unfolding output_of
  line_inside = let k = length_full 96 0 p fits in rw is (omega arith)

  pub line_is : take s.length s.text ≡ p
  unfolding output_of
  line_is = rw is (take_full 96 0 p)

  pub line_counts : s.length ≡ length (take s.length s.text)
  line_counts = sym (length-take-le s.length s.text line_inside)
