-- Texts and books (document 01, "Text"): the text of a sound book is read as that book; a text that is read is the text of the book that
-- it is read as; and only sound books are read. So no two texts are read as one book, and no two sound books have one text.
use Rattle.std.specs.Prelude.{◌≡◌, true, List, ℕ, length}
use Rattle.std.proofs.Common.{ap, sym, ◌∙◌, subst, ⊎_elim, arith, le-leb, ne_eqb}
use Rattle.rows.specs.declared.Book.{Book}
use Rattle.rules.specs.Rules.{sound_book}
use Rattle.rules.specs.Facts.{Sound}
use Rattle.rules.specs.RuleLaws.{sound_is, sound_back}
use Rattle.calls.specs.CallLaws.{no_book_sound}
use Rattle.lines.specs.Texts.{line_text}
use Rattle.printed.specs.Printed.{head_text, text_of}
use Rattle.printed.specs.PrintedLaws.{text_fits}
use Rattle.reading.specs.Reading.{Answer, refused_at, read_as, read_book}
use Rattle.trip.specs.TripLaws.{ReadPrint, PrintRead}
use Rattle.trip.proofs.ForthLaws.{book_read}
use Rattle.trip.proofs.BackLaws.{text_ends}

-- No text of a book is empty.
some_text : (b : Book) → length (text_of b) ≡ 0 → ⊥
unfolding text_of head_text line_text
some_text b e = omega arith

-- The text of a sound book is read as that book.
pub read_print : ReadPrint
unfolding read_book
read_print b e = rw (le-leb (length (text_of b)) 16384 (text_fits b e), ne_eqb (length (text_of b)) 0 (some_text b)) (book_read b (sound_is b e))

-- no two sound books have one text
pub one_book : (b c : Book) → sound_book b ≡ true → sound_book c ≡ true → text_of b ≡ text_of c → b ≡ c
unfolding read_as
one_book b c e g same = ap (λ (a : Answer). a.book) (sym (read_print b e) ∙ ap read_book same ∙ read_print c g)

-- A text that is read, by the number 0, is the text of the book that it is read as, which is sound.
pub print_read : PrintRead
print_read t e =
    ⊎_elim (λ r. (sound_back (read_book t).book r.sound, r.text)) (λ r. let some = r.some in absurd (omega arith)) (text_ends t)

-- its line is 0 then
pub read_accepted : (t : List ℕ) → (read_book t).number ≡ 0 → read_book t ≡ read_as (read_book t).book
read_accepted t e = ⊎_elim (λ r. r.is) (λ r. let some = r.some in absurd (omega arith)) (text_ends t)

-- so what a text is read as is a sound book, whose text it is
pub read_as_lem : (t : List ℕ) (b : Book) → read_book t ≡ read_as b → (sound_book b ≡ true) × (text_of b ≡ t)
unfolding read_as
read_as_lem t b e = subst (λ (c : Book). (sound_book c ≡ true) × (text_of c ≡ t)) (ap (λ (a : Answer). a.book) e) (print_read t (ap (λ (a : Answer). a.number) e))

-- no two texts are read as one book
pub one_text : (t u : List ℕ) → (read_book t).number ≡ 0 → (read_book u).number ≡ 0 → (read_book t).book ≡ (read_book u).book → t ≡ u
one_text t u e g same = sym (print_read t e).1 ∙ ap text_of same ∙ (print_read u g).1

-- any other is refused: its book is the empty one
pub read_refused : (t : List ℕ) → ((read_book t).number ≡ 0 → ⊥) → read_book t ≡ refused_at (read_book t).number (read_book t).line
unfolding read_as
read_refused t h = ⊎_elim (λ r. absurd (h (ap (λ (a : Answer). a.number) r.is))) (λ r. r.is) (text_ends t)

-- Whatever the text, the book that comes back is sound.
pub read_sound : (t : List ℕ) → Sound (read_book t).book
unfolding refused_at
read_sound t = ⊎_elim (λ r. r.sound) (λ r. subst Sound (sym (ap (λ (a : Answer). a.book) r.is)) no_book_sound) (text_ends t)
