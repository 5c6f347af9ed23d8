-- Laws of the text of a book with one line more: it is the longer by the line.
use Rattle.std.specs.Prelude.{◌≡◌, List, [], ◌∷◌, ◌++◌, ℕ}
use Rattle.std.proofs.Common.{◌∙◌, append_assoc, append-nil}
use Rattle.rows.specs.declared.Holding.{Holding}
use Rattle.rows.specs.declared.Pair.{Pair}
use Rattle.rows.specs.declared.Book.{Book}
use Rattle.rows.specs.Book.{holdings_of, pairs_of, book_of, with_holdings, with_pairs, empty_book}
use Rattle.rows.specs.BookLaws.{its_holdings, its_pairs, new_holdings, same_pairs, new_pairs, same_holdings, none_paired}
use Rattle.printed.specs.Printed.{head_text, holding_text, pair_text, texts_of, text_of}
use Rattle.printed.specs.PrintedLaws.{texts_last}
use Rattle.book_lines.specs.Lines.{head, holding, pair}
use Rattle.reading.specs.Reading.{with_line}

-- A book's text by its lists.
text_of_lem : (b : Book) (hs : List Holding) (ps : List Pair) → holdings_of b ≡ hs → pairs_of b ≡ ps → text_of b ≡ head_text b.account b.identity b.day ++ (texts_of holding_text hs ++ texts_of pair_text ps)
unfolding text_of
text_of_lem b hs ps h p = λ i. head_text b.account b.identity b.day ++ (texts_of holding_text (h i) ++ texts_of pair_text (p i))

-- The first line: its text is all there is.
pub head_text_lem : (b : Book) (account identity day : ℕ) → text_of (with_line b (head account identity day)) ≡ head_text account identity day
unfolding with_line empty_book book_of texts_of
head_text_lem b account identity day =
    text_of_lem (book_of account identity day [] []) [] [] (its_holdings account identity day [] []) (its_pairs account identity day [] [])
    ∙ append-nil (head_text account identity day)

-- A later line: a holding, where no pair stands, and a pair.
pub holding_text_lem : (b : Book) (h : Holding) → b.paired ≡ 0 → text_of (with_line b (holding h)) ≡ text_of b ++ holding_text h
unfolding with_line with_holdings text_of texts_of
holding_text_lem b h e =
    let hs = holdings_of b in
    let none = none_paired b e in
    text_of_lem (with_holdings b (hs ++ (h ∷ []))) (hs ++ (h ∷ [])) [] (new_holdings b (hs ++ (h ∷ []))) (same_pairs b (hs ++ (h ∷ [])) ∙ none)
    ∙ rw (none, texts_last holding_text hs h) (simp (append_assoc, append-nil))

pub pair_text_lem : (b : Book) (p : Pair) → text_of (with_line b (pair p)) ≡ text_of b ++ pair_text p
unfolding with_line with_pairs text_of
pair_text_lem b p =
    let ps = pairs_of b in
    text_of_lem (with_pairs b (ps ++ (p ∷ []))) (holdings_of b) (ps ++ (p ∷ [])) (same_holdings b (ps ++ (p ∷ []))) (new_pairs b (ps ++ (p ∷ [])))
    ∙ rw (texts_last pair_text ps p) (simp append_assoc)
