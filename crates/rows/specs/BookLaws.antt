-- Laws of a book's lists: what a book with other holdings, pairs or day holds.
use Rattle.std.specs.Prelude.{◌≡◌, refl, List, [], ℕ, take}
use Rattle.std.proofs.Common.{ap}
use Rattle.lists.specs.PlaceLaws.{take_full}
use Rattle.rows.specs.declared.Holding.{Holding}
use Rattle.rows.specs.declared.Pair.{Pair}
use Rattle.rows.specs.declared.Book.{Book}
use Rattle.rows.specs.Rows.{empty_holding, empty_pair}
use Rattle.rows.specs.Book.{holdings_of, pairs_of, book_of, with_holdings, with_pairs, with_day}

pub its_holdings : (account identity day : ℕ) (hs : List Holding) (ps : List Pair) → holdings_of (book_of account identity day hs ps) ≡ hs
unfolding holdings_of book_of
its_holdings account identity day hs ps = take_full 128 empty_holding hs

pub its_pairs : (account identity day : ℕ) (hs : List Holding) (ps : List Pair) → pairs_of (book_of account identity day hs ps) ≡ ps
unfolding pairs_of book_of
its_pairs account identity day hs ps = take_full 128 empty_pair ps

pub new_holdings : (b : Book) (hs : List Holding) → holdings_of (with_holdings b hs) ≡ hs
unfolding holdings_of with_holdings
new_holdings b hs = take_full 128 empty_holding hs

pub same_pairs : (b : Book) (hs : List Holding) → pairs_of (with_holdings b hs) ≡ pairs_of b
unfolding pairs_of with_holdings
same_pairs b hs = refl

pub new_pairs : (b : Book) (ps : List Pair) → pairs_of (with_pairs b ps) ≡ ps
unfolding pairs_of with_pairs
new_pairs b ps = take_full 128 empty_pair ps

pub same_holdings : (b : Book) (ps : List Pair) → holdings_of (with_pairs b ps) ≡ holdings_of b
unfolding holdings_of with_pairs
same_holdings b ps = refl

pub day_holdings : (b : Book) (day : ℕ) → holdings_of (with_day b day) ≡ holdings_of b
unfolding holdings_of with_day
day_holdings b day = refl

pub day_pairs : (b : Book) (day : ℕ) → pairs_of (with_day b day) ≡ pairs_of b
unfolding pairs_of with_day
day_pairs b day = refl

-- A book that counts no pairs holds none.
pub none_paired : (b : Book) → b.paired ≡ 0 → pairs_of b ≡ []
unfolding pairs_of
none_paired b e = ap (λ (n : ℕ). take n b.pairs) e
