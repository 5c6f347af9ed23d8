-- What the parts of the reader ask and answer: a line's letter and form, what its items say, and its number
-- (document 01, "Text").
use Rattle.std.specs.Prelude.{Bool, true, false, not, List, [], ◌∷◌, ◌++◌, ℕ, ltb, eqb, get_or}
use Rattle.laws.specs.Truth.{pick, both}
use Rattle.laws.specs.Bytes.{same_bytes}
use Rattle.laws.specs.Text.{byte, bytes}
use Rattle.laws.specs.Checks.{first_failing, or_else}
use Rattle.lists.specs.Sorted.{after}
use Rattle.series.specs.declared.Nature.TheVariants.{Future}
use Rattle.series.specs.declared.Series as series
use Rattle.series.specs.Checks.{series_number}
use Rattle.pairing.specs.Rules.{pair_number}
use Rattle.rows.specs.declared.Holding.{Holding}
use Rattle.rows.specs.declared.Pair.{Pair}
use Rattle.rows.specs.Rows.{holding_rank, pair_rank, empty_series}
use Rattle.rules.specs.Rules.{counts_fit}
use Rattle.lines.specs.declared.Asked.{Asked}
use Rattle.lines.specs.declared.Asked.TheVariants as kind
use Rattle.lines.specs.declared.Field.{Field}
use Rattle.lines.specs.declared.Written.{Written}
use Rattle.lines.specs.Fields.{no_field}
use Rattle.lines.specs.Behind.{field_behind, chain_behind, series_form, written_in}
use Rattle.book_lines.specs.declared.Part.{Part}
use Rattle.book_lines.specs.declared.Part.TheVariants.{Nothing, Number, Account, Mark, Date, Series}
use Rattle.book_lines.specs.declared.Item.{Item}
use Rattle.book_lines.specs.Lines.{Line, head, holding, pair, formless, head_form, holding_form, pair_form, checks_by}

-- what is said of each letter of a book's text, in the order of its lines, and of any other byte
abbrev pub by_letter : {A : Type 0} → ℕ → A → A → A → A → A
by_letter letter a h m other = pick (eqb letter (byte "A")) a (pick (eqb letter (byte "H")) h (pick (eqb letter (byte "M")) m other))

-- a line's letter, or 0, and the form of the fields behind it
unfoldable pub letter_in : List ℕ → ℕ
letter_in f = pick (same_bytes f (bytes "A")) (byte "A") (pick (same_bytes f (bytes "H")) (byte "H") (pick (same_bytes f (bytes "M")) (byte "M") 0))

unfoldable pub form_for : ℕ → List Asked
form_for letter = by_letter letter head_form holding_form pair_form []

-- The form of a letter's line as the paper writes it: SERIES is one part, of four fields.

unfoldable pub parts_for : ℕ → List Part
parts_for letter =
    by_letter letter
    (Account ∷ Mark ∷ Date ∷ [])
    (Series ∷ Number ∷ Number ∷ [])
    (Number ∷ Series ∷ Series ∷ Number ∷ Number ∷ Number ∷ [])
    []

-- the parts of all forms, one form behind the other, with Nothing between and behind them; where those of a letter
-- begin, and how many they are
unfoldable pub part_table : List Part
part_table = parts_for (byte "A") ++ (Nothing ∷ (parts_for (byte "H") ++ (Nothing ∷ (parts_for (byte "M") ++ (Nothing ∷ [])))))

unfoldable pub place_for : ℕ → ℕ
place_for letter = by_letter letter 0 4 8 14

unfoldable pub parts_count : ℕ → ℕ
parts_count letter = by_letter letter 3 3 6 7

-- What a part writes: a number or a series.

abbrev pub number_item : Field → Item
number_item f = record { right = f.cell.right; number = f.cell.number; series = empty_series; stop = f.stop }

abbrev pub series_item : Written → Item
series_item w = record { right = w.right; number = 0; series = w.series; stop = w.stop }

abbrev pub no_item : Item
no_item = number_item no_field

-- the part behind the tab at `at`
unfoldable pub item_behind : Part → List ℕ → ℕ → Item
item_behind Nothing t at = no_item
item_behind Number t at = number_item (field_behind kind.Number t at)
item_behind Account t at = number_item (field_behind kind.Account t at)
item_behind Mark t at = number_item (field_behind kind.Mark t at)
item_behind Date t at = number_item (field_behind kind.Date t at)
item_behind Series t at = series_item (written_in (chain_behind series_form t at))

-- Parts one behind the other: whether each has its form, what they write, and the place behind the last.
pub record Items : Type 0 where
  pub right : Bool
  pub items : List Item
  pub stop : ℕ

unfoldable pub items_behind : List Part → List ℕ → ℕ → Items
items_behind [] t at = record { right = true; items = []; stop = at }
items_behind (p ∷ ps) t at =
    record {
      right = both (item_behind p t at).right (items_behind ps t (item_behind p t at).stop).right;
      items = item_behind p t at ∷ (items_behind ps t (item_behind p t at).stop).items;
      stop = (items_behind ps t (item_behind p t at).stop).stop;
    }

-- what the part i writes; nothing behind the last
abbrev pub item : List Item → ℕ → Item
item is i = get_or is i (record { right = false; number = 0; series = record { code = []; date = 0; nature = Future }; stop = 0 })

-- what the items of an A, an H and an M line say

abbrev pub head_of : List Item → Line
head_of is = head (item is 0).number (item is 1).number (item is 2).number

unfoldable pub holding_of : List Item → Holding
holding_of is = record { series = (item is 0).series; long = (item is 1).number; short = (item is 2).number }

unfoldable pub pair_of : List Item → Pair
pair_of is =
    record {
      kind = (item is 0).number;
      first = (item is 1).series;
      second = (item is 2).series;
      r1 = (item is 3).number;
      r2 = (item is 4).number;
      units = (item is 5).number;
    }

-- what a line of a letter says by its items
unfoldable pub line_of : ℕ → List Item → Line
line_of letter is = by_letter letter (head_of is) (holding (holding_of is)) (pair (pair_of is)) formless

-- What the lines before a line have to tell it: how many holdings and pairs they say, and the last of each. By it a
-- line stands in its order behind them, and finds room for its row.

unfoldable pub order_behind : Holding → ℕ → Pair → ℕ → Line → Bool
order_behind last held newest paired formless = true
order_behind last held newest paired (head account identity day) = true
order_behind last held newest paired (holding h) = both (eqb paired 0) (after holding_rank held last h)
order_behind last held newest paired (pair p) = after pair_rank paired newest p

unfoldable pub room_behind : ℕ → ℕ → Line → Bool
room_behind held paired formless = true
room_behind held paired (head account identity day) = true
room_behind held paired (holding h) = ltb held 128
room_behind held paired (pair p) = ltb paired 128

-- the line's number, or 0; `first` where no line is before it, `free` where its legs find their lots free
unfoldable pub number_behind : Bool → Holding → ℕ → Pair → ℕ → Bool → Line → ℕ
number_behind first last held newest paired free x =
    first_failing (checks_by first (order_behind last held newest paired x) (room_behind held paired x) free x)

-- of the numbers of two series the one that comes first in 4, 5, 2
abbrev pub worse : ℕ → ℕ → ℕ
worse a b =
    pick (both (not (eqb a 4)) (not (eqb b 4)))
    (pick (both (not (eqb a 5)) (not (eqb b 5))) (pick (both (not (eqb a 2)) (not (eqb b 2))) 0 2) 5)
    4

-- the number of two series
unfoldable pub both_number : series.Series → series.Series → ℕ
both_number a b = worse (series_number a) (series_number b)

-- the number of an M line, check by check: `first` where no line is before it, `in_order` where it stands in its order,
-- `room` where there is room for its row, `free` where its legs find their lots free
abbrev pub pair_number_by : Bool → Bool → Bool → Bool → Pair → ℕ
pair_number_by first in_order room free p =
    pick (not first)
    (or_else (both_number p.first p.second)
    (pick (counts_fit p.r1 p.r2 p.units)
    (or_else (pair_number p.kind p.first p.second p.r1 p.r2) (pick in_order (pick room (pick free 0 9) 11) 3))
    6))
    1

-- the account that a first line says
abbrev pub account_of : Line → ℕ
account_of (head account identity day) = account
account_of (holding h) = 0
account_of (pair p) = 0
account_of formless = 0
