-- "Two books of the same account, client code and day, with the same lots free and the same pairs": where both are sound, every margin call
-- answers the same of both (history/SameLaws: they are one book).
use Rattle.std.specs.Prelude.{◌≡◌, true, List, ℕ}
use Rattle.std.proofs.Common.{ap}
use Rattle.rows.specs.declared.Book.{Book}
use Rattle.rules.specs.Rules.{sound_book}
use Rattle.history.specs.Demand.{Alike}
use Rattle.history.specs.SameLaws.{same_book}
use Rattle.sheets.specs.declared.Sheet.{Sheet}
use Rattle.account.specs.Margin.{margin_on, margin_text}

module _ (a b : Book) (x : sound_book a ≡ true) (y : sound_book b ≡ true) (alike : Alike a b) where
  -- on a sheet already read, and on any text
  pub same_on_sheet : (sheet : Sheet) → margin_on a sheet ≡ margin_on b sheet
  same_on_sheet sheet = ap (λ (c : Book). margin_on c sheet) (same_book a b x y alike)

  pub same_answer : (t : List ℕ) → margin_text a t ≡ margin_text b t
  same_answer t = ap (λ (c : Book). margin_text c t) (same_book a b x y alike)
