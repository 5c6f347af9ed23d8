-- What the type of a sheet says of its value.
use mathlib.Core.Path.{◌≡◌}
use mathlib.Core.List.{List}
use mir.Val.{Val}
use denote.Laws.{Is}
use denote.Struct.Declared.{row}
use denote.Struct.Laws.{owed}
use lib.ListN.{length}
use Rattle.sheets.specs.declared.Sheet.{Sheet}
use Rattle.sheets.specs.contracts.Sheet as type
use Rattle.sheets.proofs.Sheet.TheLaws as laws

-- There are 676 places for S rows.
pub stocks_long : (sheet : Sheet) {vs : List Val} → Is (row type.the_type) sheet vs → length sheet.stocks ≡ 676
stocks_long sheet g = (owed type.the_type laws.the_laws sheet _ g).1.1.1.1.1.0.1.0.1
