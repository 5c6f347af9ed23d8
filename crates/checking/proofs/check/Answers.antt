use Rattle.std.proofs.Common.{ap}
use Rattle.sheets.specs.declared.Sheet.{Sheet}
use Rattle.sheets.specs.Sheet.{laid_out}
use Rattle.checking.specs.Reading.{sheet_of, read_sheet, check_text}
use Rattle.checking.proofs.check.Goals as goal

pub returns : goal.returns
unfolding laid_out sheet_of read_sheet check_text
returns c = ap (λ (s : Sheet). record { number = s.number; line = s.line }) c.read-sheet.ensures
