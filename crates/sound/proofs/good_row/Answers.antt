use Rattle.std.proofs.Common.{refl, sym, ◌∙◌}
use borrow.Author.Tests.{lt-ltb}
use Rattle.laws.specs.TruthLaws.{both_hold}
use Rattle.sound.specs.KeyedLaws.{alike_row}
use Rattle.sound.proofs.good_row.Goals as goal

pub returns-then-is_alike : goal.returns-then-is_alike
returns-then-is_alike c = alike_row c.args.i _ _ c.requires (sym (both_hold (lt-ltb _ _ c.if-i-gt0.true) (sym c.is_alike.ensures ∙ c.if-is_alike.true))) refl c.lots_good.ensures

pub returns : goal.returns
returns c = c.good_holding.ensures
