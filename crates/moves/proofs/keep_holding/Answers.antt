use Rattle.std.proofs.Common.{◌∙◌}
use Rattle.lists.specs.KeptLaws.{kept_in}
use Rattle.rows.specs.Rows.{no_lots}
use Rattle.calls.specs.NumberLaws.{holdings_kept}
use Rattle.moves.proofs.keep_holding.Goals as goal

pub returns : goal.returns
returns c =
    let k = kept_in no_lots c.requires in
    holdings_kept _ _ _ _ (record { rows_are = c.keep.ensures.1 ∙ k.rows_are; count_is = c.keep.ensures.0 ∙ k.count_is })
