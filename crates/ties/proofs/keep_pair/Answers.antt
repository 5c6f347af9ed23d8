use Rattle.std.proofs.Common.{◌∙◌}
use Rattle.lists.specs.KeptLaws.{kept_in}
use Rattle.rows.specs.Rows.{no_units}
use Rattle.calls.specs.NumberLaws.{pairs_kept}
use Rattle.ties.proofs.keep_pair.Goals as goal

pub returns : goal.returns
returns c =
    let k = kept_in no_units c.requires in
    pairs_kept _ _ _ _ (record { rows_are = c.keep.ensures.1 ∙ k.rows_are; count_is = c.keep.ensures.0 ∙ k.count_is })
