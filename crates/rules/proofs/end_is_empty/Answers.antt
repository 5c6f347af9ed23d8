use Rattle.std.proofs.Common.{sym, ap, ◌∙◌, rules, tests}
use Rattle.std.proofs.lemmas.Iterator.{YieldsList-from_slice}
use Rattle.std.proofs.lemmas.Iterator.Search.{all_from_yields_List}
use Rattle.laws.specs.Search.{every_line}
use Rattle.lists.specs.WalkLaws.{as_all, behind_live}
use Rattle.rules.proofs.end_is_empty.Goals as goal

pub returns : goal.returns
returns g c =
    all_from_yields_List g.R.Row.is_empty _ _ _ c.all.ensures.ran (YieldsList-from_slice _ c.iter.ensures.rest) (λ x b q k. search (rules, tests))
    ∙ sym (as_all _ _)
    ∙ ap (every_line g.R.Row.is_empty) (behind_live c.args.rows.now c.args.live c.min.result c.min.ensures)
