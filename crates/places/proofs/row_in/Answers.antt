use Rattle.std.proofs.Common.{sym, ap, take, ◌∙◌, rules, tests}
use Rattle.std.specs.List.{find}
use Rattle.std.specs.Option.{unwrap_or}
use Rattle.std.proofs.lemmas.Iterator.{YieldsList-from_slice}
use Rattle.std.proofs.lemmas.Iterator.Search.{find_from_yields_List}
use Rattle.laws.specs.Order.{is_same, bytes_order}
use Rattle.lists.specs.WalkLaws.{as_find}
use Rattle.places.proofs.row_in.Goals as goal

pub returns : goal.returns
returns g c =
    let test = λ (x : g.row.R.Denot). is_same (bytes_order (g.R.Row.rank x) (g.R.Row.rank c.args.row)) in
    let found = find_from_yields_List test _ _ c.find.result c.find.ensures.ran (YieldsList-from_slice _ (c.iter.ensures.rest ∙ c.live_rows.ensures)) (λ x b q k. search (rules, tests)) in
    c.unwrap_or.ensures
    ∙ ap (λ o. unwrap_or o c.nothing.result) (c.copied.ensures ∙ found)
    ∙ ap (unwrap_or (find test (take c.args.live c.args.rows.now))) c.nothing.ensures
    ∙ sym (as_find _ _ _ _)
