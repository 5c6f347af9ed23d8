use Rattle.std.proofs.Common.{◌≡◌, sym, rules, tests}
use Rattle.std.specs.List.{position}
use Rattle.std.proofs.lemmas.Iterator.{YieldsList-from_slice}
use Rattle.std.proofs.lemmas.Iterator.Search.{position_from_yields_List}
use Rattle.lines.specs.Pieces.{stops}
use Rattle.lines.specs.StopLaws.{stop_position}
use Rattle.lines.proofs.stop_of.Goals as goal

pub returns : goal.returns
returns c =
    let p : c.position-length.result ≡ position stops c.rest_from-rest.result.now =
    position_from_yields_List stops _ _ c.position-length.result c.position-length.ensures.ran (YieldsList-from_slice c.rest_from-rest.result.now cc) (λ x b q k. search (rules, tests)) in
    rw (c.unwrap_or.ensures, p, c.rest_from-rest.ensures) (sym (stop_position c.args.t.now c.args.at))
