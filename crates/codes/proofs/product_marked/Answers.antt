use Rattle.std.proofs.Common.{sym, ◌∙◌}
use Rattle.codes.specs.CodeLaws.{no_mark}
use Rattle.codes.proofs.product_marked.Goals as goal

pub returns-in_default : goal.returns-in_default
returns-in_default c =
    let n = c.in_default.in_default-own.rest in
    c.unknown_code.ensures ∙ sym (no_mark _ n.0.0.0.0.0.0.0.0.0.0.0.0.0.0.0.1 n.0.0.0.0.0.0.0.0.0.0.0.0.0.0.1 n.0.0.0.0.0.0.0.0.0.0.0.0.0.1 n.0.0.0.0.0.0.0.0.0.0.0.0.1 n.0.0.0.0.0.0.0.0.0.0.0.1 n.0.0.0.0.0.0.0.0.0.0.1 n.0.0.0.0.0.0.0.0.0.1 n.0.0.0.0.0.0.0.0.1 n.0.0.0.0.0.0.0.1 n.0.0.0.0.0.0.1 n.0.0.0.0.0.1 n.0.0.0.0.1 n.0.0.0.1 n.0.0.1 n.0.1 n.1)
