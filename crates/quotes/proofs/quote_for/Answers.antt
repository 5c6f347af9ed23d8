use Rattle.sheets.specs.View.{saying}
use Rattle.quotes.specs.Quotes.{clearing_said, price_said, lot_as, terms_as}
use Rattle.quotes.specs.QuoteLaws.{quote_worked}
use Rattle.quotes.proofs.quote_for.Goals as goal

pub returns : goal.returns
unfolding saying clearing_said price_said lot_as terms_as
returns c = simp (c.terms_of.ensures, c.lot_of.ensures, c.has_parent.ensures, c.is_ready.ensures, c.own_line-lined.ensures, c.amount_said-value.ensures, c.price_stands.ensures, c.amount_said-amount.ensures, c.clearing_stands.ensures) (quote_worked (saying _ _ _ _) _ _)
