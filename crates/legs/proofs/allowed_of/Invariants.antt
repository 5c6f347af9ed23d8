use Rattle.laws.specs.SearchLaws.{Searching}
use Rattle.legs.specs.Ratios.{ratios, names, line_allows, own_allows, allowed_of}
use Rattle.legs.proofs.allowed_of.Given as goal

abbrev pub invariant-loop-line : goal.invariant-loop-line
invariant-loop-line l = Searching (names l.future l.option) line_allows (own_allows l.future l.option) (allowed_of l.future l.option) ratios l.line-index
