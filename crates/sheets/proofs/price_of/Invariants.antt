-- What the search will find is the price, and the rows that are left grow fewer.
use Rattle.std.proofs.Common.{◌-◌, ◌≤◌, [], ◌∷◌, length}
use Rattle.sheets.specs.Sheet.{price_among}
use Rattle.sheets.specs.Seeking.{search_from, Seeking}
use Rattle.sheets.proofs.price_of.Given as goal

abbrev pub invariant-loop-low : goal.invariant-loop-low
invariant-loop-low l = record {
  inside : l.high ≤ length l.rows;
  seeks : Seeking l.rows (l.key.high ∷ l.key.low ∷ []) (price_among l.rows (l.key.high ∷ l.key.low ∷ [])) (search_from l.low l.high);
}

abbrev pub decreases-loop-low : goal.decreases-loop-low
decreases-loop-low l = l.high - l.low
