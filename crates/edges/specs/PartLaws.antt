-- The part that each of the sixteen codes is of its full-size future is one that `levels` works with.
use Rattle.std.specs.Prelude.{◌≡◌, refl, true}
use Rattle.laws.specs.Search.{every_line}
use Rattle.codes.specs.declared.Product.{Product}
use Rattle.codes.specs.Codes.{listed}
use Rattle.levels.specs.Ranges.{part_fits}

pub listed_parts : every_line (λ (p : Product). part_fits p.part) listed ≡ true
unfolding every_line listed part_fits
listed_parts = refl
