-- Laws of the table of ratios.
use Rattle.std.specs.Prelude.{◌≡◌, refl, Bool, true, map}
use Rattle.laws.specs.Truth.{both}
use Rattle.laws.specs.Bytes.{same_bytes}
use Rattle.laws.specs.Search.{first_where, every_line}
use Rattle.codes.specs.Codes.{listed, product_of, is_future_class, is_option_class}
use Rattle.legs.specs.declared.RatioLine.{RatioLine}
use Rattle.legs.specs.Ratios.{ratios, names, line_allows, allowed_of}

-- a line couples a future with an option that has the same full-size future behind it
unfoldable pub one_family : RatioLine → Bool
one_family l =
    both (is_future_class (product_of l.future).class)
    (both (is_option_class (product_of l.option).class) (same_bytes (product_of l.future).parent (product_of l.option).parent))

-- Every line couples a future and the option of one family.
pub one_family_lem : every_line one_family ratios ≡ true
unfolding every_line one_family ratios product_of listed first_where same_bytes
one_family_lem = refl

-- Each line rules the couple that it names: none hides another.
pub lines_stand : map (λ (l : RatioLine). allowed_of l.future l.option) ratios ≡ map line_allows ratios
unfolding allowed_of ratios names first_where same_bytes
lines_stand = refl
