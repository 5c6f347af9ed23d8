-- Document 01, "Which pairs may stand", kind 5: "The ratios allowed for kind 5 are: 1 TX to 1..4 TXO; ..", and "1 stock
-- future to 1 option of that stock".
use Rattle.std.specs.Prelude.{Bool, true, false, List, [], ◌∷◌, ℕ, eqb, Option, None, Some}
use Prim.Native.String.{String}
use Rattle.laws.specs.Truth.{pick, both, within}
use Rattle.laws.specs.Text.{three}
use Rattle.laws.specs.Bytes.{same_bytes}
use Rattle.laws.specs.Search.{first_where}
use Rattle.codes.specs.Codes.{own_option}
use Rattle.legs.specs.declared.RatioLine.{RatioLine}
use Rattle.legs.specs.declared.Ratio.{Ratio}

-- a line of the table: r1 of the future to least..greatest of the option
abbrev pub line : ℕ → String → ℕ → ℕ → String → RatioLine
line r1 future least greatest option =
    record { future = three future; option = three option; r1 = r1; least = least; greatest = greatest }

unfoldable pub ratios : List RatioLine
ratios =
    line 1 "TX" 1 4 "TXO"
    ∷ line 1 "MTX" 1 1 "TXO"
    ∷ line 5 "TMF" 1 1 "TXO"
    ∷ line 1 "TE" 1 4 "TEO"
    ∷ line 2 "ZEF" 1 1 "TEO"
    ∷ line 1 "TF" 1 4 "TFO"
    ∷ line 1 "ZFF" 1 1 "TFO"
    ∷ line 1 "TGF" 1 2 "TGO"
    ∷ []

unfoldable pub names : List ℕ → List ℕ → RatioLine → Bool
names f o l = both (same_bytes f l.future) (same_bytes o l.option)

abbrev pub line_allows : RatioLine → Option Ratio
line_allows l = Some (record { r1 = l.r1; least = l.least; greatest = l.greatest })

abbrev pub own_allows : List ℕ → List ℕ → Option Ratio
own_allows f o = pick (own_option f o) (Some (record { r1 = 1; least = 1; greatest = 1 })) None

-- what is allowed of a future's and an option's code
unfoldable pub allowed_of : List ℕ → List ℕ → Option Ratio
allowed_of f o = first_where (names f o) line_allows (own_allows f o) ratios

-- the two codes are a listed couple, or a stock's own
abbrev pub is_couple : Option Ratio → Bool
is_couple None = false
is_couple (Some ratio) = true

abbrev pub fits_ratio : Option Ratio → ℕ → ℕ → Bool
fits_ratio None r1 r2 = false
fits_ratio (Some one) r1 r2 = both (eqb r1 one.r1) (within one.least one.greatest r2)
