-- What the rules of document 01, "Which pairs may stand", ask of two legs.
use Rattle.std.specs.Prelude.{Bool, List, ℕ, eqb, ltb}
use Rattle.laws.specs.Truth.{pick, both, either}
use Rattle.laws.specs.Text.{three}
use Rattle.laws.specs.Bytes.{same_bytes}
use Rattle.series.specs.declared.Series.{Series}
use Rattle.series.specs.Natures.{is_future, is_call, is_put, strike_of}

-- Codes.

unfoldable pub same_code : Series → Series → Bool
same_code a b = same_bytes a.code b.code

-- the one code and the other, in either order
unfoldable pub couple : List ℕ → List ℕ → Series → Series → Bool
couple x y a b =
    either (both (same_bytes a.code x) (same_bytes b.code y)) (both (same_bytes a.code y) (same_bytes b.code x))

-- UNF with SXF, or GTF with G2F
unfoldable pub two_products : Series → Series → Bool
two_products a b = either (couple (three "UNF") (three "SXF") a b) (couple (three "GTF") (three "G2F") a b)

-- Natures.

-- both calls or both puts
unfoldable pub same_nature : Series → Series → Bool
same_nature a b = either (both (is_call a.nature) (is_call b.nature)) (both (is_put a.nature) (is_put b.nature))

unfoldable pub call_then_put : Series → Series → Bool
call_then_put a b = both (is_call a.nature) (is_put b.nature)

unfoldable pub one_call_one_put : Series → Series → Bool
one_call_one_put a b = either (call_then_put a b) (call_then_put b a)

unfoldable pub future_then_option : Series → Series → Bool
future_then_option a b = both (is_future a.nature) (either (is_call b.nature) (is_put b.nature))

unfoldable pub both_futures : Series → Series → Bool
both_futures a b = both (is_future a.nature) (is_future b.nature)

-- Strikes: "call: long strike lower; put: long strike higher".

unfoldable pub debit_strikes : Series → Series → Bool
debit_strikes long short =
    pick (is_call long.nature)
    (ltb (strike_of long.nature) (strike_of short.nature))
    (ltb (strike_of short.nature) (strike_of long.nature))

-- Ratio: "Except in kind 5, r1 = r2 = 1".

unfoldable pub one_to_one : ℕ → ℕ → Bool
one_to_one r1 r2 = both (eqb r1 1) (eqb r2 1)
