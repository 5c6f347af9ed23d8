-- Document 01, "Series": "a future, a call with its strike or a put with its strike".
use Rattle.std.specs.Prelude.{Bool, true, false, ℕ}
use Rattle.laws.specs.Text.{byte}
use Rattle.series.specs.declared.Nature.{Nature}
use Rattle.series.specs.declared.Nature.TheVariants.{Future, Call, Put}

abbrev pub is_future : Nature → Bool
is_future Future = true
is_future (Call strike) = false
is_future (Put strike) = false

abbrev pub is_call : Nature → Bool
is_call Future = false
is_call (Call strike) = true
is_call (Put strike) = false

abbrev pub is_put : Nature → Bool
is_put Future = false
is_put (Call strike) = false
is_put (Put strike) = true

-- the letter that it is written by
abbrev pub letter_of : Nature → ℕ
letter_of Future = byte "F"
letter_of (Call strike) = byte "C"
letter_of (Put strike) = byte "P"

-- a future's strike is written 0
abbrev pub strike_of : Nature → ℕ
strike_of Future = 0
strike_of (Call strike) = strike
strike_of (Put strike) = strike
