-- A key is looked for among keys that rise: the half that cannot hold it is given up, step after step. HalvingLaws: the place that
-- this comes to is that of the first key that is not before it.
use Rattle.std.specs.Prelude.{◌≡◌, Bool, List, [], ◌∷◌, ℕ, zero, suc, ◌+◌, ◌-◌, ◌/◌, ◌<◌, ◌≤◌, min, ltb, get_or, length}
use Rattle.std.specs.declared.cmp.Ordering.TheVariants.{Less}
use Rattle.laws.specs.Truth.{pick, both}
use Rattle.laws.specs.Bytes.{same_bytes}
use Rattle.laws.specs.Order.{is_less, bytes_order}

-- the key i, half by half
abbrev pub key_at : List ℕ → List ℕ → ℕ → List ℕ
key_at highs lows i = get_or highs i 0 ∷ get_or lows i 0 ∷ []

abbrev pub middle : ℕ → ℕ → ℕ
middle low high = low + (high - low) / 2

-- the place from low to high that so many steps of halving come to, where the test tells which places are before it
unfoldable pub halved : (ℕ → Bool) → ℕ → ℕ → ℕ → ℕ
halved before zero low high = low
halved before (suc steps) low high =
    pick (ltb low high)
    (pick (before (middle low high)) (halved before steps (middle low high + 1) high) (halved before steps low (middle low high)))
    low

-- the place of the key k among the first count keys; there are no more steps than keys
unfoldable pub place_of : List ℕ → List ℕ → ℕ → List ℕ → ℕ
place_of highs lows count k =
    halved (λ (i : ℕ). is_less (bytes_order (key_at highs lows i) k)) (min count (min (length highs) (length lows))) 0 (min count (min (length highs) (length lows)))

-- the place of the key k among them, or count where it does not stand there
unfoldable pub find_in : List ℕ → List ℕ → ℕ → List ℕ → ℕ
find_in highs lows count k =
    pick (both (ltb (place_of highs lows count k) (min count (min (length highs) (length lows)))) (same_bytes (key_at highs lows (place_of highs lows count k)) k))
    (place_of highs lows count k)
    count

-- Keys that rise, so many of them.
pub record Rising (highs lows : List ℕ) (n : ℕ) : Type 0 where
  pub highs_long : n ≤ length highs
  pub lows_long : n ≤ length lows
  pub rising : (i j : ℕ) → i < j → j < n → bytes_order (key_at highs lows i) (key_at highs lows j) ≡ Less

-- r is the first of the n places whose key is not before k.
pub record PlaceIs (highs lows : List ℕ) (n : ℕ) (k : List ℕ) (r : ℕ) : Type 0 where
  pub inside : r ≤ n
  pub below : (i : ℕ) → i < r → bytes_order (key_at highs lows i) k ≡ Less
  pub rest : (i : ℕ) → r ≤ i → i < n → bytes_order (key_at highs lows i) k ≡ Less → ⊥
