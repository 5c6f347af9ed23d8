-- Laws of where free lots stand: the search for a series' row, and lots taken.
use Rattle.std.specs.Prelude.{◌≡◌, Bool, List, [], ◌∷◌, ℕ, ◌-◌, ◌*◌, ◌<◌, ◌≤◌, leb, get_or, set}
use Rattle.std.proofs.Common.{ap, sym, subst, arith}
use borrow.Author.Tests.{lt-ltb, le-ltb, ne_eqb}
use Rattle.laws.specs.Truth.{both}
use Rattle.series.specs.declared.Halves.{Halves}
use Rattle.series.specs.declared.Series.{Series}
use Rattle.series.specs.declared.Side.{Side}
use Rattle.series.specs.Key.{high_key, nature_key, halves_of}
use Rattle.pairing.specs.Sides.{first_side, second_side}
use Rattle.rows.specs.declared.Pair.{Pair}
use Rattle.halving.specs.Halving.{find_in}
use Rattle.reading.specs.Facts.{slot, slot_at, legs_found, no_legs, legs_at}

-- The search, by the two halves of the series' key.
module _ (highs lows : List ℕ) (held : ℕ) (s : Series) (d : Side) {k : Halves} {r : ℕ} (is : k ≡ halves_of s) (at : r ≡ find_in highs lows held (k.high ∷ k.low ∷ [])) where
  place : find_in highs lows held (high_key s ∷ nature_key s.nature ∷ []) ≡ r
  place = sym (subst (λ (z : Halves). r ≡ find_in highs lows held (z.high ∷ z.low ∷ [])) is at)

  pub slot_behind : held ≤ r → 256 ≡ slot_at highs lows held s d
  unfolding slot_at
  slot_behind le = rw (place, le-ltb r held le)

  pub slot_found : {x : ℕ} → r < held → x ≡ slot r d → x ≡ slot_at highs lows held s d
  unfolding slot_at
  slot_found lt e = rw (place, lt-ltb r held lt) e

-- Lots taken at a place are never less than 0.
pub take_all_lots : (l : List ℕ) (x n : ℕ) → get_or l x 0 < n → set l x 0 ≡ set l x (get_or l x 0 - n)
take_all_lots l x n h = ap (set l x) (omega arith)

-- What is found for the legs of a line.
module _ (highs lows free : List ℕ) (held : ℕ) (p : Pair) {letter : ℕ} where
  pub legs_none : (letter ≡ 77 → ⊥) → no_legs ≡ legs_at highs lows free held letter p
  unfolding legs_at
  legs_none n = rw (ne_eqb letter 77 n)

  pub legs_found_lem : letter ≡ 77 → {d e : Side} {x y : ℕ} {m n r : Bool} → d ≡ first_side p.kind p.second → x ≡ slot_at highs lows held p.first d → e ≡ second_side p.kind → y ≡ slot_at highs lows held p.second e → m ≡ leb (p.r1 * p.units) (get_or free x 0) → n ≡ leb (p.r2 * p.units) (get_or free y 0) → r ≡ both m n → record { first = x; second = y; free = r } ≡ legs_at highs lows free held letter p
  unfolding legs_at legs_found
  legs_found_lem l first x-is second y-is m-is n-is is = rw (l, is, m-is, n-is, x-is, y-is, first, second)
