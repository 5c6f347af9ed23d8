-- Where the free lots stand that go along with a book as it is read, and how the legs of a pair find and take them.
use Rattle.std.specs.Prelude.{Bool, true, List, ℕ, ◌+◌, ◌-◌, ◌*◌, leb, ltb, eqb, get_or, set}
use Rattle.laws.specs.Truth.{pick, both}
use Rattle.laws.specs.Text.{byte}
use Rattle.series.specs.declared.Series.{Series}
use Rattle.series.specs.declared.Side.{Side}
use Rattle.series.specs.declared.Side.TheVariants.{Long, Short}
use Rattle.pairing.specs.Sides.{first_side, second_side}
use Rattle.rows.specs.declared.Pair.{Pair}
use Rattle.halving.specs.Halving.{find_in}
use Rattle.sound.specs.Walk.{halves}
use Rattle.reading.specs.declared.Legs.{Legs}

-- where the free lots of a row and side stand, and those of a series and side; 256, where nothing stands, if it is not
-- held
unfoldable pub slot : ℕ → Side → ℕ
slot row Long = 2 * row
slot row Short = 2 * row + 1

unfoldable pub slot_at : List ℕ → List ℕ → ℕ → Series → Side → ℕ
slot_at highs lows held s d =
    pick (ltb (find_in highs lows held (halves s)) held) (slot (find_in highs lows held (halves s)) d) 256

-- the slots of a pair's legs
abbrev pub first_slot : List ℕ → List ℕ → ℕ → Pair → ℕ
first_slot highs lows held p = slot_at highs lows held p.first (first_side p.kind p.second)

abbrev pub second_slot : List ℕ → List ℕ → ℕ → Pair → ℕ
second_slot highs lows held p = slot_at highs lows held p.second (second_side p.kind)

-- both legs find their lots there
unfoldable pub legs_found : List ℕ → List ℕ → List ℕ → ℕ → Pair → Bool
legs_found highs lows free held p =
    both (leb (p.r1 * p.units) (get_or free (first_slot highs lows held p) 0)) (leb (p.r2 * p.units) (get_or free (second_slot highs lows held p) 0))

-- what is found for the legs of a line: of an M line, which says p, their slots and whether their lots are free;
-- another line has no legs
abbrev pub no_legs : Legs
no_legs = record { first = 256; second = 256; free = true }

unfoldable pub legs_at : List ℕ → List ℕ → List ℕ → ℕ → ℕ → Pair → Legs
legs_at highs lows free held letter p =
    pick (eqb letter (byte "M")) (record { first = first_slot highs lows held p; second = second_slot highs lows held p; free = legs_found highs lows free held p }) no_legs

-- the free lots when each leg has taken its own
abbrev pub less_at : List ℕ → ℕ → ℕ → List ℕ
less_at free x lots = set free x (get_or free x 0 - lots)

abbrev pub less_legs : List ℕ → ℕ → ℕ → Pair → List ℕ
less_legs free x y p = less_at (less_at free x (p.r1 * p.units)) y (p.r2 * p.units)
