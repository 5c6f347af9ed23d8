-- Laws of halving: its loop, and that it finds the place of a key among keys that rise.
use Rattle.std.specs.Prelude.{◌≡◌, Bool, ◌&&◌, eqb, Some, get_or, length}
use Rattle.std.proofs.Math.Path.{refl, sym}
use Rattle.std.proofs.Common.{ap, ◌∙◌, subst}
use Rattle.std.proofs.Math.Bool.{true, false}
use mathlib.Core.List.{List, [], ◌∷◌}
use Prim.Native.Nat.{ℕ, zero, suc, ◌+◌, ◌-◌, ◌<◌, ◌≤◌, min}
use native.Mathlib.Omega.{arith}
use Rattle.std.proofs.Math.Decide.{dec_lt}
use borrow.Author.Tests.{lt-ltb, le-ltb, ltb-true, ltb-false}
use Rattle.std.proofs.Math.Dec.{ltb}
use Rattle.std.specs.declared.cmp.Ordering.{Ordering}
use Rattle.std.specs.declared.cmp.Ordering.TheVariants.{Less, Equal, Greater}
use Rattle.std.specs.Ordering.{nat_cmp, partial_lt, partial_ordering_then}
use Rattle.laws.specs.Truth.{pick, both}
use Rattle.laws.specs.TruthLaws.{both_and, both_end, both_true, by_test, picked, clash, false_unless}
use Rattle.laws.specs.Bytes.{same_bytes}
use Rattle.laws.specs.ByteLaws.{are_same, same_self}
use Rattle.laws.specs.Order.{order_of, is_less, then_by, bytes_order}
use Rattle.laws.specs.OrderLaws.{is_less_lem, is_same_lem, is_more, split, then_same, text_before, not_before_self, is_less_says}
use Rattle.halving.specs.Halving.{key_at, middle, halved, place_of, find_in, Rising, PlaceIs}

-- Any number of steps that is not too small comes to the same place.
module _ (before : ℕ → Bool) where
  stays : (steps low high : ℕ) → high ≤ low → halved before steps low high ≡ low
  unfolding halved
  stays zero low high h = refl
  stays (suc steps) low high h = rw (le-ltb low high h)

  pub enough_steps : (k m low high : ℕ) → high - low ≤ k → high - low ≤ m → halved before k low high ≡ halved before m low high
  unfolding halved
  enough_steps zero m low high h g = sym (stays m low high (omega arith))
  enough_steps (suc k) zero low high h g = stays (suc k) low high (omega arith)
  enough_steps (suc k) (suc m) low high h g =
      by_test (λ (t : Bool). ltb low high ≡ t → pick t (pick (before (middle low high)) (halved before k (middle low high + 1) high) (halved before k low (middle low high))) low ≡ pick t (pick (before (middle low high)) (halved before m (middle low high + 1) high) (halved before m low (middle low high))) low) (ltb low high)
      (λ q e.
      let lt = ltb-true low high e in
      by_test (λ (t : Bool). pick t (halved before k (middle low high + 1) high) (halved before k low (middle low high)) ≡ pick t (halved before m (middle low high + 1) high) (halved before m low (middle low high))) (before (middle low high))
      (λ z. enough_steps k m (middle low high + 1) high (omega arith) (omega arith))
      (λ z. enough_steps k m low (middle low high) (omega arith) (omega arith)))
      (λ q e. refl)
      refl

-- The loop: it has come to the places from low to high, and w is where it will end.
pub record AtHalf (highs lows : List ℕ) (k : List ℕ) (w low high : ℕ) : Type 0 where
  pub highs_long : high ≤ length highs
  pub lows_long : high ≤ length lows
  pub goes : w ≡ halved (λ (i : ℕ). is_less (bytes_order (key_at highs lows i) k)) (high - low) low high

pub half_starts : (highs lows k : List ℕ) (count : ℕ) {to : ℕ} → to ≡ min count (min (length highs) (length lows)) → AtHalf highs lows k (place_of highs lows count k) 0 to
unfolding place_of
half_starts highs lows k count {to} is = record { highs_long = omega arith; lows_long = omega arith; goes = let e : to - 0 ≡ to = omega arith in rw (sym is, e) refl }

module _ {highs lows k : List ℕ} {w low high : ℕ} (a : AtHalf highs lows k w low high) where
  module _ (lt : low < high) {r : Bool} (is : r ≡ is_less (bytes_order (key_at highs lows (middle low high)) k)) where
    step : w ≡ pick r (halved (λ (i : ℕ). is_less (bytes_order (key_at highs lows i) k)) (high - low - 1) (middle low high + 1) high) (halved (λ (i : ℕ). is_less (bytes_order (key_at highs lows i) k)) (high - low - 1) low (middle low high))
    unfolding halved
    step = let e : high - low ≡ suc (high - low - 1) = omega arith in rw (e, lt-ltb low high lt, ← is) at a.goes

    pub half_up_lem : r ≡ true → AtHalf highs lows k w (middle low high + 1) high
    half_up_lem t =
        record {
          highs_long = a.highs_long;
          lows_long = a.lows_long;
          goes = rw t at step ∙ enough_steps _ (high - low - 1) (high - (middle low high + 1)) (middle low high + 1) high (omega arith) (omega arith);
        }

    pub half_down : r ≡ false → AtHalf highs lows k w low (middle low high)
    half_down t =
        let h = a.highs_long in
        let l = a.lows_long in
        record {
          highs_long = omega arith;
          lows_long = omega arith;
          goes = rw t at step ∙ enough_steps _ (high - low - 1) (middle low high - low) low (middle low high) (omega arith) (omega arith);
        }

  pub half_ends : high ≤ low → low ≡ w
  half_ends le = sym (a.goes ∙ stays _ (high - low) low high le)

-- Whether the key in the middle is before k: by its higher half, or by its lower one where the higher ones are the same.
module _ {highs lows : List ℕ} {h l w low high : ℕ} (a : AtHalf highs lows (h ∷ l ∷ []) w low high) (lt : low < high) where
  pub higher_before : get_or highs (middle low high) 0 < h → AtHalf highs lows (h ∷ l ∷ []) w (middle low high + 1) high
  unfolding bytes_order
  higher_before q = half_up_lem a lt (rw (sym (is_less_lem q))) refl

  pub higher_behind : h < get_or highs (middle low high) 0 → AtHalf highs lows (h ∷ l ∷ []) w low (middle low high)
  unfolding bytes_order
  higher_behind q = half_down a lt (rw (sym (is_more q))) refl

  module _ (from : h ≤ get_or highs (middle low high) 0) (to : get_or highs (middle low high) 0 ≤ h) where
    same_higher : Equal ≡ order_of (get_or highs (middle low high) 0) h
    same_higher = is_same_lem (omega arith)

    pub lower_before : get_or lows (middle low high) 0 < l → AtHalf highs lows (h ∷ l ∷ []) w (middle low high + 1) high
    unfolding bytes_order
    lower_before q = half_up_lem a lt (rw (sym same_higher, sym (is_less_lem q))) refl

    pub lower_behind : l ≤ get_or lows (middle low high) 0 → AtHalf highs lows (h ∷ l ∷ []) w low (middle low high)
    unfolding bytes_order
    lower_behind q =
        half_down a lt
        (rw (sym same_higher) (split (λ (o : Ordering). false ≡ is_less (then_by o Equal)) (get_or lows (middle low high) 0) l (λ z. absurd (omega arith)) (λ z. refl) (λ z. refl)))
        refl

-- Two keys, as `<` takes them: by the higher half, or by the lower one where the higher ones are the same.
pub pair_before : (a b c d : ℕ) → partial_lt {X = ℕ × ℕ} (λ x y. partial_ordering_then (Some (nat_cmp x.0 y.0)) (Some (nat_cmp x.1 y.1))) (a, b) (c, d) ≡ is_less (bytes_order (a ∷ b ∷ []) (c ∷ d ∷ []))
unfolding bytes_order order_of
pair_before a b c d = rw then_same (go (nat_cmp a c) (nat_cmp b d))
  where
    go : (o p : Ordering) → partial_lt {X = Unit} (λ x y. partial_ordering_then (Some o) (Some p)) tt tt ≡ is_less (then_by o p)
    go Less p = refl
    go Greater p = refl
    go Equal Less = refl
    go Equal Equal = refl
    go Equal Greater = refl

-- The key at the place that halving comes to, or that it is none.
module _ (highs lows : List ℕ) (count high low : ℕ) {p top : ℕ} (is : p ≡ place_of highs lows count (high ∷ low ∷ [])) (room : top ≡ min count (min (length highs) (length lows))) where
  pub find_behind : top ≤ p → count ≡ find_in highs lows count (high ∷ low ∷ [])
  unfolding find_in
  find_behind le = rw (sym is, sym room, le-ltb p top le)

  pub find_other : (same_bytes (key_at highs lows p) (high ∷ low ∷ []) ≡ true → ⊥) → count ≡ find_in highs lows count (high ∷ low ∷ [])
  unfolding find_in
  find_other n = rw (sym is, sym room, false_unless _ n) (never (ltb p top))
    where
      never : (t : Bool) → count ≡ pick (both t false) p count
      never true = refl
      never false = refl

  pub find_here : p < top → get_or highs p 0 ≡ high → get_or lows p 0 ≡ low → p ≡ find_in highs lows count (high ∷ low ∷ [])
  unfolding find_in
  find_here lt h l = rw (sym is, sym room, lt-ltb p top lt, h, l, same_self (high ∷ low ∷ []))

  pub highs_differ : (get_or highs p 0 ≡ high → ⊥) → count ≡ find_in highs lows count (high ∷ low ∷ [])
  highs_differ n = find_other (λ e. n (ap (λ (l : List ℕ). get_or l 0 0) (are_same (key_at highs lows p) (high ∷ low ∷ []) e)))

  pub lows_differ : (get_or lows p 0 ≡ low → ⊥) → count ≡ find_in highs lows count (high ∷ low ∷ [])
  lows_differ n = find_other (λ e. n (ap (λ (l : List ℕ). get_or l 1 0) (are_same (key_at highs lows p) (high ∷ low ∷ []) e)))

  -- The same by both halves at once, as `==` takes them.
  module _ (lt : p < top) {t : Bool} (same : t ≡ (eqb (get_or highs p 0) high && eqb (get_or lows p 0) low)) where
    by_pair : pick t p count ≡ find_in highs lows count (high ∷ low ∷ [])
    unfolding find_in same_bytes
    by_pair = rw (sym is, sym room, lt-ltb p top lt) (ap (λ (b : Bool). pick b p count) (same ∙ (rw both_end (sym (both_and (eqb (get_or highs p 0) high) (eqb (get_or lows p 0) low))))))

    pub pair_here : t ≡ true → p ≡ find_in highs lows count (high ∷ low ∷ [])
    pair_here e = rw e at by_pair

    pub pair_other : t ≡ false → count ≡ find_in highs lows count (high ∷ low ∷ [])
    pair_other e = rw e at by_pair

-- Among keys that rise, the places below `low` are before the key and those from `high` on are not.
record Between (highs lows : List ℕ) (n : ℕ) (k : List ℕ) (low high : ℕ) : Type 0 where
  apart : low ≤ high
  inside : high ≤ n
  below : (i : ℕ) → i < low → bytes_order (key_at highs lows i) k ≡ Less
  rest : (i : ℕ) → high ≤ i → i < n → bytes_order (key_at highs lows i) k ≡ Less → ⊥

module _ {highs lows : List ℕ} {n : ℕ} (k : List ℕ) (s : Rising highs lows n) where
  module _ {low high : ℕ} (h : Between highs lows n k low high) (mid : ℕ) (from : low ≤ mid) (to : mid < high) where
    moved_up : bytes_order (key_at highs lows mid) k ≡ Less → Between highs lows n k (mid + 1) high
    moved_up e =
        record {
          apart = omega arith;
          inside = h.inside;
          below = λ i lt. go i lt (dec_lt i mid);
          rest = h.rest;
        }
      where
        go : (i : ℕ) → i < mid + 1 → Dec (i < mid) → bytes_order (key_at highs lows i) k ≡ Less
        go i lt (yes q) = let top = h.inside in text_before (key_at highs lows i) (key_at highs lows mid) k (s.rising i mid q (omega arith)) e
        go i lt (no q) = let is : mid ≡ i = omega arith in subst (λ (j : ℕ). bytes_order (key_at highs lows j) k ≡ Less) is e

    moved_down : (bytes_order (key_at highs lows mid) k ≡ Less → ⊥) → Between highs lows n k low mid
    moved_down e =
        record {
          apart = omega arith;
          inside = let top = h.inside in omega arith;
          below = h.below;
          rest = λ i le lt. go i le lt (dec_lt mid i);
        }
      where
        go : (i : ℕ) → mid ≤ i → i < n → Dec (mid < i) → bytes_order (key_at highs lows i) k ≡ Less → ⊥
        go i le lt (yes q) f = e (text_before (key_at highs lows mid) (key_at highs lows i) k (s.rising mid i q lt) f)
        go i le lt (no q) f = let is : i ≡ mid = omega arith in e (subst (λ (j : ℕ). bytes_order (key_at highs lows j) k ≡ Less) is f)

  comes_to : (steps low high : ℕ) → high - low ≤ steps → Between highs lows n k low high → PlaceIs highs lows n k (halved (λ (i : ℕ). is_less (bytes_order (key_at highs lows i) k)) steps low high)
  unfolding halved
  comes_to zero low high h b =
      let up = b.apart in
      let top = b.inside in
      record { inside = omega arith; below = b.below; rest = λ i ge lt. b.rest i (omega arith) lt }
  comes_to (suc steps) low high h b =
      by_test (λ (t : Bool). ltb low high ≡ t → PlaceIs highs lows n k (pick t (pick (is_less (bytes_order (key_at highs lows (middle low high)) k)) (halved (λ (i : ℕ). is_less (bytes_order (key_at highs lows i) k)) steps (middle low high + 1) high) (halved (λ (i : ℕ). is_less (bytes_order (key_at highs lows i) k)) steps low (middle low high))) low)) (ltb low high)
      (λ q e.
      let lt = ltb-true low high e in
      picked (PlaceIs highs lows n k) (is_less (bytes_order (key_at highs lows (middle low high)) k)) _ _
      (λ t. comes_to steps (middle low high + 1) high (omega arith) (moved_up b (middle low high) (omega arith) (omega arith) (is_less_says _ t)))
      (λ f. comes_to steps low (middle low high) (omega arith) (moved_down b (middle low high) (omega arith) (omega arith) (λ z. clash (ap is_less z) f))))
      (λ q e.
      let le = ltb-false low high e in
      let up = b.apart in
      let top = b.inside in
      record { inside = omega arith; below = b.below; rest = λ i ge lt. b.rest i (omega arith) lt })
      refl

  -- Among keys that rise, the place is that of the first key that is not before k.
  pub place_is : PlaceIs highs lows n k (place_of highs lows n k)
  unfolding place_of
  place_is =
      let h = s.highs_long in
      let l = s.lows_long in
      let e : min n (min (length highs) (length lows)) ≡ n = omega arith in
      rw e (comes_to n 0 n (omega arith) (record { apart = omega arith; inside = omega arith; below = λ i lt. absurd (omega arith); rest = λ i le lt. absurd (omega arith) }))

  -- So a key that stands among them is found at its place.
  pub find_at : (i : ℕ) → i < n → key_at highs lows i ≡ k → find_in highs lows n k ≡ i
  unfolding find_in
  find_at i lt e =
      let h = s.highs_long in
      let l = s.lows_long in
      let p = place_is in
      let is : place_of highs lows n k ≡ i = go (place_of highs lows n k) p (dec_lt i (place_of highs lows n k)) (dec_lt (place_of highs lows n k) i) in
      let top : min n (min (length highs) (length lows)) ≡ n = omega arith in
      rw (is, top, lt-ltb i n lt, e, same_self k)
    where
      go : (r : ℕ) → PlaceIs highs lows n k r → Dec (i < r) → Dec (r < i) → r ≡ i
      go r p (yes q) b = absurd (not_before_self k (subst (λ (z : List ℕ). bytes_order z k ≡ Less) e (p.below i q)))
      go r p (no q) (yes z) = absurd (p.rest r (omega arith) (omega arith) (subst (λ (w : List ℕ). bytes_order (key_at highs lows r) w ≡ Less) e (s.rising r i z lt)))
      go r p (no q) (no z) = omega arith

-- What is found is the key, and a key that none of them is, is not found.
module _ (highs lows : List ℕ) (n : ℕ) (k : List ℕ) where
  found_is : both (ltb (place_of highs lows n k) (min n (min (length highs) (length lows)))) (same_bytes (key_at highs lows (place_of highs lows n k)) k) ≡ true → (place_of highs lows n k < n) × (key_at highs lows (place_of highs lows n k) ≡ k)
  found_is q =
      let t = both_true (ltb (place_of highs lows n k) (min n (min (length highs) (length lows)))) _ q in
      let lt = ltb-true (place_of highs lows n k) (min n (min (length highs) (length lows))) t.0 in
      (omega arith, are_same _ k t.1)

  pub find_says : find_in highs lows n k < n → key_at highs lows (find_in highs lows n k) ≡ k
  unfolding find_in
  find_says =
      picked (λ (r : ℕ). r < n → key_at highs lows r ≡ k) _ (place_of highs lows n k) n
      (λ q lt. (found_is q).1)
      (λ q lt. absurd (omega arith))

  pub find_none : ((i : ℕ) → i < n → key_at highs lows i ≡ k → ⊥) → find_in highs lows n k ≡ n
  unfolding find_in
  find_none h =
      picked (λ (r : ℕ). r ≡ n) _ (place_of highs lows n k) n
      (λ q. absurd (h (place_of highs lows n k) (found_is q).0 (found_is q).1))
      (λ q. refl)
