-- Laws of a search among Q rows: its loop, and that among rows that rise it finds the row with the key.
use Rattle.std.specs.Prelude.{◌≡◌, Bool, List, [], ◌∷◌, take, set, replicate, Option}
use Rattle.std.proofs.Math.Path.{refl, ap, sym}
use Rattle.std.proofs.Common.{◌∙◌, add-one, subst, take_all}
use Prim.Native.Nat.{ℕ, zero, suc, ◌+◌, ◌-◌, ◌<◌, ◌≤◌, min}
use native.Mathlib.Omega.{arith}
use Rattle.std.proofs.Math.Decide.{dec_lt}
use borrow.Author.Tests.{lt-ltb, le-ltb, ltb-true, ltb-false}
use Rattle.std.proofs.Math.Dec.{ltb}
use Rattle.std.proofs.lemmas.List.{get_or_default, set_comm}
use Rattle.std.proofs.Math.ListN.{get_or, length, length-set}
use Rattle.std.proofs.Math.Seq.{get_or-set_same, get_or-set_other}
use Rattle.std.specs.Ordering.{nat_cmp, ordering_then}
use Rattle.std.specs.declared.cmp.Ordering.{Ordering}
use Rattle.std.specs.declared.cmp.Ordering.TheVariants.{Less, Equal, Greater}
use Rattle.laws.specs.Truth.{pick}
use Rattle.laws.specs.TruthLaws.{by_test}
use Rattle.laws.specs.Order.{order_of, by_order, then_by, bytes_order}
use Rattle.laws.specs.OrderLaws.{is_less_lem, is_same_lem, is_more, then_same, text_before, not_before_self, split_text}
use Rattle.halving.specs.Halving.{key_at, middle}
use Rattle.series.specs.declared.Halves.{Halves}
use Rattle.series.specs.Key.{halves_of}
use Rattle.sheets.specs.declared.PriceRow.{PriceRow}
use Rattle.sheets.specs.Rows.{found, nothing, no_price}
use Rattle.sheets.specs.Sheet.{row_key, sought_in, price_among, filled, prices_at}
use Rattle.sheets.specs.Seeking.{Search, search_from, found_at, goes_to, Seeking}

module _ (rows : List PriceRow) (k : List ℕ) where
  abbrev key_of : ℕ → List ℕ
  key_of i = row_key (get_or rows i no_price)

  -- Nothing is found where no row is left.
  nothing_left : (steps low high : ℕ) → high ≤ low → sought_in rows k steps low high ≡ nothing
  unfolding sought_in
  nothing_left zero low high h = refl
  nothing_left (suc steps) low high h = rw (le-ltb low high h)

  -- Any number of steps that is not too small finds the same.
  enough_steps : (m n low high : ℕ) → high - low ≤ m → high - low ≤ n → sought_in rows k m low high ≡ sought_in rows k n low high
  unfolding sought_in
  enough_steps zero n low high h g = sym (nothing_left n low high (omega arith))
  enough_steps (suc m) zero low high h g = nothing_left (suc m) low high (omega arith)
  enough_steps (suc m) (suc n) low high h g =
      by_test (λ (t : Bool). ltb low high ≡ t → pick t (by_order (bytes_order (key_of (middle low high)) k) (sought_in rows k m (middle low high + 1) high) (found (get_or rows (middle low high) no_price).price) (sought_in rows k m low (middle low high))) nothing ≡ pick t (by_order (bytes_order (key_of (middle low high)) k) (sought_in rows k n (middle low high + 1) high) (found (get_or rows (middle low high) no_price).price) (sought_in rows k n low (middle low high))) nothing) (ltb low high)
      (λ q e.
      let lt = ltb-true low high e in
      alike (bytes_order (key_of (middle low high)) k) (found (get_or rows (middle low high) no_price).price)
      (enough_steps m n (middle low high + 1) high (omega arith) (omega arith))
      (enough_steps m n low (middle low high) (omega arith) (omega arith)))
      (λ q e. refl)
      refl
    where
      alike : (o : Ordering) (here : Option ℕ) {up up' down down' : Option ℕ} → up ≡ up' → down ≡ down' → by_order o up here down ≡ by_order o up' here down'
      alike Less here u d = u
      alike Equal here u d = refl
      alike Greater here u d = d

  -- What a search from low to high will find, with steps enough.
  goes_on : (steps low high : ℕ) → high - low ≤ steps → sought_in rows k steps low high ≡ goes_to rows k (search_from low high)
  unfolding goes_to search_from
  goes_on steps low high h =
      by_test (λ (t : Bool). ltb low high ≡ t → sought_in rows k steps low high ≡ pick t (sought_in rows k (high - low) low high) nothing) (ltb low high)
      (λ q e. enough_steps steps (high - low) low high h (omega arith))
      (λ q e. nothing_left steps low high (ltb-false low high e))
      refl

  pub seek_starts : Seeking rows k (price_among rows k) (search_from 0 (length rows))
  unfolding price_among search_from
  seek_starts = record { inside = omega arith; halves = λ lt. refl; goes = goes_on (length rows) 0 (length rows) (omega arith) }

  at_end : (place price : ℕ) → found price ≡ goes_to rows k (found_at place price)
  unfolding goes_to found_at
  at_end place price = rw (le-ltb place place (omega arith))

  module _ {w : Option ℕ} {s : Search} (a : Seeking rows k w s) where
    -- The end: nothing is left to look at.
    pub seek_ends : s.high ≤ s.low → w ≡ s.found
    unfolding goes_to
    seek_ends le = a.goes ∙ rw (le-ltb s.low s.high le)

    module _ (lt : s.low < s.high) where
      pub seek_fits : s.middle < s.high
      seek_fits = let m = a.halves lt in omega arith

      pub seek_inside : s.middle < length rows
      seek_inside = let m = seek_fits in let h = a.inside in omega arith

      -- What it will find, by the order of the middle row's key.
      turn_is : w ≡ by_order (bytes_order (key_of s.middle) k) (sought_in rows k (s.high - s.low - 1) (s.middle + 1) s.high) (found (get_or rows s.middle no_price).price) (sought_in rows k (s.high - s.low - 1) s.low s.middle)
      unfolding goes_to sought_in
      turn_is =
          let n : s.high - s.low ≡ suc (s.high - s.low - 1) = omega arith in
          rw (a.halves lt) (rw (lt-ltb s.low s.high lt, n, lt-ltb s.low s.high lt) at a.goes)

      abbrev Narrower : Search → Type 0
      Narrower t = Seeking rows k w t × (t.high - t.low < s.high - s.low)

      on : (o : Ordering) → w ≡ by_order o (sought_in rows k (s.high - s.low - 1) (s.middle + 1) s.high) (found (get_or rows s.middle no_price).price) (sought_in rows k (s.high - s.low - 1) s.low s.middle) → Narrower (by_order o (search_from (s.middle + 1) s.high) (found_at s.middle (get_or rows s.middle no_price).price) (search_from s.low s.middle))
      unfolding search_from found_at
      on Less e = let m = a.halves lt in
          (record { inside = a.inside; halves = λ h. refl; goes = e ∙ goes_on (s.high - s.low - 1) (s.middle + 1) s.high (omega arith) }, omega arith)
      on Equal e = let m = a.halves lt in let top = a.inside in
          (record { inside = omega arith; halves = λ h. absurd (omega arith); goes = e ∙ at_end s.middle (get_or rows s.middle no_price).price }, omega arith)
      on Greater e = let m = a.halves lt in let top = a.inside in
          (record { inside = omega arith; halves = λ h. refl; goes = e ∙ goes_on (s.high - s.low - 1) s.low s.middle (omega arith) }, omega arith)

      -- A turn of the loop.
      pub seek_on : {t : Search} → t ≡ by_order (bytes_order (key_of s.middle) k) (search_from (s.middle + 1) s.high) (found_at s.middle (get_or rows s.middle no_price).price) (search_from s.low s.middle) → Seeking rows k w t × (t.high - t.low < s.high - s.low)
      seek_on {t} is = subst Narrower (sym is) (on (bytes_order (key_of s.middle) k) turn_is)

  -- A turn from low to high, by the order of the middle row's key: up, down, or its price.
  module _ {w : Option ℕ} {low high : ℕ} (a : Seeking rows k w (search_from low high)) (lt : low < high) where
    abbrev Turned : Ordering → Type 0
    Turned o = Seeking rows k w (by_order o (search_from (middle low high + 1) high) (found_at (middle low high) (get_or rows (middle low high) no_price).price) (search_from low (middle low high)))

    turned_by : Turned (bytes_order (key_of (middle low high)) k)
    unfolding search_from
    turned_by = (seek_on a lt refl).0

    pub seek_up : Less ≡ bytes_order (key_of (middle low high)) k → Seeking rows k w (search_from (middle low high + 1) high)
    seek_up e = subst Turned (sym e) turned_by

    pub seek_down : Greater ≡ bytes_order (key_of (middle low high)) k → Seeking rows k w (search_from low (middle low high))
    seek_down e = subst Turned (sym e) turned_by

    pub seek_here : (d : PriceRow) → Equal ≡ bytes_order (key_of (middle low high)) k → middle low high < length rows → found (get_or rows (middle low high) d).price ≡ w
    unfolding found_at
    seek_here d e in_rows =
        ap (λ (r : PriceRow). found r.price) (get_or_default rows (middle low high) d no_price in_rows) ∙ sym (seek_ends (subst Turned (sym e) turned_by) (omega arith))

  pub seek_none : {w : Option ℕ} {low high : ℕ} → Seeking rows k w (search_from low high) → high ≤ low → nothing ≡ w
  unfolding search_from
  seek_none a le = sym (seek_ends a le)

  -- Among rows that rise, what stands in the half that is given up is not the key.
  module _ (rises : (i j : ℕ) → i < j → j < length rows → bytes_order (key_of i) (key_of j) ≡ Less) where
    module _ (i : ℕ) (is : key_of i ≡ k) (inside : i < length rows) where
      behind : (j : ℕ) → j < length rows → bytes_order (key_of j) k ≡ Less → j < i
      behind j lt e = go (dec_lt j i) (dec_lt i j)
        where
          go : Dec (j < i) → Dec (i < j) → j < i
          go (yes q) d = q
          go (no q) (yes p) = absurd (not_before_self k (text_before k (key_of j) k (subst (λ (x : List ℕ). bytes_order x (key_of j) ≡ Less) is (rises i j p lt)) e))
          go (no q) (no p) = let same : j ≡ i = omega arith in absurd (not_before_self k (subst (λ (x : List ℕ). bytes_order x k ≡ Less) (ap key_of same ∙ is) e))

      ahead : (j : ℕ) → bytes_order k (key_of j) ≡ Less → i < j
      ahead j e = go (dec_lt i j) (dec_lt j i)
        where
          go : Dec (i < j) → Dec (j < i) → i < j
          go (yes q) d = q
          go (no q) (yes p) = absurd (not_before_self k (text_before k (key_of j) k e (subst (λ (x : List ℕ). bytes_order (key_of j) x ≡ Less) is (rises j i p inside))))
          go (no q) (no p) = let same : j ≡ i = omega arith in absurd (not_before_self k (subst (λ (x : List ℕ). bytes_order k x ≡ Less) (ap key_of same ∙ is) e))

      alone : (j : ℕ) → j < length rows → key_of j ≡ k → j ≡ i
      alone j lt e = go (dec_lt i j) (dec_lt j i)
        where
          go : Dec (i < j) → Dec (j < i) → j ≡ i
          go (yes q) d = absurd (not_before_self k (subst (λ (x : List ℕ). bytes_order k x ≡ Less) e (subst (λ (x : List ℕ). bytes_order x (key_of j) ≡ Less) is (rises i j q lt))))
          go (no q) (yes p) = absurd (not_before_self k (subst (λ (x : List ℕ). bytes_order k x ≡ Less) is (subst (λ (x : List ℕ). bytes_order x (key_of i) ≡ Less) e (rises j i p inside))))
          go (no q) (no p) = omega arith

      -- A row with the key is found.
      sought_there : (steps low high : ℕ) → low ≤ i → i < high → high ≤ length rows → high - low ≤ steps → sought_in rows k steps low high ≡ found (get_or rows i no_price).price
      unfolding sought_in
      sought_there zero low high le lt top h = absurd (omega arith)
      sought_there (suc steps) low high le lt top h =
          let some : low < high = omega arith in
          rw (lt-ltb low high some)
          (split_text (λ (o : Ordering). by_order o (sought_in rows k steps (middle low high + 1) high) (found (get_or rows (middle low high) no_price).price) (sought_in rows k steps low (middle low high)) ≡ found (get_or rows i no_price).price) (key_of (middle low high)) k
          (λ before. let up = behind (middle low high) (omega arith) before in sought_there steps (middle low high + 1) high (omega arith) lt top (omega arith))
          (λ same. ap (λ (n : ℕ). found (get_or rows n no_price).price) (alone (middle low high) (omega arith) same))
          (λ after. sought_there steps low (middle low high) le (ahead (middle low high) after) (omega arith) (omega arith)))

    -- And where no row has it, none is.
    sought_nowhere : ((i : ℕ) → i < length rows → key_of i ≡ k → ⊥) → (steps low high : ℕ) → high ≤ length rows → sought_in rows k steps low high ≡ nothing
    unfolding sought_in
    sought_nowhere none zero low high top = refl
    sought_nowhere none (suc steps) low high top =
        by_test (λ (t : Bool). ltb low high ≡ t → pick t (by_order (bytes_order (key_of (middle low high)) k) (sought_in rows k steps (middle low high + 1) high) (found (get_or rows (middle low high) no_price).price) (sought_in rows k steps low (middle low high))) nothing ≡ nothing) (ltb low high)
        (λ q e.
        let lt = ltb-true low high e in
        split_text (λ (o : Ordering). by_order o (sought_in rows k steps (middle low high + 1) high) (found (get_or rows (middle low high) no_price).price) (sought_in rows k steps low (middle low high)) ≡ nothing) (key_of (middle low high)) k
        (λ before. sought_nowhere none steps (middle low high + 1) high top)
        (λ same. absurd (none (middle low high) (omega arith) same))
        (λ after. sought_nowhere none steps low (middle low high) (omega arith)))
        (λ q e. refl)
        refl

    pub among_there : (i : ℕ) → i < length rows → key_of i ≡ k → price_among rows k ≡ found (get_or rows i no_price).price
    unfolding price_among
    among_there i lt is = sought_there i is lt (length rows) 0 (length rows) (omega arith) lt (omega arith) (omega arith)

    pub among_nowhere : ((i : ℕ) → i < length rows → key_of i ≡ k → ⊥) → price_among rows k ≡ nothing
    unfolding price_among
    among_nowhere none = sought_nowhere none (length rows) 0 (length rows) (omega arith)

-- A row's key against another: by the order of the higher halves, or where they are the same by that of the lower ones.
module _ (row : PriceRow) (key : Halves) {k : Halves} (is : k ≡ halves_of row.series) where
  by_high : (o : Ordering) → o ≡ order_of k.high key.high → bytes_order (row_key row) (key.high ∷ key.low ∷ []) ≡ then_by o (then_by (order_of k.low key.low) Equal)
  unfolding bytes_order
  by_high o e = rw (e, is)

  by_low : key.high ≤ k.high → k.high ≤ key.high → (o : Ordering) → o ≡ order_of k.low key.low → bytes_order (row_key row) (key.high ∷ key.low ∷ []) ≡ then_by o Equal
  by_low x y o e = by_high Equal (is_same_lem (omega arith)) ∙ rw (sym e)

  -- The order of a row's halves and the key's, as pairs.
  pub pair_order : {o : Ordering} → o ≡ ordering_then (nat_cmp k.high key.high) (nat_cmp k.low key.low) → o ≡ bytes_order (row_key row) (key.high ∷ key.low ∷ [])
  unfolding order_of
  pair_order e = e ∙ sym (by_high (order_of k.high key.high) refl ∙ ap (then_by (order_of k.high key.high)) (then_same _))

  -- The search goes up, ends or goes down.
  module _ (up here down : Search) {t : Search} where
    pub high_less : k.high < key.high → t ≡ up → t ≡ by_order (bytes_order (row_key row) (key.high ∷ key.low ∷ [])) up here down
    high_less h e = e ∙ rw (by_high Less (is_less_lem h))

    pub high_more : key.high < k.high → t ≡ down → t ≡ by_order (bytes_order (row_key row) (key.high ∷ key.low ∷ [])) up here down
    high_more h e = e ∙ rw (by_high Greater (is_more h))

    module _ (not-less : key.high ≤ k.high) (not_more : k.high ≤ key.high) where
      pub low_less : k.low < key.low → t ≡ up → t ≡ by_order (bytes_order (row_key row) (key.high ∷ key.low ∷ [])) up here down
      low_less h e = e ∙ rw (by_low not-less not_more Less (is_less_lem h))

      pub low_more : key.low < k.low → t ≡ down → t ≡ by_order (bytes_order (row_key row) (key.high ∷ key.low ∷ [])) up here down
      low_more h e = e ∙ rw (by_low not-less not_more Greater (is_more h))

      pub low_same : key.low ≤ k.low → k.low ≤ key.low → t ≡ here → t ≡ by_order (bytes_order (row_key row) (key.high ∷ key.low ∷ [])) up here down
      low_same x y e = e ∙ rw (by_low not-less not_more Equal (is_same_lem (omega arith)))

-- So it is of a row that is there, whatever stands for one that is not.
pub pair_at : (rows : List PriceRow) (key : Halves) (i : ℕ) (d : PriceRow) {k : Halves} {o : Ordering} → k ≡ halves_of (get_or rows i d).series → o ≡ ordering_then (nat_cmp k.high key.high) (nat_cmp k.low key.low) → i < length rows → o ≡ bytes_order (row_key (get_or rows i no_price)) (key.high ∷ key.low ∷ [])
pair_at rows key i d is e lt =
    pair_order (get_or rows i d) key is e ∙ ap (λ (r : PriceRow). bytes_order (row_key r) (key.high ∷ key.low ∷ [])) (get_or_default rows i d no_price lt)

-- Places that are filled, from the last to the first.
pub filled_done : {A : Type 0} (says : ℕ → A) {i : ℕ} (l : List A) → i ≡ 0 → filled says i l ≡ l
unfolding filled
filled_done says l is = rw is

pub filled_on : {A : Type 0} (says : ℕ → A) {i : ℕ} (l : List A) (x : A) → 0 < i → x ≡ says (i - 1) → filled says i l ≡ filled says (i - 1) (set l (i - 1) x)
unfolding filled
filled_on says {i} l x lt is = let e : i ≡ suc (i - 1) = omega arith in ap (λ (n : ℕ). filled says n l) e ∙ rw is

-- And from the first to the last.
filled_set : {A : Type 0} (says : ℕ → A) (n : ℕ) (l : List A) (m : ℕ) (x : A) → n ≤ m → filled says n (set l m x) ≡ set (filled says n l) m x
unfolding filled
filled_set says zero l m x h = refl
filled_set says (suc n) l m x h =
    ap (filled says n) (set_comm l m n x (says n) (λ e. omega arith)) ∙ filled_set says n (set l n (says n)) m x (omega arith)

pub filled_next : {A : Type 0} (says : ℕ → A) (n : ℕ) (l : List A) {all : List A} {x : A} → all ≡ filled says n l → x ≡ says n → set all n x ≡ filled says (n + 1) l
unfolding filled
filled_next says n l is e = rw (is, e, add-one) (sym (filled_set says n l n (says n) (omega arith)))

module _ {A : Type 0} (says : ℕ → A) (d : A) where
  kept_behind : (n : ℕ) (l : List A) (i : ℕ) → n ≤ i → get_or (filled says n l) i d ≡ get_or l i d
  unfolding filled
  kept_behind zero l i h = refl
  kept_behind (suc n) l i h = kept_behind n (set l n (says n)) i (omega arith) ∙ get_or-set_other l n i (says n) d (λ e. omega arith)

  pub filled_says : (n : ℕ) (l : List A) (i : ℕ) → n ≤ length l → i < n → get_or (filled says n l) i d ≡ says i
  unfolding filled
  filled_says zero l i h lt = absurd (omega arith)
  filled_says (suc n) l i h lt = go (dec_lt i n) (filled_says n (set l n (says n)))
    where
      go : Dec (i < n) → ((j : ℕ) → n ≤ length (set l n (says n)) → j < n → get_or (filled says n (set l n (says n))) j d ≡ says j) → get_or (filled says n (set l n (says n))) i d ≡ says i
      go (yes q) before = before i (simp length-set (omega arith)) q
      go (no q) before =
          let e : i ≡ n = omega arith in
          rw e (kept_behind n (set l n (says n)) n (omega arith) ∙ get_or-set_same l n (says n) d (omega arith))

-- Of 1,024 rows no more can be asked for.
pub as_many : (rows : List PriceRow) (count : ℕ) (highs lows : List ℕ) (held : ℕ) {n m : ℕ} → length rows ≡ 1024 → n ≡ min count 1024 → m ≡ min held 128 → filled (λ (i : ℕ). price_among (take n rows) (key_at highs lows i)) m (replicate 128 nothing) ≡ prices_at rows count highs lows held
unfolding prices_at
as_many rows count highs lows held {n} {m} long is few = rw (is, few) (ap (λ (l : List PriceRow). filled (λ (i : ℕ). price_among l (key_at highs lows i)) (min held 128) (replicate 128 nothing)) (go (dec_lt count 1024)))
  where
    go : Dec (count < 1024) → take (min count 1024) rows ≡ take count rows
    go (yes lt) = let e : min count 1024 ≡ count = omega arith in rw e
    go (no ge) = let e : min count 1024 ≡ 1024 = omega arith in rw e (take_all 1024 rows (omega arith) ∙ sym (take_all count rows (omega arith)))
