-- Laws of sums over rows by their place: the loop that sums until a needed line is missing, and the same over the list of the rows.
use Rattle.std.specs.Prelude.{◌≡◌, Bool, get_or, length}
use Rattle.std.proofs.Math.Path.{refl, sym, ap}
use Rattle.std.proofs.Common.{◌∙◌, add-one}
use Rattle.std.proofs.Math.Bool.{true, false}
use mathlib.Core.List.{List, [], ◌∷◌}
use Prim.Native.Nat.{ℕ, zero, suc, ◌+◌, ◌*◌, ◌<◌}
use native.Mathlib.Omega.{arith}
use Rattle.std.proofs.Math.Decide.{dec_lt}
use Rattle.laws.specs.Truth.{both}
use Rattle.laws.specs.TruthLaws.{both_hold, both_end, both_first}
use Rattle.laws.specs.Search.{every_line}
use Rattle.lists.specs.Sorted.{sum_of}
use Rattle.levels.specs.declared.Levels.{Levels}
use Rattle.levels.specs.Levels.{flat}
use Rattle.levels.specs.Ranges.{AtMost}
use Rattle.account.specs.Margin.{plus, sum_levels}
use Rattle.account.specs.Walk.{all_below, sum_below, part_of, row_limit}

-- The loop has come to row i: all before pass, and the sum is theirs.
pub record Summing (test : ℕ → Bool) (amount : ℕ → Levels) (i : ℕ) (sum : Levels) : Type 0 where
  pub all : all_below test i ≡ true
  pub is : sum ≡ sum_below amount i
  pub most : AtMost (i * row_limit) sum

module _ (test : ℕ → Bool) where
  -- One row that fails is enough.
  pub one_fails : (i n : ℕ) → i < n → test i ≡ false → all_below test n ≡ false
  unfolding all_below
  one_fails i zero lt e = absurd (omega arith)
  one_fails i (suc n) lt e = go (dec_lt i n) (λ q. one_fails i n q e) (all_below test n) refl
    where
      go : Dec (i < n) → (i < n → all_below test n ≡ false) → (b : Bool) → all_below test n ≡ b → both (all_below test n) (test n) ≡ false
      go (yes q) h b f = rw (h q)
      go (no q) h true f = let is : i ≡ n = omega arith in rw f (ap test (sym is) ∙ e)
      go (no q) h false f = rw f

  pub summing_fails : (i n : ℕ) (l m : Levels) → i < n → test i ≡ false → part_of false l ≡ part_of (all_below test n) m
  unfolding part_of
  summing_fails i n l m lt e = rw (one_fails i n lt e)

module _ (test : ℕ → Bool) (amount : ℕ → Levels) where
  pub summing_starts : Summing test amount 0 (flat 0)
  unfolding all_below sum_below
  summing_starts =
      record { all = refl; is = refl; most = record { at_clearing = omega arith; at_maintenance = omega arith; at_initial = omega arith } }

  module _ {i : ℕ} {sum : Levels} (s : Summing test amount i sum) where
    pub summing_next : {more : Levels} → test i ≡ true → more ≡ amount i → AtMost row_limit (amount i) → Summing test amount (i + 1) (plus sum more)
    unfolding all_below sum_below
    summing_next {more} e m most =
        record {
          all = rw (add-one i) (both_hold s.all e);
          is = rw (add-one i, sym s.is, m) refl;
          most =
              rw m
              (record {
                at_clearing = omega (arith, s.most.at_clearing, most.at_clearing);
                at_maintenance = omega (arith, s.most.at_maintenance, most.at_maintenance);
                at_initial = omega (arith, s.most.at_initial, most.at_initial);
              });
        }

    pub summing_ends : {n : ℕ} → i ≡ n → record { ready = true; levels = sum } ≡ part_of (all_below test n) (sum_below amount n)
    unfolding part_of
    summing_ends e = rw (sym e, s.all, sym s.is) refl

-- What is the same at each place is the same of all.
pub all_same : (f g : ℕ → Bool) (n : ℕ) → ((i : ℕ) → i < n → f i ≡ g i) → all_below f n ≡ all_below g n
unfolding all_below
all_same f g zero h = refl
all_same f g (suc n) h = rw (all_same f g n (λ i lt. h i (omega arith)), h n (omega arith))

pub sum_same : (f g : ℕ → Levels) (n : ℕ) → ((i : ℕ) → i < n → f i ≡ g i) → sum_below f n ≡ sum_below g n
unfolding sum_below
sum_same f g zero h = refl
sum_same f g (suc n) h = rw (sum_same f g n (λ i lt. h i (omega arith)), h n (omega arith))

-- A sum of rows within their limit.
pub sum_most : (f : ℕ → Levels) (n : ℕ) → ((i : ℕ) → i < n → AtMost row_limit (f i)) → AtMost (n * row_limit) (sum_below f n)
unfolding sum_below
sum_most f zero h = record { at_clearing = omega arith; at_maintenance = omega arith; at_initial = omega arith }
sum_most f (suc n) h =
    let s = sum_most f n (λ i lt. h i (omega arith)) in
    let t = h n (omega arith) in
    record {
      at_clearing = omega (arith, s.at_clearing, t.at_clearing);
      at_maintenance = omega (arith, s.at_maintenance, t.at_maintenance);
      at_initial = omega (arith, s.at_initial, t.at_initial);
    }

-- By place from the first row on, and so over a list.
all_first : (f : ℕ → Bool) (n : ℕ) → all_below f (suc n) ≡ both (f 0) (all_below (λ (i : ℕ). f (suc i)) n)
unfolding all_below
all_first f zero = sym (both_end (f 0))
all_first f (suc n) = rw (all_first f n) (sym (both_first (f 0) (all_below (λ (i : ℕ). f (suc i)) n) (f (suc n))))

module _ {A : Type 0} (d : A) where
  pub every_below : (test : A → Bool) (l : List A) → all_below (λ (i : ℕ). test (get_or l i d)) (length l) ≡ every_line test l
  unfolding all_below every_line
  every_below test [] = refl
  every_below test (x ∷ l) = all_first (λ (i : ℕ). test (get_or (x ∷ l) i d)) (length l) ∙ rw (every_below test l)

  -- of one level,
  unfoldable sum_at : (ℕ → ℕ) → ℕ → ℕ
  sum_at f zero = 0
  sum_at f (suc n) = sum_at f n + f n

  sum_first : (f : ℕ → ℕ) (n : ℕ) → sum_at f (suc n) ≡ f 0 + sum_at (λ (i : ℕ). f (suc i)) n
  unfolding sum_at
  sum_first f zero = omega arith
  sum_first f (suc n) = omega (arith, sum_first f n)

  sum_of_lem : (f : A → ℕ) (l : List A) → sum_at (λ (i : ℕ). f (get_or l i d)) (length l) ≡ sum_of f l
  unfolding sum_of sum_at
  sum_of_lem f [] = refl
  sum_of_lem f (x ∷ l) = sum_first (λ (i : ℕ). f (get_or (x ∷ l) i d)) (length l) ∙ ap (λ (n : ℕ). f x + n) (sum_of_lem f l)

  -- and of all three
  sum_levels_lem : (f : ℕ → Levels) (n : ℕ) → sum_below f n ≡ record { clearing = sum_at (λ (i : ℕ). (f i).clearing) n; maintenance = sum_at (λ (i : ℕ). (f i).maintenance) n; initial = sum_at (λ (i : ℕ). (f i).initial) n }
  unfolding sum_below sum_at
  sum_levels_lem f zero = refl
  sum_levels_lem f (suc n) = rw (sum_levels_lem f n)

  pub sum_below_lem : (f : A → Levels) (l : List A) → sum_below (λ (i : ℕ). f (get_or l i d)) (length l) ≡ sum_levels f l
  unfolding sum_levels
  sum_below_lem f l =
      sum_levels_lem (λ (i : ℕ). f (get_or l i d)) (length l)
      ∙ (λ i. record { clearing = sum_of_lem (λ (x : A). (f x).clearing) l i; maintenance = sum_of_lem (λ (x : A). (f x).maintenance) l i; initial = sum_of_lem (λ (x : A). (f x).initial) l i })
