-- The laws of the order of numbers.
use Rattle.std.specs.Prelude.{◌≡◌, refl, true, List, [], ◌∷◌, ℕ, ◌+◌, ◌*◌, ◌<◌, ◌≤◌, length, get_or}
use Rattle.std.proofs.Common.{sym, subst, ◌∙◌, ap, mul-le-mul_right, add-mul, one-mul, arith, lt-ltb, le-ltb, eq-eqb, ne_eqb}
use Rattle.std.proofs.Math.Decide.{dec_lt}
use Rattle.laws.specs.TruthLaws.{clash, false_unless}
use Rattle.laws.specs.Bytes.{same_bytes}
use Rattle.laws.specs.ByteLaws.{are_same, same_self, three_bytes}
use Rattle.std.specs.declared.cmp.Ordering.{Ordering}
use Rattle.std.specs.declared.cmp.Ordering.TheVariants.{Less, Equal, Greater}
use Rattle.std.specs.Ordering.{nat_cmp}
use Rattle.std.specs.Cmp.Lexicographic.{slice_cmp}
use Rattle.laws.specs.Order.{order_of, is_less, is_same, then_by, bytes_order, join}

pub is_less_lem : {m n : ℕ} → m < n → Less ≡ order_of m n
unfolding order_of
is_less_lem {m} {n} h = simp (lt-ltb m n h)

pub is_same_lem : {m n : ℕ} → m ≡ n → Equal ≡ order_of m n
unfolding order_of
is_same_lem {m} {n} h = simp (le-ltb m n (omega arith), eq-eqb m n h)

pub is_more : {m n : ℕ} → n < m → Greater ≡ order_of m n
unfolding order_of
is_more {m} {n} h = simp (le-ltb m n (omega arith), ne_eqb m n (λ (e : m ≡ n). omega arith))

-- Orders are told apart by a number for each.
abbrev rank : Ordering → ℕ
rank Less = 0
rank Equal = 1
rank Greater = 2

pub apart : {A : Type 0} {o p : Ordering} → o ≡ p → (rank o ≡ rank p → ⊥) → A
apart e h = absurd (h (ap rank e))

-- By the order of two numbers: what holds where one is less, where they are the same and where one is more, holds.
module _ (P : Ordering → Type 0) (m n : ℕ) (less : m < n → P Less) (same : m ≡ n → P Equal) (more : n < m → P Greater) where
  split_le : Dec (n < m) → (m < n → ⊥) → P (order_of m n)
  split_le (yes h) k = subst P (is_more h) (more h)
  split_le (no h) k = let e : m ≡ n = omega arith in subst P (is_same_lem e) (same e)

  split_lt : Dec (m < n) → P (order_of m n)
  split_lt (yes h) = subst P (is_less_lem h) (less h)
  split_lt (no h) = split_le (dec_lt n m) h

  pub split : P (order_of m n)
  split = split_lt (dec_lt m n)

-- And back: what the order says of the numbers.
pub less_says : (m n : ℕ) → order_of m n ≡ Less → m < n
less_says m n =
    split (λ (o : Ordering). o ≡ Less → m < n) m n (λ h e. h) (λ h e. apart e (λ q. omega arith)) (λ h e. apart e (λ q. omega arith))

pub same_says : (m n : ℕ) → order_of m n ≡ Equal → m ≡ n
same_says m n =
    split (λ (o : Ordering). o ≡ Equal → m ≡ n) m n (λ h e. apart e (λ q. omega arith)) (λ h e. h) (λ h e. apart e (λ q. omega arith))

-- An order by two keys: the same where both are, and keys after keys may be bracketed either way.
pub both_same : (o p : Ordering) → then_by o p ≡ Equal → (o ≡ Equal) × (p ≡ Equal)
both_same Less p e = apart e (λ q. omega arith)
both_same Equal p e = (refl, e)
both_same Greater p e = apart e (λ q. omega arith)

pub then_by_then : (o p q : Ordering) → then_by (then_by o p) q ≡ then_by o (then_by p q)
then_by_then Less p q = refl
then_by_then Equal p q = refl
then_by_then Greater p q = refl

pub then_same : (o : Ordering) → then_by o Equal ≡ o
then_same Less = refl
then_same Equal = refl
then_same Greater = refl

pub three_order : (x y : List ℕ) → length x ≡ 3 → length y ≡ 3 → bytes_order x y ≡ then_by (order_of (get_or x 0 0) (get_or y 0 0)) (then_by (order_of (get_or x 1 0) (get_or y 1 0)) (order_of (get_or x 2 0) (get_or y 2 0)))
unfolding bytes_order
three_order x y h k = rw (three_bytes x h, three_bytes y k) (simp then_same)

-- Texts that are the same in the order are the same.
pub same_text : (x y : List ℕ) → bytes_order x y ≡ Equal → x ≡ y
unfolding bytes_order
same_text [] [] e = refl
same_text [] (b ∷ y) e = apart e (λ q. omega arith)
same_text (a ∷ x) [] e = apart e (λ q. omega arith)
same_text (a ∷ x) (b ∷ y) e =
    let h = both_same (order_of a b) (bytes_order x y) e in
    let p = same_says a b h.0 in
    let q = same_text x y h.1 in
    λ i. p i ∷ q i

-- A text is the same as itself, and one that is more than a second leaves the second less.
pub text_self : (x : List ℕ) → bytes_order x x ≡ Equal
unfolding bytes_order
text_self [] = refl
text_self (a ∷ x) = rw (sym (is_same_lem {m = a} refl)) (text_self x)

pub turned : (x y : List ℕ) → bytes_order x y ≡ Greater → bytes_order y x ≡ Less
unfolding bytes_order
turned [] [] = λ e. apart e (λ q. omega arith)
turned [] (b ∷ y) = λ e. apart e (λ q. omega arith)
turned (a ∷ x) [] = λ e. refl
turned (a ∷ x) (b ∷ y) =
    split (λ (o : Ordering). then_by o (bytes_order x y) ≡ Greater → then_by (order_of b a) (bytes_order y x) ≡ Less) a b
    (λ lt e. apart e (λ q. omega arith))
    (λ is e. rw (sym (is_same_lem (sym is))) (turned x y e))
    (λ gt e. rw (sym (is_less_lem gt)))

-- A text before a second, which is before a third, is before the third; and none is before itself.
pub text_before : (x y z : List ℕ) → bytes_order x y ≡ Less → bytes_order y z ≡ Less → bytes_order x z ≡ Less
unfolding bytes_order
text_before x [] [] = λ e f. apart f (λ q. omega arith)
text_before x (b ∷ y) [] = λ e f. apart f (λ q. omega arith)
text_before [] y (c ∷ z) = λ e f. refl
text_before (a ∷ x) [] (c ∷ z) = λ e f. apart e (λ q. omega arith)
text_before (a ∷ x) (b ∷ y) (c ∷ z) =
    split (λ (o : Ordering). then_by o (bytes_order x y) ≡ Less → then_by (order_of b c) (bytes_order y z) ≡ Less → then_by (order_of a c) (bytes_order x z) ≡ Less) a b
    (λ lt e. split (λ (o : Ordering). then_by o (bytes_order y z) ≡ Less → then_by (order_of a c) (bytes_order x z) ≡ Less) b c
    (λ lu f. rw (sym (is_less_lem {m = a} {n = c} (omega arith))))
    (λ is f. rw (sym (is_less_lem {m = a} {n = c} (omega arith))))
    (λ gt f. apart f (λ q. omega arith)))
    (λ is e. split (λ (o : Ordering). then_by o (bytes_order y z) ≡ Less → then_by (order_of a c) (bytes_order x z) ≡ Less) b c
    (λ lu f. rw (sym (is_less_lem {m = a} {n = c} (omega arith))))
    (λ it f. rw (sym (is_same_lem {m = a} {n = c} (omega arith))) (text_before x y z e f))
    (λ gt f. apart f (λ q. omega arith)))
    (λ gt e. apart e (λ q. omega arith))

pub not_before_self : (x : List ℕ) → bytes_order x x ≡ Less → ⊥
not_before_self x e = apart (sym (text_self x) ∙ e) (λ q. omega arith)

-- By the order of two texts, as `split` is by that of two numbers.
pub split_text : (P : Ordering → Type 0) (x y : List ℕ) → (bytes_order x y ≡ Less → P Less) → (x ≡ y → P Equal) → (bytes_order y x ≡ Less → P Greater) → P (bytes_order x y)
split_text P x y less same more = go (bytes_order x y) refl
  where
    go : (o : Ordering) → bytes_order x y ≡ o → P o
    go Less e = less e
    go Equal e = same (same_text x y e)
    go Greater e = more (turned x y e)

-- Texts are the same where their order says so.
pub same_in_order : (x y : List ℕ) → is_same (bytes_order x y) ≡ same_bytes x y
same_in_order x y =
    split_text (λ (o : Ordering). is_same o ≡ same_bytes x y) x y
    (λ lt. sym (false_unless (same_bytes x y) (λ q. not_before_self y (subst (λ (z : List ℕ). bytes_order z y ≡ Less) (are_same x y q) lt))))
    (λ is. sym (rw is (same_self y)))
    (λ gt. sym (false_unless (same_bytes x y) (λ q. not_before_self y (subst (λ (z : List ℕ). bytes_order y z ≡ Less) (are_same x y q) gt))))

-- What a step of an order says to be less is so.
pub is_less_says : (o : Ordering) → is_less o ≡ true → o ≡ Less
is_less_says Less e = refl
is_less_says Equal e = absurd (clash e refl)
is_less_says Greater e = absurd (clash e refl)

higher : (base a b x y : ℕ) → x < base → a < b → join base a x < join base b y
unfolding join
higher base a b x y h k =
    let m : (a + 1) * base ≤ b * base = mul-le-mul_right base (omega arith) in
    let e : (a + 1) * base ≡ a * base + base = add-mul a 1 base ∙ ap (λ (z : ℕ). a * base + z) (one-mul base) in
    omega arith

-- The order of two joined keys is by the first, then by the second.
pub join_order : (base a b x y : ℕ) → x < base → y < base → order_of (join base a x) (join base b y) ≡ then_by (order_of a b) (order_of x y)
unfolding join
join_order base a b x y h k =
    split (λ (o : Ordering). order_of (join base a x) (join base b y) ≡ then_by o (order_of x y)) a b
    (λ lt. sym (is_less_lem (higher base a b x y h lt)))
    (λ e. rw e (split (λ (o : Ordering). order_of (b * base + x) (b * base + y) ≡ o) x y (λ lt. sym (is_less_lem (omega arith))) (λ q. sym (is_same_lem (omega arith))) (λ gt. sym (is_more (omega arith)))))
    (λ gt. sym (is_more (higher base b a y x k gt)))

-- The order of two texts is std's `cmp` of two arrays or slices of bytes.
pub as_slice_cmp : (x y : List ℕ) → bytes_order x y ≡ slice_cmp nat_cmp x y
unfolding bytes_order order_of
as_slice_cmp [] [] = refl
as_slice_cmp [] (b ∷ y) = refl
as_slice_cmp (a ∷ x) [] = refl
as_slice_cmp (a ∷ x) (b ∷ y) = ap (then_by (nat_cmp a b)) (as_slice_cmp x y)
