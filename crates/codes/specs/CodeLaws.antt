-- Laws of codes: what a test of a code says, and that a code which stands for something is three bytes.
use Rattle.std.specs.Prelude.{◌≡◌, refl, Bool, true, false, List, [], ◌∷◌, map, ℕ, ◌+◌, ◌*◌, ◌%◌, ◌<◌, eqb, ltb, length, get_or, drop}
use Rattle.std.proofs.Common.{ap, sym, ◌∙◌, subst, arith, eq-eqb, eqb-true, ne_eqb, ltb-true}
use Rattle.laws.specs.Truth.{pick, both}
use Rattle.laws.specs.TruthLaws.{both_true, within_true, clash, picked}
use Rattle.laws.specs.Text.{byte}
use Rattle.laws.specs.Bytes.{same_bytes}
use Rattle.laws.specs.ByteLaws.{are_same, same_self}
use Rattle.laws.specs.Search.{first_where, every_line}
use Rattle.laws.specs.SearchLaws.{found_has}
use Rattle.codes.specs.declared.Class.TheVariants.{StockFuture, StockOption}
use Rattle.codes.specs.declared.Product.{Product}
use Rattle.codes.specs.Codes.{listed, stock, unknown, capital, names_stock, unlisted, product_of, known}

pub named_by : (code : List ℕ) {r : Bool} → length code ≡ 3 → r ≡ both (capital (get_or code 0 0)) (capital (get_or code 1 0)) → r ≡ names_stock code
unfolding names_stock
named_by code h e = simp (eq-eqb (length code) 3 h) e

pub record ThreeBytes (code : List ℕ) : Type 0 where
  pub three : length code ≡ 3
  pub byte0 : get_or code 0 0 < 256
  pub byte1 : get_or code 1 0 < 256
  pub byte2 : get_or code 2 0 < 256

-- the same as a test
is_three : List ℕ → Bool
is_three code = both (eqb (length code) 3) (both (ltb (get_or code 0 0) 256) (both (ltb (get_or code 1 0) 256) (ltb (get_or code 2 0) 256)))

is_three_lem : (code : List ℕ) → is_three code ≡ true → ThreeBytes code
unfolding is_three
is_three_lem code e =
    let h = both_true _ _ e in
    let k = both_true _ _ h.1 in
    let l = both_true _ _ k.1 in
    record { three = eqb-true _ _ h.0; byte0 = ltb-true _ _ k.0; byte1 = ltb-true _ _ l.0; byte2 = ltb-true _ _ l.1 }

all_three : every_line (λ (p : Product). is_three p.code) listed ≡ true
unfolding every_line listed is_three
all_three = refl

stock_three : (code : List ℕ) (last : ℕ) → last < 256 → names_stock code ≡ true → eqb (get_or code 2 0) last ≡ true → ThreeBytes code
unfolding names_stock
stock_three code last h e f =
    let k = both_true _ _ e in
    let l = both_true _ _ k.1 in
    let a = within_true (byte "A") (byte "Z") (get_or code 0 0) l.0 in
    let b = within_true (byte "A") (byte "Z") (get_or code 1 0) l.1 in
    let c = eqb-true (get_or code 2 0) last f in
    record { three = eqb-true _ _ k.0; byte0 = omega arith; byte1 = omega arith; byte2 = omega arith }

unlisted_three : (code : List ℕ) → known (unlisted code).class ≡ true → ThreeBytes code
unfolding unlisted
unlisted_three code = go (names_stock code) (eqb (get_or code 2 0) (byte "F")) (eqb (get_or code 2 0) (byte "O")) refl refl refl
  where
    go : (s f o : Bool) → names_stock code ≡ s → eqb (get_or code 2 0) (byte "F") ≡ f → eqb (get_or code 2 0) (byte "O") ≡ o → known (pick s (pick f (stock StockFuture code) (pick o (stock StockOption code) (unknown code))) (unknown code)).class ≡ true → ThreeBytes code
    go true true o s f l k = stock_three code (byte "F") (omega arith) s f
    go true false true s f l k = stock_three code (byte "O") (omega arith) s l
    go true false false s f l k = absurd (clash k refl)
    go false f o s e l k = absurd (clash k refl)

-- A code that is listed or a stock's is three bytes.
pub known_three : (code : List ℕ) → known (product_of code).class ≡ true → ThreeBytes code
unfolding product_of
known_three code =
    found_has (λ (p : Product). known p.class ≡ true → ThreeBytes code) (λ (p : Product). same_bytes code p.code) (λ (p : Product). is_three p.code) (λ (p : Product). p) (unlisted code) listed all_three
    (λ p t e k. rw (are_same code p.code e) (is_three_lem p.code t))
    (unlisted_three code)

-- What a table's lines are each kept by, the line that is found is kept by; and a line that its own test rules out is not found.
found_fixed : {A : Type 0} (f : A → A) (named : A → Bool) (none : A) → f none ≡ none → (ls : List A) → map f ls ≡ ls → f (first_where named (λ (x : A). x) none ls) ≡ first_where named (λ (x : A). x) none ls
unfolding first_where
found_fixed f named none k [] e = k
found_fixed {A} f named none k (l ∷ ls) e =
    picked (λ (x : A). f x ≡ x) (named l) l (first_where named (λ (x : A). x) none ls)
    (λ q. ap (λ (m : List A). get_or m 0 l) e)
    (λ q. found_fixed f named none k ls (ap (λ (m : List A). drop 1 m) e))

none_named : {A B : Type 0} (f : A → A) (named : A → Bool) (made : A → B) (none : B) (ls : List A) → map f ls ≡ ls → ((l : A) → f l ≡ l → named l ≡ true → ⊥) → first_where named made none ls ≡ none
unfolding first_where
none_named f named made none [] e h = refl
none_named {A} {B} f named made none (l ∷ ls) e h =
    picked (λ (x : B). x ≡ none) (named l) (made l) (first_where named made none ls)
    (λ q. absurd (h l (ap (λ (m : List A). get_or m 0 l) e) q))
    (λ q. none_named f named made none ls (ap (λ (m : List A). drop 1 m) e) h)

-- Each of the sixteen stands for its own line: none hides another.
pub listed_stand : map (λ (p : Product). product_of p.code) listed ≡ listed
unfolding product_of listed first_where same_bytes
listed_stand = refl

nothing_stands : product_of (0 ∷ 0 ∷ 0 ∷ []) ≡ unknown (0 ∷ 0 ∷ 0 ∷ [])
unfolding product_of listed first_where same_bytes unlisted names_stock
nothing_stands = refl

-- The mark of a code, of its second and third byte, and the listed line of a mark.
unfoldable pub mark_of : List ℕ → ℕ
mark_of code = (get_or code 1 0 * 3 + get_or code 2 0) % 32

unfoldable pub product_marked : ℕ → Product
product_marked mark = first_where (λ (p : Product). eqb mark (mark_of p.code)) (λ (p : Product). p) (unknown (0 ∷ 0 ∷ 0 ∷ [])) listed

-- Each of the sixteen is the line of its own mark: no two have the same.
listed_marked : map (λ (p : Product). product_marked (mark_of p.code)) listed ≡ listed
unfolding product_marked mark_of listed first_where
listed_marked = refl

-- The line that is found for a mark spells a code that stands for it, or no line is found.
line_stands : (mark : ℕ) → product_of (product_marked mark).code ≡ product_marked mark
unfolding product_marked
line_stands mark = found_fixed (λ (p : Product). product_of p.code) (λ (p : Product). eqb mark (mark_of p.code)) (unknown (0 ∷ 0 ∷ 0 ∷ [])) nothing_stands listed listed_stand

-- So a code is the line of its mark where that spells it, and unlisted where it does not.
pub marked_line : (code : List ℕ) {line : Product} → line ≡ product_marked (mark_of code) → same_bytes code line.code ≡ true → line ≡ product_of code
marked_line code {line} is e = is ∙ sym (line_stands (mark_of code)) ∙ ap product_of (sym (are_same code (product_marked (mark_of code)).code (subst (λ (p : Product). same_bytes code p.code ≡ true) is e)))

pub no_marked_line : (code : List ℕ) {line : Product} → line ≡ product_marked (mark_of code) → same_bytes code line.code ≡ false → unlisted code ≡ product_of code
unfolding product_of
no_marked_line code {line} is e =
    sym (none_named (λ (p : Product). product_marked (mark_of p.code)) (λ (p : Product). same_bytes code p.code) (λ (p : Product). p) (unlisted code) listed listed_marked
    (λ p own named. clash (own_line_lem p own (are_same code p.code named)) e))
  where
    own_line_lem : (p : Product) → product_marked (mark_of p.code) ≡ p → code ≡ p.code → same_bytes code line.code ≡ true
    own_line_lem p own q = rw (is, q, own) (same_self p.code)

-- A mark that is none of theirs has no line.
pub no_mark : (mark : ℕ) → (mark ≡ 8 → ⊥) → (mark ≡ 20 → ⊥) → (mark ≡ 13 → ⊥) → (mark ≡ 15 → ⊥) → (mark ≡ 21 → ⊥) → (mark ≡ 18 → ⊥) → (mark ≡ 24 → ⊥) → (mark ≡ 27 → ⊥) → (mark ≡ 16 → ⊥) → (mark ≡ 14 → ⊥) → (mark ≡ 2 → ⊥) → (mark ≡ 28 → ⊥) → (mark ≡ 23 → ⊥) → (mark ≡ 30 → ⊥) → (mark ≡ 1 → ⊥) → (mark ≡ 4 → ⊥) → product_marked mark ≡ unknown (0 ∷ 0 ∷ 0 ∷ [])
unfolding product_marked mark_of listed first_where
no_mark mark n0 n1 n2 n3 n4 n5 n6 n7 n8 n9 n10 n11 n12 n13 n14 n15 = rw (ne_eqb mark 8 n0, ne_eqb mark 20 n1, ne_eqb mark 13 n2, ne_eqb mark 15 n3, ne_eqb mark 21 n4, ne_eqb mark 18 n5, ne_eqb mark 24 n6, ne_eqb mark 27 n7, ne_eqb mark 16 n8, ne_eqb mark 14 n9, ne_eqb mark 2 n10, ne_eqb mark 28 n11, ne_eqb mark 23 n12, ne_eqb mark 30 n13, ne_eqb mark 1 n14, ne_eqb mark 4 n15)
