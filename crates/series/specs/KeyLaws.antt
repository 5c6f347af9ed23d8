-- Laws of the order of series: it is by parts as the paper has it, total, and the same only for one series.
use Rattle.std.specs.Prelude.{◌≡◌, refl, ◌⊎◌, true, List, [], ◌∷◌, ℕ, ◌<◌, ◌≤◌, ◌^◌, get_or}
use Rattle.std.proofs.Common.{sym, ◌∙◌, ap, inl, inr, arith}
use Rattle.std.specs.declared.cmp.Ordering.{Ordering}
use Rattle.std.specs.declared.cmp.Ordering.TheVariants.{Less, Equal}
use Rattle.laws.specs.TruthLaws.{both_true, within_true}
use Rattle.laws.specs.Order.{order_of, then_by, bytes_order, join}
use Rattle.laws.specs.OrderLaws.{join_order, both_same, then_by_then, then_same, same_text, is_less_lem, less_says, same_says, split, three_order}
use Rattle.series.specs.declared.Series.{Series}
use Rattle.codes.specs.declared.Class.{Class}
use Rattle.series.specs.declared.Nature.{Nature}
use Rattle.series.specs.declared.Nature.TheVariants.{Future, Call, Put}
use Rattle.codes.specs.Codes.{is_option_class}
use Rattle.codes.specs.CodeLaws.{ThreeBytes, known_three}
use Rattle.series.specs.Checks.{suits, strike_fits, class_of, good_series}
use Rattle.series.specs.CheckLaws.{series_parts, series_date}
use Rattle.series.specs.Natures.{letter_of, strike_of}
use Rattle.series.specs.Key.{parts_order, code_key, nature_key, high_key, key, series_order}

-- First by code and date, then by nature and strike.
pub by_halves : (a b : Series) {r : Ordering} → nature_key a.nature < 2 ^ 40 → nature_key b.nature < 2 ^ 40 → r ≡ then_by (order_of (high_key a) (high_key b)) (order_of (nature_key a.nature) (nature_key b.nature)) → r ≡ series_order a b
unfolding series_order key
by_halves a b h k e = e ∙ sym (join_order (2 ^ 40) (high_key a) (high_key b) (nature_key a.nature) (nature_key b.nature) h k)

-- what a series that passes its checks has: each digit of its key is below its base
pub record Fits (s : Series) : Type 0 where
  pub code : ThreeBytes s.code
  pub date : s.date < 2 ^ 32
  pub strike : strike_of s.nature < 2 ^ 32

pub suited_strike : (c : Class) (n : Nature) → suits c n ≡ true → strike_of n ≤ 100000000
suited_strike c Future e = omega arith
suited_strike c (Call k) e = (within_true 1 100000000 k (both_true (is_option_class c) (strike_fits k) e).1).1
suited_strike c (Put k) e = (within_true 1 100000000 k (both_true (is_option_class c) (strike_fits k) e).1).1

pub good_fits : (s : Series) → good_series s ≡ true → Fits s
unfolding class_of
good_fits s e =
    let h = series_parts s e in
    let d = series_date s e in
    let p = suited_strike (class_of s) s.nature h.2 in
    record { code = known_three s.code h.0; date = omega arith; strike = omega arith }

letter_fits : (n : Nature) → letter_of n < 256
letter_fits Future = omega arith
letter_fits (Call k) = omega arith
letter_fits (Put k) = omega arith

pub nature_fits : (n : Nature) → strike_of n < 2 ^ 32 → nature_key n < 2 ^ 40
unfolding nature_key join
nature_fits n h = omega (arith, letter_fits n)

code_order : (x y : List ℕ) → ThreeBytes x → ThreeBytes y → order_of (code_key x) (code_key y) ≡ bytes_order x y
unfolding code_key
code_order x y f g =
    rw (three_order x y f.three g.three, join_order 256 _ _ (get_or x 2 0) (get_or y 2 0) f.byte2 g.byte2, join_order 256 (get_or x 0 0) (get_or y 0 0) (get_or x 1 0) (get_or y 1 0) f.byte1 g.byte1)
    (simp then_by_then)

high_order : (a b : Series) → Fits a → Fits b → order_of (high_key a) (high_key b) ≡ then_by (bytes_order a.code b.code) (order_of a.date b.date)
unfolding high_key
high_order a b f g = rw (join_order (2 ^ 32) _ _ a.date b.date f.date g.date, code_order a.code b.code f.code g.code)

low_order : (m n : Nature) → strike_of m < 2 ^ 32 → strike_of n < 2 ^ 32 → order_of (nature_key m) (nature_key n) ≡ then_by (order_of (letter_of m) (letter_of n)) (order_of (strike_of m) (strike_of n))
unfolding nature_key
low_order m n h k = join_order (2 ^ 32) (letter_of m) (letter_of n) (strike_of m) (strike_of n) h k

-- The order of series is the paper's.
pub by_parts : (a b : Series) → Fits a → Fits b → series_order a b ≡ parts_order a b
unfolding parts_order
by_parts a b f g =
    sym (by_halves a b (nature_fits a.nature f.strike) (nature_fits b.nature g.strike) refl)
    ∙ rw (high_order a b f g, low_order a.nature b.nature f.strike g.strike) (simp then_by_then)

same_nature_lem : (m n : Nature) → letter_of m ≡ letter_of n → strike_of m ≡ strike_of n → m ≡ n
same_nature_lem Future Future e f = refl
same_nature_lem Future (Call l) e f = absurd (omega arith)
same_nature_lem Future (Put l) e f = absurd (omega arith)
same_nature_lem (Call k) Future e f = absurd (omega arith)
same_nature_lem (Call k) (Call l) e f = ap Call f
same_nature_lem (Call k) (Put l) e f = absurd (omega arith)
same_nature_lem (Put k) Future e f = absurd (omega arith)
same_nature_lem (Put k) (Call l) e f = absurd (omega arith)
same_nature_lem (Put k) (Put l) e f = ap Put f

-- And it is that of the two halves of their keys.
pub halves_order : (a b : Series) → good_series a ≡ true → good_series b ≡ true → bytes_order (high_key a ∷ nature_key a.nature ∷ []) (high_key b ∷ nature_key b.nature ∷ []) ≡ series_order a b
unfolding bytes_order
halves_order a b ga gb =
    ap (then_by (order_of (high_key a) (high_key b))) (then_same _) ∙ by_halves a b (nature_fits a.nature (good_fits a ga).strike) (nature_fits b.nature (good_fits b gb).strike) refl

-- Only one series is the same in the order as a series whose parts are in their ranges: itself; so it is with those that pass the checks.
pub same_fitting : (a b : Series) → Fits a → Fits b → series_order a b ≡ Equal → a ≡ b
unfolding parts_order
same_fitting a b fa fb e =
    let h = both_same _ _ (sym (by_parts a b fa fb) ∙ e) in
    let k = both_same _ _ h.1 in
    let l = both_same _ _ k.1 in
    let c = same_text a.code b.code h.0 in
    let d = same_says a.date b.date k.0 in
    let n = same_nature_lem a.nature b.nature (same_says _ _ l.0) (same_says _ _ l.1) in
    λ i. record { code = c i; date = d i; nature = n i }

pub same_series_lem : (a b : Series) → good_series a ≡ true → good_series b ≡ true → series_order a b ≡ Equal → a ≡ b
same_series_lem a b ga gb e = same_fitting a b (good_fits a ga) (good_fits b gb) e

-- Of two series that pass the checks one is before the other, or they are one.
pub total : (a b : Series) → good_series a ≡ true → good_series b ≡ true → (series_order a b ≡ Less) ⊎ (a ≡ b) ⊎ (series_order b a ≡ Less)
unfolding series_order
total a b ga gb =
    split (λ (o : Ordering). series_order a b ≡ o → (series_order a b ≡ Less) ⊎ (a ≡ b) ⊎ (series_order b a ≡ Less)) (key a) (key b)
    (λ h e. inl e)
    (λ h e. inr (inl (same_series_lem a b ga gb e)))
    (λ h e. inr (inr (sym (is_less_lem h))))
    refl

-- A series before a second, which is before a third, is before the third; and none is before itself.
pub before_before : (a b c : Series) → series_order a b ≡ Less → series_order b c ≡ Less → series_order a c ≡ Less
unfolding series_order
before_before a b c e f = let h = less_says (key a) (key b) e in let k = less_says (key b) (key c) f in sym (is_less_lem (omega arith))

pub not_before_itself : (a : Series) → series_order a a ≡ Less → ⊥
unfolding series_order
not_before_itself a e = let h = less_says (key a) (key a) e in omega arith
