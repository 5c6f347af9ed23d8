-- Laws of laying texts over a buffer: one behind the other, forward by bytes, and digits from the last to the first.
use Rattle.std.specs.Prelude.{◌≡◌, refl, List, [], ◌∷◌, ◌++◌, ℕ, zero, suc, ◌+◌, ◌-◌, ◌/◌, ◌≤◌, ◌<◌, min, length, get_or, set, take, drop}
use Rattle.std.proofs.Math.Path.{sym}
use Rattle.std.proofs.Common.{◌∙◌, ap, add-zero, add-one, length-append, drop_of_length-le, drop-cons, take_all}
use Rattle.std.proofs.Math.Nat.{add-suc}
use Rattle.std.proofs.Math.Decide.{dec_lt}
use native.Mathlib.Omega.{arith}
use Rattle.std.proofs.Math.ListN.{length-set, length-drop}
use borrow.Rule.Slice.PartMut.{put_mid}
use Rattle.std.proofs.Math.Seq.{set_out}
use Rattle.std.proofs.lemmas.List.{set_comm}
use Rattle.digits.specs.Digits.{digit, fixed_before, fixed, width_of, numerals}
use Rattle.digits.specs.FigureLaws.{length_fixed, fixed_last}
use Rattle.put.specs.Put.{laid, end_of}

-- A buffer keeps its length.
pub length_laid : (d : List ℕ) (at : ℕ) (p : List ℕ) → length (laid d at p) ≡ length d
unfolding laid
length_laid d at [] = refl
length_laid d at (b ∷ p) = length_laid (set d at b) (suc at) p ∙ length-set d at b

-- Behind the end nothing is laid.
pub laid_behind : (d : List ℕ) (at : ℕ) (p : List ℕ) → length d ≤ at → laid d at p ≡ d
unfolding laid
laid_behind d at [] h = refl
laid_behind d at (b ∷ p) h = rw (set_out d at b h) (laid_behind d (suc at) p (omega arith))

laid_append : (d : List ℕ) (at : ℕ) (p q : List ℕ) → laid (laid d at p) (at + length p) q ≡ laid d at (p ++ q)
unfolding laid
laid_append d at [] q = rw (add-zero at)
laid_append d at (b ∷ p) q = let e : at + length (b ∷ p) ≡ suc at + length p = omega arith in rw e (laid_append (set d at b) (suc at) p q)

laid_cut : (d : List ℕ) (n : ℕ) (q : List ℕ) → laid d (min (length d) n) q ≡ laid d n q
laid_cut d n q = go (dec_lt (length d) n)
  where
    go : Dec (length d < n) → laid d (min (length d) n) q ≡ laid d n q
    go (yes h) = laid_behind d (min (length d) n) q (omega arith) ∙ sym (laid_behind d n q (omega arith))
    go (no h) = let e : min (length d) n ≡ n = omega arith in rw e

-- A text behind another is the two as one text.
pub laid_then : (d : List ℕ) (at : ℕ) (p q : List ℕ) → laid (laid d at p) (end_of d at p) q ≡ laid d at (p ++ q)
unfolding end_of
laid_then d at p q =
    let cut : laid (laid d at p) (min (length (laid d at p)) (at + length p)) q ≡ laid (laid d at p) (at + length p) q = laid_cut (laid d at p) (at + length p) q in
    (rw (length_laid d at p) at cut) ∙ laid_append d at p q

pub end_then : (d : List ℕ) (at : ℕ) (p q : List ℕ) → end_of (laid d at p) (end_of d at p) q ≡ end_of d at (p ++ q)
unfolding end_of
end_then d at p q = rw (length_laid d at p, length-append p q) (omega arith)

-- p was laid over d from at on: e is the buffer behind it, r the place behind p.
pub record Put (d : List ℕ) (at : ℕ) (p e : List ℕ) (r : ℕ) : Type 0 where
  pub ends : r ≡ end_of d at p
  pub holds : e ≡ laid d at p

pub put_is : {d p e : List ℕ} {at r : ℕ} → (r ≡ end_of d at p) × (e ≡ laid d at p) → Put d at p e r
put_is h = record { ends = h.0; holds = h.1 }

pub put_says : {d p e : List ℕ} {at r : ℕ} → Put d at p e r → (r ≡ end_of d at p) × (e ≡ laid d at p)
put_says h = (h.ends, h.holds)

pub put_none : (d : List ℕ) (at : ℕ) → at ≤ length d → Put d at [] d at
unfolding laid end_of
put_none d at h = record { ends = omega arith; holds = refl }

pub put_then : {d p e q f : List ℕ} {at r u : ℕ} → Put d at p e r → Put e r q f u → Put d at (p ++ q) f u
put_then {d} {p} {e} {q} {f} {at} {r} {u} a b =
    record { ends = b.ends ∙ rw (a.ends, a.holds) (end_then d at p q); holds = b.holds ∙ rw (a.ends, a.holds) (laid_then d at p q) }

laid_in : (x : ℕ) (d : List ℕ) (at : ℕ) (p : List ℕ) → laid (x ∷ d) (suc at) p ≡ x ∷ laid d at p
unfolding laid
laid_in x d at [] = refl
laid_in x d at (b ∷ p) = laid_in x (set d at b) (suc at) p

-- A text that fits, laid from the start on, stands in front of the bytes that were there.
pub laid_start : (d p : List ℕ) → length p ≤ length d → laid d 0 p ≡ p ++ drop (length p) d
unfolding laid
laid_start d [] h = refl
laid_start [] (b ∷ p) h = absurd (omega arith)
laid_start (x ∷ d) (b ∷ p) h = laid_in b d 0 p ∙ ap (λ (l : List ℕ). b ∷ l) (laid_start d p (omega arith))

-- A place behind the end: nothing is laid, and the place is the end.
pub put_behind : (d : List ℕ) (at : ℕ) (p : List ℕ) → length d ≤ at → Put d at p d (length d)
unfolding end_of
put_behind d at p h = record { ends = omega arith; holds = sym (laid_behind d at p h) }

-- One byte.
pub byte_laid : (d : List ℕ) (at b : ℕ) → at < length d → Put d at (b ∷ []) (set d at b) (at + 1)
unfolding end_of laid
byte_laid d at b h = record { ends = omega arith; holds = refl }

-- Bytes: laying p over d from at on has come to byte i, and e is the buffer.
pub record Laying (d : List ℕ) (at : ℕ) (p e : List ℕ) (i : ℕ) : Type 0 where
  pub low : i ≤ length p
  pub fits : at + i ≤ length d
  pub same : length e ≡ length d
  pub goes : laid e (at + i) (drop i p) ≡ laid d at p

pub laying_starts : (d : List ℕ) (at : ℕ) (p : List ℕ) → at ≤ length d → Laying d at p d 0
laying_starts d at p h = record { low = omega arith; fits = omega arith; same = refl; goes = rw (add-zero at) }

module _ {d p e : List ℕ} {at i : ℕ} (g : Laying d at p e i) where
  pub lays_on : i < length p → i < length d - at → Laying d at p (set e (at + i) (get_or p i 0)) (i + 1)
  unfolding laid
  lays_on h k =
      record { low = omega arith; fits = omega arith; same = length-set e (at + i) (get_or p i 0) ∙ g.same; goes = rw (add-one i, add-suc at i) (rw (drop-cons p i 0 h) at g.goes) }

  pub lays_full : length d - at ≤ i → Put d at p e (length e)
  unfolding end_of
  lays_full h = record { ends = omega (arith, g.low, g.fits, g.same); holds = sym (laid_behind e (at + i) (drop i p) (omega (arith, g.same))) ∙ g.goes }

  pub lays_out : length p ≤ i → Put d at p e (at + i)
  unfolding laid end_of
  lays_out h = record { ends = omega (arith, g.low, g.fits); holds = rw (drop_of_length-le p h) at g.goes }

-- The same by a copy: what stands before the place, as much of p as there is room for, and what stands behind it.
laid_over : (d p : List ℕ) → laid d 0 p ≡ take (length d) p ++ drop (length p) d
unfolding laid
laid_over [] [] = refl
laid_over (x ∷ d) [] = refl
laid_over [] (b ∷ p) = laid_behind [] 0 (b ∷ p) (omega arith)
laid_over (x ∷ d) (b ∷ p) = laid_in b d 0 p ∙ ap (λ (l : List ℕ). b ∷ l) (laid_over d p)

laid_from : (d : List ℕ) (at : ℕ) (p : List ℕ) → at ≤ length d → laid d at p ≡ take at d ++ laid (drop at d) 0 p
unfolding laid
laid_from d zero p h = refl
laid_from [] (suc at) p h = absurd (omega arith)
laid_from (x ∷ d) (suc at) p h = laid_in x d at p ∙ ap (λ (l : List ℕ). x ∷ l) (laid_from d at p (omega arith))

pub copied : (d : List ℕ) (at : ℕ) (p q : List ℕ) {start count k : ℕ} → start ≡ min at (length d) → count ≡ min (length p) (length d - start) → k ≡ count → q ≡ take count p → Put d at p (put_mid start k d q) (start + count)
unfolding end_of
copied d at p q {start} {count} {k} s c e h =
    let cut : laid d start p ≡ laid d at p = laid_start_at (dec_lt (length d) at) in
    record { ends = omega arith; holds = rw (h, e) (part (dec_lt (length p) (length d - start)) ∙ cut) }
  where
    laid_start_at : Dec (length d < at) → laid d start p ≡ laid d at p
    laid_start_at (yes g) = laid_behind d start p (omega arith) ∙ sym (laid_behind d at p (omega arith))
    laid_start_at (no g) = let z : start ≡ at = omega arith in rw z

    whole : laid d start p ≡ take start d ++ (take (length d - start) p ++ drop (length p) (drop start d))
    whole = laid_from d start p (omega arith) ∙ ap (λ (l : List ℕ). take start d ++ l) (laid_over (drop start d) p ∙ rw (length-drop start d))

    part : Dec (length p < length d - start) → take start d ++ (take count p ++ drop count (drop start d)) ≡ laid d start p
    part (yes g) =
        let z : count ≡ length p = omega arith in
        sym (whole ∙ rw (z, take_all (length p) p (omega arith), take_all (length d - start) p (omega arith)))
    part (no g) =
        let z : count ≡ length d - start = omega arith in
        let l = length-drop start d in
        let none : drop (length p) (drop start d) ≡ [] = drop_of_length-le (drop start d) (omega arith) in
        let end : drop (length d - start) (drop start d) ≡ [] = drop_of_length-le (drop start d) (omega arith) in
        sym (whole ∙ rw (z, none, end))

-- Digits: laying the last w digits of n over d from at on, the last first, has come to digit i, what is left of n is m, and e is the buffer.
pub record Falling (d : List ℕ) (at w n : ℕ) (e : List ℕ) (i m : ℕ) : Type 0 where
  pub high : i ≤ w
  pub same : length e ≡ length d
  pub goes : laid e at (fixed i m) ≡ laid d at (fixed w n)

pub falling_starts : (d : List ℕ) (at w n : ℕ) → Falling d at w n d w n
falling_starts d at w n = record { high = omega arith; same = refl; goes = refl }

laid_set : (d : List ℕ) (at : ℕ) (p : List ℕ) (j b : ℕ) → at + length p ≤ j → laid (set d j b) at p ≡ set (laid d at p) j b
unfolding laid
laid_set d at [] j b h = refl
laid_set d at (x ∷ p) j b h = rw (set_comm d j at b x (λ (e : j ≡ at). omega arith)) (laid_set (set d at x) (suc at) p j b (omega arith))

laid_last : (e : List ℕ) (at i m : ℕ) → laid (laid e (at + i) (digit m ∷ [])) at (fixed i (m / 10)) ≡ laid e at (fixed (suc i) m)
unfolding laid
laid_last e at i m =
    let l : length (fixed i (m / 10)) ≡ i = length_fixed i (m / 10) in
    laid_set e at (fixed i (m / 10)) (at + i) (digit m) (omega arith) ∙ rw (fixed_last i m) (rw l at (laid_append e at (fixed i (m / 10)) (digit m ∷ [])))

fall_on : {d e f : List ℕ} {at w n r : ℕ} (i m : ℕ) → Falling d at w n e i m → 0 < i → Put e (at + (i - 1)) (digit m ∷ []) f r → Falling d at w n f (i - 1) (m / 10)
fall_on zero m g h b = absurd (omega arith)
fall_on {e = e} {at = at} (suc i) m g h b =
    let j : suc i - 1 ≡ i = omega arith in
    record {
      high = omega (arith, g.high);
      same = ap length b.holds ∙ length_laid e (at + (suc i - 1)) (digit m ∷ []) ∙ g.same;
      goes = rw (b.holds, j) (laid_last e at i m ∙ g.goes);
    }

module _ {d e : List ℕ} {at w n i m : ℕ} (g : Falling d at w n e i m) where
  pub falls_on : {f : List ℕ} {r : ℕ} → 0 < i → Put e (at + (i - 1)) (digit m ∷ []) f r → Falling d at w n f (i - 1) (m / 10)
  falls_on h b = fall_on i m g h b

  falls_out : i ≤ 0 → e ≡ laid d at (fixed w n)
  unfolding laid fixed fixed_before
  falls_out h = let z : i ≡ 0 = omega arith in rw z at g.goes

  pub falls_cut : i ≤ 0 → at < length d → length e - at < w → Put d at (fixed w n) e (length e)
  unfolding end_of
  falls_cut h k l = record { ends = rw (length_fixed w n) (omega (arith, g.same)); holds = falls_out h }

  pub falls_end : {r f : ℕ} → i ≤ 0 → f ≡ w → r ≡ min (length e) (at + f) → Put d at (fixed w n) e r
  unfolding end_of
  falls_end h q k = record { ends = rw (length_fixed w n) (omega (arith, g.same)); holds = falls_out h }

  pub falls_fit : i ≤ 0 → at < length d → w ≤ length e - at → Put d at (fixed w n) e (at + w)
  unfolding end_of
  falls_fit h k l = record { ends = rw (length_fixed w n) (omega (arith, g.same)); holds = falls_out h }

-- Digits of a number's own width are its numerals.
pub number_laid : {d e : List ℕ} {at r w : ℕ} (n : ℕ) → w ≡ width_of n → Put d at (fixed w n) e r → Put d at (numerals n) e r
unfolding numerals
number_laid n h p = rw h at p
