-- Laws of lists with a row put in or taken out: what a carry from row to row makes, and lists with room.
use Rattle.std.specs.Prelude.{◌≡◌, get_or, take, set}
use Rattle.std.proofs.Math.Path.{refl, ap, sym}
use Rattle.std.proofs.Common.{◌∙◌, add-one, length-drop, length-set, set-set, get_or-set_same, take_all}
use mathlib.Core.List.{List, [], ◌∷◌, ◌++◌, append_assoc, append-nil}
use Prim.Native.Nat.{ℕ, suc, zero, ◌+◌, ◌-◌, ◌<◌, ◌≤◌, min}
use native.Mathlib.Omega.{arith}
use Rattle.std.proofs.Math.Decide.{dec_lt}
use Rattle.std.proofs.Math.ListN.{length, drop, replicate, length-take, length-append, replicate-append-replicate, drop_of_length-le}
use Rattle.std.proofs.lemmas.List.{length-replicate, set-get_or, take-append-le, set-append_left, set_at}
use Rattle.std.proofs.Math.Seq.{drop-cons, take-suc-set, drop-set-lt, append_snoc, take_at, drop_at, drop-append-le, take-length, drop-length}
use Rattle.lists.specs.Places.{insert_at, remove_at, full}

module _ {A : Type 0} where
  -- One step of a carry: the row at i gives way to x and is carried on, upward or downward.
  pub slide : (i : ℕ) (x d : A) (l : List A) → i < length l → insert_at (i + 1) (get_or l i d) (set l i x) ≡ insert_at i x l
  unfolding insert_at
  slide i x d l h = rw (add-one i, take-suc-set l i x h, drop-set-lt (suc i) l i x (omega arith), append_snoc, drop-cons l i d h)

  slide_down : (i : ℕ) (x d : A) (l : List A) → i < length l → insert_at i (get_or l i d) (set l i x) ≡ insert_at (i + 1) x l
  slide_down i x d l h =
      let less : i < length (set l i x) = simp length-set h in
      sym (slide i (get_or l i d) d (set l i x) less) ∙ simp (get_or-set_same l i x d h, set-set, set-get_or)

  pub slide_back : (i : ℕ) (x d : A) (l : List A) → 0 < i → i ≤ length l → insert_at (i - 1) (get_or l (i - 1) d) (set l (i - 1) x) ≡ insert_at i x l
  slide_back i x d l h k =
      let e : i - 1 + 1 ≡ i = omega arith in
      slide_down (i - 1) x d l (omega arith) ∙ rw e

  pub insert_end : (n : ℕ) (x : A) (l : List A) → length l ≡ n → insert_at n x l ≡ l ++ x ∷ []
  unfolding insert_at
  insert_end n x l h = rw (sym h, take-length, drop-length)

  remove_insert : (p : ℕ) (x : A) (l : List A) → p ≤ length l → remove_at p (insert_at p x l) ≡ l
  unfolding insert_at remove_at
  remove_insert zero x l h = refl
  remove_insert (suc p) x [] h = absurd (omega arith)
  remove_insert (suc p) x (a ∷ l) h = ap (λ (t : List A). a ∷ t) (remove_insert p x l (omega arith))

  -- What a carry up to the end has made, and one down to p.
  pub carried_out : (n i : ℕ) (x : A) (l m : List A) → insert_at i x l ≡ m → length l ≡ n → n ≤ i → l ≡ take n m
  unfolding insert_at
  carried_out n i x l m e len le =
      let short : length l ≤ i = omega arith in
      sym (ap (take n) (sym e) ∙ rw (take_all i l short, take_at l (x ∷ drop i l) n len))

  pub carried_down : (p i : ℕ) (x : A) (l m : List A) → insert_at i x l ≡ m → p ≤ length l → i ≡ p → l ≡ remove_at p m
  carried_down p i x l m e le is = sym (ap (remove_at p) (sym e ∙ ap (λ (j : ℕ). insert_at j x l) is) ∙ remove_insert p x l le)

  -- Lengths.
  pub length_insert : (p : ℕ) (x : A) (l : List A) → p ≤ length l → length (insert_at p x l) ≡ length l + 1
  unfolding insert_at
  length_insert p x l h = simp (length-append, length-take, length-drop) (omega arith)

  pub length_remove : (p : ℕ) (l : List A) → p < length l → length (remove_at p l) ≡ length l - 1
  unfolding remove_at
  length_remove p l h = simp (length-append, length-take, length-drop) (omega arith)

  -- And one down to p whatever p is: behind the end there is nothing to carry.
  remove_out : (p : ℕ) (l : List A) → length l ≤ p → remove_at p l ≡ l
  unfolding remove_at
  remove_out p l h =
      let past : length l ≤ suc p = omega arith in
      rw (take_all p l h, drop_of_length-le l past, append-nil l)

  pub carried_back : (n p i : ℕ) (x : A) (l m : List A) → insert_at i x l ≡ m → length l ≡ n → i ≡ min p n → l ≡ take n (remove_at p m)
  carried_back n p i x l m e len is = go (dec_lt n p)
    where
      go : Dec (n < p) → l ≡ take n (remove_at p m)
      go (yes h) =
          let more = ap length (sym e) ∙ length_insert i x l (omega arith) in
          carried_out n i x l m e len (omega arith) ∙ ap (take n) (sym (remove_out p m (omega arith)))
      go (no h) =
          let down = carried_down p i x l m e (omega arith) (omega arith) in
          rw (← down) (sym (take_all n l (omega arith)))

  pub length_full : (n : ℕ) (d : A) (l : List A) → length l ≤ n → length (full n d l) ≡ n
  unfolding full
  length_full n d l h = simp (length-append, length-replicate) (omega arith)

  -- In a list with room, the rows from its length on are the room.
  pub take_full : (n : ℕ) (d : A) (l : List A) → take (length l) (full n d l) ≡ l
  unfolding full
  take_full n d l = take_at l (replicate (n - length l) d) (length l) refl

  pub drop_full : (n : ℕ) (d : A) (l : List A) → drop (length l) (full n d l) ≡ replicate (n - length l) d
  unfolding full
  drop_full n d l = drop_at l (replicate (n - length l) d) (length l) refl

  full_more : (n : ℕ) (d : A) (l : List A) → length l ≤ n → full n d l ++ d ∷ [] ≡ full (n + 1) d l
  unfolding full
  full_more n d l h =
      let e : n + 1 - length l ≡ n - length l + 1 = omega arith in
      rw (e, append_assoc, replicate-append-replicate (n - length l) 1 d)

  insert_append : (p : ℕ) (x : A) (l r : List A) → p ≤ length l → insert_at p x (l ++ r) ≡ insert_at p x l ++ r
  unfolding insert_at
  insert_append p x l r h = rw (take-append-le, drop-append-le, append_assoc)

  pub remove_append : (p : ℕ) (l r : List A) → p < length l → remove_at p (l ++ r) ≡ remove_at p l ++ r
  unfolding remove_at
  remove_append p l r h =
      let h1 : p ≤ length l = omega arith in
      let h2 : suc p ≤ length l = omega arith in
      rw (take-append-le p l r h1, drop-append-le (suc p) l r h2, append_assoc)

  -- Putting in, taking out and setting a row of a list with room.
  pub insert_full : (n p : ℕ) (x d : A) (l : List A) → p ≤ length l → length l < n → take n (insert_at p x (full n d l)) ≡ full n d (insert_at p x l)
  unfolding full
  insert_full n p x d l h k =
      let fit : length (insert_at p x l) ≤ n = rw (length_insert p x l h) (omega arith) in
      let q : n - length l ≡ n + 1 - length (insert_at p x l) = rw (length_insert p x l h) (omega arith) in
      let e : insert_at p x (full n d l) ≡ full n d (insert_at p x l) ++ d ∷ []
      = insert_append p x l (replicate (n - length l) d) h ∙ ap (λ (m : ℕ). insert_at p x l ++ replicate m d) q ∙ sym (full_more n d (insert_at p x l) fit) in
      ap (take n) e ∙ take_at (full n d (insert_at p x l)) (d ∷ []) n (length_full n d (insert_at p x l) fit)

  pub remove_full : (n p : ℕ) (d : A) (l : List A) → p < length l → length l ≤ n → remove_at p (full n d l ++ d ∷ []) ≡ full n d (remove_at p l)
  unfolding full
  remove_full n p d l h k =
      let q : n + 1 - length l ≡ n - length (remove_at p l) = rw (length_remove p l h) (omega arith) in
      ap (remove_at p) (full_more n d l k) ∙ remove_append p l (replicate (n + 1 - length l) d) h ∙ ap (λ (m : ℕ). remove_at p l ++ replicate m d) q

  pub set_full : (n p : ℕ) (x d : A) (l : List A) → p < length l → set (full n d l) p x ≡ full n d (set l p x)
  unfolding full
  set_full n p x d l h = rw (set-append_left l (replicate (n - length l) d) p x h, length-set)

  -- One row more behind the list, in the first of the empty rows.
  pub set_end : (n : ℕ) (d x : A) (l : List A) → length l < n → set (full n d l) (length l) x ≡ full n d (l ++ (x ∷ []))
  unfolding full
  set_end n d x l lt =
      let k : n - length l ≡ suc (n - (length l + 1)) = omega arith in
      let m : n - length (l ++ (x ∷ [])) ≡ n - (length l + 1) = omega (arith, length-append l (x ∷ [])) in
      rw (k, m) (set_at l d (replicate (n - (length l + 1)) d) x (length l) refl ∙ sym (append_snoc l x (replicate (n - (length l + 1)) d)))
