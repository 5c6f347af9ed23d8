-- Laws of a line's letter: the three letters of a book, and what a line of each says by its items.
use Rattle.std.specs.Prelude.{◌≡◌, refl, Bool, true, false, List, [], ◌∷◌, ℕ, suc, eqb, length, get_or}
use Rattle.std.proofs.Common.{arith}
use borrow.Author.Tests.{ne_eqb, eqb-true, eqb-false}
use Rattle.laws.specs.Truth.{pick, both}
use Rattle.laws.specs.TruthLaws.{by_test, both_end}
use Rattle.laws.specs.Bytes.{same_bytes}
use Rattle.book_lines.specs.declared.Item.{Item}
use Rattle.book_lines.specs.Lines.{holding, pair, formless}
use Rattle.book_lines.specs.Facts.{by_letter, letter_in, head_of, holding_of, pair_of, line_of}

-- The three letters of a book, and any other.
module _ (letter : ℕ) (P : Type 0) where
  pub by_letters : (letter ≡ 65 → P) → (letter ≡ 72 → P) → (letter ≡ 77 → P) → ((letter ≡ 65 → ⊥) → (letter ≡ 72 → ⊥) → (letter ≡ 77 → ⊥) → P) → P
  by_letters a h m n =
      by_test (λ (t : Bool). eqb letter 65 ≡ t → P) (eqb letter 65)
      (λ q e. a (eqb-true letter 65 e))
      (λ q e.
      by_test (λ (t : Bool). eqb letter 72 ≡ t → P) (eqb letter 72)
      (λ r f. h (eqb-true letter 72 f))
      (λ r f.
      by_test (λ (t : Bool). eqb letter 77 ≡ t → P) (eqb letter 77)
      (λ s g. m (eqb-true letter 77 g))
      (λ s g. n (eqb-false letter 65 e) (eqb-false letter 72 f) (eqb-false letter 77 g))
      refl)
      refl)
      refl

-- a letter of a book
abbrev pub Known : ℕ → Type 0
Known letter = (letter ≡ 65 → ⊥) → (letter ≡ 72 → ⊥) → (letter ≡ 77 → ⊥) → ⊥

-- What a line says by its items.
module _ {letter : ℕ} (items : List Item) where
  pub says_head : letter ≡ 65 → line_of letter items ≡ head_of items
  unfolding line_of
  says_head l = rw l

  pub says_holding : letter ≡ 72 → line_of letter items ≡ holding (holding_of items)
  unfolding line_of
  says_holding l = rw l

  pub says_pair : letter ≡ 77 → line_of letter items ≡ pair (pair_of items)
  unfolding line_of
  says_pair l = rw l

  pub says_nothing : (letter ≡ 65 → ⊥) → (letter ≡ 72 → ⊥) → (letter ≡ 77 → ⊥) → line_of letter items ≡ formless
  unfolding line_of
  says_nothing x y z = rw (ne_eqb letter 65 x, ne_eqb letter 72 y, ne_eqb letter 77 z)

-- A line's letter is its one byte.
never : (b : Bool) → both b false ≡ false
never true = refl
never false = refl

pub letter_byte : (t : List ℕ) → letter_in t ≡ pick (eqb (length t) 1) (by_letter (get_or t 0 0) 65 72 77 0) 0
unfolding letter_in same_bytes
letter_byte [] = refl
letter_byte (a ∷ []) = simp both_end
letter_byte (a ∷ b ∷ t) = simp (never, ne_eqb (suc (suc (length t))) 1 (λ (e : suc (suc (length t)) ≡ 1). omega arith))
