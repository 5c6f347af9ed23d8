-- Laws of the search of a table: those by which a loop finds the line, and what is known of what is found.
use Rattle.std.specs.Prelude.{◌≡◌, Bool, true, false, ℕ, zero, suc, ◌+◌, ◌≤◌, ◌<◌, get_or, drop, length}
use Rattle.std.proofs.Math.Path.{refl, ap}
use Rattle.std.proofs.Common.{◌∙◌, arith, drop_of_length-le, drop-cons}
use mathlib.Core.List.{List, [], ◌∷◌, ◌++◌}
use Rattle.std.proofs.Math.Numerals.{add-one}
use Rattle.laws.specs.TruthLaws.{both_true, both_hold, both_first, picked}
use Rattle.laws.specs.Truth.{both}
use Rattle.laws.specs.Search.{first_where, every_line, gathered}

-- A loop over a table has come to line i, and what it seeks is w.
pub record Searching {A B : Type 0} (named : A → Bool) (made : A → B) (none w : B) (ls : List A) (i : ℕ) : Type 0 where
  pub goes : first_where named made none (drop i ls) ≡ w

pub starts : {A B : Type 0} (named : A → Bool) (made : A → B) (none : B) (ls : List A) → Searching named made none (first_where named made none ls) ls 0
starts named made none ls = record { goes = refl }

-- What the test says of line i ends the search or moves it on by one.
module _ {A B : Type 0} {named : A → Bool} {made : A → B} {none w : B} {ls : List A} {i : ℕ} (s : Searching named made none w ls i) where
  pub found_here : (d : A) → i < length ls → named (get_or ls i d) ≡ true → made (get_or ls i d) ≡ w
  unfolding first_where
  found_here d h e = simp e at (rw (drop-cons ls i d h) at s.goes)

  pub not_here : (d : A) → i < length ls → named (get_or ls i d) ≡ false → Searching named made none w ls (i + 1)
  unfolding first_where
  not_here d h e = record { goes = rw add-one (simp e at (rw (drop-cons ls i d h) at s.goes)) }

  pub none_left : length ls ≤ i → none ≡ w
  unfolding first_where
  none_left h = simp (drop_of_length-le ls h) at s.goes

-- What holds of each line that is named, and where none is, holds of what is found. The test is of the table alone.
module _ {A B : Type 0} (P : B → Type 0) (named test : A → Bool) (made : A → B) (none : B) where
  pub found_has : (ls : List A) → every_line test ls ≡ true → ((l : A) → test l ≡ true → named l ≡ true → P (made l)) → P none → P (first_where named made none ls)
  unfolding first_where every_line
  found_has [] e h k = k
  found_has (l ∷ ls) e h k =
      let t = both_true (test l) (every_line test ls) e in
      picked P (named l) (made l) (first_where named made none ls) (h l t.0) (λ (q : named l ≡ false). found_has ls t.1 h k)

-- A test that always holds holds of every line, and one that every line passes holds of each; a test that is weaker passes too.
pub every_always : {A : Type 0} (test : A → Bool) → ((x : A) → test x ≡ true) → (ls : List A) → every_line test ls ≡ true
unfolding every_line
every_always test h [] = refl
every_always test h (l ∷ ls) = rw (h l) (every_always test h ls)

pub every_at : {A : Type 0} (test : A → Bool) (ls : List A) (i : ℕ) (d : A) → every_line test ls ≡ true → i < length ls → test (get_or ls i d) ≡ true
unfolding every_line
every_at test [] i d e h = absurd (omega arith)
every_at test (l ∷ ls) zero d e h = (both_true (test l) (every_line test ls) e).0
every_at test (l ∷ ls) (suc i) d e h = every_at test ls i d (both_true (test l) (every_line test ls) e).1 (omega arith)

pub every_weaker : {A : Type 0} (test weak : A → Bool) → ((x : A) → test x ≡ true → weak x ≡ true) → (ls : List A) → every_line test ls ≡ true → every_line weak ls ≡ true
unfolding every_line
every_weaker test weak h [] e = refl
every_weaker test weak h (l ∷ ls) e =
    let t = both_true (test l) (every_line test ls) e in
    both_hold (h l t.0) (every_weaker test weak h ls t.1)

-- A test holds of two tables as one where it holds of each, and of the one behind where it holds of both.
pub every_joined : {A : Type 0} (test : A → Bool) (ls ms : List A) → every_line test ls ≡ true → every_line test ms ≡ true → every_line test (ls ++ ms) ≡ true
unfolding every_line
every_joined test [] ms e f = f
every_joined test (l ∷ ls) ms e f =
    let t = both_true (test l) (every_line test ls) e in
    both_hold t.0 (every_joined test ls ms t.1 f)

pub every_behind : {A : Type 0} (test : A → Bool) (ls ms : List A) → every_line test (ls ++ ms) ≡ true → every_line test ms ≡ true
unfolding every_line
every_behind test [] ms e = e
every_behind test (l ∷ ls) ms e = every_behind test ls ms (both_true (test l) (every_line test (ls ++ ms)) e).1

-- A test of two tables as one is the test of both, and a test of all that lines give is that of what each gives.
module _ {A : Type 0} (test : A → Bool) where
  pub every_append : (ls ms : List A) → every_line test (ls ++ ms) ≡ both (every_line test ls) (every_line test ms)
  unfolding every_line
  every_append [] ms = refl
  every_append (l ∷ ls) ms = ap (both (test l)) (every_append ls ms) ∙ both_first (test l) (every_line test ls) (every_line test ms)

  pub every_gathered : {B : Type 0} (f : B → List A) (ls : List B) → every_line test (gathered f ls) ≡ every_line (λ (l : B). every_line test (f l)) ls
  unfolding every_line gathered
  every_gathered f [] = refl
  every_gathered f (l ∷ ls) = every_append (f l) (gathered f ls) ∙ ap (both (every_line test (f l))) (every_gathered f ls)
