use Rattle.std.proofs.Common.{◌≡◌, true, false, List, ℕ, [], ◌∷◌, nat_eq, ◌+◌, rules, refl, sym, ◌∙◌, arith}
use Rattle.std.proofs.lemmas.Iterator.{IsFirst-from_position, YieldsList-from_slice, index_from_first}
use borrow.Author.Tests.{tests}
use Rattle.std.specs.Cmp.Lexicographic.{pointwise}
use Rattle.laws.specs.ByteLaws.{as_pointwise}
use Rattle.sheets.specs.Sheet.{place_in}
use Rattle.sheets.proofs.place_in.Goals as goal

hit : (code x : List ℕ) (xs : List (List ℕ)) → pointwise nat_eq code x ≡ true → place_in (x ∷ xs) code ≡ 0
unfolding place_in
hit code x xs e = rw (as_pointwise code x, e)

miss : (code x : List ℕ) (xs : List (List ℕ)) → pointwise nat_eq code x ≡ false → place_in (x ∷ xs) code ≡ place_in xs code + 1
unfolding place_in
miss code x xs e = rw (as_pointwise code x, e) (omega arith)

none : (code : List ℕ) → place_in [] code ≡ 0
unfolding place_in
none code = refl

pub returns : goal.returns
returns c =
    c.unwrap_or.ensures
    ∙ sym (index_from_first (λ xs. place_in xs c.args.code) (λ x. pointwise nat_eq c.args.code x ≡ true) (λ x. pointwise nat_eq c.args.code x ≡ false) (none _) (hit _) (miss _) c.args.codes.now c.position.result
    (IsFirst-from_position _ _ _ (λ x. pointwise nat_eq c.args.code x ≡ true) (λ x. pointwise nat_eq c.args.code x ≡ false) c.position.ensures.ran (YieldsList-from_slice c.args.codes.now cc) (λ x q k. search (rules, tests)) (λ x q k. search (rules, tests))))
