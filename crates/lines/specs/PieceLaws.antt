-- Texts cut and put together again: a text of parts in which the byte does not stand is cut into these parts, and the parts of any
-- text, put together, are the text.
use Rattle.std.specs.Prelude.{◌≡◌, refl, Bool, true, not, List, [], ◌∷◌, ◌++◌, ℕ, ◌≤◌, eqb, ltb}
use Rattle.std.proofs.Common.{ap, sym, ◌∙◌, append_assoc, append-nil, arith, eq-eqb, ne_eqb, eqb-true, ltb-true}
use Rattle.std.proofs.lemmas.Bool.{not-true}
use Rattle.laws.specs.TruthLaws.{both_true, picked}
use Rattle.laws.specs.Search.{every_line}
use Rattle.laws.specs.SearchLaws.{every_weaker, every_joined}
use Rattle.lines.specs.Pieces.{tab, lf, Pieces, one, more, in_front, split_on, list_of, fields_of}
use Rattle.lines.specs.Texts.{tabbed, line_text}

-- the byte c does not stand in p
unfoldable pub lacks : ℕ → List ℕ → Bool
lacks c p = every_line (λ (b : ℕ). not (eqb b c)) p

-- every byte is above LF: neither a tab nor an LF stands in p
unfoldable pub plain : List ℕ → Bool
plain p = every_line (λ (b : ℕ). ltb lf b) p

pub plain_lacks : (c : ℕ) → c ≤ lf → (p : List ℕ) → plain p ≡ true → lacks c p ≡ true
unfolding plain lacks
plain_lacks c h = every_weaker (λ (b : ℕ). ltb lf b) (λ (b : ℕ). not (eqb b c)) (λ b e. let k = ltb-true lf b e in rw (ne_eqb b c (λ (q : b ≡ c). omega arith)))

-- A text is cut at its first c, and where there is none it is one part.
split_cut : (c : ℕ) (p t : List ℕ) → lacks c p ≡ true → split_on c (p ++ (c ∷ t)) ≡ more p (split_on c t)
unfolding lacks every_line split_on
split_cut c [] t e = rw (eq-eqb c c refl)
split_cut c (b ∷ p) t e =
    let h = both_true (not (eqb b c)) _ e in
    rw (not-true (eqb b c) h.0, split_cut c p t h.1)

split_end : (c : ℕ) (p : List ℕ) → lacks c p ≡ true → split_on c p ≡ one p
unfolding lacks every_line split_on
split_end c [] e = refl
split_end c (b ∷ p) e =
    let h = both_true (not (eqb b c)) _ e in
    rw (not-true (eqb b c) h.0, split_end c p h.1)

-- The parts of a text with the byte c between them again.
unfoldable pub join_on : ℕ → Pieces → List ℕ
join_on c (one p) = p
join_on c (more p ps) = p ++ (c ∷ join_on c ps)

join_front : (c b : ℕ) (ps : Pieces) → join_on c (in_front b ps) ≡ b ∷ join_on c ps
unfolding join_on
join_front c b (one p) = refl
join_front c b (more p ps) = refl

pub join_split : (c : ℕ) (t : List ℕ) → join_on c (split_on c t) ≡ t
unfolding split_on join_on
join_split c [] = refl
join_split c (b ∷ t) =
    picked (λ (ps : Pieces). join_on c ps ≡ b ∷ t) (eqb b c) (more [] (split_on c t)) (in_front b (split_on c t))
    (λ e. rw (join_split c t, eqb-true b c e))
    (λ e. join_front c b (split_on c t) ∙ rw (join_split c t))

-- Fields put behind tabs again are the line behind a tab.
tabbed_join : (ps : Pieces) → tabbed (list_of ps) ≡ tab ∷ join_on tab ps
unfolding tabbed list_of join_on
tabbed_join (one p) = rw (append-nil p)
tabbed_join (more p ps) = rw (tabbed_join ps)

tabbed_fields : (line : List ℕ) → tabbed (fields_of line) ≡ tab ∷ line
unfolding fields_of
tabbed_fields line = tabbed_join (split_on tab line) ∙ ap (λ (l : List ℕ). tab ∷ l) (join_split tab line)

pub fields_back : (line first : List ℕ) (fs : List (List ℕ)) → fields_of line ≡ first ∷ fs → line ≡ first ++ tabbed fs
unfolding tabbed
fields_back line first fs e = let k : tab ∷ line ≡ tab ∷ (first ++ tabbed fs) = sym (tabbed_fields line) ∙ ap tabbed e in cc

-- A line of fields in which no tab stands has these fields.
pub fields_are : (first : List ℕ) (fs : List (List ℕ)) → every_line (lacks tab) (first ∷ fs) ≡ true → fields_of (first ++ tabbed fs) ≡ first ∷ fs
unfolding tabbed fields_of list_of every_line
fields_are first [] e = rw (append-nil first, split_end tab first (both_true (lacks tab first) _ e).0)
fields_are first (f ∷ fs) e =
    let h = both_true (lacks tab first) _ e in
    rw (split_cut tab first (f ++ tabbed fs) h.0, fields_are f fs h.1)

-- And of fields in which no LF stands, it is one line, which ends at its LF.
no_lf : (first : List ℕ) (fs : List (List ℕ)) → every_line (lacks lf) (first ∷ fs) ≡ true → lacks lf (first ++ tabbed fs) ≡ true
unfolding tabbed every_line lacks
no_lf first [] e = rw (append-nil first) (both_true (lacks lf first) _ e).0
no_lf first (f ∷ fs) e =
    let h = both_true (lacks lf first) _ e in
    every_joined (λ (b : ℕ). not (eqb b lf)) first (tab ∷ (f ++ tabbed fs)) h.0 (no_lf f fs h.1)

pub line_cut : (letter : ℕ) (fs : List (List ℕ)) (rest : List ℕ) → every_line (lacks lf) ((letter ∷ []) ∷ fs) ≡ true → split_on lf (line_text letter fs ++ rest) ≡ more (letter ∷ tabbed fs) (split_on lf rest)
unfolding line_text
line_cut letter fs rest e = rw append_assoc (split_cut lf (letter ∷ tabbed fs) rest (no_lf (letter ∷ []) fs e))
