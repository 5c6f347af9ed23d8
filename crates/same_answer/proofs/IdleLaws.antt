-- Document 01, "How much each contract has to say": the idle programs that the margin's contract shuts out, "one that gives one fixed margin,
-- or zero", "one that reports a line number or lot count it made up". Each theorem is of every program of its kind, and goes by two books on the
-- paper's sheet, or one on two texts that are no sheet (SampleLaws).
use Rattle.std.specs.Prelude.{◌≡◌, List, [], ◌∷◌, ℕ, ◌<◌}
use Rattle.std.proofs.Math.Path.{ap, sym}
use Rattle.std.proofs.Common.{◌∙◌}
use native.Mathlib.Omega.{arith}
use Rattle.levels.specs.declared.Levels.{Levels}
use Rattle.levels.specs.Levels.{flat}
use Rattle.rows.specs.declared.Book.{Book}
use Rattle.rows.specs.Book.{book_of, empty_book}
use Rattle.lines.specs.Pieces.{lf}
use Rattle.account.specs.declared.Margin.{Margin}
use Rattle.account.specs.Margin.{margin_text}
use Rattle.same_answer.specs.Sample.{sample_book, sample_sheet, nothing_held}
use Rattle.same_answer.specs.SampleLaws.{sampled}

module _ (program : Book → List ℕ → Margin) (contract : (b : Book) (t : List ℕ) → program b t ≡ margin_text b t) where
  -- Nor a margin that is made up of account, client code, day and sheet, without a look at the lots.
  pub made_up_margin : (l : ℕ → ℕ → ℕ → List ℕ → Levels) → ((b : Book) (t : List ℕ) → (program b t).number ≡ 0 → (program b t).levels ≡ l b.account b.identity b.day t) → ⊥
  unfolding sample_book nothing_held book_of empty_book
  made_up_margin l e =
      let x = contract sample_book sample_sheet ∙ sampled.sample in
      let y = contract nothing_held sample_sheet ∙ sampled.nothing in
      let p = e sample_book sample_sheet (ap (λ (m : Margin). m.number) x) in
      let q = e nothing_held sample_sheet (ap (λ (m : Margin). m.number) y) in
      let same = sym (ap (λ (m : Margin). m.levels.clearing) x) ∙ ap (λ (k : Levels). k.clearing) (p ∙ sym q) ∙ ap (λ (m : Margin). m.levels.clearing) y in
      omega arith

  pub fixed_margin_fails : (l : Levels) → ((b : Book) (t : List ℕ) → (program b t).number ≡ 0 → (program b t).levels ≡ l) → ⊥
  fixed_margin_fails l e = made_up_margin (λ (account : ℕ) (identity : ℕ) (day : ℕ) (t : List ℕ). l) e

  pub zero_margin_fails : ((b : Book) (t : List ℕ) → (program b t).number ≡ 0 → (program b t).levels ≡ flat 0) → ⊥
  zero_margin_fails e = fixed_margin_fails (flat 0) e

  -- nor one that refuses each call
  pub refuses_each_call : ((b : Book) (t : List ℕ) → 0 < (program b t).number) → ⊥
  refuses_each_call e =
      let x = ap (λ (m : Margin). m.number) (contract sample_book sample_sheet ∙ sampled.sample) in
      let y = e sample_book sample_sheet in
      omega arith

  -- nor one that makes up the line of a refusal from its number
  pub made_up_line : (line : ℕ → ℕ) → ((b : Book) (t : List ℕ) → 0 < (program b t).number → (program b t).line ≡ line (program b t).number) → ⊥
  made_up_line line e =
      let x = contract nothing_held [] ∙ sampled.no_sheet in
      let y = contract nothing_held (lf ∷ []) ∙ sampled.blank_sheet in
      let n = ap (λ (m : Margin). m.number) x in
      let k = ap (λ (m : Margin). m.number) y in
      let p = e nothing_held [] (rw n (omega arith)) in
      let q = e nothing_held (lf ∷ []) (rw k (omega arith)) in
      let same = sym (ap (λ (m : Margin). m.line) x) ∙ p ∙ ap line (n ∙ sym k) ∙ sym q ∙ ap (λ (m : Margin). m.line) y in
      omega arith
