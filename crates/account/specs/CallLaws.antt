-- Laws of the margin call: accepted exactly when none of its checks fails, and what it answers at each refusal.
use Rattle.std.specs.Prelude.{◌≡◌, refl, Bool, true, false, ℕ, zero, suc}
use Rattle.std.proofs.Math.Path.{sym}
use Rattle.std.proofs.Common.{◌∙◌, arith}
use Rattle.std.proofs.Math.Dec.{eqb}
use borrow.Author.Tests.{eq-eqb, ne_eqb}
use Rattle.laws.specs.Truth.{pick, both}
use Rattle.laws.specs.TruthLaws.{picked}
use Rattle.laws.specs.Search.{every_line}
use Rattle.laws.specs.Checks.{first_failing, all_pass}
use Rattle.laws.specs.CheckLaws.{none_fails}
use Rattle.levels.specs.Levels.{flat}
use Rattle.rows.specs.declared.Book.{Book}
use Rattle.rules.specs.Rules.{sound_book}
use Rattle.sheets.specs.declared.Sheet.{Sheet}
use Rattle.sheets.specs.View.{sheet_view}
use Rattle.quotes.specs.Quotes.{on_sheet}
use Rattle.account.specs.declared.Margin.{Margin}
use Rattle.account.specs.Needed.{needed_by}
use Rattle.account.specs.Margin.{account_margin, margin_checks, margin_number, margin_line, margin_on}

-- The sheet's own number refuses only where it is not 0, so it refuses like the others.
numbers : (n : ℕ) (sound day needed : Bool) → eqb (pick sound (pick (eqb n 0) (pick day (pick needed 0 14) 13) n) 16) 0 ≡ both sound (both (eqb n 0) (both day (both needed true)))
numbers n false day needed = refl
numbers zero true false needed = refl
numbers zero true true false = refl
numbers zero true true true = refl
numbers (suc n) true day needed = simp (ne_eqb (suc n) 0 (λ e. omega arith))

module _ (b : Book) (sheet : Sheet) where
  pub margin_accepted : all_pass (margin_checks b sheet) ≡ true → margin_on b sheet ≡ record { number = 0; line = 0; levels = account_margin (sheet_view sheet) b }
  unfolding margin_on margin_number
  margin_accepted e = rw (none_fails (margin_checks b sheet) e)

  -- Accepted exactly when none fails.
  pub margin_by_number : eqb (margin_on b sheet).number 0 ≡ all_pass (margin_checks b sheet)
  unfolding margin_on margin_number margin_checks first_failing all_pass
  margin_by_number =
      picked (λ (m : Margin). eqb m.number 0 ≡ eqb (margin_number b sheet) 0) (eqb (margin_number b sheet) 0) _ _ (λ e. sym e) (λ e. refl)
      ∙ numbers sheet.number (sound_book b) (eqb sheet.day b.day) (every_line (on_sheet (sheet_view sheet)) (needed_by b))

  -- What each refusal answers: its number, the line of the sheet where the number is the sheet's own, and zeros.
  refused_as : (n : ℕ) {line : ℕ} → (n ≡ 0 → ⊥) → margin_number b sheet ≡ n → margin_line b sheet ≡ line → margin_on b sheet ≡ record { number = n; line = line; levels = flat 0 }
  unfolding margin_on
  refused_as n h e f = rw (e, f, ne_eqb n 0 h)

  pub margin_unsound : sound_book b ≡ false → margin_on b sheet ≡ record { number = 16; line = 0; levels = flat 0 }
  unfolding margin_number margin_line margin_checks first_failing
  margin_unsound e = refused_as 16 (λ q. omega arith) (rw e) (rw e)

  module _ (sound : sound_book b ≡ true) where
    pub margin_sheet : (sheet.number ≡ 0 → ⊥) → margin_on b sheet ≡ record { number = sheet.number; line = sheet.line; levels = flat 0 }
    unfolding margin_number margin_line margin_checks first_failing
    margin_sheet h = refused_as sheet.number h (rw (sound, ne_eqb sheet.number 0 h)) (rw (sound, ne_eqb sheet.number 0 h))

    module _ (read : sheet.number ≡ 0) where
      pub margin_day : (sheet.day ≡ b.day → ⊥) → margin_on b sheet ≡ record { number = 13; line = 0; levels = flat 0 }
      unfolding margin_number margin_line margin_checks first_failing
      margin_day h = refused_as 13 (λ q. omega arith) (rw (sound, read, ne_eqb sheet.day b.day h)) (rw (sound, read))

      pub margin_missing : sheet.day ≡ b.day → every_line (on_sheet (sheet_view sheet)) (needed_by b) ≡ false → margin_on b sheet ≡ record { number = 14; line = 0; levels = flat 0 }
      unfolding margin_number margin_line margin_checks first_failing
      margin_missing e h = refused_as 14 (λ q. omega arith) (rw (h, sound, read, eq-eqb sheet.day b.day e)) (rw (sound, read))

      pub margin_worked : sheet.day ≡ b.day → every_line (on_sheet (sheet_view sheet)) (needed_by b) ≡ true → margin_on b sheet ≡ record { number = 0; line = 0; levels = account_margin (sheet_view sheet) b }
      unfolding margin_checks all_pass
      margin_worked e h = margin_accepted (rw (h, sound, read, eq-eqb sheet.day b.day e) refl)
