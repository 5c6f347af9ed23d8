-- Laws of what the check of a book answers.
use Rattle.std.specs.Prelude.{◌≡◌, refl, Bool, true, false, not, List}
use Rattle.std.proofs.Math.Path.{ap}
use Rattle.std.proofs.Common.{◌∙◌}
use Rattle.laws.specs.TruthLaws.{failed, passed}
use Rattle.lists.specs.Places.{full}
use Rattle.rows.specs.declared.Holding.{Holding}
use Rattle.rows.specs.declared.Pair.{Pair}
use Rattle.rows.specs.declared.Book.{Book}
use Rattle.rows.specs.Rows.{empty_holding}
use Rattle.rows.specs.Book.{holdings_of, pairs_of}
use Rattle.rules.specs.Lots.{free_rows}
use Rattle.rules.specs.Rules.{sound_book}
use Rattle.sound.specs.declared.Checked.{Checked}
use Rattle.sound.specs.Checked.{checked_as, checked_book, not_sound}

-- Whether it is sound, and then its free lots.
checked_as_lem : (t : Bool) (hs : List Holding) (ps : List Pair) → (checked_as t hs ps).sound ≡ t
unfolding checked_as not_sound
checked_as_lem true hs ps = refl
checked_as_lem false hs ps = refl

module _ (b : Book) {c : Checked} (e : c ≡ checked_book b) where
  checked_is : c.sound ≡ sound_book b
  unfolding checked_book
  checked_is = ap (λ (k : Checked). k.sound) e ∙ checked_as_lem (sound_book b) (holdings_of b) (pairs_of b)

  pub checked_unsound : not c.sound ≡ true → sound_book b ≡ false
  checked_unsound h = failed checked_is h

  pub checked_sound : not c.sound ≡ false → sound_book b ≡ true
  checked_sound h = passed checked_is h

  pub checked_free : not c.sound ≡ false → c.free ≡ full 128 empty_holding (free_rows (holdings_of b) (pairs_of b))
  unfolding checked_book checked_as
  checked_free h = ap (λ (k : Checked). k.free) e ∙ rw (checked_sound h)
