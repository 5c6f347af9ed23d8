use Rattle.sound.specs.WalkedLaws.{walked_checked}
use Rattle.sound.proofs.checked_book.Goals as goal

pub returns : goal.returns
returns c = walked_checked _ c.walked_book-w.ensures
