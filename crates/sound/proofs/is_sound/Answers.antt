use Rattle.sound.specs.WalkedLaws.{walked_sound}
use Rattle.sound.proofs.is_sound.Goals as goal

pub returns : goal.returns
returns c = walked_sound _ c.walked_book.ensures
