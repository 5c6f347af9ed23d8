use Rattle.printed.specs.PlacedLaws.{byte_placed}
use Rattle.printed.proofs.put_byte.Goals as goal

pub returns : goal.returns
returns c = byte_placed _ _ _ c.requires
