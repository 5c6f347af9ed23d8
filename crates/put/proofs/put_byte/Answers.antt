use Rattle.put.specs.PutLaws.{put_says, put_behind, byte_laid}
use Rattle.put.proofs.put_byte.Goals as goal

pub returns-then-dst-at : goal.returns-then-dst-at
returns-then-dst-at c = put_says (put_behind _ _ _ c.if-dst-at.true)

pub returns : goal.returns
returns c = put_says (byte_laid _ _ _ c.if-dst-at.false)
