use Rattle.put.specs.PutLaws.{put_is, put_says}
use Rattle.put.specs.LineLaws.{field_laid}
use Rattle.put.proofs.put_digits.Goals as goal

pub returns : goal.returns
returns c = rw (← c.from.ensures) (put_says (field_laid (put_is c.put_byte-a.ensures) (put_is c.put_fixed.ensures)))
