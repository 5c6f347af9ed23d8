use Rattle.put.specs.PutLaws.{put_is, put_says}
use Rattle.put.specs.LineLaws.{field_laid}
use Rattle.put.proofs.put_figure.Goals as goal

pub returns : goal.returns
returns c = put_says (field_laid (put_is c.put_byte-a.ensures) (put_is c.put_number.ensures))
