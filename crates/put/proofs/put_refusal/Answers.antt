use Rattle.put.specs.PutLaws.{put_is, put_says}
use Rattle.put.specs.LineLaws.{fields_then, line_laid}
use Rattle.put.specs.Output.{refusal_text}
use Rattle.put.proofs.put_refusal.Goals as goal

pub returns : goal.returns
unfolding refusal_text
returns c =
    rw (← c.from.ensures, ← c.from-2.ensures)
    (put_says (line_laid _ (put_is c.put_byte-a.ensures)
    (fields_then _ _ (put_is c.put_figure-b.ensures) (put_is c.put_figure-c.ensures))
    (put_is c.put_byte.ensures)))
