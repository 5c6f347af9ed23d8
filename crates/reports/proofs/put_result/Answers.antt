use Rattle.put.specs.PutLaws.{put_is, put_says}
use Rattle.put.specs.LineLaws.{fields_then, line_laid}
use Rattle.reports.specs.Statement.{result_text}
use Rattle.reports.proofs.put_result.Goals as goal

pub returns : goal.returns
unfolding result_text
returns c =
    put_says (line_laid _ (put_is c.put_byte-a.ensures)
    (fields_then _ _ (put_is c.put_digits-b.ensures)
    (fields_then _ _ (put_is c.put_digits-c.ensures)
    (fields_then _ _ (put_is c.put_figure-d.ensures)
    (fields_then _ _ (put_is c.put_figure-e.ensures) (put_is c.put_figure-f.ensures)))))
    (put_is c.put_byte.ensures))
