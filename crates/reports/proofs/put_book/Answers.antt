use Rattle.put.specs.PutLaws.{put_is, put_says}
use Rattle.put.specs.LineLaws.{field_laid, fields_then, line_laid}
use Rattle.reports.specs.Reports.{book_text}
use Rattle.reports.proofs.put_book.Goals as goal

pub returns : goal.returns
unfolding book_text
returns c =
    put_says (line_laid _ (put_is c.put_byte-a.ensures)
    (fields_then _ _ (put_is c.put_digits-c.ensures)
    (fields_then _ _ (field_laid (put_is c.put_byte-d.ensures) (put_is c.put_byte-e.ensures))
    (fields_then _ _ (put_is c.put_digits-f.ensures)
    (fields_then _ _ (put_is c.put_figure-g.ensures) (put_is c.put_figure-h.ensures)))))
    (put_is c.put_byte.ensures))
