use Rattle.put.specs.PutLaws.{put_is}
use Rattle.reports.specs.StatementLaws.{result_fits}
use Rattle.put.specs.LineLaws.{stated}
use Rattle.reports.proofs.result.Goals as goal

pub returns : goal.returns
returns c = stated _ (result_fits _ _ _) (put_is c.put_result-length.ensures)
