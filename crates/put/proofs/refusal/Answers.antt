use Rattle.put.specs.PutLaws.{put_is}
use Rattle.put.specs.LineLaws.{refusal_fits, stated}
use Rattle.put.proofs.refusal.Goals as goal

pub returns : goal.returns
returns c = stated _ (refusal_fits _ _) (put_is c.put_refusal-length.ensures)
