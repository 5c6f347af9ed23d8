use Rattle.std.proofs.Common.{arith, rules}
use Rattle.put.specs.PutLaws.{put_says, copied}
use Rattle.put.proofs.put_bytes.Goals as goal

pub returns : goal.returns
returns c = put_says (copied _ c.args.at _ _ c.min-start.ensures c.min-count.ensures (omega arith) (search rules))
