use Rattle.std.proofs.Common.{arith}
use Rattle.digits.specs.FigureLaws.{width_few}
use Rattle.put.specs.PutLaws.{put_is, put_says, number_laid}
use Rattle.put.proofs.put_number.Goals as goal

pub overflow_cast-width_of : goal.overflow_cast-width_of
overflow_cast-width_of c = omega (arith, width_few c.args.n)

pub returns : goal.returns
returns c = put_says (number_laid _ c.width_of.ensures (put_is c.put_fixed.ensures))
