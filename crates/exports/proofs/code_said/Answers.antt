use Rattle.std.proofs.Common.{le-ltb, lt-ltb}
use Rattle.exports.specs.Script.{code_said}
use Rattle.exports.proofs.code_said.Goals as goal

pub returns-then-w-ge16777216 : goal.returns-then-w-ge16777216
unfolding code_said
returns-then-w-ge16777216 c = rw (le-ltb _ _ c.if-w-ge16777216.true)

pub returns : goal.returns
unfolding code_said
returns c =
    rw (c.byte_of-3.ensures, c.byte_of-2.ensures, c.byte_of.ensures) (rw (lt-ltb _ _ c.if-w-ge16777216.false))
