use Rattle.reading.specs.Reading.{read_as}
use Rattle.exports.specs.Exports.{read_coded}
use Rattle.exports.proofs.sillauger_read.Goals as goal

pub returns-in-Ok : goal.returns-in-Ok
unfolding read_coded read_as
returns-in-Ok c = rw (← c.read.ensures, c.in-Ok.is) c.code_of.ensures

pub returns-in-Err : goal.returns-in-Err
unfolding read_coded
returns-in-Err c = rw (← c.read.ensures, c.in-Err.is) (rw c.number.ensures at c.code_of-in-Err.ensures)
