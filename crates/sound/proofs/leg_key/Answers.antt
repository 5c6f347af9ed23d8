use Rattle.std.proofs.Common.{arith, rules}
use Rattle.sound.specs.LegLaws.{key_made}
use Rattle.sound.proofs.leg_key.Goals as goal

pub returns : goal.returns
returns c = key_made _ (record { code = record { three = search rules; byte0 = omega arith; byte1 = omega arith; byte2 = omega arith }; date = omega arith; strike = omega arith }) (omega arith) (omega arith)
