use Rattle.std.proofs.Common.{arith}
use Rattle.std.proofs.lemmas.Bool.Decides.{nat_tests}
use Rattle.sets.proofs.Laws.{number_below}
use Rattle.sets.proofs.has.Goals as goal

pub returns-else-s-lt-WIDTH : goal.returns-else-s-lt-WIDTH
returns-else-s-lt-WIDTH c = grind (arith, nat_tests, number_below 64 c.args.set (omega arith) c.args.s)
