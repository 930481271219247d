use Rattle.std.proofs.Common.{arith}
use Rattle.cases.proofs.Case.ends.Goals as goal

pub returns-clause-inside : goal.returns-clause-inside
returns-clause-inside c = grind (arith, c.self.invariant.lawful.ends c.args.j)
