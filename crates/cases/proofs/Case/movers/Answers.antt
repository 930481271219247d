use Rattle.std.proofs.Common.{arith}
use Rattle.cases.proofs.Laws.{exact_movers}
use Rattle.cases.proofs.Case.movers.Goals as goal

pub returns-clause-exact : goal.returns-clause-exact
returns-clause-exact c = rw (← c.self.view_is) (exact_movers _ c.self.invariant.lawful _ (omega arith) c.self.invariant.listed)
