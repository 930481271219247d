use Rattle.std.proofs.Common.{arith}
use Rattle.sets.proofs.Laws.{lowest_trailing}
use Rattle.sets.proofs.lowest.Goals as goal

pub returns-else-set-eq0 : goal.returns-else-set-eq0
returns-else-set-eq0 c = (lowest_trailing 64 c.args.set (omega arith) (omega arith)).0
