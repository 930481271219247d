use Rattle.std.proofs.Common.{arith}
use Rattle.sets.proofs.Laws.{cleared_members, number_below}
use Rattle.sets.proofs.without.Goals as goal

pub returns-then-s-lt-WIDTH : goal.returns-then-s-lt-WIDTH
returns-then-s-lt-WIDTH c = cleared_members c.args.set c.args.s (omega arith) c.if-s-lt-WIDTH.true

pub returns-else-s-lt-WIDTH : goal.returns-else-s-lt-WIDTH
returns-else-s-lt-WIDTH c = record { each = λ t h. grind (arith, number_below 64 c.args.set (omega arith) t h); all = λ t h. h.0 }
