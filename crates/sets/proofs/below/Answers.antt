use Rattle.std.proofs.Common.{arith}
use Rattle.std.proofs.lemmas.Bool.{le-leb}
use Rattle.sets.proofs.Laws.{below_test, number_below}
use Rattle.sets.proofs.below.Goals as goal

pub returns-then-n-ge-WIDTH : goal.returns-then-n-ge-WIDTH
returns-then-n-ge-WIDTH c = ((λ _ s h. omega (arith, number_below 64 c.args.set (omega arith) s h, c.if-n-ge-WIDTH.true)), (λ _. le-leb 64 c.args.n c.if-n-ge-WIDTH.true))

pub returns-else-n-ge-WIDTH : goal.returns-else-n-ge-WIDTH
returns-else-n-ge-WIDTH c = below_test c.args.n c.args.set
