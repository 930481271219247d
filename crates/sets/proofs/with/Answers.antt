use Rattle.std.proofs.Common.{arith}
use Rattle.std.proofs.lemmas.Nat.{one_shl}
use Rattle.sets.proofs.Laws.{with_members}
use Rattle.sets.proofs.with.Goals as goal

pub returns-then-s-lt-WIDTH : goal.returns-then-s-lt-WIDTH
returns-then-s-lt-WIDTH c =
    let w = with_members c.args.set c.args.s in
    rw (one_shl c.args.s 64 c.if-s-lt-WIDTH.true) record { each = λ t h. grind (arith, w.each t h); all = λ t h. grind (arith, w.all t) }
