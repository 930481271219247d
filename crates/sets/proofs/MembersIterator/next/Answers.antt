use Rattle.std.proofs.Common.{length, ap, rules, arith}
use Rattle.sets.proofs.FromLowest.{members_none, members_lowest}
use Rattle.sets.proofs.MembersIterator.next.Goals as goal

pub returns-in_err-s-clause-steps : goal.returns-in_err-s-clause-steps
returns-in_err-s-clause-steps c = let none = members_none _ c.in_err-s.ensures in rw c.from_residual.ensures (none, none)

pub returns-clause-steps : goal.returns-clause-steps
returns-clause-steps c = members_lowest c.args.self.now.left c.without-self.result c.in_ok-s.s (omega arith) c.in_ok-s.ensures c.without-self.ensures

pub returns-clause-goes : goal.returns-clause-goes
returns-clause-goes c =
    let shorter = ap length (members_lowest c.args.self.now.left c.without-self.result c.in_ok-s.s (omega arith) c.in_ok-s.ensures c.without-self.ensures) in
    search rules
