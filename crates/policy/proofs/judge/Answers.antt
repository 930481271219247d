use Rattle.std.proofs.Common.{arith}
use Rattle.std.proofs.lemmas.Grind.{common_steps}
use Rattle.std.proofs.lemmas.List.Folds.{fold_stays}
use Rattle.policy.proofs.judge.Goals as goal

-- the mark is the first one whatever the list
pub returns-clause-unmarked : goal.returns-clause-unmarked
returns-clause-unmarked g c still xs =
    let p = g.P.Policy in
    let self = c.args.policy.now in
    let same = fold_stays (p.step self) (p.start self c.args.flow) still in
    grind (arith, common_steps, same c.args.list.now, same xs, g.met.P.Policy.tells self c.args.flow xs)
