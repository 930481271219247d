use Rattle.std.proofs.Common.{◌≡◌, subst, arith}
use Rattle.sets.proofs.Laws.{Chosen, chosen_members}
use Rattle.records.specs.Tables.{rows_differ, movers}
use Rattle.records.proofs.Rows.{chosen_movers}
use Rattle.records.proofs.tables.Tables.movers.Goals as goal

pub returns : goal.returns
unfolding movers
returns c =
    let t = c.args.self.now in
    let p = rows_differ t.flows t.old.now t.new.now in
    let end : c.loop-s.s ≡ t.switches = omega arith in
    let only = subst (λ k. Chosen c.loop-s.set p k) end c.loop-s.invariant in
    record {
      exact = chosen_movers t.switches t.flows t.old.now t.new.now t.whole.in_old t.whole.in_new c.loop-s.set only;
      listed = chosen_members c.loop-s.set p t.switches t.whole.few only;
    }
