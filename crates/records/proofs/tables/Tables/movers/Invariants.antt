use Rattle.sets.proofs.Laws.{Chosen}
use Rattle.records.specs.Tables.{rows_differ}
use Rattle.records.proofs.tables.Tables.movers.Given as goal

-- the set holds the movers among the switches so far
abbrev pub invariant-loop-s : goal.invariant-loop-s
invariant-loop-s l = Chosen l.set (rows_differ l.self.flows l.self.old.now l.self.new.now) l.s
