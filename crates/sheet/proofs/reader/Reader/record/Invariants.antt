use Rattle.std.proofs.Common.{◌≡◌, ◌+◌}
use Rattle.sheet.proofs.reader.Reader.record.Given as goal

abbrev pub invariant-loop : goal.invariant-loop
invariant-loop g l = l.self.at ≡ l.initial.self.at + l.counter
