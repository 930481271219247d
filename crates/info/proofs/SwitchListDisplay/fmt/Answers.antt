use Rattle.std.proofs.Common.{sym, rules}
use Rattle.std.proofs.Output.{has_written_append, has_written_of_eq}
use Rattle.info.proofs.Lines.{movers_push}
use Rattle.info.proofs.SwitchListDisplay.fmt.Goals as goal

pub loop-s-preserved : goal.loop-s-preserved
loop-s-preserved g c p = has_written_of_eq _ _ _ _ _ (sym (movers_push c.loop-s.yielded c.in-Some.s)) (has_written_append _ _ _ _ _ _ (c.loop-s.invariant p) (search rules))
