use Rattle.std.specs.Fmt.{HasWritten, IsPlainFormatter}
use Rattle.info.specs.Texts.{movers_text}
use Rattle.info.proofs.SwitchListDisplay.fmt.Given as goal

-- the members so far are written
abbrev pub invariant-loop-s : goal.invariant-loop-s
invariant-loop-s g l = IsPlainFormatter l.initial.f → HasWritten g.W.Write.write_str_gives l.initial.f (movers_text l.yielded) l.f
