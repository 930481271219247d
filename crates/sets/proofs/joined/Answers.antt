use Rattle.sets.proofs.Laws.{or_members}
use Rattle.sets.proofs.joined.Goals as goal

pub returns : goal.returns
returns c = or_members c.args.a c.args.b
