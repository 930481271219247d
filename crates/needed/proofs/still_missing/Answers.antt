use Rattle.sets.proofs.Laws.{exactly_one, without_members}
use Rattle.needed.proofs.still_missing.Goals as goal

pub returns : goal.returns
returns c = exactly_one _ _ c.without.ensures (without_members c.args.missing c.args.met)
