use Rattle.std.proofs.Common.{◌≡◌, ℕ, ◌<◌, if◌then◌else◌, nat_lt, slice_index}
use Rattle.sheet.specs.Layout.{flows, needed_of}
use Rattle.needed.proofs.NeededFromRefCase.from.Given as goal

-- the masks of the flows so far are in place
abbrev pub invariant-loop-flow : goal.invariant-loop-flow
invariant-loop-flow l = (k : ℕ) → k < l.flow → slice_index l.mask-items k ≡ (if nat_lt k (flows l.case.sheet.now) then needed_of l.case.sheet.now k else 0)
