-- Needed switches: which lists of switches have them all.
use Rattle.std.specs.Prelude.{◌≡◌, ℕ, ◌<◌, if◌then◌else◌, List, length, nat_lt, slice_index, Contains}
use Rattle.sets.specs.Sets.{InSet}

-- the flow needs the switch s: it is one of flows 0 to 7, and s is in its set
pub record NeededBy (masks : List ℕ) (flow s : ℕ) : Type 0 where
  pub numbered : flow < 8
  pub member : InSet (slice_index masks flow) s

-- every switch that the flow needs stands in the list
abbrev pub MeetsNeeds : List ℕ → ℕ → List ℕ → Type 0
MeetsNeeds masks flow xs = (s : ℕ) → NeededBy masks flow s → Contains xs s

-- the masks of a case with f flows, of which flow j needs the set `needed j`: a flow that it does not have needs nothing
pub record MasksOf (f : ℕ) (needed : ℕ → ℕ) (masks : List ℕ) : Type 0 where
  pub eight : length masks ≡ 8
  pub each : (j : ℕ) → j < 8 → slice_index masks j ≡ if nat_lt j f then needed j else 0
