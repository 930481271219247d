-- Sets of switches as numbers: switch s is a member of the set m where bit s of m is 1.
use Rattle.std.specs.Prelude.{◌≡◌, ℕ, ◌/◌, ◌%◌, ◌^◌, ◌<◌, ◌≤◌, List, filter, nat_eq}
use Rattle.std.specs.List.{range_with_len}

-- bit s of the number m, counted from 0 at the lowest: 0 or 1
abbrev pub bit : ℕ → ℕ → ℕ
bit m s = m / 2 ^ s % 2

-- s is a member of the set m
abbrev pub InSet : ℕ → ℕ → Type 0
InSet m s = bit m s ≡ 1

-- the members of m are those numbers of which P holds, and no others
pub record Exactly (m : ℕ) (P : ℕ → Type 0) : Type 0 where
  pub each : (s : ℕ) → InSet m s → P s
  pub all : (s : ℕ) → P s → InSet m s

-- every member of a is one of b
abbrev pub PartOf : ℕ → ℕ → Type 0
PartOf a b = (s : ℕ) → InSet a s → InSet b s

-- a and b have no member in common
abbrev pub Disjoint : ℕ → ℕ → Type 0
Disjoint a b = (s : ℕ) → InSet a s → InSet b s → ⊥

-- a and b have the same members
pub record SameMembers (a b : ℕ) : Type 0 where
  pub there : PartOf a b
  pub back : PartOf b a

-- every member of m is below n
abbrev pub MembersBelow : ℕ → ℕ → Type 0
MembersBelow n m = (s : ℕ) → InSet m s → s < n

-- m has no member
abbrev pub Empty : ℕ → Type 0
Empty m = (s : ℕ) → InSet m s → ⊥

-- s is the lowest member of m
pub record Lowest (m s : ℕ) : Type 0 where
  pub member : InSet m s
  pub least : (t : ℕ) → InSet m t → s ≤ t

-- the members of m among switches 0 to 63, rising
unfoldable pub members : ℕ → List ℕ
members m = filter (λ s. nat_eq (bit m s) 1) (range_with_len 0 64)
