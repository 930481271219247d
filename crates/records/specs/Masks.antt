-- Counts and masks, as the records of a sheet have them.
use Rattle.std.specs.Prelude.{ℕ, ◌^◌, Bool, not, ◌&&◌, List, take, drop, ◌==◌, nat_le, nat_lt}
use Rattle.std.specs.Int.Digits.{number_from_digits}
use Rattle.sets.specs.Sets.{bit}

-- the k bytes from place p on
abbrev pub bytes_at : List ℕ → ℕ → ℕ → List ℕ
bytes_at bs p k = take k (drop p bs)

-- the mask of eight bytes at place p, the most significant byte first
abbrev pub mask_at : List ℕ → ℕ → ℕ
mask_at bs p = number_from_digits 256 (bytes_at bs p 8)

-- a number from 1 to most
abbrev pub in_range : ℕ → ℕ → Bool
in_range most k = nat_lt 0 k && nat_le k most

-- every member of the set m is below n
abbrev pub mask_fits : ℕ → ℕ → Bool
mask_fits n m = nat_lt m (2 ^ n)

-- the links m of switch s of n: not to itself, and to none that is not below n
abbrev pub links_fit : ℕ → ℕ → ℕ → Bool
links_fit n s m = not (bit m s == 1) && mask_fits n m
