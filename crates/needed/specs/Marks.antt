-- The marks of needed switches: the set of those that are still missing. Which lists are allowed does not rest on these words: the policy's law ties them to its meaning.
use Rattle.std.specs.Prelude.{ℕ, ◌^◌, if◌then◌else◌, List, bit_or, bit_xor, nat_lt, slice_index}

-- all that the flow needs
abbrev pub missing_at_first : List ℕ → ℕ → ℕ
missing_at_first masks flow = if nat_lt flow 8 then slice_index masks flow else 0

-- the set m less the switch s
abbrev pub less_switch : ℕ → ℕ → ℕ
less_switch m s = bit_xor (bit_or m (2 ^ s)) (2 ^ s)
