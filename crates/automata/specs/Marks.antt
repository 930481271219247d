-- The marks of an automaton: the set of the states that runs over the switches so far can be in. Which lists are allowed does not rest on these words: the policy's law ties them to its meaning.
use Rattle.std.specs.Prelude.{ℕ, ◌^◌, Bool, if◌then◌else◌, not, ◌&&◌, List, fold, ◌==◌, bit_and, bit_or, nat_lt}
use Rattle.sets.specs.Sets.{bit}
use Rattle.automata.specs.declared.Transition.{Transition}

-- q is a state, and in the set m
abbrev pub is_state : ℕ → ℕ → Bool
is_state m q = nat_lt q 32 && bit m q == 1

-- the transition is taken at the switch s from a state of m
abbrev pub is_taken : Transition → ℕ → ℕ → Bool
is_taken t m s = t.switch == s && (is_state m t.from && nat_lt t.to 32)

-- the set with the state that the transition leads to, where it is taken
abbrev pub with_reached : ℕ → ℕ → ℕ → Transition → ℕ
with_reached m s next t = if is_taken t m s then bit_or next (2 ^ t.to) else next

-- the states that transitions taken at s from states of m lead to
abbrev pub next_states : List Transition → ℕ → ℕ → ℕ
next_states ts m s = fold (with_reached m s) 0 ts

-- some state of m is an accepting one
abbrev pub some_in : ℕ → ℕ → Bool
some_in accepting m = not (bit_and m accepting == 0)
