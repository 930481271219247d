-- Runs of an automaton over a list of switches.
use Rattle.std.specs.Prelude.{◌≡◌, ℕ, suc, ◌<◌, List, length, slice_index, Contains}
use Rattle.sets.specs.Sets.{InSet}
use Rattle.automata.specs.declared.Transition.{Transition}

-- one of the transitions leads from state q at the switch s to state r; states are below 32
pub record Leads (ts : List Transition) (q s r : ℕ) : Type 0 where
  pub listed : Contains ts (record { from = q; switch = s; to = r })
  pub from_state : q < 32
  pub to_state : r < 32

-- some run accepts the switches: its states are one more than the switches, the first is in the start set, at each switch a transition leads from one state to the next, and the last is in the accepting set
pub record Accepts (ts : List Transition) (start accepting : ℕ) (switches : List ℕ) : Type 0 where
  pub states : List ℕ
  pub one_more : length states ≡ suc (length switches)
  pub begins : InSet start (slice_index states 0)
  pub goes_on : (i : ℕ) → i < length switches → Leads ts (slice_index states i) (slice_index switches i) (slice_index states (suc i))
  pub ends : InSet accepting (slice_index states (length switches))
