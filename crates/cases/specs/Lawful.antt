-- What a lawful sheet is, and what the first fault of another is, in the sheet's own words.
use Rattle.std.specs.Prelude.{◌≡◌, ℕ, ◌+◌, ◌<◌, ◌≤◌, Bool, true, false, ◌⊎◌, Option, Some, None, List, ◌∷◌, ◌++◌, length, All, ◌≢◌}
use Rattle.sets.specs.Sets.{InSet}
use Rattle.faults.specs.declared.FaultKind.TheVariants.{EndsTooSoon}
use Rattle.faults.specs.declared.Fault.{Fault}
use Rattle.faults.specs.Faults.{fault_of}
use Rattle.sheet.specs.Layout.{byte_at, switches, links, flows, ingress_of, exit_of, old_from, new_from, old_table, new_table, needed_from, needed_of, sheet_end, movers_of}
use Rattle.sheet.specs.Pieces.{Test, Piece, sheet_pieces, first_fault}
use Rattle.records.specs.Tables.{row_size, hop_at, HopFits}

-- every hop of a table of the sheet is none, or goes to a linked switch
abbrev pub HopsFit : List ℕ → List ℕ → Type 0
HopsFit bs table = (s j : ℕ) → s < switches bs → j < row_size (flows bs) → HopFits (links bs s) (hop_at (flows bs) table s j)

-- a sheet with no fault, in the order of its sections
pub record LawfulSheet (bs : List ℕ) : Type 0 where
  -- 1 to 64 switches
  pub some_switches : (0 < switches bs) × (switches bs ≤ 64)
  -- a switch is linked to other switches only
  pub linked : (s t : ℕ) → s < switches bs → InSet (links bs s) t → (t < switches bs) × (t ≢ s)
  -- 1 to 8 flows
  pub some_flows : (0 < flows bs) × (flows bs ≤ 8)
  -- a flow comes in and goes out at switches
  pub ends : (j : ℕ) → j < flows bs → (ingress_of bs j < switches bs) × (exit_of bs j < switches bs)
  -- the counts of sections C, D and E
  pub counts : (byte_at bs (old_from bs) ≡ switches bs) × (byte_at bs (new_from bs) ≡ switches bs) × (byte_at bs (needed_from bs) ≡ flows bs)
  pub old_hops : HopsFit bs (old_table bs)
  pub new_hops : HopsFit bs (new_table bs)
  -- a flow needs switches only
  pub needs : (j t : ℕ) → j < flows bs → InSet (needed_of bs j) t → t < switches bs
  -- the sheet ends where section E does
  pub ends_there : length bs ≡ sheet_end bs
  pub few_movers : length (movers_of bs) ≤ 16

-- there is no fault
abbrev pub none_told : Option Fault → Bool
none_told None = true
none_told (Some e) = false

-- lawful as a test
abbrev pub is_lawful : List ℕ → Bool
is_lawful bs = none_told (first_fault bs)

-- a piece passes: its bytes are all there, and each of its tests passes
pub record Passes (bs : List ℕ) (p : Piece) : Type 0 where
  pub there : p.from + p.size ≤ length bs
  pub tested : All (λ (t : Test). t.passes ≡ true) p.tests

-- the sheet ends before the piece does: fault 1, told where the sheet ends
pub record CutShort (bs : List ℕ) (p : Piece) (e : Fault) : Type 0 where
  pub past : length bs < p.from + p.size
  pub told : e ≡ fault_of EndsTooSoon p.section (length bs)

-- the piece is whole, and e is the fault of the first of its tests that fails, told where the piece begins
pub record TestFails (bs : List ℕ) (p : Piece) (e : Fault) : Type 0 where
  pub there : p.from + p.size ≤ length bs
  pub before : List Test
  pub test : Test
  pub after : List Test
  pub split : p.tests ≡ before ++ (test ∷ after)
  pub earlier : All (λ (t : Test). t.passes ≡ true) before
  pub fails : test.passes ≡ false
  pub told : e ≡ fault_of test.kind p.section p.from

-- e is the fault of a piece, and every piece before it passes
pub record FirstFails (bs : List ℕ) (e : Fault) : Type 0 where
  pub before : List Piece
  pub piece : Piece
  pub after : List Piece
  pub split : sheet_pieces bs ≡ before ++ (piece ∷ after)
  pub earlier : All (Passes bs) before
  pub fails : CutShort bs piece e ⊎ TestFails bs piece e
