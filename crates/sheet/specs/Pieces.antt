-- The sheet as a list of its pieces in reading order, each with its place, its size and its tests. A piece is a record of the sheet (a count, a mask, a pair or a row) or one of the two tests that close the reading. The first piece that fails gives the fault.
use Rattle.std.specs.Prelude.{ℕ, ◌+◌, Bool, if◌then◌else◌, ◌&&◌, List, [], ◌∷◌, ◌++◌, map, length, Some, None, Option, ◌==◌, nat_le, nat_lt}
use Rattle.std.specs.Option.{option_or}
use Rattle.std.specs.List.{range_with_len}
use Rattle.records.specs.Masks.{bytes_at, mask_at, in_range, mask_fits, links_fit}
use Rattle.records.specs.Tables.{row_size, row_fits}
use Rattle.faults.specs.declared.FaultKind.{FaultKind}
use Rattle.faults.specs.declared.FaultKind.TheVariants.{EndsTooSoon, SwitchCount, LinkMask, FlowCount, FlowEnds, SectionCount, Hop, NeededMask, BytesFollow, TooManyMovers}
use Rattle.faults.specs.declared.Section.{Section}
use Rattle.faults.specs.declared.Section.TheVariants.{A, B, C, D, E}
use Rattle.faults.specs.declared.Fault.{Fault}
use Rattle.faults.specs.Faults.{fault_of}
use Rattle.sheet.specs.Layout.{byte_at, switches, links_from, links, flows_from, flows, ends_from, row_from, old_from, new_from, needed_from, mask_from, sheet_end, movers_of}

-- a test of a piece: whether it passes, and the kind of fault where it does not
pub record Test : Type 0 where
  pub kind : FaultKind
  pub passes : Bool

-- a piece of the sheet: its first byte's place, its size, its section and its tests in their order
pub record Piece : Type 0 where
  pub from : ℕ
  pub size : ℕ
  pub section : Section
  pub tests : List Test

-- the fault of the first test that fails
abbrev pub failing : Section → ℕ → List Test → Option Fault
failing s p [] = None
failing s p (t ∷ ts) = if t.passes then failing s p ts else Some (fault_of t.kind s p)

-- what is wrong with one piece of a sheet of n bytes: its bytes are not all there, or a test fails
abbrev pub wrong : ℕ → Piece → Option Fault
wrong n p = if nat_le (p.from + p.size) n then failing p.section p.from p.tests else Some (fault_of EndsTooSoon p.section n)

-- the fault of the first piece that fails
abbrev pub first_wrong : ℕ → List Piece → Option Fault
first_wrong n [] = None
first_wrong n (p ∷ ps) = option_or (wrong n p) (first_wrong n ps)

-- one test
abbrev pub test_of : FaultKind → Bool → List Test
test_of k b = record { kind = k; passes = b } ∷ []

-- a piece of one test
abbrev pub piece : Section → ℕ → ℕ → FaultKind → Bool → Piece
piece s p k kind passes = record { from = p; size = k; section = s; tests = test_of kind passes }

-- the count at place p, from 1 to most
abbrev pub counts_up_to : List ℕ → Section → FaultKind → ℕ → ℕ → Piece
counts_up_to bs c kind most p = piece c p 1 kind (in_range most (byte_at bs p))

-- the number of switches
abbrev pub switch_count : List ℕ → Piece
switch_count bs = counts_up_to bs A SwitchCount 64 0

-- the links of switch s
abbrev pub link_mask : List ℕ → ℕ → Piece
link_mask bs s = piece A (links_from s) 8 LinkMask (links_fit (switches bs) s (links bs s))

-- the number of flows
abbrev pub flow_count : List ℕ → Piece
flow_count bs = counts_up_to bs B FlowCount 8 (flows_from bs)

-- the pair of ingress and exit at place p
abbrev pub flow_ends : List ℕ → ℕ → Piece
flow_ends bs p = piece B p 2 FlowEnds (nat_lt (byte_at bs p) (switches bs) && nat_lt (byte_at bs (p + 1)) (switches bs))

-- the count at place p of a section that is to have k records
abbrev pub same_count : List ℕ → Section → ℕ → ℕ → Piece
same_count bs c p k = piece c p 1 SectionCount (byte_at bs p == k)

-- the row at place p, of switch s
abbrev pub switch_row : List ℕ → Section → ℕ → ℕ → Piece
switch_row bs c p s = piece c p (row_size (flows bs)) Hop (row_fits (links bs s) (bytes_at bs p (row_size (flows bs))))

-- the needed switches at place p
abbrev pub needed_mask : List ℕ → ℕ → Piece
needed_mask bs p = piece E p 8 NeededMask (mask_fits (switches bs) (mask_at bs p))

-- no byte follows section E
abbrev pub no_more : List ℕ → Piece
no_more bs = piece E (sheet_end bs) 0 BytesFollow (nat_le (length bs) (sheet_end bs))

-- at most 16 movers
abbrev pub few_movers_piece : List ℕ → Piece
few_movers_piece bs = piece D (new_from bs) 0 TooManyMovers (nat_le (length (movers_of bs)) 16)

-- a section: its count, then its k records
abbrev pub counted : Piece → (ℕ → Piece) → ℕ → List Piece
counted head item k = head ∷ map item (range_with_len 0 k)

-- section A
unfoldable pub section_a : List ℕ → List Piece
section_a bs = counted (switch_count bs) (link_mask bs) (switches bs)

-- section B
unfoldable pub section_b : List ℕ → List Piece
section_b bs = counted (flow_count bs) (λ j. flow_ends bs (ends_from bs j)) (flows bs)

-- section C or D, which begins at place p
unfoldable pub table_section : List ℕ → Section → ℕ → List Piece
table_section bs c p = counted (same_count bs c p (switches bs)) (λ s. switch_row bs c (row_from bs p s) s) (switches bs)

-- section E, which begins at place p
unfoldable pub needed_section : List ℕ → ℕ → List Piece
needed_section bs p = counted (same_count bs E p (flows bs)) (λ j. needed_mask bs (mask_from p j)) (flows bs)

-- the whole sheet: its five sections, and then the two tests that close the reading
unfoldable pub sheet_pieces : List ℕ → List Piece
sheet_pieces bs = section_a bs ++ (section_b bs ++ (table_section bs C (old_from bs) ++ (table_section bs D (new_from bs) ++ (needed_section bs (needed_from bs) ++ (no_more bs ∷ (few_movers_piece bs ∷ []))))))

-- the first fault of a sheet, if it has one
abbrev pub first_fault : List ℕ → Option Fault
first_fault bs = first_wrong (length bs) (sheet_pieces bs)
