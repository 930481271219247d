-- Where the records of a sheet lie, and what they hold. A sheet is its list of bytes. A byte past its end reads as 0, so that each definition has a value for every list of bytes; whether the bytes are there is told by the first fault.
use Rattle.std.specs.Prelude.{ℕ, ◌+◌, ◌*◌, if◌then◌else◌, List, [], ◌∷◌, Some, None, Option, nat_lt, slice_index}
use Rattle.records.specs.Masks.{bytes_at, mask_at}
use Rattle.records.specs.Tables.{row_size, movers}

-- the byte at place p
abbrev pub byte_at : List ℕ → ℕ → ℕ
byte_at bs p = slice_index bs p

-- section A: the number of switches
abbrev pub switches : List ℕ → ℕ
switches bs = byte_at bs 0

-- where the links of switch s begin
abbrev pub links_from : ℕ → ℕ
links_from s = 1 + 8 * s

-- the links of switch s, a set of switches
abbrev pub links : List ℕ → ℕ → ℕ
links bs s = mask_at bs (links_from s)

-- where section B begins
abbrev pub flows_from : List ℕ → ℕ
flows_from bs = links_from (switches bs)

-- the number of flows
abbrev pub flows : List ℕ → ℕ
flows bs = byte_at bs (flows_from bs)

-- where the ends of flow j begin: its ingress and then its exit
abbrev pub ends_from : List ℕ → ℕ → ℕ
ends_from bs j = flows_from bs + 1 + 2 * j

-- the ingress of flow j
abbrev pub ingress_of : List ℕ → ℕ → ℕ
ingress_of bs j = byte_at bs (ends_from bs j)

-- the exit of flow j
abbrev pub exit_of : List ℕ → ℕ → ℕ
exit_of bs j = byte_at bs (ends_from bs j + 1)

-- where the row of switch s begins in the section, C or D, that begins at place p
abbrev pub row_from : List ℕ → ℕ → ℕ → ℕ
row_from bs p s = p + 1 + s * row_size (flows bs)

-- the rows of the section that begins at place p
abbrev pub table_at : List ℕ → ℕ → List ℕ
table_at bs p = bytes_at bs (p + 1) (switches bs * row_size (flows bs))

-- where section C begins
abbrev pub old_from : List ℕ → ℕ
old_from bs = ends_from bs (flows bs)

-- where section D begins
abbrev pub new_from : List ℕ → ℕ
new_from bs = row_from bs (old_from bs) (switches bs)

-- the old table
abbrev pub old_table : List ℕ → List ℕ
old_table bs = table_at bs (old_from bs)

-- the new table
abbrev pub new_table : List ℕ → List ℕ
new_table bs = table_at bs (new_from bs)

-- where the mask of flow j begins in the section that begins at place p
abbrev pub mask_from : ℕ → ℕ → ℕ
mask_from p j = p + 1 + 8 * j

-- where section E begins
abbrev pub needed_from : List ℕ → ℕ
needed_from bs = row_from bs (new_from bs) (switches bs)

-- the switches that flow j needs, a set of switches
abbrev pub needed_of : List ℕ → ℕ → ℕ
needed_of bs j = mask_at bs (mask_from (needed_from bs) j)

-- what is asked of flow j of f: the value v, or nothing where there is no such flow
abbrev pub of_flow : ℕ → ℕ → ℕ → Option ℕ
of_flow f j v = if nat_lt j f then Some v else None

-- where section E ends
abbrev pub sheet_end : List ℕ → ℕ
sheet_end bs = mask_from (needed_from bs) (flows bs)

-- the switches whose two rows differ, rising
abbrev pub movers_of : List ℕ → List ℕ
movers_of bs = movers (switches bs) (flows bs) (old_table bs) (new_table bs)

-- the smallest lawful sheet: one switch with no links, one flow from it to it, no hops, nothing needed
abbrev pub smallest_sheet : List ℕ
smallest_sheet = 1 ∷ 0 ∷ 0 ∷ 0 ∷ 0 ∷ 0 ∷ 0 ∷ 0 ∷ 0 ∷ 1 ∷ 0 ∷ 0 ∷ 1 ∷ 255 ∷ 1 ∷ 255 ∷ 1 ∷ 0 ∷ 0 ∷ 0 ∷ 0 ∷ 0 ∷ 0 ∷ 0 ∷ 0 ∷ []
