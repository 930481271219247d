-- Forwarding tables: one row for each switch, and in it one entry for each flow.
use Rattle.std.specs.Prelude.{◌≡◌, ℕ, ◌+◌, ◌*◌, ◌<◌, ◌≤◌, Bool, not, ◌||◌, ◌⊎◌, List, length, take, drop, filter, ◌==◌, ◌≢◌, slice_index}
use Rattle.std.specs.List.{list_all, range_with_len}
use Rattle.std.specs.Str.{bytes_eq}
use Rattle.sets.specs.Sets.{bit, InSet, Exactly, members}

-- how many bytes a row has where there are f flows: an entry is one byte wide
abbrev pub row_size : ℕ → ℕ
row_size f = f

-- row s of a table
abbrev pub table_row : ℕ → List ℕ → ℕ → List ℕ
table_row f table s = take (row_size f) (drop (s * row_size f) table)

-- byte j of row s of a table: the next hop of flow j at switch s
abbrev pub hop_at : ℕ → List ℕ → ℕ → ℕ → ℕ
hop_at f table s j = slice_index table (s * row_size f + j)

-- a hop at a switch whose links are the set m: 255 for none, or a linked switch
abbrev pub HopFits : ℕ → ℕ → Type 0
HopFits m h = (h ≡ 255) ⊎ InSet m h

-- the same as a test
abbrev pub hop_fits : ℕ → ℕ → Bool
hop_fits m h = h == 255 || bit m h == 1

-- every hop of a row fits
abbrev pub row_fits : ℕ → List ℕ → Bool
row_fits m row = list_all (hop_fits m) row

-- switch s of n is a mover: its rows in the old and in the new table differ at some place
pub record Mover (n f : ℕ) (old new : List ℕ) (s : ℕ) : Type 0 where
  pub inside : s < n
  pub place : (j : ℕ) × (j < row_size f) × (hop_at f old s j ≢ hop_at f new s j)

-- whether the two rows of s differ
abbrev pub rows_differ : ℕ → List ℕ → List ℕ → ℕ → Bool
rows_differ f old new s = not (bytes_eq (table_row f old s) (table_row f new s))

-- the movers among n switches, rising
unfoldable pub movers : ℕ → ℕ → List ℕ → List ℕ → List ℕ
movers n f old new = filter (rows_differ f old new) (range_with_len 0 n)

-- there are at most 64 switches, and both tables have all their rows
pub record WholeTables (n f : ℕ) (old new : List ℕ) : Type 0 where
  pub few : n ≤ 64
  pub in_old : n * row_size f ≤ length old
  pub in_new : n * row_size f ≤ length new

-- m is the set of the movers: exactly the switches whose rows differ at some place, and listed they are `movers`
pub record MoverSet (n f : ℕ) (old new : List ℕ) (m : ℕ) : Type 0 where
  pub exact : Exactly m (λ s. Mover n f old new s)
  pub listed : members m ≡ movers n f old new

-- every hop of a table of n rows is none, or goes to one of the n switches
abbrev pub HopsInside : ℕ → ℕ → List ℕ → Type 0
HopsInside n f table = (s j : ℕ) → s < n → j < row_size f → (hop_at f table s j ≡ 255) ⊎ (hop_at f table s j < n)
