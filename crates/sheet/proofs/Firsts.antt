-- The first fault of pieces that are joined, of the records of a section, and of the whole sheet by its sections.
use Rattle.std.proofs.Common.{◌≡◌, ℕ, suc, ◌+◌, ◌-◌, ◌<◌, ◌≤◌, List, [], ◌∷◌, ◌++◌, map, length, Some, None, Option, refl, arith}
use Rattle.std.specs.Option.{option_or}
use Rattle.std.specs.List.{range_with_len}
use Rattle.faults.specs.declared.Fault.{Fault}
use Rattle.faults.specs.declared.Section.TheVariants.{C, D}
use Rattle.sheet.specs.Layout.{old_from, new_from, needed_from}
use Rattle.sheet.specs.Pieces.{Piece, wrong, first_wrong, section_a, section_b, table_section, needed_section, no_more, few_movers_piece, sheet_pieces, first_fault}

option_or_assoc : (a b c : Option Fault) → option_or (option_or a b) c ≡ option_or a (option_or b c)
option_or_assoc None b c = refl
option_or_assoc (Some e) b c = refl

pub option_or_none : (a b : Option Fault) → option_or a b ≡ None → (a ≡ None) × (b ≡ None)
option_or_none None b h = (refl, h)
option_or_none (Some e) b h = cc

pub first_append : (n : ℕ) (ps qs : List Piece) → first_wrong n (ps ++ qs) ≡ option_or (first_wrong n ps) (first_wrong n qs)
first_append n [] qs = refl
first_append n (p ∷ ps) qs = simp (first_append n ps qs, option_or_assoc)

-- the first fault of the records from record i of m on
abbrev pub rest : ℕ → (ℕ → Piece) → ℕ → ℕ → Option Fault
rest n item i m = first_wrong n (map item (range_with_len i (m - i)))

pub rest_more : (n : ℕ) (item : ℕ → Piece) (i m : ℕ) → i < m → rest n item i m ≡ option_or (wrong n (item i)) (rest n item (i + 1) m)
rest_more n item i m less = let e : m - i ≡ suc (m - (i + 1)) = omega arith in rw e

pub rest_none : (n : ℕ) (item : ℕ → Piece) (i m : ℕ) → m ≤ i → rest n item i m ≡ None
rest_none n item i m le = let e : m - i ≡ 0 = omega arith in rw e

-- the sections in turn, and then the two tests that close the reading
pub in_turn : (bs : List ℕ) → let n = length bs in first_fault bs ≡ option_or (first_wrong n (section_a bs)) (option_or (first_wrong n (section_b bs)) (option_or (first_wrong n (table_section bs C (old_from bs))) (option_or (first_wrong n (table_section bs D (new_from bs))) (option_or (first_wrong n (needed_section bs (needed_from bs))) (option_or (wrong n (no_more bs)) (option_or (wrong n (few_movers_piece bs)) None))))))
unfolding sheet_pieces
in_turn bs = simp first_append
