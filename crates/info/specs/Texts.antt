-- What is told of a sheet, as bytes. Numbers are decimal without leading zeros, one blank (32) parts words, and byte 10 ends each line.
use Rattle.std.specs.Prelude.{ℕ, List, [], ◌∷◌, ◌++◌, Some, None, codes, decimal, Option}
use Rattle.faults.specs.declared.Fault.{Fault}
use Rattle.faults.specs.Faults.{fault_text}
use Rattle.sheet.specs.Layout.{switches, flows, movers_of}
use Rattle.sheet.specs.Pieces.{first_fault}

-- a fault: "refused", its number, its section's letter and its place
abbrev pub refused_text : Fault → List ℕ
refused_text e = codes "refused " ++ (fault_text e ++ codes "\n")

-- the movers, each after one blank
abbrev pub movers_text : List ℕ → List ℕ
movers_text [] = []
movers_text (s ∷ ss) = codes " " ++ (decimal s ++ movers_text ss)

-- a lawful sheet: its numbers of switches and of flows, and its movers, rising
abbrev pub summary_text : List ℕ → List ℕ
summary_text bs = codes "switches " ++ (decimal (switches bs) ++ (codes "\nflows " ++ (decimal (flows bs) ++ (codes "\nmovers" ++ (movers_text (movers_of bs) ++ codes "\n")))))

-- the fault where there is one, else the summary
abbrev pub told_text : List ℕ → Option Fault → List ℕ
told_text bs None = summary_text bs
told_text bs (Some e) = refused_text e

-- what is told of a sheet
abbrev pub info_text : List ℕ → List ℕ
info_text bs = told_text bs (first_fault bs)

-- how many bytes at the start of an input are enough to judge it: one more than the longest lawful sheet has
abbrev pub enough_bytes : ℕ
enough_bytes = 1622
