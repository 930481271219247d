-- The answers of the reader: each kind of fault with its number, each section with its letter.
use Rattle.std.specs.Prelude.{ℕ, List, [], ◌∷◌, ◌++◌, Some, None, Ok, Err, Option, Result, codes, decimal}
use Rattle.faults.specs.declared.FaultKind.{FaultKind}
use Rattle.faults.specs.declared.FaultKind.TheVariants.{EndsTooSoon, SwitchCount, LinkMask, FlowCount, FlowEnds, SectionCount, Hop, NeededMask, BytesFollow, TooManyMovers}
use Rattle.faults.specs.declared.Section.{Section}
use Rattle.faults.specs.declared.Section.TheVariants.{A, B, C, D, E}
use Rattle.faults.specs.declared.Fault.{Fault}

-- the number under which a kind of fault is told
abbrev pub number_of : FaultKind → ℕ
number_of EndsTooSoon = 1
number_of SwitchCount = 2
number_of LinkMask = 3
number_of FlowCount = 4
number_of FlowEnds = 5
number_of SectionCount = 6
number_of Hop = 7
number_of NeededMask = 8
number_of BytesFollow = 9
number_of TooManyMovers = 10

-- the code of a section's letter
abbrev pub letter_of : Section → ℕ
letter_of A = 65
letter_of B = 66
letter_of C = 67
letter_of D = 68
letter_of E = 69

-- a fault as text: its number, its section's letter and its place, parted by blanks
abbrev pub fault_text : Fault → List ℕ
fault_text e = decimal (number_of e.kind) ++ (codes " " ++ ((letter_of e.section ∷ []) ++ (codes " " ++ decimal e.place)))

-- a fault of a kind, in a section, at a place
abbrev pub fault_of : FaultKind → Section → ℕ → Fault
fault_of k s p = record { kind = k; section = s; place = p }

-- the fault that an answer tells, if it tells one
abbrev pub told_by : {T : Type 0} → Result T Fault → Option Fault
told_by (Ok x) = None
told_by (Err e) = Some e
