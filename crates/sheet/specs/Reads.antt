-- What each layer of the reader answers, and where it leaves the reader.
use Rattle.std.specs.Prelude.{◌≡◌, ℕ, ◌+◌, ◌<◌, ◌≤◌, List, length, Result}
use Rattle.faults.specs.declared.FaultKind.TheVariants.{EndsTooSoon}
use Rattle.faults.specs.declared.Section.{Section}
use Rattle.faults.specs.declared.Fault.{Fault}
use Rattle.faults.specs.Faults.{fault_of, told_by}
use Rattle.sheet.specs.Pieces.{Piece, wrong, first_wrong}

-- k bytes were there from the place `from` on, and the reader stands behind them
pub record Advanced (bs : List ℕ) (k from to : ℕ) : Type 0 where
  pub inside : from + k ≤ length bs
  pub after : to ≡ from + k

-- k bytes were not there
pub record RunsOut (bs : List ℕ) (k from : ℕ) (c : Section) (e : Fault) : Type 0 where
  pub past : length bs < from + k
  pub told : e ≡ fault_of EndsTooSoon c (length bs)

-- the answer tells what is wrong with one piece
abbrev pub ToldOf : {T : Type 0} → List ℕ → Piece → Result T Fault → Type 0
ToldOf bs p r = told_by r ≡ wrong (length bs) p

-- the answer tells the first fault of several pieces
abbrev pub TellsFirst : {T : Type 0} → List ℕ → List Piece → Result T Fault → Type 0
TellsFirst bs ps r = told_by r ≡ first_wrong (length bs) ps
