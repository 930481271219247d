use Rattle.std.proofs.Common.{◌≡◌, List, ℕ, ◌↔◌, IsOk, Ok, Err, Result, MatchResult, sym, refl, ◌∙◌}
use Rattle.faults.specs.declared.Fault.{Fault}
use Rattle.faults.specs.Faults.{told_by}
use Rattle.sheet.specs.Pieces.{first_fault}
use Rattle.cases.specs.Lawful.{LawfulSheet, FirstFails}
use Rattle.cases.proofs.Lawfuls.{sheet_right}
use Rattle.cases.proofs.Relations.{first_fails}
use Rattle.cases.proofs.read.Goals as goal

-- an answer that tells the first fault of bs
decided : {T : Type 0} (bs : List ℕ) (r : Result T Fault) → told_by r ≡ first_fault bs → IsOk r ↔ LawfulSheet bs
decided bs (Ok x) t = ((λ _. (sheet_right bs).0 (sym t)), (λ _. refl))
decided bs (Err e) t = ((λ z. cc), (λ l. let none = (sheet_right bs).1 l in cc))

named : {T : Type 0} (bs : List ℕ) (r : Result T Fault) → told_by r ≡ first_fault bs → MatchResult r (λ _. LawfulSheet bs) (λ e. FirstFails bs e)
named bs (Ok x) t = (sheet_right bs).0 (sym t)
named bs (Err e) t = (first_fails bs e).0 (sym t)

pub returns-clause-lawful : goal.returns-clause-lawful
returns-clause-lawful c = decided _ c.fill.result c.fill.ensures.tells

pub returns-clause-faulty : goal.returns-clause-faulty
returns-clause-faulty c = named _ c.fill.result c.fill.ensures.tells

pub returns-clause-exactly : goal.returns-clause-exactly
returns-clause-exactly c = λ e h. c.fill.ensures.tells ∙ (first_fails _ e).1 h
