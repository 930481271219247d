-- What the case of a lawful sheet has.
use Rattle.std.proofs.Common.{◌≡◌, ℕ, ◌+◌, ◌*◌, ◌^◌, ◌<◌, true, List, Some, None, Option, refl, sym, inl, inr, arith}
use Rattle.sets.specs.Sets.{Exactly, members}
use Rattle.sets.proofs.Laws.{chosen_from_members}
use Rattle.faults.specs.declared.Fault.{Fault}
use Rattle.cases.specs.Lawful.{HopsFit, LawfulSheet, none_told, is_lawful}
use Rattle.cases.specs.Case.{CaseOf}
use Rattle.cases.proofs.Lawfuls.{sheet_right}
use Rattle.sheet.specs.Pieces.{first_fault}
use Rattle.sheet.specs.Layout.{switches, flows, old_from, new_from, old_table, new_table, movers_of}
use Rattle.records.specs.Tables.{HopsInside, Mover, rows_differ, movers}
use Rattle.records.proofs.Rows.{chosen_movers}
use Rattle.records.proofs.Words.{part_length}

none_from_test : (o : Option Fault) → none_told o ≡ true → o ≡ None
none_from_test None h = refl
none_from_test (Some e) h = cc

-- a case is lawful in closed form
pub lawful_of : (bs : List ℕ) → is_lawful bs ≡ true → LawfulSheet bs
lawful_of bs law = (sheet_right bs).0 (none_from_test (first_fault bs) law)

-- a sheet of which no fault is told is lawful, and has its numbers
pub lawful_told : (bs : List ℕ) → None ≡ first_fault bs → LawfulSheet bs
lawful_told bs told = (sheet_right bs).0 (sym told)

pub case_told : (bs : List ℕ) (n f m : ℕ) → None ≡ first_fault bs → n ≡ switches bs → f ≡ flows bs → members m ≡ movers_of bs → CaseOf bs n f m
case_told bs n f m told en ef em = record { lawful = lawful_told bs told; numbered = en; flowing = ef; listed = em }

-- where every hop fits, it is none or goes to a switch
pub hops_inside : (bs : List ℕ) → LawfulSheet bs → (table : List ℕ) → HopsFit bs table → HopsInside (switches bs) (flows bs) table
hops_inside bs law table fit s j hs hj = elim (fit s j hs hj) [ inl none ↦ inl none | inr linked ↦ inr (law.linked s _ hs linked).0 ]

pub exact_movers : (bs : List ℕ) → LawfulSheet bs → (m : ℕ) → m < 2 ^ 64 → members m ≡ movers_of bs → Exactly m (λ s. Mover (switches bs) (flows bs) (old_table bs) (new_table bs) s)
unfolding movers
exact_movers bs law m small listed =
    let n = switches bs in
    let f = flows bs in
    chosen_movers n f (old_table bs) (new_table bs)
    (omega (arith, part_length bs (old_from bs + 1) (n * f) (omega (arith, law.ends_there))))
    (omega (arith, part_length bs (new_from bs + 1) (n * f) (omega (arith, law.ends_there))))
    m
    (chosen_from_members m (rows_differ f (old_table bs) (new_table bs)) n small listed)
