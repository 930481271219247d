-- What a case keeps beside its sheet, and what its callers see of it.
use Rattle.std.specs.Prelude.{◌≡◌, ℕ, true, List}
use Rattle.std.specs.Borrow.{Bor}
use Rattle.sets.specs.Sets.{members}
use Rattle.sheet.specs.Layout.{switches, flows, movers_of}
use Rattle.cases.specs.Lawful.{LawfulSheet, is_lawful}

-- the sheet is lawful, it has n switches and f flows, and m is the set of its movers
pub record CaseOf (bs : List ℕ) (n f m : ℕ) : Type 0 where
  pub lawful : LawfulSheet bs
  pub numbered : n ≡ switches bs
  pub flowing : f ≡ flows bs
  pub listed : members m ≡ movers_of bs

-- a case as its callers see it: the sheet that it was lent, the very slice, and that this sheet is lawful
pub record HeldSheet : Type 0 where
  pub sheet : Bor (List ℕ)
  pub lawful : is_lawful sheet.now ≡ true
