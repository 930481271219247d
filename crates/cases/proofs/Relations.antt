-- The first fault of the list of pieces is the fault of the first piece that fails.
use Rattle.std.proofs.Common.{◌≡◌, ℕ, ◌+◌, ◌<◌, ◌≤◌, ◌↔◌, true, false, cond, ◌⊎◌, List, [], ◌∷◌, ◌++◌, length, All, Some, None, Option, sym, refl, ap, ◌∙◌, inl, inr, arith}
use Rattle.std.specs.Option.{option_or}
use Rattle.std.proofs.lemmas.Bool.{le-leb, lt-leb, cases_Bool, cases_lt}
use Rattle.std.proofs.lemmas.Bool.Decides.{nat_tests}
use Rattle.std.proofs.lemmas.List.Elements.{All-nil, All-cons, All-head, All-tail, All-weaker}
use Rattle.faults.specs.declared.FaultKind.TheVariants.{EndsTooSoon}
use Rattle.faults.specs.declared.Fault.{Fault}
use Rattle.faults.specs.declared.Section.{Section}
use Rattle.faults.specs.Faults.{fault_of}
use Rattle.cases.specs.Lawful.{Passes, CutShort, TestFails, FirstFails}
use Rattle.sheet.specs.Pieces.{Test, Piece, failing, wrong, sheet_pieces, first_fault}
use Rattle.sheet.proofs.Firsts.{option_or_none}

-- ---- the first fault of a list, by the fault of each element

abbrev Clear : {X : Type 0} → (X → Option Fault) → X → Type 0
Clear f x = f x ≡ None

-- e is the fault of an element, and those before it have none
record FirstAt {X : Type 0} (f : X → Option Fault) (xs : List X) (e : Fault) : Type 0 where
  before : List X
  at : X
  after : List X
  split : xs ≡ before ++ (at ∷ after)
  earlier : All (Clear f) before
  fails : f at ≡ Some e

module _ {X : Type 0} (f : X → Option Fault) where
  abbrev first_of : List X → Option Fault
  first_of [] = None
  first_of (x ∷ xs) = option_or (f x) (first_of xs)

  all_clear : (xs : List X) → (first_of xs ≡ None) ↔ All (Clear f) xs
  all_clear [] = ((λ _. All-nil (Clear f)), (λ _. refl))
  all_clear (x ∷ xs) =
      let rest = all_clear xs in (
        (λ h. let b = option_or_none (f x) (first_of xs) h in All-cons (Clear f) x xs b.0 (rest.0 b.1)),
        (λ h. rw (All-head (Clear f) x xs h) (rest.1 (All-tail (Clear f) x xs h))),
      )

  first_at : (xs : List X) (e : Fault) → first_of xs ≡ Some e → FirstAt f xs e
  first_at [] e h = cc
  first_at (x ∷ xs) e h = by (f x) refl h (first_at xs e)
    where
      by : (o : Option Fault) → f x ≡ o → option_or o (first_of xs) ≡ Some e → (first_of xs ≡ Some e → FirstAt f xs e) → FirstAt f (x ∷ xs) e
      by None here h later =
          let r = later h in
          record { before = x ∷ r.before; at = r.at; after = r.after; split = cc r.split; earlier = All-cons (Clear f) x r.before here r.earlier; fails = r.fails }
      by (Some y) here h later = record { before = []; at = x; after = xs; split = refl; earlier = All-nil (Clear f); fails = here ∙ h }

  at_first : (before : List X) (x : X) (after : List X) (e : Fault) → All (Clear f) before → f x ≡ Some e → first_of (before ++ (x ∷ after)) ≡ Some e
  at_first [] x after e ok here = rw here
  at_first (y ∷ before) x after e ok here = rw (All-head (Clear f) y before ok) (at_first before x after e (All-tail (Clear f) y before ok) here)

-- ---- the tests of a piece

abbrev Passed : Test → Type 0
Passed t = t.passes ≡ true

module _ (c : Section) (p : ℕ) where
  abbrev fault : Test → Option Fault
  fault t = cond t.passes None (Some (fault_of t.kind c p))

  failing_first : (ts : List Test) → failing c p ts ≡ first_of fault ts
  failing_first [] = refl
  failing_first (t ∷ ts) = let rest = failing_first ts in elim (cases_Bool t.passes) [ inl e ↦ rw e rest | inr e ↦ rw e ]

  clear_passed : (ts : List Test) → All (Clear fault) ts ↔ All Passed ts
  clear_passed ts = (All-weaker (Clear fault) Passed (λ t h. grind (arith, nat_tests)) ts, All-weaker Passed (Clear fault) (λ t h. rw h) ts)

  failed : (t : Test) (e : Fault) → (fault t ≡ Some e) ↔ ((t.passes ≡ false) × (e ≡ fault_of t.kind c p))
  failed t e = (grind (arith, nat_tests), grind (arith, nat_tests))

-- ---- pieces

module _ (bs : List ℕ) (p : Piece) where
  abbrev fault_here : Test → Option Fault
  fault_here = fault p.section p.from

  at_whole : p.from + p.size ≤ length bs → wrong (length bs) p ≡ first_of fault_here p.tests
  at_whole h = rw (le-leb (p.from + p.size) (length bs) h) (failing_first p.section p.from p.tests)

  at_cut : length bs < p.from + p.size → wrong (length bs) p ≡ Some (fault_of EndsTooSoon p.section (length bs))
  at_cut h = rw (lt-leb (p.from + p.size) (length bs) h)

  passes : (wrong (length bs) p ≡ None) ↔ Passes bs p
  passes = (
    (λ h. elim (cases_lt (length bs) (p.from + p.size)) [
      | inl past ↦ let cut = at_cut past in cc
      | inr there ↦ record { there = there; tested = (clear_passed p.section p.from p.tests).0 ((all_clear fault_here p.tests).0 (sym (at_whole there) ∙ h)) }
    ]),
    (λ h. at_whole h.there ∙ (all_clear fault_here p.tests).1 ((clear_passed p.section p.from p.tests).1 h.tested)),
  )

  fails : (e : Fault) → (wrong (length bs) p ≡ Some e) ↔ (CutShort bs p e ⊎ TestFails bs p e)
  fails e = (
    (λ h. elim (cases_lt (length bs) (p.from + p.size)) [
      | inl past ↦ let cut = at_cut past in inl (record { past = past; told = (cc) })
      | inr there ↦
          let r = first_at fault_here p.tests e (sym (at_whole there) ∙ h) in
          let f = (failed p.section p.from r.at e).0 r.fails in
          inr (record { there = there; before = r.before; test = r.at; after = r.after; split = r.split; earlier = (clear_passed p.section p.from r.before).0 r.earlier; fails = f.0; told = f.1 })
    ]),
    (λ h. elim h [
      | inl c ↦ at_cut c.past ∙ ap (λ x. Some x) (sym c.told)
      | inr f ↦ at_whole f.there ∙ rw f.split (at_first fault_here f.before f.test f.after e ((clear_passed p.section p.from f.before).1 f.earlier) ((failed p.section p.from f.test e).1 (f.fails, f.told)))
    ]),
  )

-- ---- the whole sheet

pub first_fails : (bs : List ℕ) (e : Fault) → (first_fault bs ≡ Some e) ↔ FirstFails bs e
first_fails bs e =
    let f = wrong (length bs) in (
      (λ h.
          let r = first_at f (sheet_pieces bs) e h in
          record { before = r.before; piece = r.at; after = r.after; split = r.split; earlier = All-weaker (Clear f) (Passes bs) (λ p. (passes bs p).0) r.before r.earlier; fails = (fails bs r.at e).0 r.fails }),
      (λ s. rw s.split (at_first f s.before s.piece s.after e (All-weaker (Passes bs) (Clear f) (λ p. (passes bs p).1) s.before s.earlier) ((fails bs s.piece e).1 s.fails))),
    )
