-- The list of pieces and the sheet's own words say the same.
use Rattle.std.proofs.Common.{◌≡◌, ℕ, zero, suc, ◌+◌, ◌*◌, ◌<◌, ◌≤◌, ◌↔◌, ◌≢◌, Bool, true, not, ◌&&◌, eqb, ltb, List, map, length, get_or, None, Decides, All, sym, refl, ap, ◌∙◌, subst, inl, inr, arith, rules}
use Rattle.std.specs.List.{range_with_len}
use Rattle.std.proofs.lemmas.Bool.{cases_eq}
use Rattle.std.proofs.lemmas.Bool.Decides.{nat_tests, Decides-and, Decides-or, Decides-not, Decides-like, Decides-eqb, Decides-by_and}
use Rattle.std.proofs.lemmas.List.Elements.{All-get_or, All-from_get_or}
use Rattle.sets.specs.Sets.{bit, InSet, MembersBelow}
use Rattle.sets.proofs.Laws.{below_ltb, member_eqb}
use Rattle.faults.specs.declared.FaultKind.{FaultKind}
use Rattle.faults.specs.declared.Section.{Section}
use Rattle.faults.specs.declared.Section.TheVariants.{C, D, E}
use Rattle.records.specs.Masks.{bytes_at, in_range, mask_fits, links_fit}
use Rattle.records.specs.Tables.{HopFits, hop_fits, row_fits, hop_at}
use Rattle.records.proofs.Rows.{row_inside}
use Rattle.records.proofs.Words.{part_length, part_byte}
use Rattle.sheet.specs.Layout.{byte_at, switches, links_from, links, flows, flows_from, ends_from, ingress_of, exit_of, row_from, table_at, old_from, new_from, mask_from, needed_from, needed_of, sheet_end, movers_of}
use Rattle.sheet.specs.Pieces.{Piece, wrong, first_wrong, piece, counted, switch_count, link_mask, flow_count, flow_ends, same_count, switch_row, needed_mask, section_a, section_b, table_section, needed_section, no_more, few_movers_piece, counts_up_to, first_fault}
use Rattle.sheet.proofs.Firsts.{option_or_none, in_turn}
use Rattle.cases.specs.Lawful.{LawfulSheet}

-- ---- pieces

-- a piece of one test that is there is right where what it tests holds
test_right : {P : Type 0} (n : ℕ) (c : Section) (p k : ℕ) (kind : FaultKind) (b : Bool) → p + k ≤ n → Decides b P → (wrong n (piece c p k kind b) ≡ None) ↔ P
test_right n c p k kind b inside d = (grind (arith, nat_tests), grind (arith, nat_tests))

-- a piece of one test that is right is there, and its test passes
pub one_right : (n : ℕ) (c : Section) (p k : ℕ) (kind : FaultKind) (b : Bool) → wrong n (piece c p k kind b) ≡ None → (p + k ≤ n) × (b ≡ true)
one_right n c p k kind b h = grind (arith, nat_tests)

-- a count that is right is at most its bound
pub counts_few : (n : ℕ) (bs : List ℕ) (c : Section) (kind : FaultKind) (most p : ℕ) → wrong n (counts_up_to bs c kind most p) ≡ None → byte_at bs p ≤ most
counts_few n bs c kind most p h = grind (arith, nat_tests)

-- ---- sections

items_right : {Q : ℕ → Type 0} (n : ℕ) (item : ℕ → Piece) (m a : ℕ) → ((i : ℕ) → a ≤ i → i < a + m → (wrong n (item i) ≡ None) ↔ Q i) → (first_wrong n (map item (range_with_len a m)) ≡ None) ↔ ((i : ℕ) → a ≤ i → i < a + m → Q i)
items_right n item zero a each = ((λ _ i low high. absurd (omega arith)), (λ _. refl))
items_right {Q} n item (suc m) a each =
    let here = each a (omega arith) (omega arith) in
    let rest = items_right n item m (a + 1) (λ i low high. each i (omega arith) (omega arith)) in (
      (λ h i low high. let b = option_or_none _ _ h in elim (cases_eq a i) [ inl e ↦ subst Q e (here.0 b.0) | inr ne ↦ rest.0 b.1 i (omega arith) (omega arith) ]),
      (λ all. let there = rest.1 (λ i low high. all i (omega arith) (omega arith)) in rw (here.1 (all a (omega arith) (omega arith))) there),
    )

-- a section is right where its count and its records are
pub section_right : {P : Type 0} {Q : ℕ → Type 0} (n : ℕ) (head : Piece) (item : ℕ → Piece) (m : ℕ) → (wrong n head ≡ None) ↔ P → ((i : ℕ) → i < m → (wrong n (item i) ≡ None) ↔ Q i) → (first_wrong n (counted head item m) ≡ None) ↔ (P × ((i : ℕ) → i < m → Q i))
section_right n head item m first each =
    let rest = items_right n item m 0 (λ i _ high. each i (omega arith)) in (
      (λ h. let b = option_or_none _ _ h in (first.0 b.0, λ i less. rest.0 b.1 i (omega arith) (omega arith))),
      (λ r. let there = rest.1 (λ i _ high. r.1 i (omega arith)) in rw (first.1 r.0) there),
    )

-- ---- tests

pub count_test : (most k : ℕ) → Decides (in_range most k) ((0 < k) × (k ≤ most))
count_test most k = (grind (arith, nat_tests), grind (arith, nat_tests))

ends_test : (n i e : ℕ) → Decides (ltb i n && ltb e n) ((i < n) × (e < n))
ends_test n i e = (grind (arith, nat_tests), grind (arith, nat_tests))

links_test : (n s m : ℕ) → Decides (links_fit n s m) ((t : ℕ) → InSet m t → (t < n) × (t ≢ s))
links_test n s m =
    Decides-like (links_fit n s m)
    (λ h t in'. (h.1 t in', λ e. h.0 (ap (bit m) (sym e) ∙ in')))
    (λ h. ((λ in'. (h s in').1 refl), λ t in'. (h t in').0))
    (Decides-and (not (eqb (bit m s) 1)) (mask_fits n m) (Decides-not (eqb (bit m s) 1) (member_eqb m s)) (below_ltb n m))

hop_test : (m h : ℕ) → Decides (hop_fits m h) (HopFits m h)
hop_test m h = Decides-or (eqb h 255) (eqb (bit m h) 1) (Decides-eqb h 255) (member_eqb m h)

row_test : (m : ℕ) (row : List ℕ) → Decides (row_fits m row) (All (HopFits m) row)
row_test m = Decides-by_and (hop_fits m) (HopFits m) (row_fits m) (hop_test m) refl (λ _ _. refl)

-- ---- rows

-- byte j of the row of switch s, read from the sheet or from the table
row_byte : (bs : List ℕ) (p n f s j : ℕ) → s < n → j < f → get_or (bytes_at bs (p + 1 + s * f) f) j 0 ≡ get_or (bytes_at bs (p + 1) (n * f)) (s * f + j) 0
row_byte bs p n f s j hs hj = let inside = row_inside n f s (n * f) hs (omega arith) in grind (arith, part_byte)

abbrev HopsFitRow : List ℕ → List ℕ → ℕ → Type 0
HopsFitRow bs table s = (j : ℕ) → j < flows bs → HopFits (links bs s) (hop_at (flows bs) table s j)

-- a row of the sheet fits where its hops in the table do
hops_test : (bs : List ℕ) (p s : ℕ) → s < switches bs → row_from bs p s + flows bs ≤ length bs → Decides (row_fits (links bs s) (bytes_at bs (row_from bs p s) (flows bs))) (HopsFitRow bs (table_at bs p) s)
hops_test bs p s hs there =
    let row = bytes_at bs (row_from bs p s) (flows bs) in
    let fits = HopFits (links bs s) in
    let size = part_length bs (row_from bs p s) (flows bs) there in
    Decides-like (row_fits (links bs s) row)
    (λ all j hj. rw (← row_byte bs p (switches bs) (flows bs) s j hs hj) (All-get_or fits row j 0 (omega (arith, size)) all))
    (λ hops. All-from_get_or fits row 0 (λ j hj. let less : j < flows bs = omega (arith, size, hj) in rw (row_byte bs p (switches bs) (flows bs) s j hs less) (hops j less)))
    (row_test (links bs s) row)

-- ---- the whole sheet

record Parts (bs : List ℕ) : Type 0 where
  in_a : first_wrong (length bs) (section_a bs) ≡ None
  in_b : first_wrong (length bs) (section_b bs) ≡ None
  in_c : first_wrong (length bs) (table_section bs C (old_from bs)) ≡ None
  in_d : first_wrong (length bs) (table_section bs D (new_from bs)) ≡ None
  in_e : first_wrong (length bs) (needed_section bs (needed_from bs)) ≡ None
  more : wrong (length bs) (no_more bs) ≡ None
  few : wrong (length bs) (few_movers_piece bs) ≡ None

module _ (bs : List ℕ) where
  parts_right : (first_fault bs ≡ None) ↔ Parts bs
  parts_right = (grind (arith, in_turn bs, option_or_none), grind (arith, in_turn bs))

  more_right : (wrong (length bs) (no_more bs) ≡ None) ↔ (length bs ≡ sheet_end bs)
  more_right = (grind (arith, nat_tests), grind (arith, nat_tests))

  module _ (whole : length bs ≡ sheet_end bs) where
    a_right : (first_wrong (length bs) (section_a bs) ≡ None) ↔ (((0 < switches bs) × (switches bs ≤ 64)) × ((s : ℕ) → s < switches bs → (t : ℕ) → InSet (links bs s) t → (t < switches bs) × (t ≢ s)))
    unfolding section_a
    a_right =
        section_right (length bs) (switch_count bs) (link_mask bs) (switches bs)
        (test_right _ _ 0 1 _ _ (omega arith) (count_test 64 (switches bs)))
        (λ s hs. test_right _ _ (links_from s) 8 _ _ (omega arith) (links_test (switches bs) s (links bs s)))

    b_right : (first_wrong (length bs) (section_b bs) ≡ None) ↔ (((0 < flows bs) × (flows bs ≤ 8)) × ((j : ℕ) → j < flows bs → (ingress_of bs j < switches bs) × (exit_of bs j < switches bs)))
    unfolding section_b
    b_right =
        section_right (length bs) (flow_count bs) (λ j. flow_ends bs (ends_from bs j)) (flows bs)
        (test_right _ _ (flows_from bs) 1 _ _ (omega arith) (count_test 8 (flows bs)))
        (λ j hj. test_right _ _ (ends_from bs j) 2 _ _ (omega arith) (ends_test (switches bs) (ingress_of bs j) (exit_of bs j)))

    table_right : (c : Section) (p : ℕ) → row_from bs p (switches bs) ≤ length bs → (first_wrong (length bs) (table_section bs c p) ≡ None) ↔ ((byte_at bs p ≡ switches bs) × ((s : ℕ) → s < switches bs → HopsFitRow bs (table_at bs p) s))
    unfolding table_section
    table_right c p inside =
        section_right (length bs) (same_count bs c p (switches bs)) (λ s. switch_row bs c (row_from bs p s) s) (switches bs)
        (test_right _ c p 1 _ _ (omega arith) (Decides-eqb (byte_at bs p) (switches bs)))
        (λ s hs.
        let there : row_from bs p s + flows bs ≤ length bs = omega (arith, row_inside (switches bs) (flows bs) s (switches bs * flows bs) hs (omega arith), inside) in
        test_right _ c (row_from bs p s) (flows bs) _ _ there (hops_test bs p s hs there))

    e_right : (first_wrong (length bs) (needed_section bs (needed_from bs)) ≡ None) ↔ ((byte_at bs (needed_from bs) ≡ flows bs) × ((j : ℕ) → j < flows bs → MembersBelow (switches bs) (needed_of bs j)))
    unfolding needed_section
    e_right =
        section_right (length bs) (same_count bs E (needed_from bs) (flows bs)) (λ j. needed_mask bs (mask_from (needed_from bs) j)) (flows bs)
        (test_right _ _ (needed_from bs) 1 _ _ (omega arith) (Decides-eqb (byte_at bs (needed_from bs)) (flows bs)))
        (λ j hj. test_right _ _ (mask_from (needed_from bs) j) 8 _ _ (omega arith) (below_ltb (switches bs) (needed_of bs j)))

    few_right : (wrong (length bs) (few_movers_piece bs) ≡ None) ↔ (length (movers_of bs) ≤ 16)
    few_right = (grind (arith, nat_tests), grind (arith, nat_tests))

pub sheet_right : (bs : List ℕ) → (first_fault bs ≡ None) ↔ LawfulSheet bs
sheet_right bs = (
  (λ h.
      let p = (parts_right bs).0 h in
      let whole = (more_right bs).0 p.more in
      let a = (a_right bs whole).0 p.in_a in
      let b = (b_right bs whole).0 p.in_b in
      let c = (table_right bs whole C (old_from bs) (omega (arith, whole))).0 p.in_c in
      let d = (table_right bs whole D (new_from bs) (omega (arith, whole))).0 p.in_d in
      let e = (e_right bs whole).0 p.in_e in
      let few = (few_right bs whole).0 p.few in
      search rules),
  (λ l.
      let whole = l.ends_there in
      let a = (a_right bs whole).1 in
      let b = (b_right bs whole).1 in
      let c = (table_right bs whole C (old_from bs) (omega (arith, whole))).1 in
      let d = (table_right bs whole D (new_from bs) (omega (arith, whole))).1 in
      let e = (e_right bs whole).1 in
      let more = (more_right bs).1 whole in
      let few = (few_right bs whole).1 l.few_movers in
      (parts_right bs).1 (search rules)),
)
