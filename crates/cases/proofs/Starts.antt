-- What is told of a sheet hangs on its first 1,622 bytes alone.
use Rattle.std.proofs.Common.{◌≡◌, ℕ, zero, suc, ◌+◌, ◌-◌, ◌*◌, ◌<◌, ◌≤◌, List, map, length, take, drop, Some, None, Option, sym, refl, ap, ◌∙◌, inl, inr, arith, rules}
use Rattle.std.specs.Option.{option_or}
use Rattle.std.specs.List.{range_with_len}
use Rattle.std.proofs.lemmas.Nat.{mul-le}
use Rattle.std.proofs.lemmas.List.{get_or-take, length-take, take_all, take-take}
use Rattle.std.proofs.lemmas.Slice.{between_is}
use Rattle.std.proofs.lemmas.Bool.{cases_lt, le-leb}
use Rattle.std.proofs.lemmas.Bool.Decides.{nat_tests}
use Rattle.records.specs.Masks.{bytes_at}
use Rattle.records.proofs.Rows.{row_inside}
use Rattle.faults.specs.declared.FaultKind.TheVariants.{SwitchCount, FlowCount}
use Rattle.faults.specs.declared.Fault.{Fault}
use Rattle.faults.specs.declared.Section.{Section}
use Rattle.faults.specs.declared.Section.TheVariants.{A, B, C, D, E}
use Rattle.sheet.specs.Layout.{byte_at, switches, links_from, links, flows, flows_from, ends_from, row_from, old_from, new_from, mask_from, needed_from, sheet_end}
use Rattle.sheet.specs.Pieces.{Piece, wrong, first_wrong, switch_count, link_mask, flow_count, flow_ends, same_count, switch_row, needed_mask, no_more, counted, section_a, section_b, table_section, needed_section, first_fault}
use Rattle.sheet.proofs.Firsts.{option_or_none, in_turn}
use Rattle.cases.proofs.Lawfuls.{sheet_right, counts_few}

-- ---- equal faults, piece by piece

option_or_same : (a x b y : Option Fault) → a ≡ x → (x ≡ None → b ≡ y) → option_or a b ≡ option_or x y
option_or_same a None b y e h = rw e (h refl)
option_or_same a (Some z) b y e h = rw e

items_same : (n k : ℕ) (f g : ℕ → Piece) (m a : ℕ) → ((i : ℕ) → a ≤ i → i < a + m → wrong n (f i) ≡ wrong k (g i)) → first_wrong n (map f (range_with_len a m)) ≡ first_wrong k (map g (range_with_len a m))
items_same n k f g zero a all = refl
items_same n k f g (suc m) a all =
    let rest = items_same n k f g m (a + 1) (λ i low high. all i (omega arith) (omega arith)) in
    cc (all a (omega arith) (omega arith))

counted_same : (n k : ℕ) (p q : Piece) (f g : ℕ → Piece) (l m : ℕ) → wrong n p ≡ wrong k q → l ≡ m → (wrong k q ≡ None → (i : ℕ) → i < m → wrong n (f i) ≡ wrong k (g i)) → first_wrong n (counted p f l) ≡ first_wrong k (counted q g m)
counted_same n k p q f g l m head e all = rw e (option_or_same _ _ _ _ head (λ none. items_same n k f g m 0 (λ i low high. all none i (omega arith))))

-- ---- the first k bytes of a longer sheet

module _ (bs : List ℕ) (k : ℕ) (long : k < length bs) (enough : 1622 ≤ k) where
  abbrev cs : List ℕ
  cs = take k bs

  size : length cs ≡ k
  size = length-take k bs ∙ omega arith

  byte_same : (p : ℕ) → p < k → byte_at cs p ≡ byte_at bs p
  byte_same p h = get_or-take k bs p 0 h

  bytes_same : (p m : ℕ) → p + m ≤ k → bytes_at cs p m ≡ bytes_at bs p m
  bytes_same p m h = ap (take m) (sym (between_is bs p k)) ∙ take-take m (k - p) (drop p bs) (omega arith)

  -- a piece that lies within the first k bytes
  same : (p q : Piece) → p ≡ q → q.from + q.size ≤ k → wrong (length cs) p ≡ wrong (length bs) q
  same p q e h = rw (e, le-leb (q.from + q.size) (length cs) (omega (arith, size)), le-leb (q.from + q.size) (length bs) (omega arith))

  n_same : switches cs ≡ switches bs
  n_same = byte_same 0 (omega arith)

  links_same : (s : ℕ) → s < 64 → links cs s ≡ links bs s
  links_same s h = rw (bytes_same (links_from s) 8 (omega arith))

  a_same : first_wrong (length cs) (section_a cs) ≡ first_wrong (length bs) (section_a bs)
  unfolding section_a
  a_same =
      counted_same (length cs) (length bs) (switch_count cs) (switch_count bs) (link_mask cs) (link_mask bs) (switches cs) (switches bs)
      (same (switch_count cs) (switch_count bs) (cc n_same) (omega arith))
      n_same
      (λ none s h.
      let few = counts_few (length bs) bs A SwitchCount 64 0 none in
      same (link_mask cs s) (link_mask bs s) (cc (n_same, links_same s (omega (arith, few, h)))) (omega (arith, few, h)))

  module _ (a : first_wrong (length bs) (section_a bs) ≡ None) where
    few : switches bs ≤ 64
    unfolding section_a
    few = counts_few (length bs) bs A SwitchCount 64 0 (option_or_none _ _ a).0

    f_same : flows cs ≡ flows bs
    f_same = rw n_same (byte_same (flows_from bs) (omega (arith, few)))

    b_same : first_wrong (length cs) (section_b cs) ≡ first_wrong (length bs) (section_b bs)
    unfolding section_b
    b_same =
        counted_same (length cs) (length bs) (flow_count cs) (flow_count bs) (λ j. flow_ends cs (ends_from cs j)) (λ j. flow_ends bs (ends_from bs j)) (flows cs) (flows bs)
        (same (flow_count cs) (flow_count bs) (cc (n_same, f_same)) (omega (arith, few)))
        f_same
        (λ none j h.
        let light = counts_few (length bs) bs B FlowCount 8 (flows_from bs) none in
        let p = ends_from bs j in
        let low : p + 2 ≤ k = omega (arith, few, light, h) in
        same (flow_ends cs (ends_from cs j)) (flow_ends bs p) (cc (n_same, byte_same p (omega arith), byte_same (p + 1) (omega arith))) low)

    module _ (b : first_wrong (length bs) (section_b bs) ≡ None) where
      light : flows bs ≤ 8
      unfolding section_b
      light = counts_few (length bs) bs B FlowCount 8 (flows_from bs) (option_or_none _ _ b).0

      product : switches bs * flows bs ≤ 512
      product = mul-le (switches bs) (flows bs) 64 8 few light

      table_same : (c : Section) (p q : ℕ) → p ≡ q → q + 513 ≤ k → first_wrong (length cs) (table_section cs c p) ≡ first_wrong (length bs) (table_section bs c q)
      unfolding table_section
      table_same c p q ep low =
          counted_same (length cs) (length bs) (same_count cs c p (switches cs)) (same_count bs c q (switches bs)) (λ s. switch_row cs c (row_from cs p s) s) (λ s. switch_row bs c (row_from bs q s) s) (switches cs) (switches bs)
          (same (same_count cs c p (switches cs)) (same_count bs c q (switches bs)) (cc (n_same, byte_same q (omega arith))) (omega arith))
          n_same
          (λ none s h.
          let at = row_from bs q s in
          let there : at + flows bs ≤ k = omega (arith, row_inside (switches bs) (flows bs) s (switches bs * flows bs) h (omega arith), product, low) in
          same (switch_row cs c (row_from cs p s) s) (switch_row bs c at s) (cc (f_same, links_same s (omega (arith, few, h)), bytes_same at (flows bs) there)) there)

      c_same : first_wrong (length cs) (table_section cs C (old_from cs)) ≡ first_wrong (length bs) (table_section bs C (old_from bs))
      c_same = table_same C (old_from cs) (old_from bs) (cc (n_same, f_same)) (omega (arith, few, light))

      d_same : first_wrong (length cs) (table_section cs D (new_from cs)) ≡ first_wrong (length bs) (table_section bs D (new_from bs))
      d_same = table_same D (new_from cs) (new_from bs) (cc (n_same, f_same)) (omega (arith, few, light, product))

      e_same : first_wrong (length cs) (needed_section cs (needed_from cs)) ≡ first_wrong (length bs) (needed_section bs (needed_from bs))
      unfolding needed_section
      e_same =
          counted_same (length cs) (length bs) (same_count cs E (needed_from cs) (flows cs)) (same_count bs E (needed_from bs) (flows bs)) (λ j. needed_mask cs (mask_from (needed_from cs) j)) (λ j. needed_mask bs (mask_from (needed_from bs) j)) (flows cs) (flows bs)
          (same (same_count cs E (needed_from cs) (flows cs)) (same_count bs E (needed_from bs) (flows bs)) (cc (n_same, f_same, byte_same (needed_from bs) (omega (arith, few, light, product)))) (omega (arith, few, light, product)))
          f_same
          (λ none j h.
          let at = mask_from (needed_from bs) j in
          let there : at + 8 ≤ k = omega (arith, few, light, product, h) in
          same (needed_mask cs (mask_from (needed_from cs) j)) (needed_mask bs at) (cc (n_same, f_same, bytes_same at 8 there)) there)

      -- bytes follow, in the beginning too
      more_same : wrong (length cs) (no_more cs) ≡ wrong (length bs) (no_more bs)
      more_same =
          let low : sheet_end bs < k = omega (arith, few, light, product) in
          let end : sheet_end cs ≡ sheet_end bs = cc (n_same, f_same) in
          grind (arith, nat_tests, size)

      more_some : wrong (length bs) (no_more bs) ≡ None → ⊥
      more_some none = let low : sheet_end bs < k = omega (arith, few, light, product) in grind (arith, nat_tests)

  pub start_same : first_fault cs ≡ first_fault bs
  start_same = rw (in_turn cs, in_turn bs) (search (rules, option_or_same, a_same, b_same, c_same, d_same, e_same, more_same, more_some))

-- what is told of a sheet is told of its first 1,622 bytes
pub first_bytes : (bs : List ℕ) → first_fault (take 1622 bs) ≡ first_fault bs
first_bytes bs = elim (cases_lt 1622 (length bs)) [ inl long ↦ start_same bs 1622 long (omega arith) | inr short ↦ ap first_fault (take_all 1622 bs short) ]

-- no lawful sheet has more than 1,621
pub lawful_short : (bs : List ℕ) → first_fault bs ≡ None → length bs ≤ 1621
lawful_short bs none =
    let l = (sheet_right bs).0 none in
    omega (arith, l.ends_there, l.some_switches.1, l.some_flows.1, mul-le (switches bs) (flows bs) 64 8 l.some_switches.1 l.some_flows.1)
