-- The proof of a law, which has to stand here: nothing to believe. What is still missing after a list of switches.
use Rattle.std.specs.Prelude.{◌≡◌, ℕ, true, List, [], ◌∷◌, IsTrue, ◌↔◌, fold, ◌==◌, nat_lt, slice_index, Contains}
use Rattle.std.proofs.Common.{sym, ap, ◌∙◌, inl, inr, arith}
use Rattle.std.proofs.lemmas.Bool.{cases_lt, cond-true, cond-false, lt-ltb, le-ltb, eqb-true, eq-eqb}
use Rattle.std.proofs.lemmas.List.Elements.{Contains-append_right}
use Rattle.sets.specs.Sets.{bit, InSet, Exactly}
use Rattle.sets.proofs.Laws.{none_in_zero, empty_zero, without_members}
use Rattle.policy.proofs.Members.{contains_none, contains_here, contains_cases, cases_contains}
use Rattle.needed.specs.Needs.{NeededBy, MeetsNeeds}
use Rattle.needed.specs.Marks.{missing_at_first, less_switch}

-- at first, what the flow needs
at_first : (masks : List ℕ) (flow : ℕ) → Exactly (missing_at_first masks flow) (NeededBy masks flow)
at_first masks flow =
    elim (cases_lt flow 8) [
      | inl l ↦
          let e : missing_at_first masks flow ≡ slice_index masks flow = cond-true (nat_lt flow 8) (slice_index masks flow) 0 (lt-ltb flow 8 l) in
          record { each = λ s h. record { numbered = l; member = ap (λ m. bit m s) (sym e) ∙ h }; all = λ s n. ap (λ m. bit m s) e ∙ n.member }
      | inr past ↦
          let e : missing_at_first masks flow ≡ 0 = cond-false (nat_lt flow 8) (slice_index masks flow) 0 (le-ltb flow 8 past) in
          record { each = λ s h. absurd (none_in_zero s (ap (λ m. bit m s) (sym e) ∙ h)); all = λ s n. absurd (omega (arith, n.numbered)) }
    ]

-- after a list, what was missing and does not stand in it
after_list : (xs : List ℕ) (m : ℕ) → Exactly (fold less_switch m xs) (λ s. InSet m s × (Contains xs s → ⊥))
after_list [] m = record { each = λ s h. (h, contains_none s); all = λ s h. h.0 }
after_list (x ∷ xs) m =
    let now = without_members m x in
    let later = after_list xs (less_switch m x) in
    record {
      each = λ s h.
          let k = later.each s h in
          let was = now.each s k.0 in
          (was.0, λ here. elim (contains_cases x xs s here) [ inl e ↦ was.1 (sym e) | inr there ↦ k.1 there ]);
      all = λ s h. later.all s (now.all s (h.0, λ e. h.1 (contains_here x xs s (sym e))), λ there. h.1 (Contains-append_right (x ∷ []) xs s there));
    }

-- nothing is missing exactly when the list has every switch that the flow needs
pub none_missing : (masks : List ℕ) (flow : ℕ) (xs : List ℕ) → IsTrue (fold less_switch (missing_at_first masks flow) xs == 0) ↔ MeetsNeeds masks flow xs
none_missing masks flow xs = (sound, complete)
  where
    first : Exactly (missing_at_first masks flow) (NeededBy masks flow)
    first = at_first masks flow

    left : Exactly (fold less_switch (missing_at_first masks flow) xs) (λ s. InSet (missing_at_first masks flow) s × (Contains xs s → ⊥))
    left = after_list xs (missing_at_first masks flow)

    sound : (fold less_switch (missing_at_first masks flow) xs == 0) ≡ true → MeetsNeeds masks flow xs
    sound z s n =
        elim (cases_contains xs s) [
          | inl h ↦ h
          | inr out ↦ absurd (none_in_zero s (ap (λ m. bit m s) (sym (eqb-true _ 0 z)) ∙ left.all s (first.all s n, out)))
        ]

    complete : MeetsNeeds masks flow xs → (fold less_switch (missing_at_first masks flow) xs == 0) ≡ true
    complete met = eq-eqb _ 0 (empty_zero _ (λ s h. let k = left.each s h in k.1 (met s (first.each s k.0))))
