-- The members of a set from the lowest on.
use Rattle.std.proofs.Common.{◌≡◌, ℕ, zero, suc, ◌+◌, ◌^◌, ◌<◌, ◌≤◌, Bool, true, false, eqb, [], ◌∷◌, filter, refl, inl, inr, arith}
use Rattle.std.specs.Bool.{one_answer}
use Rattle.std.specs.List.{range_with_len}
use Rattle.std.proofs.lemmas.Bool.{cases_eq, eq-eqb, ne_eqb}
use Rattle.sets.specs.Sets.{bit, InSet, Exactly, Empty, Lowest, members}
use Rattle.sets.proofs.Laws.{member_eqb, number_below, filter_past, filter_same}

-- an empty set has no members
pub members_none : (m : ℕ) → Empty m → members m ≡ []
unfolding members
members_none m none = filter_past (λ s. eqb (bit m s) 1) 0 64 (λ t _. ne_eqb (bit m t) 1 (none t))

-- tests of which one alone says yes of s, neither of what is below, and that agree above
one_first : (p q : ℕ → Bool) (s k a : ℕ) → a ≤ s → s < a + k → ((t : ℕ) → t < s → p t ≡ false) → ((t : ℕ) → t < s → q t ≡ false) → p s ≡ true → q s ≡ false → ((t : ℕ) → s < t → p t ≡ q t) → filter p (range_with_len a k) ≡ s ∷ filter q (range_with_len a k)
one_first p q s zero a low high none_p none_q at_s not_q same = absurd (omega arith)
one_first p q s (suc k) a low high none_p none_q at_s not_q same =
    elim (cases_eq s a) [
      | inl e ↦ rw (← e, at_s, not_q, filter_same p q k (s + 1) (λ t low _. same t (omega arith))) refl
      | inr ne ↦ rw (none_p a (omega arith), none_q a (omega arith)) (one_first p q s k (a + 1) (omega arith) (omega arith) none_p none_q at_s not_q same)
    ]

-- the lowest member comes first, and then the members of the set without it
pub members_lowest : (m r s : ℕ) → m < 2 ^ 64 → Lowest m s → Exactly r (λ t. InSet m t × (t ≡ s → ⊥)) → members m ≡ s ∷ members r
unfolding members
members_lowest m r s small low rest =
    let in_m : ℕ → Bool = λ t. eqb (bit m t) 1 in
    let in_r : ℕ → Bool = λ t. eqb (bit r t) 1 in
    one_first in_m in_r s 64 0 (omega arith) (number_below 64 m small s low.member)
    (λ t below. ne_eqb (bit m t) 1 (λ h. omega (arith, low.least t h)))
    (λ t below. ne_eqb (bit r t) 1 (λ h. omega (arith, low.least t (rest.each t h).0)))
    (eq-eqb (bit m s) 1 low.member)
    (ne_eqb (bit r s) 1 (λ h. (rest.each s h).1 refl))
    (λ t above. one_answer (in_m t) (in_r t) (member_eqb m t) ((λ e. (rest.each t ((member_eqb r t).0 e)).0), (λ h. (member_eqb r t).1 (rest.all t (h, λ e. omega (arith, e))))))
