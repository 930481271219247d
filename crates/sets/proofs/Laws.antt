-- The laws of sets in terms of their members. Layers above cite these, and not the bits.
use Rattle.std.proofs.Common.{◌≡◌, ℕ, zero, suc, ◌+◌, ◌-◌, ◌*◌, ◌/◌, ◌%◌, ◌^◌, ◌<◌, ◌≤◌, Bool, true, false, cond, eqb, ltb, ◌⊎◌, [], ◌∷◌, ◌++◌, length, Decides, filter, sym, refl, ap, ◌∙◌, inl, inr, add-one, add-zero, pow-suc, div-one, arith, Contains, ◌↔◌}
use lib.Arith.{bin_ind}
use lib.Bits.{bit_and, bit_or, bit_xor}
use lib.Count.{count_trailing_zeros, under, ones, ones_step, ones-ones}
use Rattle.std.specs.Bool.{one_answer}
use Rattle.std.specs.Int.{w64, bit_not}
use Rattle.std.specs.List.{range_with_len}
use Rattle.std.proofs.lemmas.Nat.{pow_pos, shr-shr, div_below, div-add-mod', mod_below}
use Rattle.std.proofs.lemmas.Nat.Bits.{bit_at-suc, bit_at-zero, bit_at_and, bit_at_or, bit_at_xor, bit_at-pow_same, bit_at-pow_other, bit_at_clear_same, bit_at_above, bit_at_clear_other, same_from_bits}
use Rattle.std.proofs.lemmas.Bool.{cases_eq, cases_lt, both_ways, eq-eqb, ne_eqb}
use Rattle.std.proofs.lemmas.Bool.Decides.{Decides-like, Decides-eqb, Decides-ltb}
use Rattle.std.proofs.lemmas.List.Elements.{All-from_get_or, All-contains, All-filter, filter_passes, Contains-push, Contains-append_left}
use Rattle.std.proofs.lemmas.List.FromFn.{filter_of_map_range_with_len_more, length-range_with_len, get_or-range_with_len}
use Rattle.std.proofs.lemmas.List.{append-nil, map-id}
use Rattle.sets.specs.Sets.{bit, InSet, Exactly, PartOf, Disjoint, SameMembers, MembersBelow, Empty, Lowest, members}

-- s is a member of m, or its bit is 0
pub cases_member : (m s : ℕ) → InSet m s ⊎ (bit m s ≡ 0)
cases_member m s = grind arith

pub not_member : (m s : ℕ) → (InSet m s → ⊥) → bit m s ≡ 0
not_member m s out = grind arith

pub no_member : (m s : ℕ) → bit m s ≡ 0 → InSet m s → ⊥
no_member m s z h = omega arith

-- sets with the same members are equal
pub same_members : (a b : ℕ) → PartOf a b → PartOf b a → a ≡ b
same_members a b there back = same_from_bits a b (λ t. grind (arith, there t, back t))

pub exactly_one : {P : ℕ → Type 0} (a b : ℕ) → Exactly a P → Exactly b P → a ≡ b
exactly_one a b ea eb = same_members a b (λ s h. eb.all s (ea.each s h)) (λ s h. ea.all s (eb.each s h))

-- the empty set is 0, and any other number has a member
no_bits : (m : ℕ) → ((t : ℕ) → bit m t ≡ 0) → m ≡ 0
no_bits m h = same_from_bits m 0 (λ t. h t ∙ sym (bit_at-zero t))

pub none_in_zero : (s : ℕ) → InSet 0 s → ⊥
none_in_zero s h = no_member 0 s (bit_at-zero s) h

pub empty_zero : (m : ℕ) → Empty m → m ≡ 0
empty_zero m none = no_bits m (λ s. not_member m s (none s))

pub some_member : (m : ℕ) → (m ≡ 0) ⊎ ((s : ℕ) × InSet m s)
some_member = bin_ind (λ m. (m ≡ 0) ⊎ ((s : ℕ) × InSet m s)) (inl refl) step
  where
    step : (n : ℕ) → (n / 2 ≡ 0) ⊎ ((s : ℕ) × InSet (n / 2) s) → (n ≡ 0) ⊎ ((s : ℕ) × InSet n s)
    step n (inl h) = elim (cases_eq (n % 2) 1) [ inl e ↦ inr (0, omega (arith, div-one n)) | inr ne ↦ inl (omega arith) ]
    step n (inr b) = inr (suc b.0, bit_at-suc n b.0 ∙ b.1)

-- union
pub or_members : (a b : ℕ) → Exactly (bit_or a b) (λ t. InSet a t ⊎ InSet b t)
or_members a b = record { each = λ t h. grind (arith, bit_at_or a b t); all = λ t h. grind (arith, bit_at_or a b t) }

-- intersection
pub and_members : (a b : ℕ) → Exactly (bit_and a b) (λ t. InSet a t × InSet b t)
and_members a b = record { each = λ t h. grind (arith, bit_at_and a b t); all = λ t h. grind (arith, bit_at_and a b t) }

-- one switch more
pub with_members : (m s : ℕ) → Exactly (bit_or m (2 ^ s)) (λ t. InSet m t ⊎ (t ≡ s))
with_members m s = record {
  each = λ t h. grind (arith, bit_at_or m (2 ^ s) t, bit_at-pow_other);
  all = λ t h. elim h [ inl k ↦ omega (arith, bit_at_or m (2 ^ s) t) | inr e ↦ rw e (omega (arith, bit_at_or m (2 ^ s) s, bit_at-pow_same s)) ];
}

-- one switch less
pub without_members : (m s : ℕ) → Exactly (bit_xor (bit_or m (2 ^ s)) (2 ^ s)) (λ t. InSet m t × (t ≡ s → ⊥))
without_members m s = record {
  each = λ t h. elim (cases_eq t s) [
    | inl e ↦ absurd (omega (arith, bit_at_xor (bit_or m (2 ^ s)) (2 ^ s) s, bit_at_or m (2 ^ s) s, bit_at-pow_same s, rw e at h))
    | inr ne ↦ (omega (arith, bit_at_xor (bit_or m (2 ^ s)) (2 ^ s) t, bit_at_or m (2 ^ s) t, bit_at-pow_other s t ne), ne)
  ];
  all = λ t h. omega (arith, bit_at_xor (bit_or m (2 ^ s)) (2 ^ s) t, bit_at_or m (2 ^ s) t, bit_at-pow_other s t h.1, h.0);
}

-- part of, apart, the same, by the tests of the code
pub part_test : (a b : ℕ) → Decides (eqb (bit_and a b) a) (PartOf a b)
part_test a b =
    let both = and_members a b in
    Decides-like (eqb (bit_and a b) a) (λ e t h. (both.each t (rw e h)).1) (λ p. same_members (bit_and a b) a (λ t h. (both.each t h).0) (λ t h. both.all t (h, p t h))) (Decides-eqb (bit_and a b) a)

pub apart_test : (a b : ℕ) → Decides (eqb (bit_and a b) 0) (Disjoint a b)
apart_test a b =
    let both = and_members a b in
    Decides-like (eqb (bit_and a b) 0) (λ e t h k. none_in_zero t (rw e at (both.all t (h, k)))) (λ p. empty_zero (bit_and a b) (λ t h. p t (both.each t h).0 (both.each t h).1)) (Decides-eqb (bit_and a b) 0)

pub same_test : (a b : ℕ) → Decides (eqb a b) (SameMembers a b)
same_test a b = Decides-like (eqb a b) (λ e. rw e record { there = λ t h. h; back = λ t h. h }) (λ p. same_members a b p.there p.back) (Decides-eqb a b)

-- a set below n is a number below 2 ^ n
pub number_below : (n m : ℕ) → m < 2 ^ n → MembersBelow n m
number_below n m h s in' = elim (cases_lt s n) [ inl l ↦ l | inr ge ↦ absurd (no_member m s (bit_at_above m n s h ge) in') ]

small_quotient : (n m : ℕ) → m / 2 ^ n ≡ 0 → m < 2 ^ n
small_quotient n m q = omega (arith, div-add-mod' m (2 ^ n), ap (λ k. k * 2 ^ n) q, mod_below m (2 ^ n) (pow_pos n))

pub below_quotient : (n m : ℕ) → MembersBelow n m → m / 2 ^ n ≡ 0
below_quotient n m p = no_bits (m / 2 ^ n) (λ t. rw (shr-shr m n t) (not_member m (n + t) (λ h. omega (arith, p (n + t) h))))

pub below_number : (n m : ℕ) → MembersBelow n m → m < 2 ^ n
below_number n m p = small_quotient n m (below_quotient n m p)

pub below_members : (n m : ℕ) → m / 2 ^ n ≡ 0 → MembersBelow n m
below_members n m q = number_below n m (small_quotient n m q)

pub below_test : (n m : ℕ) → Decides (eqb (m / 2 ^ n) 0) (MembersBelow n m)
below_test n m = Decides-like (eqb (m / 2 ^ n) 0) (below_members n m) (below_quotient n m) (Decides-eqb (m / 2 ^ n) 0)

-- how many members there are is how many bits are set
count_from : (m k a : ℕ) → m / 2 ^ a < 2 ^ k → length (filter (λ s. eqb (bit m s) 1) (range_with_len a k)) ≡ ones (m / 2 ^ a)
count_from m zero a h = let z : m / 2 ^ a ≡ 0 = omega arith in sym (ap ones z ∙ ones-ones 0)
count_from m (suc k) a h =
    let half : m / 2 ^ a / 2 ≡ m / 2 ^ (a + 1) = shr-shr m a 1 in
    let rest = count_from m k (a + 1) (rw (← half) (div_below (m / 2 ^ a) 2 (2 ^ k) (omega arith) (omega (arith, h, pow-suc 2 k)))) in
    elim (cases_member m a) [
      | inl one ↦ rw (eq-eqb (bit m a) 1 one) (omega (arith, rest, ones_step (m / 2 ^ a), ap ones half))
      | inr z ↦ rw (ne_eqb (bit m a) 1 (λ e. omega arith)) (omega (arith, rest, ones_step (m / 2 ^ a), ap ones half))
    ]

pub count_members : (m : ℕ) → m < 2 ^ 64 → length (members m) ≡ ones m
unfolding members
count_members m h = count_from m 64 0 (omega (arith, div-one m)) ∙ ap ones (div-one m)

-- the zeros below the lowest set bit, of a number of k bits
lowest_above : (n t : ℕ) → n % 2 ≡ 0 → Lowest (n / 2) t → Lowest n (suc t)
lowest_above n t even low = record { member = bit_at-suc n t ∙ low.member; least = least_of }
  where
    least_of : (u : ℕ) → InSet n u → suc t ≤ u
    least_of zero h = absurd (omega (arith, h, even, div-one n))
    least_of (suc u) h = omega (arith, low.least u (sym (bit_at-suc n u) ∙ h))

abbrev LowestBelow : ℕ → ℕ → ℕ → Type 0
LowestBelow k n t = Lowest n t × (t < k)

lowest_under : (k n d t : ℕ) → n % 2 ≡ d → (d ≡ 0 → LowestBelow k (n / 2) t) → LowestBelow (suc k) n (under d t)
lowest_under k n zero t e rest = (lowest_above n t e (rest refl).0, omega (arith, (rest refl).1))
lowest_under k n (suc d) t e rest = (record { member = omega (arith, e, div-one n); least = λ u h. omega arith }, omega arith)

pub lowest_trailing : (k n : ℕ) → 0 < n → n < 2 ^ k → LowestBelow k n (count_trailing_zeros k n)
unfolding count_trailing_zeros
lowest_trailing zero n pos h = absurd (omega arith)
lowest_trailing (suc k) n pos h =
    lowest_under k n (n % 2) (count_trailing_zeros k (n / 2)) refl
    (λ e. lowest_trailing k (n / 2) (omega (arith, e)) (div_below n 2 (2 ^ k) (omega arith) (omega (arith, h, pow-suc 2 k))))

-- one switch less, by the mask of all others
pub cleared_members : (m s : ℕ) → m < 2 ^ 64 → s < 64 → Exactly (bit_and m (bit_not w64 (1 * 2 ^ s % 2 ^ 64))) (λ t. InSet m t × (t ≡ s → ⊥))
cleared_members m s small within =
    let mask = bit_not w64 (1 * 2 ^ s % 2 ^ 64) in
    record {
      each = λ t h. (((and_members m mask).each t h).0, λ e. no_member (bit_and m mask) s (bit_at_clear_same w64 m s within) (ap (bit (bit_and m mask)) (sym e) ∙ h));
      all = λ t h. bit_at_clear_other w64 m s within t (number_below 64 m small t h.0) h.1 ∙ h.0;
    }

-- tests of one question
pub below_ltb : (n m : ℕ) → Decides (ltb m (2 ^ n)) (MembersBelow n m)
below_ltb n m = Decides-like (ltb m (2 ^ n)) (number_below n m) (below_number n m) (Decides-ltb m (2 ^ n))

pub member_eqb : (m s : ℕ) → Decides (eqb (bit m s) 1) (InSet m s)
member_eqb m s = Decides-eqb (bit m s) 1

-- a set built by a loop that puts in each switch below n of which a test says yes
abbrev pub Chosen : ℕ → (ℕ → Bool) → ℕ → Type 0
Chosen m p n = Exactly m (λ t. (t < n) × (p t ≡ true))

pub chosen_none : (p : ℕ → Bool) → Chosen 0 p 0
chosen_none p = record { each = λ t h. absurd (none_in_zero t h); all = λ t h. absurd (omega (arith, h.0)) }

pub chosen_with : (m r : ℕ) (p : ℕ → Bool) (n : ℕ) → n < 64 → Chosen m p n → p n ≡ true → Exactly r (λ t. InSet m t ⊎ ((t ≡ n) × (n < 64))) → Chosen r p (n + 1)
chosen_with m r p n small before here put = record {
  each = λ t h. elim (put.each t h) [
    | inl k ↦ (omega (arith, (before.each t k).0), (before.each t k).1)
    | inr e ↦ (omega (arith, e.0), ap p e.0 ∙ here)
  ];
  all = λ t h. put.all t (elim (cases_eq t n) [ inl e ↦ inr (e, small) | inr ne ↦ inl (before.all t (omega (arith, h.0), h.1)) ]);
}

pub chosen_skip : (m : ℕ) (p : ℕ → Bool) (n : ℕ) → Chosen m p n → p n ≡ false → Chosen m p (n + 1)
chosen_skip m p n before here = record {
  each = λ t h. (omega (arith, (before.each t h).0), (before.each t h).1);
  all = λ t h. before.all t (elim (cases_eq t n) [ inl e ↦ absurd (both_ways (p n) here (ap p (sym e) ∙ h.1)) | inr ne ↦ omega (arith, h.0) ], h.1);
}

-- its members, rising
pub filter_next : (p : ℕ → Bool) (s : ℕ) → filter p (range_with_len 0 (suc s)) ≡ filter p (range_with_len 0 s) ++ cond (p s) (s ∷ []) []
filter_next p s = rw add-one at (simp map-id at (filter_of_map_range_with_len_more p (λ x. x) 0 s s (omega arith)))

-- tests that agree over a range keep the same numbers
pub filter_same : (p q : ℕ → Bool) (k a : ℕ) → ((t : ℕ) → a ≤ t → t < a + k → p t ≡ q t) → filter p (range_with_len a k) ≡ filter q (range_with_len a k)
filter_same p q zero a same = refl
filter_same p q (suc k) a same = rw (same a (omega arith) (omega arith), filter_same p q k (a + 1) (λ t low high. same t (omega arith) (omega arith))) refl

-- numbers that do not pass add nothing
pub filter_past : (p : ℕ → Bool) (n d : ℕ) → ((t : ℕ) → n ≤ t → p t ≡ false) → filter p (range_with_len 0 (n + d)) ≡ filter p (range_with_len 0 n)
filter_past p n zero none = rw add-zero
filter_past p n (suc d) none = let next : n + suc d ≡ suc (n + d) = omega arith in rw (next, filter_next p (n + d), none (n + d) (omega arith), append-nil) (filter_past p n d none)

pub chosen_members : (m : ℕ) (p : ℕ → Bool) (n : ℕ) → n ≤ 64 → Chosen m p n → members m ≡ filter p (range_with_len 0 n)
unfolding members
chosen_members m p n small only =
    let e : 64 ≡ n + (64 - n) = omega arith in
    let has : ℕ → Bool = λ s. eqb (bit m s) 1 in
    ap (λ k. filter has (range_with_len 0 k)) e
    ∙ filter_past has n (64 - n) (λ t ge. ne_eqb (bit m t) 1 (λ h. omega (arith, (only.each t h).0)))
    ∙ filter_same has p n 0 (λ t _ less. one_answer (has t) (p t) (member_eqb m t) ((λ e. only.all t (omega arith, e)), (λ h. (only.each t h).1)))

-- and back: the list of the members says which they are
listed : (p : ℕ → Bool) (n s : ℕ) → Contains (filter p (range_with_len 0 n)) s ↔ ((s < n) × (p s ≡ true))
listed p n s = (
  (λ h.
      let below = All-from_get_or (λ x. x < n) (range_with_len 0 n) 0 (λ i less. omega (arith, length-range_with_len 0 n, get_or-range_with_len 0 n i 0)) in
      (All-contains (λ x. x < n) _ s (All-filter p (λ x. x < n) (range_with_len 0 n) below) h, All-contains (λ x. p x ≡ true) _ s (filter_passes p (range_with_len 0 n)) h)),
  (λ h. there n h.0 h.1),
)
  where
    there : (n : ℕ) → s < n → p s ≡ true → Contains (filter p (range_with_len 0 n)) s
    there zero less e = absurd (omega arith)
    there (suc n) less e =
        rw (filter_next p n) (elim (cases_eq s n) [
          | inl same ↦ rw (← same, e) (Contains-push (filter p (range_with_len 0 s)) s)
          | inr ne ↦ Contains-append_left (filter p (range_with_len 0 n)) _ s (there n (omega arith) e)
        ])

members_listed : (m s : ℕ) → m < 2 ^ 64 → Contains (members m) s ↔ InSet m s
unfolding members
members_listed m s small =
    let h = listed (λ t. eqb (bit m t) 1) 64 s in
    ((λ k. (member_eqb m s).0 (h.0 k).1), (λ k. h.1 (number_below 64 m small s k, (member_eqb m s).1 k)))

pub chosen_from_members : (m : ℕ) (p : ℕ → Bool) (n : ℕ) → m < 2 ^ 64 → members m ≡ filter p (range_with_len 0 n) → Chosen m p n
chosen_from_members m p n small e = record {
  each = λ t h. (listed p n t).0 (rw e at ((members_listed m t small).1 h));
  all = λ t h. (members_listed m t small).0 (rw e ((listed p n t).1 h));
}
