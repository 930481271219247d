-- The proof of a law, which has to stand here: nothing to believe. A mark is the set of the states that runs can be in.
use Rattle.std.specs.Prelude.{◌≡◌, ℕ, zero, suc, ◌^◌, ◌<◌, true, ◌⊎◌, List, [], ◌∷◌, length, IsTrue, ◌↔◌, fold, bit_and, bit_or, slice_index, refl}
use Rattle.std.proofs.Common.{sym, ap, ap₂, ◌∙◌, inl, inr, arith}
use Rattle.std.proofs.lemmas.Bool.{cases_Bool, both_ways, cond-true, cond-false, eqb-false, ne_eqb, not-true, not_from_false}
use Rattle.std.proofs.lemmas.Bool.Decides.{Decides-and, Decides-eqb, Decides-ltb}
use Rattle.std.proofs.lemmas.List.Elements.{Contains-append_right}
use Rattle.sets.specs.Sets.{bit, InSet, Exactly}
use Rattle.sets.proofs.Laws.{none_in_zero, some_member, and_members, with_members, member_eqb}
use Rattle.policy.proofs.Members.{contains_none, contains_here, contains_cases}
use Rattle.automata.specs.declared.Transition.{Transition}
use Rattle.automata.specs.Runs.{Leads, Accepts}
use Rattle.automata.specs.Marks.{is_taken, with_reached, next_states, some_in}

-- a state of m from which a transition at s leads to r
pub record Source (ts : List Transition) (m s r : ℕ) : Type 0 where
  pub state : ℕ
  pub member : InSet m state
  pub leads : Leads ts state s r

-- a transition that is taken
pub record Goes (t : Transition) (m s : ℕ) : Type 0 where
  pub here : t.switch ≡ s
  pub from_state : t.from < 32
  pub member : InSet m t.from
  pub to_state : t.to < 32

taken : (t : Transition) (m s : ℕ) → IsTrue (is_taken t m s) ↔ Goes t m s
taken t m s =
    let d = Decides-and _ _ (Decides-eqb t.switch s) (Decides-and _ _ (Decides-and _ _ (Decides-ltb t.from 32) (member_eqb m t.from)) (Decides-ltb t.to 32)) in (
      (λ e. let h = d.0 e in record { here = h.0; from_state = h.1.0.0; member = h.1.0.1; to_state = h.1.1 }),
      (λ g. d.1 (g.here, ((g.from_state, g.member), g.to_state))),
    )

-- one transition more
source_later : (t : Transition) (ts : List Transition) (m s r : ℕ) → Source ts m s r → Source (t ∷ ts) m s r
source_later t ts m s r k = record {
  state = k.state;
  member = k.member;
  leads = record { listed = Contains-append_right (t ∷ []) ts _ k.leads.listed; from_state = k.leads.from_state; to_state = k.leads.to_state };
}

source_here : (t : Transition) (ts : List Transition) (m s r : ℕ) → Goes t m s → t.to ≡ r → Source (t ∷ ts) m s r
source_here t ts m s r g e = record {
  state = t.from;
  member = g.member;
  leads = record { listed = contains_here t ts _ (ap₂ (λ x y. record { from = t.from; switch = x; to = y }) g.here e); from_state = g.from_state; to_state = omega (arith, g.to_state, e) };
}

source_cases : (t : Transition) (ts : List Transition) (m s r : ℕ) → Source (t ∷ ts) m s r → (Goes t m s × (t.to ≡ r)) ⊎ Source ts m s r
source_cases t ts m s r k =
    elim (contains_cases t ts _ k.leads.listed) [
      | inl e ↦
          let from : t.from ≡ k.state = ap (λ (x : Transition). x.from) e in
          let to : t.to ≡ r = ap (λ (x : Transition). x.to) e in
          inl (
            record {
              here = ap (λ (x : Transition). x.switch) e;
              from_state = omega (arith, from, k.leads.from_state);
              member = ap (bit m) from ∙ k.member;
              to_state = omega (arith, to, k.leads.to_state);
            },
            to,
          )
      | inr h ↦ inr (record { state = k.state; member = k.member; leads = record { listed = h; from_state = k.leads.from_state; to_state = k.leads.to_state } })
    ]

-- the set after one transition
after_one : (t : Transition) (m s next : ℕ) → Exactly (with_reached m s next t) (λ r. InSet next r ⊎ (Goes t m s × (t.to ≡ r)))
after_one t m s next =
    elim (cases_Bool (is_taken t m s)) [
      | inl e ↦
          let w = with_members next t.to in
          let g = (taken t m s).0 e in
          rw (cond-true (is_taken t m s) (bit_or next (2 ^ t.to)) next e) record {
            each = λ r h. elim (w.each r h) [ inl k ↦ inl k | inr q ↦ inr (g, sym q) ];
            all = λ r h. w.all r (elim h [ inl k ↦ inl k | inr q ↦ inr (sym q.1) ]);
          }
      | inr e ↦ rw (cond-false (is_taken t m s) (bit_or next (2 ^ t.to)) next e) record {
        each = λ r h. inl h;
        all = λ r h. elim h [ inl k ↦ k | inr q ↦ absurd (both_ways (is_taken t m s) e ((taken t m s).1 q.0)) ];
      }
    ]

-- the set after all
after_all : (ts : List Transition) (m s next : ℕ) → Exactly (fold (with_reached m s) next ts) (λ r. InSet next r ⊎ Source ts m s r)
after_all [] m s next = record { each = λ r h. inl h; all = λ r h. elim h [ inl k ↦ k | inr k ↦ absurd (contains_none _ k.leads.listed) ] }
after_all (t ∷ ts) m s next =
    let here = after_one t m s next in
    let rest = after_all ts m s (with_reached m s next t) in
    record {
      each = λ r h. elim (rest.each r h) [
        | inl k ↦ elim (here.each r k) [ inl q ↦ inl q | inr g ↦ inr (source_here t ts m s r g.0 g.1) ]
        | inr k ↦ inr (source_later t ts m s r k)
      ];
      all = λ r h. rest.all r (elim h [
        | inl k ↦ inl (here.all r (inl k))
        | inr k ↦ elim (source_cases t ts m s r k) [ inl g ↦ inl (here.all r (inr g)) | inr q ↦ inr q ]
      ]);
    }

-- the next states are those that a transition leads to from one of the states
next_members : (ts : List Transition) (m s : ℕ) → Exactly (next_states ts m s) (Source ts m s)
next_members ts m s =
    let all = after_all ts m s 0 in
    record { each = λ r h. elim (all.each r h) [ inl k ↦ absurd (none_in_zero r k) | inr k ↦ k ]; all = λ r h. all.all r (inr h) }

module _ (ts : List Transition) (accepting : ℕ) where
  -- the mark says yes: a run over the list is accepted from one of its states
  sound : (xs : List ℕ) (m : ℕ) → some_in accepting (fold (next_states ts) m xs) ≡ true → Accepts ts m accepting xs
  sound [] m h =
      elim (some_member (bit_and m accepting)) [
        | inl z ↦ absurd (eqb-false _ 0 (not-true _ h) z)
        | inr q ↦
            let both = (and_members m accepting).each q.0 q.1 in
            record { states = q.0 ∷ []; one_more = refl; begins = both.0; goes_on = λ i l. absurd (omega arith); ends = both.1 }
      ]
  sound (x ∷ xs) m h =
      let rest = sound xs (next_states ts m x) h in
      let source = (next_members ts m x).each (slice_index rest.states 0) rest.begins in
      record {
        states = source.state ∷ rest.states;
        one_more = ap suc rest.one_more;
        begins = source.member;
        goes_on = onward rest source;
        ends = rest.ends;
      }
    where
      onward : (rest : Accepts ts (next_states ts m x) accepting xs) (source : Source ts m x (slice_index rest.states 0)) (i : ℕ) → i < length (x ∷ xs)
          → Leads ts (slice_index (source.state ∷ rest.states) i) (slice_index (x ∷ xs) i) (slice_index rest.states i)
      onward rest source zero l = source.leads
      onward rest source (suc i) l = rest.goes_on i (omega arith)

  -- a run over the list is accepted: the mark says yes
  complete : (xs : List ℕ) (m : ℕ) → Accepts ts m accepting xs → some_in accepting (fold (next_states ts) m xs) ≡ true
  complete [] m a =
      let both = (and_members m accepting).all (slice_index a.states 0) (a.begins, a.ends) in
      not_from_false _ (ne_eqb _ 0 (λ z. none_in_zero _ (ap (λ n. bit n (slice_index a.states 0)) (sym z) ∙ both)))
  complete (x ∷ xs) m a = complete xs (next_states ts m x) (tail a.states a.one_more a.begins a.goes_on a.ends)
    where
      tail : (qs : List ℕ) → length qs ≡ suc (length (x ∷ xs)) → InSet m (slice_index qs 0)
          → ((i : ℕ) → i < length (x ∷ xs) → Leads ts (slice_index qs i) (slice_index (x ∷ xs) i) (slice_index qs (suc i)))
          → InSet accepting (slice_index qs (length (x ∷ xs))) → Accepts ts (next_states ts m x) accepting xs
      tail [] more begins onward ends = absurd (omega (arith, more))
      tail (q ∷ qs) more begins onward ends = record {
        states = qs;
        one_more = omega (arith, more);
        begins = (next_members ts m x).all (slice_index qs 0) (record { state = q; member = begins; leads = onward 0 (omega arith) });
        goes_on = λ i l. onward (suc i) (omega arith);
        ends = ends;
      }

  pub some_run : (start : ℕ) (xs : List ℕ) → IsTrue (some_in accepting (fold (next_states ts) start xs)) ↔ Accepts ts start accepting xs
  some_run start xs = (sound xs start, complete xs start)
