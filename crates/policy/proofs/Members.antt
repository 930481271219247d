-- What stands in a list with one more element at the front. That an element of the rest stands in it is `Contains-append_right`.
use Rattle.std.proofs.Common.{◌≡◌, ℕ, zero, suc, ◌⊎◌, List, [], ◌∷◌, nat_eq, inl, inr, arith}
use Rattle.std.specs.List.{Contains}
use Rattle.std.specs.Set.{is_member}
use Rattle.std.proofs.lemmas.Bool.{cases_Bool}
use Rattle.std.proofs.lemmas.Bool.Decides.{Decides-eqb, not_from_Decides}
use Rattle.std.proofs.lemmas.Map.Made.{is_member-Decides}

module _ {X : Type 0} where
  pub contains_none : (y : X) → Contains [] y → ⊥
  contains_none y (k, inside, is) = omega arith

  pub contains_here : (x : X) (xs : List X) (y : X) → x ≡ y → Contains (x ∷ xs) y
  contains_here x xs y e = (0, omega arith, e)

  pub contains_cases : (x : X) (xs : List X) (y : X) → Contains (x ∷ xs) y → (x ≡ y) ⊎ Contains xs y
  contains_cases x xs y (zero, inside, is) = inl is
  contains_cases x xs y (suc k, inside, is) = inr (k, omega arith, is)

-- a number stands in the list or does not
pub cases_contains : (xs : List ℕ) (s : ℕ) → Contains xs s ⊎ (Contains xs s → ⊥)
cases_contains xs s =
    let told = is_member-Decides Decides-eqb xs s in
    elim (cases_Bool (is_member nat_eq xs s)) [ inl e ↦ inl (told.0 e) | inr e ↦ inr (not_from_Decides _ told e) ]
