-- The proof of a law, which has to stand here: nothing to believe. A pair of marks is passed on along a list as each of its halves is.
use Rattle.std.specs.Prelude.{◌≡◌, ℕ, List, [], ◌∷◌, fold, refl}

module _ {M N : Type 0} (f : M → ℕ → M) (h : N → ℕ → N) where
  pub fold_pair : (xs : List ℕ) (m : M) (n : N) → fold {B = M × N} (λ mark s. (f mark.0 s, h mark.1 s)) (m, n) xs ≡ (fold f m xs, fold h n xs)
  fold_pair [] m n = refl
  fold_pair (x ∷ xs) m n = fold_pair xs (f m x) (h n x)
