-- Rows of a table, and what it is for the two rows of a switch to differ.
use Rattle.std.proofs.Common.{◌≡◌, ◌≢◌, ℕ, suc, ◌+◌, ◌*◌, ◌<◌, ◌≤◌, List, [], ◌∷◌, length, get_or, Decides, refl, sym, ap, ◌∙◌, inl, inr, mul-le-mul_right, add-mul, arith}
use Rattle.std.specs.Str.{bytes_eq}
use Rattle.std.proofs.lemmas.Slice.Eq.{bytes_eq-Decides}
use Rattle.std.proofs.lemmas.Bool.{cases_eq}
use Rattle.std.proofs.lemmas.Bool.Decides.{Decides-not, Decides-like}
use Rattle.sets.specs.Sets.{Exactly}
use Rattle.sets.proofs.Laws.{Chosen}
use Rattle.records.proofs.Words.{part_length, part_byte}
use Rattle.records.specs.Tables.{table_row, Mover, rows_differ}

-- the row of a switch below n lies within a table of n rows
pub row_inside : (n f s size : ℕ) → s < n → n * f ≤ size → s * f + f ≤ size
row_inside n f s size h all = omega (arith, mul-le-mul_right {m = s + 1} {n = n} f (omega arith), add-mul s 1 f)

-- lists that are not the same differ at some place
parted : (xs ys : List ℕ) → length xs ≡ length ys → xs ≢ ys → (j : ℕ) × (j < length xs) × (get_or xs j 0 ≢ get_or ys j 0)
parted [] [] l ne = absurd (ne refl)
parted [] (y ∷ ys) l ne = cc
parted (x ∷ xs) [] l ne = cc
parted (x ∷ xs) (y ∷ ys) l ne =
    elim (cases_eq x y) [
      | inl e ↦ let p = parted xs ys (omega arith) (λ t. ne (cc)) in (suc p.0, omega (arith, p.1), p.2)
      | inr d ↦ (0, omega arith, d)
    ]

module _ (n f : ℕ) (old new : List ℕ) (in_old : n * f ≤ length old) (in_new : n * f ≤ length new) where
  pub mover_test : (s : ℕ) → s < n → Decides (rows_differ f old new s) (Mover n f old new s)
  mover_test s h =
      let a = table_row f old s in
      let b = table_row f new s in
      let la : length a ≡ f = part_length old (s * f) f (row_inside n f s (length old) h in_old) in
      let lb : length b ≡ f = part_length new (s * f) f (row_inside n f s (length new) h in_new) in
      Decides-like (rows_differ f old new s)
      (λ ne.
      let p = parted a b (la ∙ sym lb) ne in
      let less : p.0 < f = omega (arith, p.1, la) in
      record { inside = h; place = (p.0, less, rw (← part_byte old (s * f) f p.0 less, ← part_byte new (s * f) f p.0 less) p.2) })
      (λ m e. m.place.2 (rw (← part_byte old (s * f) f m.place.0 m.place.1, ← part_byte new (s * f) f m.place.0 m.place.1) (ap (λ xs. get_or xs m.place.0 0) e)))
      (Decides-not (bytes_eq a b) (bytes_eq-Decides a b))

  pub chosen_movers : (m : ℕ) → Chosen m (rows_differ f old new) n → Exactly m (λ s. Mover n f old new s)
  chosen_movers m only = record {
    each = λ s h. let k = only.each s h in (mover_test s k.0).0 k.1;
    all = λ s h. only.all s (h.inside, (mover_test s h.inside).1 h);
  }
