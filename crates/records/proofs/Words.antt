-- Parts of a list, numbers written by bytes, and rows read hop by hop.
use Rattle.std.proofs.Common.{◌≡◌, ℕ, ◌+◌, ◌*◌, ◌<◌, ◌≤◌, true, false, ◌&&◌, List, length, get_or, take, drop, ap, ◌∙◌, arith}
use Rattle.std.specs.Int.Digits.{number_from_digits}
use Rattle.std.proofs.lemmas.Int.Digits.{number_more}
use Rattle.std.proofs.lemmas.List.{at_drop_more, get_or-take, get_or-drop, length-take, length-drop}
use Rattle.records.specs.Masks.{bytes_at}
use Rattle.records.specs.Tables.{hop_fits, row_fits}

-- a part of a list: its length, and what stands in it
pub part_length : (xs : List ℕ) (p k : ℕ) → p + k ≤ length xs → length (bytes_at xs p k) ≡ k
part_length xs p k h = length-take k (drop p xs) ∙ omega (arith, length-drop p xs)

pub part_byte : (xs : List ℕ) (p k j : ℕ) → j < k → get_or (bytes_at xs p k) j 0 ≡ get_or xs (p + j) 0
part_byte xs p k j h = get_or-take k (drop p xs) j 0 h ∙ get_or-drop p xs j 0

-- a number with one byte more
pub word_more : (bs : List ℕ) (i m b : ℕ) → i < length bs → b ≡ get_or bs i 0 → m ≡ number_from_digits 256 (take i bs) → m * 256 + b ≡ number_from_digits 256 (take (i + 1) bs)
word_more bs i m b h eb em = let s = number_more 256 bs i h in cc

-- a row whose next hop fits, and one whose next hop does not
pub row_more : (m : ℕ) (row : List ℕ) (i : ℕ) → i < length row → hop_fits m (get_or row i 0) ≡ true → row_fits m (drop i row) ≡ row_fits m (drop (i + 1) row)
row_more m row i h e = at_drop_more (row_fits m) row i 0 h ∙ ap (λ b. b && row_fits m (drop (i + 1) row)) e

pub row_stops : (m : ℕ) (row : List ℕ) (i : ℕ) → i < length row → hop_fits m (get_or row i 0) ≡ false → row_fits m (drop i row) ≡ false
row_stops m row i h e = at_drop_more (row_fits m) row i 0 h ∙ ap (λ b. b && row_fits m (drop (i + 1) row)) e
