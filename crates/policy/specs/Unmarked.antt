-- Policies that keep nothing of the switches met.
use Rattle.std.specs.Prelude.{◌≡◌, ℕ}

-- no switch changes the mark with which a flow begins
abbrev pub KeepsNoMark : {M : Type 0} → (M → ℕ → M) → M → Type 0
KeepsNoMark step start = (s : ℕ) → step start s ≡ start
