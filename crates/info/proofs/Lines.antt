-- The movers as text, and what is told of a long input.
use Rattle.std.proofs.Common.{◌≡◌, ℕ, List, [], ◌∷◌, ◌++◌, take, Some, None, codes, decimal, Option, refl, sym, ap, arith}
use Rattle.std.proofs.lemmas.List.{append-nil, append_assoc, take_all}
use lib.Utf8.{encode}
use Rattle.faults.specs.declared.Fault.{Fault}
use Rattle.faults.specs.declared.Section.{Section}
use Rattle.faults.specs.declared.Section.TheVariants.{A, B, C, D, E}
use Rattle.faults.specs.Faults.{number_of, letter_of}
use Rattle.sheet.specs.Pieces.{first_fault}
use Rattle.cases.proofs.Starts.{first_bytes, lawful_short}
use Rattle.info.specs.Texts.{refused_text, movers_text, info_text}

-- a letter takes one byte
letter_text : (s : Section) → encode (letter_of s) ≡ letter_of s ∷ []
unfolding encode
letter_text A = refl
letter_text B = refl
letter_text C = refl
letter_text D = refl
letter_text E = refl

-- the line for a fault, written in parts
pub refused_line : (e : Fault) (number letter : ℕ) → number ≡ number_of e.kind → letter ≡ letter_of e.section → codes "refused " ++ (decimal number ++ (codes " " ++ (encode letter ++ (codes " " ++ (decimal e.place ++ codes "\n"))))) ≡ refused_text e
refused_line e number letter en el =
    rw (en, el, letter_text e.section)
    (ap (λ t. codes "refused " ++ t) (sym (append_assoc (decimal (number_of e.kind)) (codes " " ++ ((letter_of e.section ∷ []) ++ (codes " " ++ decimal e.place))) (codes "\n"))))

-- one mover more
pub movers_push : (ms : List ℕ) (s : ℕ) → movers_text (ms ++ (s ∷ [])) ≡ movers_text ms ++ (codes " " ++ decimal s)
movers_push [] s = simp append-nil
movers_push (m ∷ ms) s = simp (movers_push ms s, append_assoc)

-- a longer input is told as its start is
pub start_text : (bs : List ℕ) → info_text (take 1622 bs) ≡ info_text bs
start_text bs = by (first_fault bs) refl
  where
    by : (o : Option Fault) → first_fault bs ≡ o → info_text (take 1622 bs) ≡ info_text bs
    by None e = ap info_text (take_all 1622 bs (omega (arith, lawful_short bs e)))
    by (Some x) e = rw (first_bytes bs, e)
