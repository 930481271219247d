use Rattle.std.proofs.Common.{◌≡◌, length}
use Rattle.sheet.specs.Layout.{flows, ends_from}
use Rattle.sheet.specs.Pieces.{first_wrong, section_b, flow_ends}
use Rattle.sheet.proofs.Firsts.{rest}
use Rattle.sheet.proofs.reader.Reader.section_b.Given as goal

-- the reader stands behind the ends of the flows so far, and the first fault is that of the others
abbrev pub invariant-loop : goal.invariant-loop
invariant-loop g l = let bs = g.S.Sheet.bytes in (l.self.at ≡ ends_from bs l.counter) × (first_wrong (length bs) (section_b bs) ≡ rest (length bs) (λ j. flow_ends bs (ends_from bs j)) l.counter (flows bs))
