use Rattle.std.proofs.Common.{◌≡◌, length}
use Rattle.sheet.specs.Layout.{switches, links_from}
use Rattle.sheet.specs.Pieces.{first_wrong, section_a, link_mask}
use Rattle.sheet.proofs.Firsts.{rest}
use Rattle.sheet.proofs.reader.Reader.section_a.Given as goal

-- the reader stands behind the links of the switches so far, and the first fault is that of the others
abbrev pub invariant-loop-s : goal.invariant-loop-s
invariant-loop-s g l = let bs = g.S.Sheet.bytes in (l.self.at ≡ links_from l.s) × (first_wrong (length bs) (section_a bs) ≡ rest (length bs) (link_mask bs) l.s (switches bs))
