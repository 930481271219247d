use Rattle.std.proofs.Common.{◌≡◌, length}
use Rattle.sheet.specs.Layout.{switches, row_from}
use Rattle.sheet.specs.Pieces.{first_wrong, table_section, switch_row}
use Rattle.sheet.proofs.Firsts.{rest}
use Rattle.sheet.proofs.reader.Reader.table.Given as goal

-- the reader stands behind the rows of the switches so far, and the first fault is that of the others
abbrev pub invariant-loop-s : goal.invariant-loop-s
invariant-loop-s g l =
    let bs = g.S.Sheet.bytes in
    let at = l.fn.self.at in
    (l.self.at ≡ row_from bs at l.s) × (first_wrong (length bs) (table_section bs l.section at) ≡ rest (length bs) (λ s. switch_row bs l.section (row_from bs at s) s) l.s (switches bs))
