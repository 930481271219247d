use Rattle.std.proofs.Common.{◌≡◌, length}
use Rattle.sheet.specs.Layout.{flows, mask_from}
use Rattle.sheet.specs.Pieces.{first_wrong, needed_section, needed_mask}
use Rattle.sheet.proofs.Firsts.{rest}
use Rattle.sheet.proofs.reader.Reader.needed.Given as goal

-- the reader stands behind the masks of the flows so far, and the first fault is that of the others
abbrev pub invariant-loop : goal.invariant-loop
invariant-loop g l =
    let bs = g.S.Sheet.bytes in
    let at = l.fn.self.at in
    (l.self.at ≡ mask_from at l.counter) × (first_wrong (length bs) (needed_section bs at) ≡ rest (length bs) (λ j. needed_mask bs (mask_from at j)) l.counter (flows bs))
