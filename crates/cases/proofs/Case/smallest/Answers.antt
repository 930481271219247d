use Rattle.std.proofs.Common.{refl}
use Rattle.sets.specs.Sets.{members}
use Rattle.sheet.specs.Layout.{smallest_sheet}
use Rattle.sheet.specs.Pieces.{section_a, section_b, table_section, needed_section, sheet_pieces}
use Rattle.records.specs.Tables.{movers}
use Rattle.cases.proofs.Lawfuls.{sheet_right}
use Rattle.cases.proofs.Case.smallest.Goals as goal

pub invariant_of-result : goal.invariant_of-result
unfolding members movers section_a section_b table_section needed_section sheet_pieces
invariant_of-result c = (refl, tt)

pub invariant_of-result-2 : goal.invariant_of-result-2
unfolding members movers section_a section_b table_section needed_section sheet_pieces
invariant_of-result-2 c = record { lawful = (sheet_right _).0 refl; numbered = refl; flowing = refl; listed = refl }

pub returns-clause-lawful : goal.returns-clause-lawful
unfolding members movers section_a section_b table_section needed_section sheet_pieces
returns-clause-lawful c = (sheet_right _).0 refl
