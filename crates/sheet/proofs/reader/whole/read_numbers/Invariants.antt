use Rattle.sheet.proofs.reader.whole.read_numbers.Given as goal

-- the sheet that is read
abbrev pub ghosts-read_all : goal.ghosts-read_all
ghosts-read_all a = record { bytes = a.sheet.now }
