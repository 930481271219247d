-- What stands between the two tables of a network.
use Rattle.std.specs.Prelude.{ℕ, List}
use Rattle.records.specs.declared.tables.Tables.{Tables}
use Rattle.records.specs.Tables.{movers, MoverSet}

-- the movers between the tables, rising
abbrev pub movers_between : Tables → List ℕ
movers_between t = movers t.switches t.flows t.old.now t.new.now

-- m is the set of the movers between the tables
abbrev pub MoversBetween : Tables → ℕ → Type 0
MoversBetween t m = MoverSet t.switches t.flows t.old.now t.new.now m
