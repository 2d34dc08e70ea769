-- The drivers of a module that wait for no clock.
use Rattle.std.specs.Prelude.{List, [], ◌∷◌, ◌++◌}
use Rattle.verilog_trees.specs.Syntax.{Expression, Target, Statement, blocking, Item}
use Rattle.verilog_meaning.specs.Register.{combinational_blocks}
use Rattle.verilog_meaning.specs.Settled.{assignments}

-- ---- as statements

-- continuous assignments as statements
abbrev pub as_statements : List (Target × Expression) → List Statement
as_statements [] = []
as_statements (a ∷ links) = blocking a.0 a.1 ∷ as_statements links

-- The drivers of a module as statements, in the order of the text: continuous assignments as blocking ones, and combinational blocks.
abbrev pub drivers : List Item → List Statement
drivers [] = []
drivers (i ∷ items) = as_statements (assignments (i ∷ [])) ++ (combinational_blocks (i ∷ []) ++ drivers items)

-- ---- with what they are

-- a continuous assignment or a combinational block
pub data Driving : Type 0 where
  by_link : Target → Expression → Driving
  by_block : Statement → Driving

abbrev pub statement_by : Driving → Statement
statement_by (by_link t e) = blocking t e
statement_by (by_block x) = x

abbrev pub all_links : List (Target × Expression) → List Driving
all_links [] = []
all_links (a ∷ links) = by_link a.0 a.1 ∷ all_links links

abbrev pub all_blocks : List Statement → List Driving
all_blocks [] = []
all_blocks (x ∷ xs) = by_block x ∷ all_blocks xs

-- the drivers of a module, in the order of the text
abbrev pub drivings : List Item → List Driving
drivings [] = []
drivings (i ∷ items) = all_links (assignments (i ∷ [])) ++ (all_blocks (combinational_blocks (i ∷ [])) ++ drivings items)
