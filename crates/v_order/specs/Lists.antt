-- Lists of the code as lists of the definitions.
use Rattle.std.specs.Prelude.{List, map}
use Rattle.verilog_trees.specs.Syntax.{whole, place, Statement}
use Rattle.v_syntax.specs.Tree.{tree_of, target_of, statement_of}
use Rattle.v_order.specs.declared.driver.Driver.{Driver}
use Rattle.v_order.specs.declared.driver.Driver.TheVariants as kinds
use Rattle.v_order.specs.Drivers.{Driving, by_link, by_block, statement_by}

abbrev pub driving_in : Driver → Driving
driving_in (kinds.Link t e) = by_link (target_of t.now) (tree_of e.now)
driving_in (kinds.Net n e) = by_link (place n.now whole) (tree_of e.now)
driving_in (kinds.Block x) = by_block (statement_of x.now)

abbrev pub statement_in : Driver → Statement
statement_in d = statement_by (driving_in d)

abbrev pub drivings_in : List Driver → List Driving
drivings_in ds = map driving_in ds

abbrev pub statements_in : List Driver → List Statement
statements_in ds = map statement_in ds
