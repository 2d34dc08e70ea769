-- Clocked blocks whose statements fit words, and updates whose places do.
use Rattle.std.specs.Prelude.{◌≤◌, List, [], ◌∷◌, map}
use Rattle.verilog_trees.specs.Syntax as pure
use Rattle.verilog_meaning.specs.Expression.{Scope}
use Rattle.verilog_meaning.specs.Statement.{Update, places_width}
use Rattle.v_syntax.specs.declared.module.Event.{Event}
use Rattle.v_syntax.specs.Source.{edge_of}
use Rattle.v_statement.specs.Statements.{IsNarrowStatement}

abbrev pub events_list : List Event → List pure.Event
events_list es = map (λ e. record { edge = edge_of e.edge; signal = e.signal.now }) es

abbrev pub AreNarrowBlocks : Scope → List pure.Statement → Type 0
AreNarrowBlocks s [] = Unit {0}
AreNarrowBlocks s (x ∷ xs) = IsNarrowStatement s x × AreNarrowBlocks s xs

abbrev pub AreNarrowUpdates : List Update → Type 0
AreNarrowUpdates [] = Unit {0}
AreNarrowUpdates (u ∷ us) = (places_width u.places ≤ 128) × AreNarrowUpdates us
