-- What stands when names are sorted, when the tables are filled, and when the module is lowered.
use Rattle.std.specs.Prelude.{◌≡◌, ◌≤◌, Bool, true, ◌++◌, List, is_some}
use Rattle.wb_values.specs.Value.{Name}
use Rattle.verilog_trees.specs.Syntax.{Statement}
use Rattle.verilog_meaning.specs.Expression.{Scope, object_width}
use Rattle.verilog_meaning.specs.Register.{clocked_blocks}
use Rattle.verilog_designs.specs.Names.{is_among}
use Rattle.wb_terms.specs.Graph.{Graph}
use Rattle.v_operators.specs.Meaning.{Grows}
use Rattle.v_lower.specs.Lowered.{Images}
use Rattle.v_settle.specs.OneModule.{IsEvaluated}
use Rattle.v_edge.specs.Edge.{AreUpdated}
use Rattle.v_registers.specs.Registers.{IsRegister, Counted, AreSplit}
use Rattle.v_elab.specs.Names.{AreEntriesOf, HasFewWords, chosen, left_out}
use Rattle.v_elab.specs.Start.{IsStart}
use Rattle.v_elab.specs.Elaborated.{Body, register_names}

-- Each name is among the registers, the inputs or the others; the store has the registers and then the inputs.
pub record AreSorted (s : Scope) (q : List Statement) (f : Name → Bool) (ds : List Name) (cs : List Counted) (stored others : List Name) : Type 0 where
  pub all : List Name
  pub split : AreSplit s q ds cs all
  pub stored_are : stored ≡ register_names cs ++ chosen f all
  pub others_are : others ≡ left_out f all

-- Names fit words, and nothing is given to a register from outside.
pub record CanBegin (s : Scope) (q : List Statement) (f : Name → Bool) : Type 0 where
  pub narrow : (n : Name) → object_width (s n) ≤ 128
  pub few : HasFewWords s
  pub apart : (n : Name) → f n ≡ true → ¬ IsRegister s q n

-- The tables are filled.
pub record HasBegun (s : Scope) (q : List Statement) (f : Name → Bool) (ds : List Name) (cs : List Counted) (g : Graph) (a n : Images) : Type 0 where
  pub others : List Name
  pub split : AreSplit s q ds cs others
  pub entries : AreEntriesOf s (register_names cs ++ chosen f others) g.names
  pub is_start : IsStart s q f g a n
  pub all_given : (m : Name) → is_some (a m) ≡ is_among ds m
  pub all_first : (m : Name) → is_some (n m) ≡ is_among ds m

-- Nets have settled, and clocked blocks have run.
pub record IsLowered (b : Body) (f : Name → Bool) (cs : List Counted) (g : Graph) (after next : Images) : Type 0 where
  pub start : Graph
  pub given : Images
  pub first : Images
  pub has_begun : HasBegun b.scope (clocked_blocks b.items) f b.declared cs start given first
  pub middle : Graph
  pub nets : Images
  pub evaluated : IsEvaluated b.scope b.items given start nets middle
  pub grows : Grows start middle
  pub updated : AreUpdated b.scope nets first middle (clocked_blocks b.items) after next g
  pub grows_more : Grows middle g
