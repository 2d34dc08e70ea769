-- The drivers of a flat design break none of the rules on expressions, where its modules break none of the rules that are judged before
-- clocks and drivers are looked at.
use Rattle.std.specs.Prelude.{◌≡◌, ◌≢◌, false, true, List, Contains, IsTrue}
use Rattle.wb_values.specs.Value.{Name}
use Rattle.verilog_trees.specs.Syntax.{Expression, Target, Statement}
use Rattle.verilog_meaning.specs.Expression.{Scope, undeclared}
use Rattle.verilog_meaning.specs.Hierarchy.{Placed}
use Rattle.verilog_meaning.specs.Settled.{Design, IsPlacedIn}
use Rattle.verilog_rules.specs.Expression.{Broken, is_unbroken, anywhere, broken}
use Rattle.verilog_designs.specs.Expressions.{by_constants, broken_net_target, broken_statement}
use Rattle.v_value.specs.Narrow.{HasNarrowObjects}
use Rattle.flat_designs.specs.Flat.{IsNameOf, Naming, IsFlat}
use Rattle.flat_rules.specs.Sound.{HasSoundModules, HasObjectInBounds}

abbrev pub BreaksNothing : Broken → Type 0
BreaksNothing b = IsTrue (is_unbroken b)

-- as a continuous assignment: its target outside of clocked blocks, with constant indexes, and its right side anywhere
pub record LinkBreaksNothing (s : Scope) (a : Target × Expression) : Type 0 where
  pub target : BreaksNothing (broken_net_target s by_constants a.0)
  pub value : BreaksNothing (broken s anywhere a.1)

-- each of these assignments, combinational blocks and clocked blocks
pub record DriversBreakNothing (s : Scope) (links : List (Target × Expression)) (blocks clocked : List Statement) : Type 0 where
  pub each_link : (a : Target × Expression) → Contains links a → LinkBreaksNothing s a
  pub each_block : (x : Statement) → Contains blocks x → BreaksNothing (broken_statement s false x)
  pub each_clocked : (x : Statement) → Contains clocked x → BreaksNothing (broken_statement s true x)

abbrev pub FlatDriversBreakNothing : Type 0
FlatDriversBreakNothing =
    (d : Design) (f : Naming) (s : Scope) (links : List (Target × Expression)) (blocks clocked : List Statement) → HasSoundModules d
    → IsFlat d f s links blocks clocked → DriversBreakNothing s links blocks clocked

-- What the scope says of the names of modules is in bounds.
abbrev pub FlatObjectsAreInBounds : Type 0
FlatObjectsAreInBounds =
    (d : Design) (f : Naming) (s : Scope) (links : List (Target × Expression)) (blocks clocked : List Statement) (p : Placed) (n : Name) → HasSoundModules d
    → IsFlat d f s links blocks clocked → IsPlacedIn d p → IsNameOf p n → HasObjectInBounds (s (f p.path n))

-- The scope knows no other names.
abbrev pub KnowsNoOtherNames : Design → Naming → Scope → Type 0
KnowsNoOtherNames d f s = (n : Name) → ((p : Placed) (m : Name) → IsPlacedIn d p → IsNameOf p m → f p.path m ≢ n) → s n ≡ undeclared

-- Then all that it says fits words.
abbrev pub FlatScopesAreNarrow : Type 0
FlatScopesAreNarrow =
    (d : Design) (f : Naming) (s : Scope) (links : List (Target × Expression)) (blocks clocked : List Statement) → HasSoundModules d
    → IsFlat d f s links blocks clocked → KnowsNoOtherNames d f s → HasNarrowObjects s
