-- A design with instances as drivers in one scope, 1364-2005, 12.3.9 and 12.3.11: each name of a module that stands in the design is
-- replaced by a name there, and the connections of ports are continuous assignments.
use Rattle.std.specs.Prelude.{◌≡◌, ◌⊎◌, ◌↔◌, List, Contains, Some, IsTrue}
use Rattle.wb_values.specs.Value.{Name, Valuation}
use Rattle.verilog_trees.specs.Syntax.{Expression, Target, Statement, input, output}
use Rattle.verilog_meaning.specs.Expression.{Scope}
use Rattle.verilog_meaning.specs.Register.{clocked_blocks, combinational_blocks}
use Rattle.verilog_meaning.specs.Hierarchy.{all_parameters, PathStep, Placed, placed_scope, dotted}
use Rattle.verilog_meaning.specs.Settled.{Design, IsPlacedIn, inside, IsDeclared, assignments, as_target, whole_of, whole_name, Connection, port_connections, IsConnectedTo}
use Rattle.verilog_designs.specs.Names.{is_among, parameter_names}
use Rattle.verilog_exists.specs.Exists.{NamesHaveNoDots}
use Rattle.verilog_renamed.specs.Renamed.{renamed_expression, renamed_target, renamed_assignment, renamed_statement}
use Rattle.verilog_renamed.specs.Laws.{IsOneToOne}

-- The name is a net, variable, memory or parameter of the module.
abbrev pub IsNameOf : Placed → Name → Type 0
IsNameOf p n = IsDeclared p n ⊎ IsTrue (is_among (parameter_names (all_parameters p.of_module)) n)

-- ---- names in one scope

-- What a name of the module at a path is called in the one scope: its dotted name, or a shorter one.
abbrev pub Naming : Type 0
Naming = List PathStep → Name → Name

-- Names of one module differ there where they differ in the module: all names, also those that the module does not declare.
abbrev pub KeepsNamesApart : Design → Naming → Type 0
KeepsNamesApart d f = (p : Placed) → IsPlacedIn d p → IsOneToOne (f p.path)

-- A name there tells the module and its name in it.
pub record IsNaming (d : Design) (f : Naming) : Type 0 where
  pub apart : KeepsNamesApart d f
  pub tells : (p q : Placed) (n m : Name) → IsPlacedIn d p → IsPlacedIn d q → IsNameOf p n → IsNameOf q m → f p.path n ≡ f q.path m
      → (p.path ≡ q.path) × (n ≡ m)

-- Under each new name w has what v has under the dotted name: of all names, also of those that no module declares.
abbrev pub IsSeenAs : Design → Naming → (v w : Valuation) → Type 0
IsSeenAs d f v w = (p : Placed) (n : Name) → IsPlacedIn d p → w (f p.path n) ≡ inside v p n

-- Dotted names keep the names of a module apart, each valuation is its own under them, and where no name has a dot they tell the module.
pub record NamesByDots (d : Design) : Type 0 where
  pub apart : KeepsNamesApart d dotted
  pub seen : (v : Valuation) → IsSeenAs d dotted v v
  pub naming : NamesHaveNoDots d.source → IsNaming d dotted

abbrev pub DottedNamesAreANaming : Type 0
DottedNamesAreANaming = (d : Design) → NamesByDots d

-- ---- connections as assignments

-- what is connected in module p to input n of the module below it
abbrev pub into_input : Naming → (p below : Placed) → Name → Expression → Target × Expression
into_input f p below n e = (whole_of (f below.path n), renamed_expression (f p.path) e)

-- what is connected in module p to output n of the module below it
abbrev pub out_of_output : Naming → (p below : Placed) → Name → Target → Target × Expression
out_of_output f p below n t = (renamed_target (f p.path) t, whole_name (f below.path n))

-- The connection, written in module p, is this assignment.
pub data IsLink (d : Design) (f : Naming) (p : Placed) (c : Connection) : Target × Expression → Type 0 where
  to_input : (below : Placed) (n : Name) → IsConnectedTo d p c below n input → IsLink d f p c (into_input f p below n c.expression)
  of_output : (below : Placed) (n : Name) (t : Target) → IsConnectedTo d p c below n output → as_target c.expression ≡ Some t
      → IsLink d f p c (out_of_output f p below n t)

-- ---- the drivers of a design

-- It is an assignment of a module that stands in the design, with its names replaced, or a connection there.
pub data IsFlatLink (d : Design) (f : Naming) : Target × Expression → Type 0 where
  of_module : (p : Placed) (a : Target × Expression) → IsPlacedIn d p → Contains (assignments p.of_module.items) a
      → IsFlatLink d f (renamed_assignment (f p.path) a)
  of_connection : (p : Placed) (c : Connection) (a : Target × Expression) → IsPlacedIn d p → Contains (port_connections p.of_module.items) c
      → IsLink d f p c a → IsFlatLink d f a

-- It is a combinational block of a module that stands in the design, with its names replaced.
pub data IsFlatBlock (d : Design) (f : Naming) : Statement → Type 0 where
  of_block : (p : Placed) (x : Statement) → IsPlacedIn d p → Contains (combinational_blocks p.of_module.items) x
      → IsFlatBlock d f (renamed_statement (f p.path) x)

-- It is a clocked block of such a module, with its names replaced.
pub data IsFlatClocked (d : Design) (f : Naming) : Statement → Type 0 where
  of_clocked : (p : Placed) (x : Statement) → IsPlacedIn d p → Contains (clocked_blocks p.of_module.items) x
      → IsFlatClocked d f (renamed_statement (f p.path) x)

-- The scope says of the names there what each module's scope says of its own names, and the lists have the drivers of the design as
-- sets: in any order, equal drivers once or more often.
pub record IsFlat (d : Design) (f : Naming) (s : Scope) (links : List (Target × Expression)) (blocks clocked : List Statement) : Type 0 where
  pub says_the_same : (p : Placed) (n : Name) → IsPlacedIn d p → IsNameOf p n → s (f p.path n) ≡ placed_scope p n
  pub are_links : (a : Target × Expression) → Contains links a ↔ IsFlatLink d f a
  pub are_blocks : (x : Statement) → Contains blocks x ↔ IsFlatBlock d f x
  pub are_clocked : (x : Statement) → Contains clocked x ↔ IsFlatClocked d f x
