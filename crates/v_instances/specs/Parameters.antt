-- What the rules say of declarations of parameters, one after the other.
use Rattle.std.specs.Prelude.{ℕ, ◌+◌, Bool, false, nat_lt, List, [], ◌∷◌, Option, Some, None}
use Rattle.wb_values.specs.Value.{Name}
use Rattle.wb_values.specs.Choice.{some_if}
use Rattle.verilog_trees.specs.Syntax.{Expression, Range, ParameterDeclaration, Item, port, parameter, wires, variables, assign, always, instances}
use Rattle.verilog_meaning.specs.Expression.{Scope, distance, sign_of, width_of}
use Rattle.verilog_rules.specs.Expression as rules
use Rattle.verilog_designs.specs.Known.{known_bound}
use Rattle.verilog_designs.specs.Expressions as designs
use Rattle.v_size.specs.declared.rule.Broken.{Broken}
use Rattle.v_size.specs.Rule.{coded, both}
use Rattle.v_instances.specs.declared.parameter.Bound.{Bound}
use Rattle.v_instances.specs.declared.parameter.RangeWidth.{RangeWidth}
use Rattle.v_instances.specs.declared.parameter.RangeWidth.TheVariants.{Absent, Unknown, Known}
use Rattle.v_instances.specs.declared.parameter.DeclaredRange.{DeclaredRange}
use Rattle.v_instances.specs.Outputs.{none}

-- a bound of a range, under a name that does not unfold by itself
unfoldable pub bound_at : Scope → Expression → Bound
bound_at s e = record { broken = coded (designs.broken_bound s e); value = known_bound s e }

-- how many bits stand from one bound to the other, both among them
abbrev pub width_between : Option ℕ → Option ℕ → Option ℕ
width_between (Some l) (Some r) = Some (distance l r + 1)
width_between (Some l) None = None
width_between None r = None

abbrev pub of_width : Option ℕ → RangeWidth
of_width None = Unknown
of_width (Some w) = Known w

abbrev pub is_wide : RangeWidth → Bool
is_wide Absent = false
is_wide Unknown = false
is_wide (Known w) = nat_lt 128 w

abbrev pub ranged : Bound → Bound → DeclaredRange
ranged l r = record { broken = both l.broken r.broken; width = of_width (width_between l.value r.value) }

abbrev pub range_at : Scope → Option Range → DeclaredRange
range_at s None = record { broken = none; width = Absent }
range_at s (Some r) = ranged (bound_at s r.left) (bound_at s r.right)

-- the place of a value by the range that is declared, its own width and its own sign
abbrev pub value_place : RangeWidth → Option ℕ → Bool → rules.Position
value_place Absent v t = rules.constant v t
value_place Unknown v t = rules.constant None t
value_place (Known w) v t = rules.constant (rules.wider (Some w) v) t

unfoldable pub value_at : Scope → RangeWidth → Expression → Broken
value_at s w e = coded (rules.broken s (value_place w (some_if (rules.has_width s e) (width_of s e)) (sign_of s e)) e)

-- values after others
abbrev pub values_from : Scope → RangeWidth → Broken → List (Name × Expression) → Broken
values_from s w a [] = a
values_from s w a (v ∷ vs) = values_from s w (both a (value_at s w v.1)) vs

abbrev pub of_range : Scope → DeclaredRange → List (Name × Expression) → Broken
of_range s r vs = both r.broken (both (coded (rules.width_if (is_wide r.width))) (values_from s r.width none vs))

abbrev pub declaration_at : Scope → ParameterDeclaration → Broken
declaration_at s d = of_range s (range_at s d.range) d.values

-- declarations after others
abbrev pub declarations_from : Scope → Broken → List ParameterDeclaration → Broken
declarations_from s a [] = a
declarations_from s a (d ∷ ds) = declarations_from s (both a (declaration_at s d)) ds

abbrev pub parameter_item_at : Scope → Item → Broken
parameter_item_at s (port d) = none
parameter_item_at s (parameter d) = declaration_at s d
parameter_item_at s (wires signed r ws) = none
parameter_item_at s (variables signed r vs) = none
parameter_item_at s (assign ts) = none
parameter_item_at s (always es x) = none
parameter_item_at s (instances m given is) = none

-- items after others
abbrev pub parameter_items_from : Scope → Broken → List Item → Broken
parameter_items_from s a [] = a
parameter_items_from s a (i ∷ items) = parameter_items_from s (both a (parameter_item_at s i)) items
