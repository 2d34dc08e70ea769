-- What is found out of a module: what its declared names break, what its text breaks, and both together.
use Rattle.std.specs.Prelude.{Bool, true, false, cond, not, ◌&&◌, ◌||◌, nat_le, nat_lt, List, [], ◌∷◌, ◌++◌, None, is_some, is_none}
use Rattle.wb_values.specs.Value.{Name, Entries}
use Rattle.verilog_trees.specs.Syntax.{Module, Source}
use Rattle.verilog_meaning.specs.Expression.{Object, Scope, undeclared, object_width, is_memory}
use Rattle.verilog_meaning.specs.Hierarchy.{header_ports}
use Rattle.verilog_rules.specs.Expression as rules
use Rattle.verilog_designs.specs.Expressions as designs
use Rattle.v_scopes.specs.Rows.{Row, objects_by}
use Rattle.v_size.specs.declared.rule.Broken.{Broken}
use Rattle.v_size.specs.Rule.{coded, both}

-- ---- declared names

abbrev pub name_broken : Object → (is_port : Bool) → Broken
name_broken o port = both (coded (rules.width_if (nat_lt 128 (object_width o)))) (coded (designs.memory_if (port && is_memory o)))

-- names after others
abbrev pub names_from : Scope → Broken → List Row → Broken
names_from s a [] = a
names_from s a (d ∷ ds) = names_from s (both a (name_broken (s d.of_name) (is_some d.direction))) ds

-- declared, and no constant
abbrev pub is_net_object : Object → Bool
is_net_object o = o.is_declared && is_none o.constant

-- Some declared name stands for no net: its range has no value, or it is a constant.
abbrev pub one_other : Scope → List Row → Bool
one_other s [] = false
one_other s (d ∷ ds) = not (is_net_object (s d.of_name)) || one_other s ds

-- ---- names of at most 128 bits

-- A wide net as one of two bits at most, whose range runs in the same direction.
abbrev pub narrowed : Object → Object
narrowed o =
    cond (nat_lt 128 (object_width o)) (record o { left = 0; right = cond (nat_le o.right o.left) 0 1; constant = None }) (record o { constant = None })

-- a net also where its range has no value
abbrev pub as_net : Object → Object
as_net o = cond o.is_declared o (record undeclared { is_declared = true })

-- constants, and after them declared names
abbrev pub narrow_objects : (constants : Entries Object) → Scope → List Row → Entries Object
narrow_objects constants s ds = constants ++ objects_by (λ n. narrowed (s n)) ds

-- declared names that are no parameters, as nets
abbrev pub nets_by : (is_parameter : Name → Bool) → Scope → List Row → Entries Object
nets_by p s [] = []
nets_by p s (d ∷ ds) = cond (p d.of_name) (nets_by p s ds) ((d.of_name, as_net (narrowed (s d.of_name))) ∷ nets_by p s ds)

-- The same names, where each net is declared.
abbrev pub net_objects : (is_parameter : Name → Bool) → (constants : Entries Object) → Scope → List Row → Entries Object
net_objects p constants s ds = nets_by p s ds ++ narrow_objects constants s ds

-- ---- modules

-- what the ports, the parameters and the items of a module break
abbrev pub text : Source → Scope → Module → rules.Broken
text source s m =
    rules.also (designs.broken_ports s (header_ports m.ports)) (rules.also (designs.broken_header s m.parameters) (designs.broken_module_items source s m.items))

-- without what is no kind
abbrev pub kinds_alone : Broken → Broken
kinds_alone b = record b { misshapen = false }

-- what declared names and the text break together
abbrev pub combined : (declared text : Broken) (net : Bool) → Broken
combined d t n = kinds_alone (both (coded (rules.constant_if n)) (both t d))
