-- Scopes that differ in their nets, variables and memories alone, and the rules that do not rest on these: those on digits and on
-- constants. (So they can be judged where a net is too wide for a word, which is refused after them.)
use Rattle.std.specs.Prelude.{◌≡◌, ◌⊎◌, true, None}
use Rattle.wb_values.specs.Value.{Name}
use Rattle.verilog_trees.specs.Syntax.{Expression, Module, Source}
use Rattle.verilog_meaning.specs.Expression.{Object, Scope}
use Rattle.verilog_meaning.specs.Hierarchy.{header_ports, declarations}
use Rattle.verilog_rules.specs.Expression.{Broken, also, constant_if, anywhere, broken, constant_number}
use Rattle.verilog_designs.specs.Constants.{has_net_as_constant}
use Rattle.verilog_designs.specs.Expressions.{broken_header, broken_ports, broken_declarations, broken_module_items}

-- a net, a variable or a memory
abbrev pub IsNet : Object → Type 0
IsNet o = (o.is_declared ≡ true) × (o.constant ≡ None)

-- They say the same of each name, or it is a net, a variable or a memory in both.
abbrev pub AreAlike : Scope → Scope → Type 0
AreAlike s t = (n : Name) → (s n ≡ t n) ⊎ (IsNet (s n) × IsNet (t n))

-- Two judgements are the same on digits, and on constants.
pub record AgreeOnConstants (a b : Broken) : Type 0 where
  pub digits : a.has_xz ≡ b.has_xz
  pub constants : a.bad_constant ≡ b.bad_constant

abbrev pub ExpressionsAgree : Type 0
ExpressionsAgree = (s t : Scope) (e : Expression) → AreAlike s t → AgreeOnConstants (broken s anywhere e) (broken t anywhere e)

-- They say the same of each name, or it is a constant in neither one.
abbrev pub HaveSameConstants : Scope → Scope → Type 0
HaveSameConstants s t = (n : Name) → (s n ≡ t n) ⊎ (((s n).constant ≡ None) × ((t n).constant ≡ None))

abbrev pub NumbersAgree : Type 0
NumbersAgree = (s t : Scope) (e : Expression) → HaveSameConstants s t → constant_number s e ≡ constant_number t e

-- what a module breaks, judged in this scope
abbrev pub broken_in_scope : Source → Scope → Module → Broken
broken_in_scope source s m =
    also (constant_if (has_net_as_constant source m))
    (also (also (broken_header s m.parameters) (broken_ports s (header_ports m.ports)))
    (also (broken_declarations s m (declarations m)) (broken_module_items source s m.items)))

abbrev pub ModulesAgree : Type 0
ModulesAgree = (source : Source) (s t : Scope) (m : Module) → AreAlike s t → AgreeOnConstants (broken_in_scope source s m) (broken_in_scope source t m)
