-- The order of a design's registers: depth first, and in one module the order of the text.
use Rattle.std.specs.Prelude.{◌≡◌, Bool, false, cond, ◌&&◌, ◌||◌, List, [], ◌∷◌, ◌++◌, map, Some, is_some, is_none}
use Rattle.wb_values.specs.Value.{Name, same_name}
use Rattle.verilog_trees.specs.Syntax.{Item, port, parameter, wires, variables, assign, always, instances, Module}
use Rattle.verilog_meaning.specs.Hierarchy.{Declaration, port_declarations, item_declarations, header_ports, declarations, instance_step, Placed, dotted}
use Rattle.verilog_meaning.specs.Settled.{Design, at_path}
use Rattle.verilog_designs.specs.Ports.{is_reg}
use Rattle.verilog_registers.specs.Registers.{IsRegister}

-- what stands in a module and may have registers: a net or variable, or an instance
pub data Member : Type 0 where
  net : Name → Member
  instance : Name → Member

abbrev pub same_member : Member → Member → Bool
same_member (net m) (net n) = same_name m n
same_member (net m) (instance n) = false
same_member (instance m) (net n) = false
same_member (instance m) (instance n) = same_name m n

abbrev pub nets : List Declaration → List Member
nets ds = map (λ d. net d.of_name) ds

abbrev pub instances_in : Item → List Member
instances_in (port d) = []
instances_in (parameter d) = []
instances_in (wires signed r ws) = []
instances_in (variables signed r vs) = []
instances_in (assign ts) = []
instances_in (always es x) = []
instances_in (instances m given is) = map (λ i. instance i.0) is

abbrev pub declares_variable : Declaration → Bool
declares_variable d = is_none d.direction && is_reg d.kind

-- The name is declared as a variable, other than by its port's declaration.
abbrev pub is_variable_among : List Declaration → Name → Bool
is_variable_among [] n = false
is_variable_among (d ∷ ds) n = (same_name d.of_name n && declares_variable d) || is_variable_among ds n

-- the declaration of a port that is declared as a variable besides
abbrev pub is_passed_over : List Declaration → Declaration → Bool
is_passed_over all d = is_some d.direction && is_variable_among all d.of_name

-- A port that is declared as a variable besides stands where that declaration does.
abbrev pub placed_among : (all : List Declaration) → List Declaration → List Declaration
placed_among all [] = []
placed_among all (d ∷ ds) = cond (is_passed_over all d) (placed_among all ds) (d ∷ placed_among all ds)

abbrev pub item_members : (all : List Declaration) → List Item → List Member
item_members all [] = []
item_members all (i ∷ items) = nets (placed_among all (item_declarations (i ∷ []))) ++ instances_in i ++ item_members all items

abbrev pub others : Member → List Member → List Member
others x [] = []
others x (y ∷ ys) = cond (same_member x y) (others x ys) (y ∷ others x ys)

abbrev pub each_once : List Member → List Member
each_once [] = []
each_once (x ∷ xs) = x ∷ others x (each_once xs)

-- The members of a module: those of its header, and then those of its items, in the order of the text.
abbrev pub members_in : Module → List Member
members_in m = each_once (nets (placed_among (declarations m) (port_declarations (header_ports m.ports))) ++ item_members (declarations m) m.items)

-- The dotted names of the registers that these members of a module have, in their order: a net or variable that is a register, and the
-- registers of an instance where it stands.
pub data AreInOrder (d : Design) : Placed → List Member → List Name → Type 0 where
  end : (p : Placed) → AreInOrder d p [] []
  register : (p : Placed) (n : Name) (xs : List Member) (ns : List Name) → IsRegister d p n → AreInOrder d p xs ns
      → AreInOrder d p (net n ∷ xs) (dotted p.path n ∷ ns)
  other : (p : Placed) (n : Name) (xs : List Member) (ns : List Name) → ¬ IsRegister d p n → AreInOrder d p xs ns
      → AreInOrder d p (net n ∷ xs) ns
  below : (p q : Placed) (u : Name) (xs : List Member) (ms ns : List Name) → at_path d (instance_step u ∷ p.path) ≡ Some q
      → AreInOrder d q (members_in q.of_module) ms → AreInOrder d p xs ns → AreInOrder d p (instance u ∷ xs) (ms ++ ns)

-- The dotted names of all registers of a design, in their order.
abbrev pub AreRegisterNames : Design → List Name → Type 0
AreRegisterNames d ns = (top : Placed) → at_path d [] ≡ Some top → AreInOrder d top (members_in top.of_module) ns
