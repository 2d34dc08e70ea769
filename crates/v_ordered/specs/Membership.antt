-- The code's members of a module, and members that are added where they are new.
use Rattle.std.specs.Prelude.{◌≡◌, Bool, cond, List, [], ◌∷◌, ◌++◌, map}
use Rattle.wb_values.specs.Value.{Name}
use Rattle.verilog_trees.specs.Syntax.{PortDeclaration, Item, port, parameter, wires, variables, assign, always, instances}
use Rattle.verilog_meaning.specs.Settled.{names_of}
use Rattle.verilog_registers.specs.Order.{Member, net, instance, each_once}
use Rattle.v_hier.specs.Tables.{has_name}
use Rattle.v_ordered.specs.declared.member.Member as code
use Rattle.v_ordered.specs.declared.member.Member.TheVariants as variants
use Rattle.v_ordered.specs.declared.members.Members.{Members}

abbrev pub member_of : code.Member → Member
member_of (variants.Net n) = net n.now
member_of (variants.Instance n) = instance n.now

-- ---- members of the parts of a module

abbrev pub nets_named : List Name → List Member
nets_named ns = map net ns

abbrev pub instances_named : List Name → List Member
instances_named ns = map instance ns

-- ports, but for those that are declared as variables besides
abbrev pub port_nets : (is_variable : Name → Bool) → List Name → List Member
port_nets is_variable [] = []
port_nets is_variable (n ∷ ns) = cond (is_variable n) (port_nets is_variable ns) (net n ∷ port_nets is_variable ns)

abbrev pub header_nets : (is_variable : Name → Bool) → List PortDeclaration → List Member
header_nets is_variable [] = []
header_nets is_variable (d ∷ ds) = port_nets is_variable d.names ++ header_nets is_variable ds

abbrev pub item_nets : (is_variable : Name → Bool) → Item → List Member
item_nets is_variable (port d) = port_nets is_variable d.names
item_nets is_variable (parameter d) = []
item_nets is_variable (wires signed r ws) = nets_named (names_of ws)
item_nets is_variable (variables signed r vs) = nets_named (names_of vs)
item_nets is_variable (assign ts) = []
item_nets is_variable (always es x) = []
item_nets is_variable (instances m given is) = instances_named (names_of is)

abbrev pub all_item_nets : (is_variable : Name → Bool) → List Item → List Member
all_item_nets is_variable [] = []
all_item_nets is_variable (i ∷ items) = item_nets is_variable i ++ all_item_nets is_variable items

-- ---- members that are new

-- the member is among those with these names
abbrev pub is_seen : (is_net is_instance : Name → Bool) → Member → Bool
is_seen is_net is_instance (net n) = is_net n
is_seen is_net is_instance (instance n) = is_instance n

abbrev pub unseen : (Member → Bool) → List Member → List Member
unseen seen [] = []
unseen seen (x ∷ xs) = cond (seen x) (unseen seen xs) (x ∷ unseen seen xs)

-- the members so far, and those of a list that are new
abbrev pub with_new : Members → List Member → List Member
with_new ms xs = map member_of ms.list.items ++ unseen (is_seen (has_name ms.nets) (has_name ms.instances)) (each_once xs)

-- Between the two these members were added, each where it was new.
abbrev pub Adds : Members → List Member → Members → Type 0
Adds before xs after = (rest : List Member) → with_new before (xs ++ rest) ≡ with_new after rest
