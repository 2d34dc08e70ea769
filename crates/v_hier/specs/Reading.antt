-- Which names may be used, as tests over the code's trees, and what reading a module's text comes to.
use Rattle.std.specs.Prelude.{◌≡◌, Bool, true, false, cond, not, ◌&&◌, ◌||◌, List, [], ◌∷◌, ◌++◌, Option, Some, None}
use Rattle.wb_values.specs.Value.{Name, same_name}
use Rattle.verilog_trees.specs.Syntax as pure
use Rattle.verilog_designs.specs.Names.{names_in, names_in_select, names_in_selects, names_in_target, names_in_statement, Mention, used, declares}
use Rattle.v_syntax.specs.declared.tree.Expression.{Expression}
use Rattle.v_syntax.specs.declared.tree.BinaryLink.{BinaryLink}
use Rattle.v_syntax.specs.declared.tree.TestLink.{TestLink}
use Rattle.v_syntax.specs.declared.tree.Choice.{Choice}
use Rattle.v_syntax.specs.declared.tree.Target.{Target}
use Rattle.v_syntax.specs.declared.tree.Statement.{Statement}
use Rattle.v_syntax.specs.declared.tree.Arm.{Arm}
use Rattle.v_syntax.specs.declared.tree.CaseItem.{CaseItem, Values, Default}
use Rattle.v_syntax.specs.Tree.{tree_of, target_of, statement_of}
use Rattle.v_hier.specs.declared.known.Names.{Names}
use Rattle.v_hier.specs.declared.known.Nets.{Nets}
use Rattle.v_hier.specs.declared.known.Nets.TheVariants.{Declared, Other}
use Rattle.v_hier.specs.Tables.{has_name}

-- A parameter may be used once it is declared, a net or variable wherever it is declared.
abbrev pub may_use : (parameter before net : Name → Bool) → Name → Bool
may_use p b d n = cond (p n) (b n) (d n)

abbrev pub has_net : Nets → Name → Bool
has_net (Declared s) n = has_name s n
has_net (Other s) n = not (has_name s.now n)

abbrev pub knows : Names → Name → Bool
knows ns n = may_use (has_name ns.parameters) (has_name ns.before) (has_net ns.nets) n

-- each of the names may be used
abbrev pub all_known : (Name → Bool) → List Name → Bool
all_known known [] = true
all_known known (n ∷ ns) = known n && all_known known ns

-- each name in a tree, under names that do not unfold by themselves
unfoldable pub expression_known : (Name → Bool) → pure.Expression → Bool
expression_known known e = all_known known (names_in e)

unfoldable pub select_known : (Name → Bool) → pure.Select → Bool
select_known known x = all_known known (names_in_select x)

unfoldable pub selects_known : (Name → Bool) → pure.Selects → Bool
selects_known known x = all_known known (names_in_selects x)

unfoldable pub target_known : (Name → Bool) → pure.Target → Bool
target_known known t = all_known known (names_in_target t)

unfoldable pub statement_known : (Name → Bool) → pure.Statement → Bool
statement_known known x = all_known known (names_in_statement x)

-- parts side by side
abbrev pub parts_known : (Name → Bool) → List Expression → Bool
parts_known known [] = true
parts_known known (e ∷ es) = expression_known known (tree_of e) && parts_known known es

-- chains of operators, over the lists of their links
abbrev pub links_known : (Name → Bool) → List BinaryLink → Bool
links_known known [] = true
links_known known (l ∷ ls) = expression_known known (tree_of l.operand) && links_known known ls

abbrev pub tests_known : (Name → Bool) → List TestLink → Bool
tests_known known [] = true
tests_known known (l ∷ ls) = expression_known known (tree_of l.operand) && tests_known known ls

abbrev pub choices_known : (Name → Bool) → List Choice → Bool
choices_known known [] = true
choices_known known (c ∷ cs) =
    (expression_known known (tree_of c.condition) && expression_known known (tree_of c.value)) && choices_known known cs

abbrev pub targets_known : (Name → Bool) → List Target → Bool
targets_known known [] = true
targets_known known (t ∷ ts) = target_known known (target_of t) && targets_known known ts

abbrev pub arms_known : (Name → Bool) → List Arm → Bool
arms_known known [] = true
arms_known known (a ∷ arms) =
    (expression_known known (tree_of a.condition) && statement_known known (statement_of a.statement)) && arms_known known arms

abbrev pub statements_known : (Name → Bool) → List Statement → Bool
statements_known known [] = true
statements_known known (x ∷ xs) = statement_known known (statement_of x) && statements_known known xs

abbrev pub item_known : (Name → Bool) → CaseItem → Bool
item_known known (Values es x) = parts_known known es.items && statement_known known (statement_of x)
item_known known (Default x) = statement_known known (statement_of x)

abbrev pub items_known : (Name → Bool) → List CaseItem → Bool
items_known known [] = true
items_known known (i ∷ items) = item_known known i && items_known known items

-- ---- items of a module, and what stands in them

abbrev pub range_known : (Name → Bool) → Option pure.Range → Bool
range_known known None = true
range_known known (Some r) = expression_known known r.left && expression_known known r.right

abbrev pub optional_known : (Name → Bool) → Option pure.Expression → Bool
optional_known known None = true
optional_known known (Some e) = expression_known known e

abbrev pub named_known : (Name → Bool) → List (Name × Option pure.Expression) → Bool
named_known known [] = true
named_known known (c ∷ cs) = optional_known known c.1 && named_known known cs

abbrev pub ordered_known : (Name → Bool) → List (Option pure.Expression) → Bool
ordered_known known [] = true
ordered_known known (e ∷ es) = optional_known known e && ordered_known known es

abbrev pub addresses_known : (Name → Bool) → List (Name × Option pure.Range) → Bool
addresses_known known [] = true
addresses_known known (v ∷ vs) = range_known known v.1 && addresses_known known vs

abbrev pub assignments_known : (Name → Bool) → List (pure.Target × pure.Expression) → Bool
assignments_known known [] = true
assignments_known known (a ∷ rest) = (target_known known a.0 && expression_known known a.1) && assignments_known known rest

abbrev pub connections_known : (Name → Bool) → pure.Connections → Bool
connections_known known (pure.by_name cs) = named_known known cs
connections_known known (pure.by_order es) = ordered_known known es

abbrev pub instances_known : (Name → Bool) → List (Name × pure.Connections) → Bool
instances_known known [] = true
instances_known known (i ∷ is) = connections_known known i.1 && instances_known known is

abbrev pub event_list_known : (Name → Bool) → List pure.Event → Bool
event_list_known known [] = true
event_list_known known (e ∷ es) = known e.signal && event_list_known known es

abbrev pub events_known : (Name → Bool) → pure.Events → Bool
events_known known pure.any_change = true
events_known known (pure.on_events es) = event_list_known known es

abbrev pub ports_known : (Name → Bool) → List pure.PortDeclaration → Bool
ports_known known [] = true
ports_known known (d ∷ ds) = range_known known d.range && ports_known known ds

-- an item; parameters, which declare names, are left out
abbrev pub text_known : (Name → Bool) → pure.Item → Bool
text_known known (pure.port d) = range_known known d.range
text_known known (pure.parameter d) = true
text_known known (pure.wires signed r ws) = range_known known r && named_known known ws
text_known known (pure.variables signed r vs) = range_known known r && addresses_known known vs
text_known known (pure.assign ts) = assignments_known known ts
text_known known (pure.always es x) = events_known known es && statement_known known x
text_known known (pure.instances m given is) = connections_known known given && instances_known known is

-- ---- the text of a module

-- Some name is used that may not be, where a parameter may be used from its declaration on.
abbrev pub uses_other : (parameter before net : Name → Bool) → List Mention → Bool
uses_other p b d [] = false
uses_other p b d (used n ∷ rest) = not (may_use p b d n) || uses_other p b d rest
uses_other p b d (declares n ∷ rest) = uses_other p (λ q. same_name n q || b q) d rest

unfoldable pub unknown_with : Names → List Mention → Bool
unknown_with ns ms = uses_other (has_name ns.parameters) (has_name ns.before) (has_net ns.nets) ms

-- What reading a part of the text comes to: whether each of its names may be used, and which may be after it.
abbrev pub IsRead : Names → List Mention → Bool → Names → Type 0
IsRead before ms known after = (rest : List Mention) → unknown_with before (ms ++ rest) ≡ (not known || unknown_with after rest)
