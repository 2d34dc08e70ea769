-- Wires that are no memories.
use Rattle.std.specs.Prelude.{◌≡◌, false, List, [], ◌∷◌, Option}
use Rattle.wb_values.specs.Value.{Name}
use Rattle.verilog_trees.specs.Syntax.{Expression, Item, port, parameter, wires, variables, assign, always, instances}
use Rattle.verilog_meaning.specs.Expression.{Scope, is_memory}

abbrev pub AreNoMemories : Scope → List (Name × Option Expression) → Type 0
AreNoMemories s [] = Unit {0}
AreNoMemories s (w ∷ ws) = (is_memory (s w.0) ≡ false) × AreNoMemories s ws

abbrev pub HasPlainWires : Scope → Item → Type 0
HasPlainWires s (port d) = Unit {0}
HasPlainWires s (parameter d) = Unit {0}
HasPlainWires s (wires signed r ws) = AreNoMemories s ws
HasPlainWires s (variables signed r vs) = Unit {0}
HasPlainWires s (assign links) = Unit {0}
HasPlainWires s (always es x) = Unit {0}
HasPlainWires s (instances m given is) = Unit {0}

-- None of the wires that these items declare is a memory as well. (By its declarations only a name that is declared twice is both.)
abbrev pub HavePlainWires : Scope → List Item → Type 0
HavePlainWires s [] = Unit {0}
HavePlainWires s (i ∷ items) = HasPlainWires s i × HavePlainWires s items
