-- Items whose values and blocks fit words of 128 bits.
use Rattle.std.specs.Prelude.{List, [], ◌∷◌, Option, Some, None}
use Rattle.verilog_trees.specs.Syntax.{Expression, Target, Item, port, parameter, wires, variables, assign, always, instances}
use Rattle.verilog_meaning.specs.Expression.{Scope}
use Rattle.verilog_meaning.specs.Settled.{wire_assignments}
use Rattle.v_value.specs.Narrow.{IsNarrow}
use Rattle.v_flow.specs.Narrow.{IsNarrowFlow}

abbrev pub AreNarrowValues : Scope → List (Target × Expression) → Type 0
AreNarrowValues s [] = Unit {0}
AreNarrowValues s (a ∷ links) = IsNarrow s a.1 × AreNarrowValues s links

abbrev pub IsNarrowIfThere : Scope → Option Expression → Type 0
IsNarrowIfThere s None = Unit {0}
IsNarrowIfThere s (Some e) = IsNarrow s e

-- all that an item reads is narrow
abbrev pub IsNarrowRead : Scope → Item → Type 0
IsNarrowRead s (port d) = Unit {0}
IsNarrowRead s (parameter d) = Unit {0}
IsNarrowRead s (wires signed r ws) = AreNarrowValues s (wire_assignments ws)
IsNarrowRead s (variables signed r vs) = Unit {0}
IsNarrowRead s (assign links) = AreNarrowValues s links
IsNarrowRead s (always es x) = IsNarrowFlow s x
IsNarrowRead s (instances m given is) = Unit {0}

abbrev pub AreNarrowReads : Scope → List Item → Type 0
AreNarrowReads s [] = Unit {0}
AreNarrowReads s (i ∷ items) = IsNarrowRead s i × AreNarrowReads s items
