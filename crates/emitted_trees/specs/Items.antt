-- Items and declarations of an emitted module by what they say.
use Rattle.std.specs.Prelude.{false, List, [], ◌∷◌, map, Option, Some, None}
use Rattle.wb_values.specs.Value.{Name, Sort, Entries}
use Rattle.verilog_trees.specs.Syntax.{Expression, one, index, place, Statement, nonblocking, if_then, Item, variables, assign}
use Rattle.verilog_meaning.specs.Settled.{whole_of}
use Rattle.wb_terms.specs.declared.nodes.TermId.{TermId}
use Rattle.wb_terms.specs.Graph.{Graph}
use Rattle.emitted_modules.specs.Rtl.{range_of_sort, addresses_of_sort, wire_item, takes}
use Rattle.emitted_modules.specs.Nodes.{operand}

-- wire [w-1:0] n = e;
abbrev pub wire_named : Name → Sort → Expression → Item
wire_named n t e = wire_item (record { wire_name = n; sort = t; expression = e })

-- reg [w-1:0] n; for a memory reg [d-1:0] n [0:2^a-1];
abbrev pub register_named : Name → Sort → Item
register_named n t = variables false (range_of_sort t) ((n, addresses_of_sort t) ∷ [])

-- assign n = e;
abbrev pub assigned : Name → Expression → Item
assigned n e = assign ((whole_of n, e) ∷ [])

-- n[i] <= e;
abbrev pub stored : Name → (address value : Expression) → Statement
stored n i e = nonblocking (place n (one (index i))) e

-- what registers take where a condition holds
abbrev pub take_statements : Expression → Entries Expression → List Statement
take_statements d us = map (λ u. if_then d (takes u)) us

-- terms as operands
abbrev pub operands_in : Graph → List TermId → List Expression
operands_in g ids = map (λ d. operand g d.0) ids
