-- Lists of the code as lists of the definitions.
use Rattle.std.specs.Prelude.{List, map}
use Rattle.std.specs.declared.vec.Vec.{Vec}
use Rattle.std.specs.declared.alloc.Global.{Global}
use Rattle.verilog_trees.specs.Syntax as pure
use Rattle.verilog_meaning.specs.Settled.{wire_assignments}
use Rattle.verilog_designs.specs.Reads.{BitSet}
use Rattle.v_syntax.specs.declared.module.Assignment.{Assignment}
use Rattle.v_syntax.specs.declared.module.Wire.{Wire}
use Rattle.v_syntax.specs.Tree.{target_of, tree_of}
use Rattle.v_syntax.specs.Source.{boxed_tree_of}
use Rattle.v_flow.specs.declared.span.Span.{Span}
use Rattle.v_flow.specs.Spans.{bits_in}

-- the drivers' sets, each of which is a list of spans
abbrev pub sets_in : List (Vec Span Global) → List BitSet
sets_in vs = map (λ v. bits_in v.items) vs

-- continuous assignments
abbrev pub links_of : List Assignment → List (pure.Target × pure.Expression)
links_of links = map (λ a. (target_of a.target, tree_of a.value)) links

-- those that stand in the declarations of nets
abbrev pub wire_links : List Wire → List (pure.Target × pure.Expression)
wire_links ws = wire_assignments (map (λ w. (w.name.now, boxed_tree_of w.value)) ws)
