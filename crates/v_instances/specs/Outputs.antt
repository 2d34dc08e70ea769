-- What the rules say of an expression that is connected to an output, as a target where it is one.
use Rattle.std.specs.Prelude.{Bool, false, cond, ◌||◌, List, [], ◌∷◌, Option, Some, None, option_map}
use Rattle.wb_values.specs.Choice.{some_if}
use Rattle.verilog_trees.specs.Syntax.{Expression, Target}
use Rattle.verilog_meaning.specs.Expression.{Scope}
use Rattle.verilog_meaning.specs.Statement.{target_width}
use Rattle.verilog_meaning.specs.Settled.{as_target}
use Rattle.verilog_rules.specs.Expression as rules
use Rattle.verilog_designs.specs.Expressions as designs
use Rattle.v_syntax.specs.declared.tree.Expression.{Expression as CodeExpression}
use Rattle.v_syntax.specs.Tree.{tree_of}
use Rattle.v_size.specs.declared.rule.Broken.{Broken}
use Rattle.v_size.specs.Rule.{coded, both}
use Rattle.v_size.specs.Judged.{capped, added}
use Rattle.v_instances.specs.declared.output.Written.{Written}

abbrev pub none : Broken
none = coded rules.nothing

-- a target whose indexes are constants, under a name that does not unfold by itself
unfoldable pub written_at : Scope → Target → Written
written_at s t =
    record {
      broken = coded (designs.broken_target s designs.by_constants t);
      width = capped (some_if (designs.target_has_width s t) (target_width s t));
      memory = designs.writes_memory s t;
    }

abbrev pub no_part : Written
no_part = record { broken = none; width = Some 0; memory = false }

abbrev pub with_part : Written → Written → Written
with_part a t = record { broken = both a.broken t.broken; width = added a.width t.width; memory = a.memory || t.memory }

-- parts as one target
abbrev pub whole : Written → Written
whole a = record { broken = both (coded (rules.by_total (capped a.width))) a.broken; width = capped a.width; memory = a.memory }

-- an expression, where it is a target
unfoldable pub found_at : Scope → Expression → Option Written
found_at s e = option_map (written_at s) (as_target e)

-- a part after others, where all of them are targets
abbrev pub with_found : Option Written → Option Written → Option Written
with_found (Some a) (Some t) = Some (with_part a t)
with_found (Some a) None = None
with_found None t = None

abbrev pub found_from : Scope → Option Written → List CodeExpression → Option Written
found_from s a [] = a
found_from s a (e ∷ es) = found_from s (with_found a (found_at s (tree_of e))) es

abbrev pub found_alone : Bool → Option Written → Option Written
found_alone alone t = cond alone t None

abbrev pub in_net : Written → Broken
in_net t = both (coded (designs.memory_if t.memory)) t.broken

-- what is read, what is connected to an output, and the value of a parameter that is overridden
unfoldable pub expression_at : Scope → Expression → Broken
expression_at s e = coded (rules.broken s rules.anywhere e)

unfoldable pub output_at : Scope → Expression → Broken
output_at s e = coded (designs.broken_output s e (as_target e))

unfoldable pub constant_at : Scope → Expression → Broken
constant_at s e = coded (rules.broken_constant s e)
