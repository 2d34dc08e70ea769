-- What the rules say of targets and of the code's lists of them.
use Rattle.std.specs.Prelude.{Bool, false, cond, ◌||◌, List, [], ◌∷◌, Some}
use Rattle.wb_values.specs.Choice.{some_if}
use Rattle.verilog_trees.specs.Syntax.{Target}
use Rattle.verilog_meaning.specs.Expression.{Scope}
use Rattle.verilog_meaning.specs.Statement.{target_width}
use Rattle.verilog_rules.specs.Expression as rules
use Rattle.verilog_designs.specs.Expressions as designs
use Rattle.v_syntax.specs.declared.tree.Target.{Target as CodeTarget}
use Rattle.v_syntax.specs.Tree.{target_of}
use Rattle.v_size.specs.declared.rule.Broken.{Broken}
use Rattle.v_size.specs.Rule.{coded, both}
use Rattle.v_size.specs.Judged.{capped, added}
use Rattle.v_rules.specs.declared.target.Written.{Written}
use Rattle.v_rules.specs.Judging.{none}

-- a target whose indexes stand in this place, under a name that does not unfold by itself
unfoldable pub target_at : Scope → rules.Position → Target → Written
target_at s p t =
    record {
      broken = coded (designs.broken_target s p t);
      width = capped (some_if (designs.target_has_width s t) (target_width s t));
      memory = designs.writes_memory s t;
    }

abbrev pub no_part : Written
no_part = record { broken = none; width = Some 0; memory = false }

abbrev pub with_part : Written → Written → Written
with_part a t = record { broken = both a.broken t.broken; width = added a.width t.width; memory = a.memory || t.memory }

-- parts after others
abbrev pub targets_from : Scope → rules.Position → Written → List CodeTarget → Written
targets_from s p a [] = a
targets_from s p a (t ∷ ts) = targets_from s p (with_part a (target_at s p (target_of t))) ts

-- parts as one target
abbrev pub whole : Written → Written
whole a = record { broken = both (coded (rules.by_total (capped a.width))) a.broken; width = capped a.width; memory = a.memory }

abbrev pub in_net : Written → Broken
in_net t = both (coded (designs.memory_if t.memory)) t.broken

abbrev pub in_block : (is_clocked_block : Bool) → Written → Broken
in_block c t = cond c t.broken (in_net t)

unfoldable pub net_target_at : Scope → rules.Position → Target → Broken
net_target_at s p t = coded (designs.broken_net_target s p t)

unfoldable pub block_target_at : Scope → (is_clocked_block : Bool) → Target → Broken
block_target_at s c t = coded (designs.broken_block_target s c t)
