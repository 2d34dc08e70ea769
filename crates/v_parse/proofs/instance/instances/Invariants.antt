use Rattle.std.proofs.Common.{◌≡◌, map, length}
use Rattle.v_token.specs.View.{tokens_of}
use Rattle.v_expr.proofs.Repeat.{with_front}
use Rattle.verilog_text.specs.Token.{comma}
use Rattle.v_expr.specs.Reading.{after_mark}
use Rattle.v_parse.specs.Reading.{instance_at, instances_at}
use Rattle.v_parse.specs.View.{instance_of}
use Rattle.v_parse.specs.Lists.{others_at}
use Rattle.v_expr.specs.Flat.{Each}
use Rattle.v_parse.specs.Flat.{IsFlatInstance}
use Rattle.v_parse.proofs.instance.instances.Given as goal

abbrev pub invariant-loop-instances : goal.invariant-loop-instances
invariant-loop-instances l = (with_front (map instance_of l.instances.items) (others_at (after_mark comma) instance_at (tokens_of l.rest)) ≡ instances_at (tokens_of l.tokens)) × Each IsFlatInstance l.instances.items

abbrev pub decreases-loop-instances : goal.decreases-loop-instances
decreases-loop-instances l = length (tokens_of l.rest)
