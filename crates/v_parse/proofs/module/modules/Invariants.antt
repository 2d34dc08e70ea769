use Rattle.std.proofs.Common.{◌≡◌, map, length}
use Rattle.v_parse.specs.Lists.{at_end}
use Rattle.v_token.specs.View.{tokens_of}
use Rattle.v_syntax.specs.Source.{module_of}
use Rattle.v_expr.specs.Repeat.{repeated}
use Rattle.v_expr.proofs.Repeat.{with_front}
use Rattle.v_parse.specs.Reading.{module_at, modules_at}
use Rattle.v_expr.specs.Flat.{Each}
use Rattle.v_parse.specs.Flat.{IsFlatModule}
use Rattle.v_parse.proofs.module.modules.Given as goal

abbrev pub invariant-loop-after : goal.invariant-loop-after
invariant-loop-after l = (with_front (map module_of l.modules.items) (repeated at_end module_at (tokens_of l.rest)) ≡ modules_at (tokens_of l.tokens)) × Each IsFlatModule l.modules.items

abbrev pub decreases-loop-after : goal.decreases-loop-after
decreases-loop-after l = length (tokens_of l.rest)
