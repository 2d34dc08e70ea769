use Rattle.std.proofs.Common.{◌≡◌, map, length}
use Rattle.std.specs.Prelude.{codes}
use Rattle.v_body.specs.Words.{after_word}
use Rattle.v_token.specs.View.{tokens_of}
use Rattle.v_syntax.specs.Source.{item_of}
use Rattle.v_expr.specs.Repeat.{repeated}
use Rattle.v_expr.proofs.Repeat.{with_front}
use Rattle.v_parse.specs.Reading.{item_at, items_at}
use Rattle.v_expr.specs.Flat.{Each}
use Rattle.v_parse.specs.Flat.{IsFlatItem}
use Rattle.v_parse.proofs.module.items.Given as goal

abbrev pub invariant-loop-after : goal.invariant-loop-after
invariant-loop-after l = (with_front (map item_of l.items.items) (repeated (after_word (codes "endmodule")) item_at (tokens_of l.rest)) ≡ items_at (tokens_of l.tokens)) × Each IsFlatItem l.items.items

abbrev pub decreases-loop-after : goal.decreases-loop-after
decreases-loop-after l = length (tokens_of l.rest)
