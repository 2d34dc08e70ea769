use Rattle.std.proofs.Common.{◌≡◌, ◌+◌, ◌*◌, map, length}
use Rattle.std.specs.Prelude.{codes}
use Rattle.v_token.specs.View.{tokens_of}
use Rattle.v_syntax.specs.Tree.{statement_of}
use Rattle.v_expr.specs.Repeat.{repeated}
use Rattle.v_expr.proofs.Repeat.{with_front}
use Rattle.v_body.specs.Words.{after_word}
use Rattle.v_body.specs.Statements.{conditional_at, item_at, items_at, statement_in}
use Rattle.v_body.specs.View.{arm_of, item_of}
use Rattle.v_body.proofs.Ladder.{with_arms}
use Rattle.v_expr.specs.Flat.{Each}
use Rattle.v_body.specs.Flat.{IsFlatStatement, IsFlatArm, IsFlatCaseItem}
use Rattle.v_body.proofs.statement.+statement.Given as goal

abbrev pub decreases-nested : goal.decreases-nested
decreases-nested l = 5 * l.levels

abbrev pub decreases-guarded : goal.decreases-guarded
decreases-guarded l = 5 * l.levels + 1

abbrev pub decreases-item : goal.decreases-item
decreases-item l = 5 * l.levels + 1

abbrev pub decreases-statements : goal.decreases-statements
decreases-statements l = 5 * l.levels + 1

abbrev pub decreases-ladder : goal.decreases-ladder
decreases-ladder l = 5 * l.levels + 2

abbrev pub decreases-items : goal.decreases-items
decreases-items l = 5 * l.levels + 2

abbrev pub decreases-block : goal.decreases-block
decreases-block l = 5 * l.levels + 2

abbrev pub decreases-case : goal.decreases-case
decreases-case l = 5 * l.levels + 3

abbrev pub decreases-outer : goal.decreases-outer
decreases-outer l = 5 * l.levels + 4

abbrev pub invariant-items-loop-after : goal.invariant-items-loop-after
invariant-items-loop-after l = (with_front (map item_of l.items.items) (repeated (after_word (codes "endcase")) (item_at (statement_in l.levels)) (tokens_of l.rest)) ≡ items_at (statement_in l.levels) (tokens_of l.tokens)) × Each IsFlatCaseItem l.items.items

abbrev pub decreases-items-loop-after : goal.decreases-items-loop-after
decreases-items-loop-after l = length (tokens_of l.rest)

abbrev pub invariant-statements-loop-after : goal.invariant-statements-loop-after
invariant-statements-loop-after l =
    (with_front (map statement_of l.statements.items) (repeated (after_word (codes "end")) (statement_in l.levels) (tokens_of l.rest)) ≡ repeated (after_word (codes "end")) (statement_in l.levels) (tokens_of l.tokens)) × Each IsFlatStatement l.statements.items

abbrev pub decreases-statements-loop-after : goal.decreases-statements-loop-after
decreases-statements-loop-after l = length (tokens_of l.rest)

abbrev pub invariant-ladder-loop-arms : goal.invariant-ladder-loop-arms
invariant-ladder-loop-arms l = (with_arms (map arm_of l.arms.items) (conditional_at (statement_in l.levels) (tokens_of l.rest)) ≡ conditional_at (statement_in l.levels) (tokens_of l.tokens)) × Each IsFlatArm l.arms.items

abbrev pub decreases-ladder-loop-arms : goal.decreases-ladder-loop-arms
decreases-ladder-loop-arms l = length (tokens_of l.rest)
