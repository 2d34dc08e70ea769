use Rattle.std.proofs.Common.{◌≡◌, map, ◌+◌, ◌-◌, ◌*◌, length}
use Rattle.v_token.specs.View.{tokens_of}
use Rattle.v_syntax.specs.Tree.{tree_of}
use Rattle.v_expr.specs.Reading.{parts_at, tier_at, conditional_at, expression_at}
use Rattle.v_expr.specs.Starting.{chosen_by}
use Rattle.v_expr.specs.View.{in_front}
use Rattle.v_expr.specs.Flat.{IsFlat, AreFlat, HasFlatChoices}
use Rattle.v_expr.proofs.Climb.{joined_at}
use Rattle.v_expr.proofs.nested.+reading.Given as goal

abbrev pub decreases-expression : goal.decreases-expression
decreases-expression l = 32 * l.levels

abbrev pub decreases-closed : goal.decreases-closed
decreases-closed l = 32 * l.levels + 1

abbrev pub decreases-next : goal.decreases-next
decreases-next l = 32 * l.levels + 1

abbrev pub decreases-parts : goal.decreases-parts
decreases-parts l = 32 * l.levels + 2

abbrev pub decreases-copied : goal.decreases-copied
decreases-copied l = 32 * l.levels + 3

abbrev pub decreases-braces : goal.decreases-braces
decreases-braces l = 32 * l.levels + 4

abbrev pub decreases-select : goal.decreases-select
decreases-select l = 32 * l.levels + 3

abbrev pub decreases-selects : goal.decreases-selects
decreases-selects l = 32 * l.levels + 4

abbrev pub decreases-alone : goal.decreases-alone
decreases-alone l = 32 * l.levels + 5

abbrev pub decreases-operand : goal.decreases-operand
decreases-operand l = 32 * l.levels + 6

abbrev pub decreases-tier : goal.decreases-tier
decreases-tier l = 32 * l.levels + 7 + l.tiers

abbrev pub invariant-expression-loop-choices : goal.invariant-expression-loop-choices
invariant-expression-loop-choices l = (chosen_by l.choices.items (conditional_at (expression_at (l.levels - 1)) (tokens_of l.rest)) ≡ expression_at l.levels (tokens_of l.tokens)) × HasFlatChoices l.choices.items

abbrev pub decreases-expression-loop-choices : goal.decreases-expression-loop-choices
decreases-expression-loop-choices l = length (tokens_of l.rest)

abbrev pub invariant-parts-loop-after : goal.invariant-parts-loop-after
invariant-parts-loop-after l =
    (in_front (map tree_of l.parts.items) (parts_at (expression_at l.levels) (tokens_of l.rest)) ≡ in_front (map tree_of l.fn.first.items) (parts_at (expression_at l.levels) (tokens_of l.tokens)))
    × (AreFlat l.fn.first.items → AreFlat l.parts.items)

abbrev pub decreases-parts-loop-after : goal.decreases-parts-loop-after
decreases-parts-loop-after l = length (tokens_of l.rest)

abbrev pub invariant-tier-loop-left : goal.invariant-tier-loop-left
invariant-tier-loop-left l = (joined_at l.tiers (expression_at l.levels) (tree_of l.left) (tokens_of l.rest) ≡ tier_at l.tiers (expression_at l.levels) (tokens_of l.tokens)) × IsFlat l.left

abbrev pub decreases-tier-loop-left : goal.decreases-tier-loop-left
decreases-tier-loop-left l = length (tokens_of l.rest)
