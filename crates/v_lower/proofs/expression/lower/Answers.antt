use Rattle.v_syntax.specs.Tree.{tree_of}
use Rattle.v_value.specs.Scope.{scope_at}
use Rattle.v_lower.proofs.Answered.{sound_by, within_by}
use Rattle.v_lower.proofs.expression.lower.Goals as goal

pub lower_sound-requires-clause-sound : goal.lower_sound-requires-clause-sound
lower_sound-requires-clause-sound c = sound_by (scope_at c.args.scope.now) (tree_of c.args.expression.now) c.requires.asked.of_text (c.in_default.ensures c.requires.asked.of_text).0

pub lower_sound-requires-clause-within : goal.lower_sound-requires-clause-within
lower_sound-requires-clause-within c = within_by (scope_at c.args.scope.now) (tree_of c.args.expression.now) c.args.width c.requires.asked.wider (c.in_default.ensures c.requires.asked.of_text).0
