use Rattle.v_syntax.specs.Tree.{tree_of}
use Rattle.v_value.specs.Scope.{scope_at}
use Rattle.v_masks.specs.Masks.{masked}
use Rattle.v_depend.proofs.Copied.{copies}
use Rattle.v_depend.proofs.copy.copied_bits.Goals as goal

pub returns : goal.returns
returns c = λ j l. copies (masked c.args.unsettled.now) (scope_at c.args.scope.now) (tree_of c.args.expression.now) j _ (c.copied.ensures j l)
