use Rattle.std.proofs.Common.{◌∙◌, ap, map, Some}
use Rattle.v_syntax.specs.Tree.{statement_of, or_empty}
use Rattle.v_body.specs.View.{arm_of, ladder_of}
use Rattle.v_body.proofs.Trees.{statement_of-If}
use Rattle.v_body.proofs.Flat.{flat-If}
use Rattle.v_body.proofs.node.with_else.Goals as goal

pub returns-clause-made : goal.returns-clause-made
returns-clause-made c = statement_of-If c.args.arms c.in_ok-new.field-0 ∙ ap (λ x. or_empty (ladder_of (map arm_of c.args.arms.items) (Some (statement_of x)))) c.in_ok-new.ensures.ok

pub returns-clause-flat : goal.returns-clause-flat
returns-clause-flat c = λ some arms none flat. flat-If c.args.arms c.in_ok-new.field-0 c.args.last c.in_ok-new.ensures.ok some arms none flat
