use Rattle.std.proofs.Common.{ap}
use Rattle.v_value.specs.Scope.{scope_at}
use Rattle.v_syntax.specs.Tree.{tree_of}
use Rattle.v_size.specs.declared.rule.Position.TheVariants.{Constant}
use Rattle.v_size.proofs.Known as known
use Rattle.v_size.proofs.judged.is_zero_constant.Goals as goal

pub is_zero-requires : goal.is_zero-requires
is_zero-requires c = known.judged-moved (scope_at c.args.names.scope.now) (tree_of c.args.constant.now) _ _ (ap (λ w. Constant w c.args.signed) c.in-Some.is) c.args.judged c.requires

pub returns-in-Some : goal.returns-in-Some
returns-in-Some c = known.test-moved (scope_at c.args.names.scope.now) (tree_of c.args.constant.now) _ _ (ap (λ w. Constant w c.args.signed) c.in-Some.is) c.args.judged.broken c.is_zero.result c.is_zero.ensures

pub returns-in-None : goal.returns-in-None
returns-in-None c = known.divisor-unsized (scope_at c.args.names.scope.now) (tree_of c.args.constant.now) c.args.width c.args.judged.broken c.args.signed c.in-None.is
