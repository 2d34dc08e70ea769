use Rattle.std.proofs.Common.{ap}
use Rattle.v_value.specs.Scope.{scope_at}
use Rattle.v_syntax.specs.Tree.{tree_of}
use Rattle.v_size.specs.declared.rule.Position.TheVariants.{Constant}
use Rattle.v_size.proofs.Known as known
use Rattle.v_size.proofs.judged.is_bad_divisor.Goals as goal

pub is_zero_constant-requires : goal.is_zero_constant-requires
is_zero_constant-requires c = known.judged-moved (scope_at c.args.names.scope.now) (tree_of c.args.divisor.now) c.args.place _ c.in-Constant.is c.args.judged c.requires

pub returns-in-Anywhere : goal.returns-in-Anywhere
returns-in-Anywhere c = known.divisor-anywhere (scope_at c.args.names.scope.now) (tree_of c.args.divisor.now) c.args.place c.args.judged.broken c.in-Anywhere.is

pub returns-in-Constant : goal.returns-in-Constant
returns-in-Constant c = known.test-moved (scope_at c.args.names.scope.now) (tree_of c.args.divisor.now) c.args.place _ c.in-Constant.is c.args.judged.broken c.is_zero_constant.result c.is_zero_constant.ensures
