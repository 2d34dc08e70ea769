use Rattle.std.proofs.Common.{◌∙◌, sym}
use Rattle.v_value.specs.Scope.{scope_at}
use Rattle.v_syntax.specs.Tree.{tree_of}
use Rattle.v_size.specs.Rule.{number_at}
use Rattle.v_size.proofs.Known as known
use Rattle.v_size.proofs.judged.is_bad_exponent.Goals as goal

pub number_of-requires : goal.number_of-requires
number_of-requires c = known.exponent-constant (scope_at c.args.names.scope.now) c.args.place (tree_of c.args.exponent.now) c.args.broken c.in-Constant.field-0 c.in-Constant.field-1 c.in-Constant.is c.requires

pub returns-in-Anywhere : goal.returns-in-Anywhere
returns-in-Anywhere c = known.exponent-anywhere (scope_at c.args.names.scope.now) c.args.place (tree_of c.args.exponent.now) c.args.broken c.in-Anywhere.is

pub returns-in-Constant : goal.returns-in-Constant
returns-in-Constant c =
    known.exponent-below (scope_at c.args.names.scope.now) c.args.place (tree_of c.args.exponent.now) c.args.broken c.in-Constant.field-0 c.in-Constant.field-1 c.in-Constant.is c.requires
    c.is_number_below_zero.result (number_at c.number_of.result) c.is_number_below_zero.ensures c.number_of.ensures
