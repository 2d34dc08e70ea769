use Rattle.std.proofs.Common.{subst}
use Rattle.v_value.specs.Scope.{object_of, scope_at, valuation_at}
use Rattle.v_syntax.specs.Tree.{select_of}
use Rattle.v_value.specs.Narrow.{IsWidth}
use Rattle.v_value.specs.Evaluation.{bits_at}
use Rattle.v_value.proofs.Selected.{count-is}
use Rattle.v_value.proofs.taken.select_bits.Goals as goal

pub taken_by-requires : goal.taken_by-requires
taken_by-requires c =
    let width = subst IsWidth (count-is (scope_at c.args.scope.now) (valuation_at c.args.values.now) (object_of c.args.object) (select_of c.args.select.now)) c.requires.count in
    record { ready = (c.requires.objects, c.requires.values); narrow = c.requires.narrow; some_bits = width.0; at_most_128 = width.1 }

pub returns : goal.returns
unfolding bits_at
returns c = c.taken_by.ensures
