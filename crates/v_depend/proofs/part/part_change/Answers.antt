use Rattle.std.proofs.Common.{refl, rules}
use Rattle.std.specs.Int.{bit_not, w128}
use Rattle.v_syntax.specs.Tree.{target_of}
use Rattle.v_value.specs.Scope.{scope_at}
use Rattle.v_value.specs.Index.{span_of}
use Rattle.v_masks.specs.Masks.{masked}
use Rattle.v_depend.proofs.Parting.{part-changed}
use Rattle.v_depend.proofs.part.part_change.Goals as goal

pub returns : goal.returns
returns c =
    let d = c.requires.part in
    part-changed (masked c.args.unsettled.now) (scope_at c.args.scope.now) c.args.name.now d.selects c.args.value (record { name = c.args.name; kept = bit_not w128 c.in_ok-sure.sure; set = c.set_bits.result }) refl (c.requires.objects c.args.name.now).0
    c.in_ok-reached.reached c.in_ok-sure.sure c.in_ok-by_index.by_index refl (search rules) (span_of c.args.span) d.bits c.set_bits.ensures
    (target_of c.args.target.now) d.is_part c.requires.variables c.in_ok-reached.ensures c.in_ok-sure.ensures c.in_ok-by_index.ensures
