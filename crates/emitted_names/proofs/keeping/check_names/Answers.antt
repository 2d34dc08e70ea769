use Rattle.std.proofs.Common.{arith}
use Rattle.wb_terms.specs.Sort.{as_sort}
use Rattle.emitted_names.proofs.Marking.{one_in_range}
use Rattle.emitted_names.proofs.keeping.check_names.Goals as goal

pub loop-place-init : goal.loop-place-init
loop-place-init c = λ k h. absurd (omega (arith, h))

pub loop-place-preserved : goal.loop-place-preserved
loop-place-preserved c =
    one_in_range c.args.terms.now c.loop-place.place (as_sort c.name_sort-sort.result) c.name_sort-sort.ensures.sort c.name_sort-sort.ensures.in_range c.loop-place.invariant

pub returns : goal.returns
returns c = λ k h. c.loop-place.invariant k (omega (arith, h, c.loop-place-test.false, c.name_count-place-end.ensures.names))
