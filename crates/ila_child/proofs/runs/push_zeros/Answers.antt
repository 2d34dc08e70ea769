use Rattle.std.proofs.Common.{◌∙◌, sym, arith}
use Rattle.wb_terms.specs.Sort.{as_sort}
use Rattle.ila_child.proofs.Movement.{zeros-turn, zeros_left}
use Rattle.ila_child.proofs.runs.push_zeros.Goals as goal

pub loop-place-preserved : goal.loop-place-preserved
loop-place-preserved c =
    zeros-turn c.args.terms.now.names c.loop-place.values c.push_zero.new.self c.loop-place.place (as_sort c.name_sort.result) (omega arith) c.name_sort.ensures.sort c.in_ok-push_zero.ensures.ok
    ∙ c.loop-place.invariant

pub returns : goal.returns
returns c =
    sym (zeros_left c.args.terms.now.names c.loop-place.values c.loop-place.place (omega arith)) ∙ c.loop-place.invariant
