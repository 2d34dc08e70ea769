use Rattle.std.proofs.Common.{◌-◌, ◌++◌, take, drop, ap, arith}
use Rattle.wb_terms.specs.Graph.{Graph}
use Rattle.wb_terms.specs.Sort.{as_sort}
use Rattle.run_terms.proofs.Numbers.{idempotent, part_none, part_more}
use Rattle.run_terms.proofs.naming.declare_part.Goals as goal

pub loop-place-init : goal.loop-place-init
loop-place-init c = (omega arith, part_none c.args.terms.now.names c.args.source.now.names c.args.first c.requires.names)

pub declare-requires-clause-names : goal.declare-requires-clause-names
declare-requires-clause-names c =
    idempotent c.loop-place.terms.names (c.args.terms.now.names ++ take (c.loop-place.place - c.args.first) (drop c.args.first c.args.source.now.names)) c.loop-place.invariant.1

pub loop-place-preserved : goal.loop-place-preserved
loop-place-preserved c = (
  omega (arith, c.loop-place.invariant.0),
  part_more c.args.terms.now.names c.args.source.now.names c.loop-place.terms.names c.declare.new.terms.names c.args.first c.loop-place.place (as_sort c.name_sort.result)
      c.loop-place.invariant.0 (omega (arith, c.loop-place-test.true, c.requires.end)) c.loop-place.invariant.1 (ap (λ (g : Graph). g.names) c.in_ok-declare.ensures.ok) c.name_sort.ensures.sort,
)
