use Rattle.std.proofs.Common.{◌≡◌, ◌∙◌, ◌<◌, ◌≤◌, ◌+◌, Some, length, refl, sym, ap, arith}
use Rattle.wb_values.specs.Value.{Sort}
use Rattle.model_terms.proofs.Pointing.{IsBeginning, beginning_start, beginning_more, beginning_end, initial_read, beginning_read}
use Rattle.model_terms.proofs.points.begin.Goals as goal

pub loop-k-init : goal.loop-k-init
loop-k-init c = beginning_start c.args.terms.now c.args.source.now.names c.args.first c.args.initial_values.now c.args.point.now.items c.requires.states c.requires.leaves

pub put_initial-requires-clause-initial : goal.put_initial-requires-clause-initial
put_initial-requires-clause-initial c =
    let l = c.loop-k in
    let within : c.args.first + l.k < length c.args.source.now.names = omega (arith, c.requires.within, c.loop-k-test.true) in
    initial_read c.args.source.now.names c.args.first c.args.initial_values.now l.k _ c.index-initial_values-k.result c.loop-k-test.true within c.name_sort-sort.ensures.sort c.index-initial_values-k.is l.invariant.left

pub loop-k-preserved : goal.loop-k-preserved
loop-k-preserved c =
    let l = c.loop-k in
    let ns = c.args.source.now.names in
    let within : c.args.first + l.k < length ns = omega (arith, c.requires.within, c.loop-k-test.true) in
    beginning_more c.args.terms.now l.terms c.put_initial.new.terms ns c.args.first c.args.initial_values.now c.args.point.now.items l.point.items l.k c.index-initial_values-k.result c.in_ok-id.id c.loop-k-test.true within
    c.in_ok-id.ensures.extended c.in_ok-id.ensures.below (c.in_ok-id.ensures.sort ∙ ap (λ (s : Sort). Some s) c.name_sort-sort.ensures.sort)
    (λ v. beginning_read ns c.args.first c.args.initial_values.now l.k _ c.index-initial_values-k.result _ c.name_sort-sort.ensures.sort c.index-initial_values-k.is (c.in_ok-id.ensures.value v)) l.invariant

pub returns-clause-values : goal.returns-clause-values
returns-clause-values c v =
    beginning_end c.args.terms.now c.loop-k.terms c.args.source.now.names c.args.first c.args.initial_values.now c.args.point.now.items c.loop-k.point.items c.loop-k.k v c.loop-k-test.false c.loop-k.invariant
