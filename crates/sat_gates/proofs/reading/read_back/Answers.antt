use Rattle.std.proofs.Common.{◌≡◌, ◌∙◌, ◌<◌, ◌^◌, length, false, subst, sym, arith}
use Rattle.wb_terms.specs.declared.values.Value.TheVariants.{Truth}
use Rattle.sat_gates.specs.Used.{entry_at}
use Rattle.sat_gates.specs.Reading.{FitsBelow}
use Rattle.sat_gates.proofs.Layouts.{laid_fits, laid_count}
use Rattle.sat_gates.proofs.ReadingLemmas.{AreRead, read_one, are_of_sorts, falsified, restricted, zero_elsewhere}
use Rattle.sat_gates.proofs.reading.read_back.Goals as goal

pub first-first-requires : goal.first-first-requires
first-first-requires c = let n = c.requires.numbered in
    omega (arith, laid_count 0 c.args.terms.now.names c.args.blasted.now.map n.end n.laid_out, c.name_count-count.ensures.names, c.loop-place-test.true)

pub read_name-requires-clause-fits : goal.read_name-requires-clause-fits
read_name-requires-clause-fits c =
    let n = c.requires.numbered in
    let place = c.loop-place.place in
    let i : place < length c.args.terms.now.names = omega (arith, c.name_count-count.ensures.names, c.loop-place-test.true) in
    let end : n.end < 2 ^ 64 = omega (arith, n.below, c.vars-vars.ensures, c.vars-vars.type_inv) in
    subst (FitsBelow (2 ^ 64) c.first-first.result) (sym c.name_sort.ensures.sort)
    (subst (λ f. FitsBelow (2 ^ 64) f (entry_at c.args.terms.now.names place).1) (sym c.first-first.ensures)
    (laid_fits 0 c.args.terms.now.names c.args.blasted.now.map n.end (2 ^ 64) place n.laid_out end i))

pub loop-place-preserved : goal.loop-place-preserved
loop-place-preserved c =
    read_one c.args.terms.now.names c.args.blasted.now.map c.args.assignment.now c.loop-place.place c.loop-place.values.items c.push.new.self.items _ _ _ c.in_ok-push.ensures.items
    c.name_sort.ensures.sort c.first-first.ensures c.in_ok-value.ensures.sort c.in_ok-value.ensures.read c.loop-place.invariant

pub returns-clause-fits : goal.returns-clause-fits
returns-clause-fits c =
    let names = c.args.terms.now.names in
    let all : c.loop-place.place ≡ length names = omega (arith, c.name_count-count.ensures.names, c.loop-place-test.false, c.loop-place.auto.place-end) in
    are_of_sorts names c.loop-place.values.items (c.loop-place.invariant.count ∙ all) (λ k d i. c.loop-place.invariant.of_sort k d (omega (arith, i, all)))

pub returns-clause-falsifies : goal.returns-clause-falsifies
returns-clause-falsifies c =
    let g = c.args.terms.now in
    let all : c.loop-place.place ≡ length g.names = omega (arith, c.name_count-count.ensures.names, c.loop-place-test.false, c.loop-place.auto.place-end) in
    falsified g c.args.id.0 c.args.blasted.now.map c.args.blasted.now.cnf c.args.assignment.now c.loop-place.values.items (Truth false) c.name_count-count.ensures.distinct c.requires.blastable
    c.requires.encodes c.requires.numbered c.requires.whole c.requires.satisfies
    (subst (λ k. AreRead g.names c.args.blasted.now.map c.args.assignment.now k c.loop-place.values.items) all c.loop-place.invariant)

pub returns-clause-read : goal.returns-clause-read
returns-clause-read c =
    let g = c.args.terms.now in
    let all : c.loop-place.place ≡ length g.names = omega (arith, c.name_count-count.ensures.names, c.loop-place-test.false, c.loop-place.auto.place-end) in
    restricted g c.args.id.0 c.args.blasted.now.map _ c.args.assignment.now c.loop-place.values.items (Truth false) c.name_count-count.ensures.distinct c.requires.blastable c.requires.numbered
    (subst (λ k. AreRead g.names c.args.blasted.now.map c.args.assignment.now k c.loop-place.values.items) all c.loop-place.invariant)

pub returns-clause-absent : goal.returns-clause-absent
returns-clause-absent c =
    let g = c.args.terms.now in
    let all : c.loop-place.place ≡ length g.names = omega (arith, c.name_count-count.ensures.names, c.loop-place-test.false, c.loop-place.auto.place-end) in
    zero_elsewhere g c.args.id.0 c.args.blasted.now.map _ c.args.assignment.now c.loop-place.values.items (Truth false) c.name_count-count.ensures.distinct c.requires.numbered
    (subst (λ k. AreRead g.names c.args.blasted.now.map c.args.assignment.now k c.loop-place.values.items) all c.loop-place.invariant)
