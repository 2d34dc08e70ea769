use Rattle.std.proofs.Common.{length, refl, arith}
use Rattle.std.proofs.lemmas.Option.{slice_get_read}
use Rattle.wb_values.specs.Value.{as_truth}
use Rattle.mapped_designs.specs.Mapped.{MappedInstruction}
use Rattle.mapped_designs.specs.Runs.{worth_at}
use Rattle.shown_facts.specs.Values.{map_in, values_in}
use Rattle.shown_facts.proofs.Telling.{count_of, row_at, each_told}
use Rattle.shown_facts.proofs.conditions.is_assumed.Goals as goal

pub index-row-requires : goal.index-row-requires
index-row-requires c = omega (arith, c.requires.cycle, c.requires.shown.count)

pub index-requires : goal.index-requires
index-requires c =
    let g = c.args.given.now in
    let e = map_in g in
    let row = row_at g c.args.shown.now c.args.cycle c.index-row.result.now c.requires.shown (omega (arith, c.requires.cycle, c.requires.shown.count)) c.index-row.ensures in
    omega (arith, count_of (λ id. as_truth (worth_at e.parts (values_in g) c.args.cycle id)) e.assume c.index-row.result.now.assume.items row.assume_is, c.requires.place)

pub returns : goal.returns
returns c =
    let g = c.args.given.now in
    let e = map_in g in
    let bits = c.index-row.result.now.assume.items in
    let row = row_at g c.args.shown.now c.args.cycle c.index-row.result.now c.requires.shown (omega (arith, c.requires.cycle, c.requires.shown.count)) c.index-row.ensures in
    let many = count_of (λ id. as_truth (worth_at e.parts (values_in g) c.args.cycle id)) e.assume bits row.assume_is in
    each_told (λ id. as_truth (worth_at e.parts (values_in g) c.args.cycle id)) e.assume bits c.args.place c.index.result.now row.assume_is (omega (arith, c.requires.place))
    (slice_get_read bits (length bits) c.args.place c.index.result.now refl (omega (arith, many, c.requires.place)) c.index.ensures)
