use Rattle.std.proofs.Common.{length, refl, arith}
use Rattle.std.proofs.lemmas.Option.{slice_get_read}
use Rattle.wb_values.specs.Value.{as_truth}
use Rattle.mapped_designs.specs.Mapped.{MappedInstruction}
use Rattle.mapped_designs.specs.Runs.{worth_at}
use Rattle.shown_facts.specs.Values.{map_in, values_in}
use Rattle.shown_facts.proofs.Telling.{count_of, row_at, some_told}
use Rattle.shown_facts.proofs.conditions.commits.Goals as goal

pub index-row-requires : goal.index-row-requires
index-row-requires c = omega (arith, c.requires.cycle, c.requires.shown.count)

pub index-requires : goal.index-requires
index-requires c =
    let g = c.args.given.now in
    let e = map_in g in
    let row = row_at g c.args.shown.now c.args.cycle c.index-row.result.now c.requires.shown (omega (arith, c.requires.cycle, c.requires.shown.count)) c.index-row.ensures in
    omega (arith, count_of (λ (i : MappedInstruction). as_truth (worth_at e.parts (values_in g) c.args.cycle i.commit)) e.instructions c.index-row.result.now.commits.items row.commits_are, c.requires.place, c.requires.given.sorted.instructions)

pub returns : goal.returns
returns c =
    let g = c.args.given.now in
    let e = map_in g in
    let bits = c.index-row.result.now.commits.items in
    let row = row_at g c.args.shown.now c.args.cycle c.index-row.result.now c.requires.shown (omega (arith, c.requires.cycle, c.requires.shown.count)) c.index-row.ensures in
    let many = count_of (λ (i : MappedInstruction). as_truth (worth_at e.parts (values_in g) c.args.cycle i.commit)) e.instructions bits row.commits_are in
    some_told (λ (i : MappedInstruction). as_truth (worth_at e.parts (values_in g) c.args.cycle i.commit)) e.instructions bits c.args.place c.index.result.now row.commits_are (omega (arith, c.requires.place, c.requires.given.sorted.instructions))
    (slice_get_read bits (length bits) c.args.place c.index.result.now refl (omega (arith, many, c.requires.place, c.requires.given.sorted.instructions)) c.index.ensures)
