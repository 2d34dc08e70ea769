use Rattle.std.proofs.Common.{◌<◌, length, refl, sym, subst, arith}
use Rattle.std.specs.Prelude.{IsTrue, ◌↔◌}
use Rattle.std.proofs.lemmas.Option.{slice_get_read}
use Rattle.wb_values.specs.Value.{as_truth}
use Rattle.mapped_designs.specs.Runs.{worth_of_registers_at}
use Rattle.shown_facts.specs.declared.seen.Seen.{Seen}
use Rattle.shown_facts.specs.Values.{model_in, map_in, values_in}
use Rattle.shown_facts.specs.Noted.{IsSeenAt}
use Rattle.shown_facts.proofs.Telling.{count_of, each_told, either, noted}
use Rattle.shown_facts.proofs.states.keeps_invariant.Goals as goal

pub index-requires : goal.index-requires
index-requires c =
    let g = c.args.given.now in
    let e = map_in g in
    let s = either g c.args.shown.now c.args.cycle c.requires.shown in
    let seen = subst (IsSeenAt (model_in g) e (values_in g) s.0) (sym c.seen_at-seen.ensures) s.1 in
    omega (arith, c.requires.place, count_of (λ id. as_truth (worth_of_registers_at e.parts (values_in g) s.0 id)) e.invariants c.seen_at-seen.result.now.invariants.items seen.invariants_are)

pub returns : goal.returns
returns c near =
    let g = c.args.given.now in
    let e = map_in g in
    let t = c.args.cycle in
    let bits = c.seen_at-seen.result.now.invariants.items in
    let seen = subst (IsSeenAt (model_in g) e (values_in g) t) (sym c.seen_at-seen.ensures) (noted g c.args.shown.now t c.requires.shown near) in
    let many = count_of (λ id. as_truth (worth_of_registers_at e.parts (values_in g) t id)) e.invariants bits seen.invariants_are in
    each_told (λ id. as_truth (worth_of_registers_at e.parts (values_in g) t id)) e.invariants bits c.args.place c.index.result.now seen.invariants_are c.requires.place
    (slice_get_read bits (length bits) c.args.place c.index.result.now refl (omega (arith, many, c.requires.place)) c.index.ensures)
