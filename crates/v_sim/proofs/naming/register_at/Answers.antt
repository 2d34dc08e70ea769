use Rattle.std.proofs.Common.{◌≡◌, ◌<◌, ◌∙◌, [], length, true, sym, ap, ap₂, subst, arith}
use Rattle.std.proofs.lemmas.List.{length-take-le, length-map, get_or-take}
use Rattle.wb_values.specs.Value.{truth}
use Rattle.wb_terms.specs.Sort.{as_sort}
use Rattle.v_design.specs.Seen.{parts_of}
use Rattle.v_design.specs.Bits.{counted_bits}
use Rattle.v_design.specs.Parts.{registers_of, are_bits_of}
use Rattle.v_sim.specs.Names.{kind_of}
use Rattle.v_sim.proofs.Settings.{bits_at, right_length, right_at}
use Rattle.v_sim.proofs.Placing.{bits_there, register_is}
use Rattle.v_sim.proofs.naming.register_at.Goals as goal

pub index-bits-requires : goal.index-bits-requires
index-bits-requires c =
    let d = c.args.design.now in
    let e = parts_of d in
    let long = right_length (registers_of e) e.bits d.counting in
    omega (arith, c.requires, long, length-take-le d.register_count d.terms.names d.counted, length-map d.bits.items counted_bits)

pub kind_of-kind-requires-clause-bits : goal.kind_of-kind-requires-clause-bits
kind_of-kind-requires-clause-bits c =
    let d = c.args.design.now in
    let e = parts_of d in
    let k = c.args.place in
    let ns = registers_of e in
    let long = length-take-le d.register_count d.terms.names d.counted in
    let all = right_length ns e.bits d.counting in
    let within : k < length ns = omega (arith, c.requires, long) in
    let sort = ap (λ x. x.1) (get_or-take d.register_count d.terms.names k ([], truth) c.requires) ∙ sym c.name_sort.ensures.sort in
    let bits = bits_there d.bits.items k c.index-bits.result.now (omega (arith, within, all, length-map d.bits.items counted_bits)) c.index-bits.ensures in
    subst (λ b. are_bits_of (as_sort c.name_sort.result) b ≡ true) bits
    (subst (λ s. are_bits_of s (bits_at e.bits k) ≡ true) sort (right_at ns e.bits k d.counting within))

pub returns : goal.returns
returns c =
    let d = c.args.design.now in
    let e = parts_of d in
    let k = c.args.place in
    let ns = registers_of e in
    let long = length-take-le d.register_count d.terms.names d.counted in
    let all = right_length ns e.bits d.counting in
    let within : k < length ns = omega (arith, c.requires, long) in
    let there = get_or-take d.register_count d.terms.names k ([], truth) c.requires in
    let sort = ap (λ x. x.1) there ∙ sym c.name_sort.ensures.sort in
    let bits = bits_there d.bits.items k c.index-bits.result.now (omega (arith, within, all, length-map d.bits.items counted_bits)) c.index-bits.ensures in
    register_is ns e.bits k c.in_ok-name.name.items c.kind_of-kind.result c.in_ok-masks.masks.items d.counting within
    (c.in_ok-name.ensures.items ∙ (c.as_bytes.ensures.value ∙ c.register_name.ensures))
    (c.kind_of-kind.ensures.kind ∙ ap₂ kind_of (sym sort) (sym bits))
    (c.in_ok-masks.ensures.items ∙ (c.deref.ensures.value ∙ ap (λ b. b.masks) (sym bits)))
