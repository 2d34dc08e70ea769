use Rattle.std.proofs.Common.{◌<◌, length, refl, arith}
use Rattle.std.specs.Prelude.{⊤, IsTrue}
use Rattle.std.proofs.lemmas.List.{length-map}
use Rattle.std.proofs.lemmas.Option.{slice_get_read}
use Rattle.term_copies.specs.Copies.{id_at, declared_at}
use Rattle.term_copies.proofs.Extending.{extended_trans, tree_kept}
use Rattle.v_design.specs.Bits.{counted_bits}
use Rattle.v_design.specs.Seen.{parts_of}
use Rattle.v_design.specs.Parts.{registers_of}
use Rattle.condition_terms.specs.Told.{is_true}
use Rattle.condition_terms.proofs.Forming.{IsTermOf-kept}
use Rattle.fact_terms.proofs.Rows.{mapped_at}
use Rattle.obligation_terms.proofs.Resting.{bits_counted, bits_at, IsCountedAt, none_at_first, rest_told, counted_here, one_more}
use Rattle.obligation_terms.proofs.rest.put_rest.Goals as goal

pub loop-place-init : goal.loop-place-init
loop-place-init c =
    let d = parts_of c.args.design.now in
    (c.in_ok-all.ensures.extended, none_at_first c.in_ok-all.all.0 (λ k v. IsCountedAt c.args.terms.now d.bits c.args.registers.now k v) c.in_ok-all.ensures.value)

pub index-requires : goal.index-requires
index-requires c =
    let d = parts_of c.args.design.now in
    omega (arith, c.loop-place-test.true, c.requires.registers.count, bits_counted (registers_of d) d.bits c.args.design.now.counting, length-map c.args.design.now.bits.items counted_bits)

pub and_register-requires-clause-all : goal.and_register-requires-clause-all
and_register-requires-clause-all c = c.loop-place.invariant.1.condition

pub and_register-requires-clause-register : goal.and_register-requires-clause-register
and_register-requires-clause-register c =
    let d = parts_of c.args.design.now in
    let ns = registers_of d in
    let k = c.loop-place.place in
    let ids = c.args.registers.now in
    let items = c.args.design.now.bits.items in
    let s = (declared_at ns k).1 in
    let below : k < length items = omega (arith, c.loop-place-test.true, c.requires.registers.count, bits_counted ns d.bits c.args.design.now.counting, length-map items counted_bits) in
    let at = mapped_at counted_bits items k c.index.result.now (slice_get_read items (length items) k c.index.result.now refl below c.index.ensures) in (
      s,
      IsTermOf-kept (id_at ids k) s c.loop-place.invariant.0 (c.requires.registers.each k (omega (arith, c.loop-place-test.true, c.requires.registers.count))),
      bits_at ns d.bits k (counted_bits c.index.result.now) c.args.design.now.counting at,
    )

pub loop-place-preserved : goal.loop-place-preserved
loop-place-preserved c =
    let g = c.args.terms.now in
    let k = c.loop-place.terms in
    let d = parts_of c.args.design.now in
    let n = c.loop-place.place in
    let ids = c.args.registers.now in
    let items = c.args.design.now.bits.items in
    let all = c.in_ok-all-2.all.0 in
    let below : n < length items = omega (arith, c.loop-place-test.true, c.requires.registers.count, bits_counted (registers_of d) d.bits c.args.design.now.counting, length-map items counted_bits) in
    let at = mapped_at counted_bits items n c.index.result.now (slice_get_read items (length items) n c.index.result.now refl below c.index.ensures) in
    let term = c.requires.registers.each n (omega (arith, c.loop-place-test.true, c.requires.registers.count)) in (
      extended_trans c.loop-place.invariant.0 c.in_ok-all-2.ensures.extended,
      one_more c.loop-place.all.0 all n (λ v. ⊤) (λ i v. IsCountedAt g d.bits ids i v) c.in_ok-all-2.ensures.extended c.loop-place.invariant.1
          (counted_here g k all (λ v. IsTrue (is_true k c.loop-place.all.0 v)) d.bits ids n (counted_bits c.index.result.now) at (tree_kept (id_at ids n) c.loop-place.invariant.0 term.below)
          c.in_ok-all-2.ensures.told),
    )

pub returns-clause-told : goal.returns-clause-told
returns-clause-told c =
    rest_told c.args.terms.now c.loop-place.all.0 c.loop-place.place (parts_of c.args.design.now) c.args.registers.now (omega (arith, c.loop-place-test.false)) (omega (arith, c.loop-place.auto.place-end)) c.loop-place.invariant.1
