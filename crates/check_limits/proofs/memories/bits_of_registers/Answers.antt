use Rattle.std.proofs.Common.{◌≡◌, ◌∙◌, ◌<◌, [], length, get_or, true, refl, sym, ap, subst, arith}
use Rattle.std.proofs.lemmas.List.{length-map}
use Rattle.wb_values.specs.Value.{Name, Sort, truth}
use Rattle.v_design.specs.Bits.{counted_bits}
use Rattle.v_design.specs.Parts.{registers_of, are_bits_of}
use Rattle.v_design.specs.Seen.{parts_of}
use Rattle.check_limits.specs.Limits.{register_bits_of}
use Rattle.check_limits.proofs.Summing.{one_register, all_registers, bits_counted, bits_at, bits_read, register_there, registers_counted}
use Rattle.check_limits.proofs.memories.bits_of_registers.Goals as goal

pub loop-place-init : goal.loop-place-init
loop-place-init c = (omega arith, omega arith)

pub index-requires : goal.index-requires
index-requires c =
    let x = c.args.design.now in
    let d = parts_of x in
    omega (arith, c.loop-place-test.true, c.register_count-place-end.ensures, registers_counted x.terms.names x.register_count x.counted, bits_counted (registers_of d) d.bits x.counting, length-map x.bits.items counted_bits)

pub bits_of_register-total-requires-clause-bits : goal.bits_of_register-total-requires-clause-bits
bits_of_register-total-requires-clause-bits c =
    let x = c.args.design.now in
    let d = parts_of x in
    let k = c.loop-place.place in
    let n : Name × Sort = get_or x.terms.names k ([], truth) in
    let within : k < length x.bits.items =
    omega (arith, c.loop-place-test.true, c.register_count-place-end.ensures, registers_counted x.terms.names x.register_count x.counted, bits_counted (registers_of d) d.bits x.counting, length-map x.bits.items counted_bits) in
    let bits = counted_bits c.index.result.now in
    subst (λ s. are_bits_of s bits ≡ true) (sym c.name_sort.ensures.sort)
    (bits_at (registers_of d) d.bits k n bits x.counting (register_there x.terms.names x.register_count k (omega (arith, c.loop-place-test.true, c.register_count-place-end.ensures)) x.counted)
    (bits_read x.bits.items k c.index.result.now within c.index.ensures))

pub overflow_add-total : goal.overflow_add-total
overflow_add-total c = omega (arith, c.loop-place.invariant.1, c.bits_of_register-total.ensures.bound, c.loop-place-test.true, c.register_count-place-end.type_inv)

pub loop-place-preserved : goal.loop-place-preserved
loop-place-preserved c =
    let x = c.args.design.now in
    let d = parts_of x in
    let k = c.loop-place.place in
    let n : Name × Sort = get_or x.terms.names k ([], truth) in
    let within : k < length x.bits.items =
    omega (arith, c.loop-place-test.true, c.register_count-place-end.ensures, registers_counted x.terms.names x.register_count x.counted, bits_counted (registers_of d) d.bits x.counting, length-map x.bits.items counted_bits) in
    let bits = counted_bits c.index.result.now in (
      one_register (registers_of d) d.bits k c.loop-place.total c.bits_of_register-total.result _ n bits
          (register_there x.terms.names x.register_count k (omega (arith, c.loop-place-test.true, c.register_count-place-end.ensures)) x.counted)
          (bits_read x.bits.items k c.index.result.now within c.index.ensures) (c.bits_of_register-total.ensures.value ∙ ap (λ s. register_bits_of s bits) c.name_sort.ensures.sort) refl c.loop-place.invariant.0,
      omega (arith, c.loop-place.invariant.1, c.bits_of_register-total.ensures.bound),
    )

pub returns-clause-value : goal.returns-clause-value
returns-clause-value c =
    let x = c.args.design.now in
    let d = parts_of x in
    all_registers (registers_of d) d.bits c.loop-place.place c.loop-place.total
    (omega (arith, c.loop-place-test.false, c.register_count-place-end.ensures, registers_counted x.terms.names x.register_count x.counted)) c.loop-place.invariant.0

pub returns-clause-bound : goal.returns-clause-bound
returns-clause-bound c = omega (arith, c.loop-place.invariant.1, c.loop-place.auto.place-end, c.register_count-place-end.type_inv)
