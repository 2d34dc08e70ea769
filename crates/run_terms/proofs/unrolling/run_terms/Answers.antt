use Rattle.std.proofs.Common.{◌≡◌, ◌∙◌, map, refl, length, ap, sym, subst, arith}
use Rattle.std.proofs.lemmas.List.{append-nil}
use Rattle.v_design.specs.Seen.{parts_of}
use Rattle.v_design.specs.Parts.{registers_of}
use Rattle.term_copies.specs.Copies.{copy_of}
use Rattle.run_terms.specs.Leaves.{AreNames, AreBelow}
use Rattle.run_terms.proofs.Copied.{found_below}
use Rattle.run_terms.proofs.Cycles.{register_names, register_room, register_count, input_room, none_unrolled, one_more, leaves_at_zero, leaves_at_inputs, over, all_unrolled}
use Rattle.run_terms.proofs.unrolling.run_terms.Goals as goal

pub put_names-requires : goal.put_names-requires
put_names-requires c =
    let d = parts_of c.args.design.now in
    omega (arith, register_room c.in_ok-terms.terms d c.args.cycles c.in_ok-terms.ensures.names, register_count d c.args.design.now.counted, c.register_count.ensures)

pub loop-cycle-init : goal.loop-cycle-init
loop-cycle-init c =
    let d = parts_of c.args.design.now in
    let g = c.put_names.new.terms in
    let names = c.in_ok-first.ensures.extended.names ∙ c.in_ok-terms.ensures.names in
    let count : c.register_count.result ≡ length (registers_of d) = c.register_count.ensures ∙ sym (register_count d c.args.design.now.counted) in
    none_unrolled d c.args.cycles g c.put_zeros.new.terms c.in_ok-first.first.items c.in_ok-zeros.zeros.items c.in_ok-registers.registers.items c.new-read.result.items c.new-shown.result.items
    names c.in_ok-zeros.ensures.extended
    (register_names g d c.args.cycles c.in_ok-first.first.items names (subst (λ n. AreNames g 0 n c.in_ok-first.first.items) count c.in_ok-first.ensures.names))
    c.in_ok-zeros.ensures.zeros (c.in_ok-registers.ensures ∙ (append-nil c.deref.result.now ∙ c.deref.ensures.value)) c.new-read.ensures.items c.new-shown.ensures.items

pub put_cycle-requires : goal.put_cycle-requires
put_cycle-requires c =
    let l = c.loop-cycle in
    leaves_at_zero (parts_of c.args.design.now) c.args.cycles l.cycle l.terms c.in_ok-first.first.items c.in_ok-zeros.zeros.items l.registers.items
    c.deref-in-loop-cycle.result.now c.deref-in-loop-cycle-2.result.now l.read.items l.shown.items l.invariant c.deref-in-loop-cycle.ensures.value c.deref-in-loop-cycle-2.ensures.value

pub put_inputs-requires : goal.put_inputs-requires
put_inputs-requires c =
    let l = c.loop-cycle in
    input_room c.put_cycle.new.terms (parts_of c.args.design.now) c.args.cycles l.cycle (c.in_ok-at_zero.ensures.extended.names ∙ l.invariant.names) c.loop-cycle-test.true

pub put_cycle-requires-in-loop-cycle : goal.put_cycle-requires-in-loop-cycle
put_cycle-requires-in-loop-cycle c =
    let l = c.loop-cycle in
    leaves_at_inputs (parts_of c.args.design.now) c.args.cycles l.cycle l.terms c.put_cycle.new.terms c.put_inputs.new.terms c.in_ok-first.first.items c.in_ok-zeros.zeros.items l.registers.items
    c.in_ok-inputs.inputs.items c.deref-in-loop-cycle-3.result.now c.deref-in-loop-cycle-4.result.now l.read.items l.shown.items l.invariant c.loop-cycle-test.true
    c.in_ok-at_zero.ensures.extended c.in_ok-inputs.ensures.extended c.in_ok-inputs.ensures.names c.deref-in-loop-cycle-3.ensures.value c.deref-in-loop-cycle-4.ensures.value

pub copies_of-requires : goal.copies_of-requires
copies_of-requires c =
    let d = parts_of c.args.design.now in
    subst (λ ids. AreBelow (length c.deref-in-loop-cycle-5.result.now) ids) (sym c.deref-in-loop-cycle-6.ensures.value)
    (found_below d.graph (registers_of d) c.args.design.now.next.items (length c.deref-in-loop-cycle-5.result.now) c.args.design.now.sorted
    (ap length c.deref-in-loop-cycle-5.ensures.value ∙ c.in_ok-copies.ensures.copies.count))

pub loop-cycle-preserved : goal.loop-cycle-preserved
loop-cycle-preserved c =
    let l = c.loop-cycle in
    let d = parts_of c.args.design.now in
    one_more d c.args.cycles l.cycle l.terms c.put_cycle.new.terms c.put_inputs.new.terms c.put_cycle-in-loop-cycle.new.terms c.in_ok-first.first.items c.in_ok-zeros.zeros.items
    l.registers.items c.in_ok-inputs.inputs.items c.in_ok-registers-2.registers.items c.args.design.now.next.items l.read.items l.shown.items
    c.push-in-loop-cycle.new.self.items c.push.new.self.items c.in_ok-at_zero.at_zero c.in_ok-copies.copies
    c.name_count-names.ensures.distinct c.loop-cycle-test.true c.args.design.now.sorted refl l.invariant c.in_ok-at_zero.ensures.extended
    (over c.put_cycle.new.terms d.graph l.registers.items c.in_ok-zeros.zeros.items c.deref-in-loop-cycle.result.now c.deref-in-loop-cycle-2.result.now c.in_ok-at_zero.at_zero.items
    c.deref-in-loop-cycle.ensures.value c.deref-in-loop-cycle-2.ensures.value c.in_ok-at_zero.ensures.copies)
    c.in_ok-push.ensures.items c.in_ok-inputs.ensures.extended c.in_ok-inputs.ensures.names c.in_ok-copies.ensures.extended
    (over c.put_cycle-in-loop-cycle.new.terms d.graph l.registers.items c.in_ok-inputs.inputs.items c.deref-in-loop-cycle-3.result.now c.deref-in-loop-cycle-4.result.now
    c.in_ok-copies.copies.items c.deref-in-loop-cycle-3.ensures.value c.deref-in-loop-cycle-4.ensures.value c.in_ok-copies.ensures.copies)
    (c.in_ok-registers-2.ensures ∙ (λ i. map (copy_of (c.deref-in-loop-cycle-5.ensures.value i)) (c.deref-in-loop-cycle-6.ensures.value i)))
    c.in_ok-push-2.ensures.items

pub put_cycle-requires-2 : goal.put_cycle-requires-2
put_cycle-requires-2 c =
    let l = c.loop-cycle in
    leaves_at_zero (parts_of c.args.design.now) c.args.cycles l.cycle l.terms c.in_ok-first.first.items c.in_ok-zeros.zeros.items l.registers.items
    c.deref-2.result.now c.deref-3.result.now l.read.items l.shown.items l.invariant c.deref-2.ensures.value c.deref-3.ensures.value

pub returns : goal.returns
returns c =
    let l = c.loop-cycle in
    let d = parts_of c.args.design.now in
    let w = all_unrolled d c.args.cycles l.cycle l.terms c.put_cycle-2.new.terms c.in_ok-first.first.items c.in_ok-zeros.zeros.items l.registers.items l.read.items l.shown.items
    c.push-2.new.self.items c.in_ok-at_zero-2.at_zero c.name_count-names.ensures.distinct (omega (arith, c.loop-cycle-test.false, l.auto.cycle-end)) l.invariant c.in_ok-at_zero-2.ensures.extended
    (over c.put_cycle-2.new.terms d.graph l.registers.items c.in_ok-zeros.zeros.items c.deref-2.result.now c.deref-3.result.now c.in_ok-at_zero-2.at_zero.items
    c.deref-2.ensures.value c.deref-3.ensures.value c.in_ok-at_zero-2.ensures.copies)
    c.in_ok-push-3.ensures.items in
    record { names = w.names; registers = w.at_first; each_cycle = w.read_count; read = w.are_read; one_more = w.shown_count; shown = w.are_shown }
