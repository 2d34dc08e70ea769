use Rattle.std.proofs.Common.{◌++◌, List, ℕ, map, ap, ◌∙◌, sym, subst, length}
use Rattle.wb_terms.specs.Environment.{as_value}
use Rattle.wb_terms.specs.Graph.{AllBelow}
use Rattle.reports.specs.Report.{object_text, in_brackets}
use Rattle.v_design.specs.Parts.{registers_of, inputs_of}
use Rattle.v_design.specs.Seen.{parts_of}
use Rattle.trace_texts.specs.Order.{register_places, input_places}
use Rattle.trace_texts.specs.Told.{register_entry}
use Rattle.trace_texts.proofs.Listed.{trace_parts}
use Rattle.trace_texts.proofs.Cycles.{cycle_texts, registers_below, inputs_below}
use Rattle.trace_texts.proofs.text.append_trace.Goals as goal

pub append_cycles-requires : goal.append_cycles-requires
append_cycles-requires c =
    let d = parts_of c.args.design.now in
    subst (λ ks. AllBelow (length (inputs_of d)) ks) (sym (c.as_slice.ensures.value ∙ c.requires.inputs)) (inputs_below d)

pub append_registers-requires : goal.append_registers-requires
append_registers-requires c =
    let d = parts_of c.args.design.now in
    subst (λ ks. AllBelow (length (registers_of d)) ks) (sym (c.as_slice-2.ensures.value ∙ c.requires.registers)) (registers_below d)

pub returns : goal.returns
returns c =
    let d = parts_of c.args.design.now in
    let rs = map as_value c.args.registers.now in
    let inputs = λ (ks : List ℕ). in_brackets (cycle_texts d ks c.args.inputs.now) in
    let registers = λ (ks : List ℕ). object_text (map (register_entry d rs) ks) in
    trace_parts c.args.out.now.items c.extend_from_slice.new.self.items c.append_cycles.new.out.items c.extend_from_slice-2.new.self.items
    c.extend_from_slice-3.new.self.items c.extend_from_slice-4.new.self.items c.append_registers.new.out.items c.push.new.self.items
    (inputs (input_places d)) c.args.obligation.now (registers (register_places d)) c.in_ok-extend_from_slice.ensures.items
    (c.in_ok-append_cycles.ensures ∙ ap (λ ks. c.extend_from_slice.new.self.items ++ inputs ks) (c.as_slice.ensures.value ∙ c.requires.inputs))
    c.in_ok-extend_from_slice-2.ensures.items
    (c.in_ok-extend_from_slice-3.ensures.items ∙ ap (λ n. c.extend_from_slice-2.new.self.items ++ n) c.as_bytes.ensures.value)
    c.in_ok-extend_from_slice-4.ensures.items
    (c.in_ok-append_registers.ensures ∙ ap (λ ks. c.extend_from_slice-4.new.self.items ++ registers ks) (c.as_slice-2.ensures.value ∙ c.requires.registers))
    c.in_ok-push.ensures.items
