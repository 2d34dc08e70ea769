use Rattle.std.proofs.Common.{◌≡◌, ◌<◌, ℕ, List, length, OnOk, subst, sym, ap, ◌∙◌, arith, vec_len}
use Rattle.std.proofs.lemmas.List.{get_or-map}
use Rattle.wb_values.specs.Value.{number}
use Rattle.wb_terms.specs.Environment.{as_value}
use Rattle.reports.specs.Report.{value_text}
use Rattle.v_design.specs.Registers.{CountedBits}
use Rattle.v_design.specs.Parts.{registers_of}
use Rattle.v_design.specs.Seen.{parts_of}
use Rattle.trace_texts.specs.Order.{register_name, register_bits}
use Rattle.trace_texts.specs.Told.{shown}
use Rattle.trace_texts.proofs.Listed.{after_key}
use Rattle.trace_texts.proofs.Turns.{all_bits, bits_at}
use Rattle.trace_texts.proofs.text.append_register.Goals as goal

pub index-requires : goal.index-requires
index-requires c =
    let d = c.args.design.now in
    let many : length d.bits.items ≡ length (registers_of (parts_of d)) = all_bits (registers_of (parts_of d)) d.bits.items d.counting in
    let same : vec_len d.bits ≡ length d.bits.items = d.bits.ok.0 in
    omega (arith, c.requires, many, same)

pub returns-in-Some : goal.returns-in-Some
returns-in-Some c =
    let d = c.args.design.now in
    let k = c.args.place in
    let r = c.index.result.now in
    let x = c.in-Some.value.now in
    let many : length d.bits.items ≡ length (registers_of (parts_of d)) = all_bits (registers_of (parts_of d)) d.bits.items d.counting in
    let low : k < length d.bits.items = omega (arith, c.requires, many) in
    let value = ap as_value c.in-Some.ensures.lookup.1 ∙ sym (get_or-map as_value c.args.registers.now k x (number 0) c.in-Some.ensures.lookup.3.0) in
    subst (λ (t : List ℕ). OnOk c.append_value.result (c.append_value.new.out.items ≡ t))
    (after_key c.args.out.now.items c.append_key.new.out.items c.register_name.result.now (register_name (parts_of d) k) _ _ c.in_ok-append_key.ensures c.register_name.ensures
    (ap (λ (b : CountedBits). value_text (shown b (as_value x))) (sym (bits_at d.bits.items k r low c.index.ensures)) ∙ ap (λ y. value_text (shown (register_bits (parts_of d) k) y)) value))
    c.append_value.ensures
