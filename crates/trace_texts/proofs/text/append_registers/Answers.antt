use Rattle.std.proofs.Common.{◌+◌, length, map, ap, ◌∙◌, arith}
use Rattle.wb_terms.specs.Environment.{as_value}
use Rattle.std.specs.Prelude.{slice_index_or}
use Rattle.reports.specs.Report.{member_texts, with_commas}
use Rattle.v_design.specs.Parts.{registers_of}
use Rattle.v_design.specs.Seen.{parts_of}
use Rattle.trace_texts.specs.Told.{register_entry}
use Rattle.trace_texts.specs.Texts.{entry_text}
use Rattle.trace_texts.proofs.Cycles.{one_below}
use Rattle.trace_texts.proofs.Listed.{turned, cut_or, closed, none_left}
use Rattle.trace_texts.proofs.text.append_registers.Goals as goal

pub append_register-requires : goal.append_register-requires
append_register-requires c = one_below (length (registers_of (parts_of c.args.design.now))) c.args.places.now c.loop-index.index c.requires c.loop-index-test.true

pub loop-index-preserved : goal.loop-index-preserved
loop-index-preserved c =
    let entry = register_entry (parts_of c.args.design.now) (map as_value c.args.registers.now) in
    let xs = c.args.places.now in
    let i = c.loop-index.index in
    let x = slice_index_or xs i 0 in
    turned (λ ks. member_texts (map entry ks)) xs i (i + 1) c.loop-index.out.items c.append_comma.new.out.items c.append_register.new.out.items (entry_text (entry x)) (omega arith)
    (ap (λ ks. member_texts (map entry ks)) (cut_or xs i 0 c.loop-index-test.true)) c.in_ok-append_comma.ensures c.in_ok-append_register.ensures
    ∙ c.loop-index.invariant

pub returns : goal.returns
returns c =
    let entry = register_entry (parts_of c.args.design.now) (map as_value c.args.registers.now) in
    let xs = c.args.places.now in
    closed c.loop-index.index _ 123 125 c.args.out.now.items c.loop-index.out.items c.push-2.new.self.items (with_commas (member_texts (map entry xs)))
    (ap (λ ks. member_texts (map entry ks)) (none_left xs c.loop-index.index (omega (arith, c.loop-index-test.false)))) c.loop-index.invariant c.in_ok-push-2.ensures.items
