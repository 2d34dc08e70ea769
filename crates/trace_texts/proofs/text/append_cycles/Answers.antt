use Rattle.std.proofs.Common.{◌++◌, ◌+◌, map, ap, ◌∙◌, arith}
use Rattle.wb_values.specs.Value.{number}
use Rattle.reports.specs.Report.{object_text, with_commas}
use Rattle.v_design.specs.Seen.{parts_of}
use Rattle.trace_texts.specs.Told.{input_entry}
use Rattle.trace_texts.proofs.Listed.{turned, cut, closed, none_left}
use Rattle.trace_texts.proofs.Cycles.{cycle_texts}
use Rattle.trace_texts.proofs.text.append_cycles.Goals as goal

pub loop-index-preserved : goal.loop-index-preserved
loop-index-preserved c =
    let d = parts_of c.args.design.now in
    let places = c.args.places.now in
    let xs = c.args.inputs.now in
    let i = c.loop-index.index in
    let x = c.index-inputs-index.result in
    turned (cycle_texts d places) xs i (i + 1) c.loop-index.out.items c.append_comma.new.out.items c.append_inputs.new.out.items
    (object_text (map (input_entry d (map number x.items)) places)) (omega arith)
    (ap (cycle_texts d places) (cut xs i x c.loop-index-test.true c.index-inputs-index.is)) c.in_ok-append_comma.ensures
    (c.in_ok-append_inputs.ensures ∙ ap (λ ns. c.append_comma.new.out.items ++ object_text (map (input_entry d (map number ns)) places)) c.as_slice.ensures.value)
    ∙ c.loop-index.invariant

pub returns : goal.returns
returns c =
    let d = parts_of c.args.design.now in
    let xs = c.args.inputs.now in
    closed c.loop-index.index _ 91 93 c.args.out.now.items c.loop-index.out.items c.push-2.new.self.items (with_commas (cycle_texts d c.args.places.now xs))
    (ap (cycle_texts d c.args.places.now) (none_left xs c.loop-index.index (omega arith))) c.loop-index.invariant c.in_ok-push-2.ensures.items
