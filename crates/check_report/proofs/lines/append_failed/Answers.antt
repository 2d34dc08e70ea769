-- The trace of the values, between its word and the end of the line.
use Rattle.std.proofs.Common.{◌++◌, map, ap, ◌∙◌}
use Rattle.reports.specs.Report.{trace_text}
use Rattle.wb_terms.specs.Environment.{as_value}
use Rattle.v_design.specs.Seen.{parts_of}
use Rattle.trace_texts.specs.Told.{trace_of, numbers_of}
use Rattle.check_report.proofs.Parts.{failed_parts}
use Rattle.check_report.proofs.lines.append_failed.Goals as goal

pub returns : goal.returns
returns c =
    let d = parts_of c.args.design.now in
    let called = c.args.obligation.now in
    let x = c.args.values.now in
    let start = c.extend_from_slice.new.self.items in
    failed_parts c.args.out.now.items start c.append_trace.new.out.items c.push.new.self.items _ c.in_ok-extend_from_slice.ensures.items
    (c.in_ok-append_trace.ensures
    ∙ (ap (λ rs. start ++ trace_text (trace_of d called (map as_value rs) (numbers_of c.as_slice-inputs.result.now))) c.as_slice-registers.ensures.value
    ∙ ap (λ is. start ++ trace_text (trace_of d called (map as_value x.registers.items) (numbers_of is))) c.as_slice-inputs.ensures.value))
    c.in_ok-push.ensures.items
