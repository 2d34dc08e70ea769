use Rattle.v_design.specs.Seen.{parts_of}
use Rattle.trace_reading.proofs.Whole.{is_read}
use Rattle.trace_reading.proofs.Values.{has_values}
use Rattle.trace_reading.proofs.reading.read_trace.Goals as goal

pub returns-clause-told : goal.returns-clause-told
returns-clause-told c s setting =
    let d = c.args.design.now in
    is_read s (parts_of d) c.args.obligations.now setting d.counting d.words c.args.bytes.now c.in_ok-answer.answer c.in_ok-answer.ensures

pub returns-clause-values : goal.returns-clause-values
returns-clause-values c =
    let d = c.args.design.now in
    has_values (parts_of d) c.name_count-names.ensures.distinct d.counting d.words c.args.obligations.now c.args.bytes.now c.in_ok-answer.answer c.in_ok-answer.ensures
