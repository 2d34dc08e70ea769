-- The name, then what is said of it.
use Rattle.std.proofs.Common.{◌≡◌, ◌++◌, sym, ap, ◌∙◌}
use Rattle.std.specs.Prelude.{codes}
use Rattle.reports.specs.Report.{trace_text}
use Rattle.v_design.specs.Seen.{parts_of}
use Rattle.obligation_check.specs.declared.findings.Finding.{Finding}
use Rattle.obligation_check.specs.declared.findings.Finding.TheVariants.{Breaks}
use Rattle.check_report.specs.Lines.{trace_by, verdict_line}
use Rattle.check_report.proofs.Parts.{said}
use Rattle.check_report.proofs.lines.append_verdict.Goals as goal

pub returns-in_ok-append_failed-in-Breaks : goal.returns-in_ok-append_failed-in-Breaks
returns-in_ok-append_failed-in-Breaks c =
    let d = parts_of c.args.design.now in
    let start = c.args.out.now.items in
    let line = λ (x : Finding). start ++ verdict_line d c.args.budget c.args.obligation.now x in
    let all : c.append_failed.new.out.items ≡ line (Breaks c.in-Breaks.values) =
    said start c.extend_from_slice.new.self.items c.append_failed.new.out.items c.args.obligation.now
    (codes " failed " ++ trace_text (trace_by d c.args.obligation.now c.in-Breaks.values))
    (c.in_ok-extend_from_slice.ensures.items ∙ ap (λ n. start ++ n) c.as_bytes.ensures.value) c.in_ok-append_failed-in-Breaks.ensures in
    all ∙ ap line (sym c.in-Breaks.is)
