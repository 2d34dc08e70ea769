-- The lines so far, then those that are left.
use Rattle.std.proofs.Common.{◌≡◌, ◌++◌, drop}
use Rattle.v_design.specs.Seen.{parts_of}
use Rattle.check_report.specs.Lines.{verdict_lines_by}
use Rattle.check_report.proofs.lines.append_verdicts.Given as goal

abbrev pub invariant-loop-index : goal.invariant-loop-index
invariant-loop-index l =
    l.out.items ++ verdict_lines_by (parts_of l.fn.design) l.fn.budget (drop l.index l.fn.obligations) (drop l.index l.findings)
    ≡ l.fn.out.items ++ verdict_lines_by (parts_of l.fn.design) l.fn.budget l.fn.obligations l.findings
