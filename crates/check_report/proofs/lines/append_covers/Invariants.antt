-- The lines so far, then those that are left.
use Rattle.std.proofs.Common.{◌≡◌, ◌++◌, map, drop}
use Rattle.std.specs.Prelude.{string_bytes}
use Rattle.check_report.specs.Lines.{cover_lines_by}
use Rattle.check_report.proofs.lines.append_covers.Given as goal

abbrev pub invariant-loop-index : goal.invariant-loop-index
invariant-loop-index l =
    l.out.items ++ cover_lines_by l.fn.budget (map string_bytes (drop l.index l.fn.names)) (drop l.index l.findings)
    ≡ l.fn.out.items ++ cover_lines_by l.fn.budget (map string_bytes l.fn.names) l.findings
