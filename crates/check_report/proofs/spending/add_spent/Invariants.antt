use Rattle.std.proofs.Common.{◌≡◌, ◌++◌}
use Rattle.check_report.specs.Spending.{spent_among}
use Rattle.check_report.proofs.spending.add_spent.Given as goal

abbrev pub invariant-loop-finding : goal.invariant-loop-finding
invariant-loop-finding l = l.list.items ++ spent_among l.finding-iterator.rest.items ≡ l.fn.list.items ++ spent_among l.fn.findings.items
