-- What an outcome of the code tells.
use Rattle.std.specs.Prelude.{List, [], Option, Some, None, map}
use Rattle.reports.specs.Encoding as encoding
use Rattle.v_design.specs.Seen.{parts_of}
use Rattle.obligation_check.specs.Found.{spent_by}
use Rattle.check_report.specs.declared.totals.Ending.{Ending}
use Rattle.check_report.specs.declared.totals.Ending.TheVariants.{AllProved, SomeUnknown, SomeFailed}
use Rattle.wb_top.specs.Outcome.{Told}
use Rattle.wb_top.specs.declared.answer.Outcome.{Outcome}
use Rattle.wb_top.specs.declared.status.AllSpent.{AllSpent}
use Rattle.wb_top.specs.declared.status.Ended.{Ended}
use Rattle.wb_top.specs.declared.status.Status.{Status}
use Rattle.wb_top.specs.declared.status.Status.TheVariants.{Done, Failed, Unknown}

-- what shows that budgets were spent, each with the bits of the design that its variables stand for
abbrev pub spent_in : Option AllSpent → List encoding.Spent
spent_in None = []
spent_in (Some x) = map (spent_by (parts_of x.design)) x.entries.items

-- what an outcome tells
abbrev pub told_of : Outcome → Told
told_of o = record { text = o.text.items; spent = spent_in o.spent }

-- what a call shows beside what it wrote
abbrev pub shown_by : Ended → List encoding.Spent
shown_by e = spent_in e.spent

-- the status of a report that ends so
abbrev pub status_by : Ending → Status
status_by AllProved = Done
status_by SomeUnknown = Unknown
status_by SomeFailed = Failed
