-- The total of what was found of obligations, and how the check ends.
use Rattle.std.specs.Prelude.{ℕ, Bool, true, false, cond, nat_lt, List, [], ◌∷◌, ◌++◌, codes, decimal}
use Rattle.reports.specs.Report as pure
use Rattle.obligation_check.specs.declared.findings.Finding.{Finding}
use Rattle.obligation_check.specs.declared.findings.Finding.TheVariants.{Holds, Breaks, Spent}
use Rattle.check_report.specs.declared.totals.Ending.{Ending}
use Rattle.check_report.specs.declared.totals.Ending.TheVariants.{AllProved, SomeUnknown, SomeFailed}

abbrev pub is_proved : Finding → Bool
is_proved Holds = true
is_proved _ = false

abbrev pub is_failed : Finding → Bool
is_failed (Breaks numbers) = true
is_failed _ = false

abbrev pub is_unknown : Finding → Bool
is_unknown (Spent x) = true
is_unknown _ = false

-- the last line, by the three counts
abbrev pub total_by : (proved failed unknown : ℕ) → List ℕ
total_by proved failed unknown =
    codes "total proved " ++ decimal proved ++ codes " failed " ++ decimal failed ++ codes " unknown " ++ decimal unknown ++ 10 ∷ []

-- how a check with so many failed and unknown obligations ends
abbrev pub ending_by : (failed unknown : ℕ) → pure.Ending
ending_by failed unknown = cond (nat_lt 0 failed) pure.some_failed (cond (nat_lt 0 unknown) pure.some_unknown pure.all_proved)

-- the ending that the code's stands for
abbrev pub ending_view : Ending → pure.Ending
ending_view AllProved = pure.all_proved
ending_view SomeUnknown = pure.some_unknown
ending_view SomeFailed = pure.some_failed
