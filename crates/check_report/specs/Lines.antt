-- The lines of a report, by what was found.
use Rattle.std.specs.Prelude.{ℕ, List, [], ◌∷◌, ◌++◌, map, codes, string_bytes}
use Rattle.wb_values.specs.Value.{Name}
use Rattle.refinement.specs.Obligation as pure
use Rattle.reports.specs.Report.{Trace, Verdict, proved, failed, unknown, trace_text, unknown_text}
use Rattle.wb_terms.specs.Environment.{as_value}
use Rattle.v_design.specs.Parts.{Parts}
use Rattle.trace_texts.specs.Told.{trace_of, numbers_of}
use Rattle.obligation_lists.specs.declared.claims.Obligation.{Obligation}
use Rattle.obligation_check.specs.Found.{spent_by}
use Rattle.obligation_check.specs.declared.values.RunValues.{RunValues}
use Rattle.obligation_check.specs.declared.findings.Finding.{Finding}
use Rattle.obligation_check.specs.declared.findings.Finding.TheVariants.{Holds, Breaks, Spent}

-- the trace of values that break an obligation of this name
abbrev pub trace_by : Parts → Name → RunValues → Trace
trace_by d called x = trace_of d called (map as_value x.registers.items) (numbers_of x.inputs.items)

-- what is found of an obligation, as a verdict
abbrev pub verdict_by : Parts → Name → Finding → Verdict
verdict_by d called Holds = proved
verdict_by d called (Breaks x) = failed (trace_by d called x)
verdict_by d called (Spent x) = unknown (spent_by d x)

abbrev pub verdicts_by : Parts → List pure.Obligation → List Finding → List Verdict
verdicts_by d (o ∷ os) (x ∷ xs) = verdict_by d o.called x ∷ verdicts_by d os xs
verdicts_by d _ _ = []

-- what is said of a finding of an obligation of this name
abbrev pub verdict_said : Parts → (budget : ℕ) → Name → Finding → List ℕ
verdict_said d budget called Holds = codes " proved"
verdict_said d budget called (Breaks x) = codes " failed " ++ trace_text (trace_by d called x)
verdict_said d budget called (Spent x) = unknown_text budget

abbrev pub verdict_line : Parts → (budget : ℕ) → Name → Finding → List ℕ
verdict_line d budget called x = called ++ verdict_said d budget called x ++ 10 ∷ []

-- a line for each obligation
abbrev pub verdict_lines_by : Parts → (budget : ℕ) → List Obligation → List Finding → List ℕ
verdict_lines_by d budget (o ∷ os) (x ∷ xs) = verdict_line d budget (string_bytes o.name) x ++ verdict_lines_by d budget os xs
verdict_lines_by d budget _ _ = []

-- what is said of a finding of a cover
abbrev pub cover_said : (budget : ℕ) → Finding → List ℕ
cover_said budget Holds = codes " no"
cover_said budget (Breaks x) = codes " yes"
cover_said budget (Spent x) = unknown_text budget

abbrev pub cover_line : (budget : ℕ) → Name → Finding → List ℕ
cover_line budget n x = n ++ cover_said budget x ++ 10 ∷ []

-- a line for each name of a cover
abbrev pub cover_lines_by : (budget : ℕ) → List Name → List Finding → List ℕ
cover_lines_by budget (n ∷ ns) (x ∷ xs) = cover_line budget n x ++ cover_lines_by budget ns xs
cover_lines_by budget _ _ = []
