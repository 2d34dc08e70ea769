-- The rule that the code's stands for, and the name that is printed for it.
use Rattle.std.specs.Prelude.{ℕ, List, codes}
use Rattle.trace_files.specs.Meaning as pure
use Rattle.trace_reading.specs.declared.refusal.TraceRule.{TraceRule}
use Rattle.trace_reading.specs.declared.refusal.TraceRule.TheVariants.{BadJson, BadShape, UnknownObligation, MissingValue}

abbrev pub rule_view : TraceRule → pure.TraceRule
rule_view BadJson = pure.BadJson
rule_view BadShape = pure.BadShape
rule_view UnknownObligation = pure.UnknownObligation
rule_view MissingValue = pure.MissingValue

-- the name that is printed for a rule
abbrev pub rule_name : pure.TraceRule → List ℕ
rule_name pure.BadJson = codes "T1 BadJson"
rule_name pure.BadShape = codes "T2 BadShape"
rule_name pure.UnknownObligation = codes "T3 UnknownObligation"
rule_name pure.MissingValue = codes "T4 MissingValue"
