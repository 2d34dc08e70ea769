-- The rules as the code names them, and their printed names.
use Rattle.std.specs.Prelude.{ℕ, List, codes}
use Rattle.model_files.specs.Meaning as pure
use Rattle.ila_rules.specs.declared.rule.ModelRule.{ModelRule}
use Rattle.ila_rules.specs.declared.rule.ModelRule.TheVariants as rules

abbrev pub rule_view : ModelRule → pure.ModelRule
rule_view rules.BadJson = pure.BadJson
rule_view rules.BadShape = pure.BadShape
rule_view rules.UnknownKey = pure.UnknownKey
rule_view rules.BadName = pure.BadName
rule_view rules.DuplicateName = pure.DuplicateName
rule_view rules.UnknownName = pure.UnknownName
rule_view rules.BadWidth = pure.BadWidth
rule_view rules.BadSort = pure.BadSort
rule_view rules.BadNumber = pure.BadNumber
rule_view rules.MemoryCopy = pure.MemoryCopy
rule_view rules.TooDeepChild = pure.TooDeepChild
rule_view rules.BadSteps = pure.BadSteps

-- the name that is printed for a rule
abbrev pub rule_name : pure.ModelRule → List ℕ
rule_name pure.BadJson = codes "M1 BadJson"
rule_name pure.BadShape = codes "M2 BadShape"
rule_name pure.UnknownKey = codes "M3 UnknownKey"
rule_name pure.BadName = codes "M4 BadName"
rule_name pure.DuplicateName = codes "M5 DuplicateName"
rule_name pure.UnknownName = codes "M6 UnknownName"
rule_name pure.BadWidth = codes "M7 BadWidth"
rule_name pure.BadSort = codes "M8 BadSort"
rule_name pure.BadNumber = codes "M9 BadNumber"
rule_name pure.MemoryCopy = codes "M10 MemoryCopy"
rule_name pure.TooDeepChild = codes "M11 TooDeepChild"
rule_name pure.BadSteps = codes "M12 BadSteps"
