-- The rule that the code's stands for, and the name that is printed for it.
use Rattle.std.specs.Prelude.{ℕ, List, codes}
use Rattle.map_files.specs.Meaning as pure
use Rattle.map_file.specs.declared.refusal.MapRule.{MapRule}
use Rattle.map_file.specs.declared.refusal.MapRule.TheVariants.{BadJson, BadShape, UnknownKey, UnknownState, StateUnmapped, UnknownInput, InputUnmapped, BadExpression, WidthMismatch, MapUsesInput, MemoryMismatch, UnknownInstruction, BoundMissing, BadBound}

abbrev pub rule_view : MapRule → pure.MapRule
rule_view BadJson = pure.BadJson
rule_view BadShape = pure.BadShape
rule_view UnknownKey = pure.UnknownKey
rule_view UnknownState = pure.UnknownState
rule_view StateUnmapped = pure.StateUnmapped
rule_view UnknownInput = pure.UnknownInput
rule_view InputUnmapped = pure.InputUnmapped
rule_view BadExpression = pure.BadExpression
rule_view WidthMismatch = pure.WidthMismatch
rule_view MapUsesInput = pure.MapUsesInput
rule_view MemoryMismatch = pure.MemoryMismatch
rule_view UnknownInstruction = pure.UnknownInstruction
rule_view BoundMissing = pure.BoundMissing
rule_view BadBound = pure.BadBound

-- the name that is printed for a rule
abbrev pub rule_name : pure.MapRule → List ℕ
rule_name pure.BadJson = codes "P1 BadJson"
rule_name pure.BadShape = codes "P2 BadShape"
rule_name pure.UnknownKey = codes "P3 UnknownKey"
rule_name pure.UnknownState = codes "P4 UnknownState"
rule_name pure.StateUnmapped = codes "P5 StateUnmapped"
rule_name pure.UnknownInput = codes "P6 UnknownInput"
rule_name pure.InputUnmapped = codes "P7 InputUnmapped"
rule_name pure.BadExpression = codes "P8 BadExpression"
rule_name pure.WidthMismatch = codes "P9 WidthMismatch"
rule_name pure.MapUsesInput = codes "P10 MapUsesInput"
rule_name pure.MemoryMismatch = codes "P11 MemoryMismatch"
rule_name pure.UnknownInstruction = codes "P12 UnknownInstruction"
rule_name pure.BoundMissing = codes "P13 BoundMissing"
rule_name pure.BadBound = codes "P14 BadBound"
