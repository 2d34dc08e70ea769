use Rattle.std.proofs.Common.{take}
use Rattle.wb_values.specs.Value.{Name}
use Rattle.map_uses.specs.Texts.{old_names, AreNewTexts}
use Rattle.map_uses.proofs.Turning.{HasNewNames}
use Rattle.map_uses.proofs.names.names_in.Given as goal

abbrev pub invariant-loop-each : goal.invariant-loop-each
invariant-loop-each l =
    (new : Name → Name) → AreNewTexts new l.texts.list.items → HasNewNames new (old_names (take l.each-index l.texts.list.items)) l.table
