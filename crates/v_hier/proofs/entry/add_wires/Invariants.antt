use Rattle.std.proofs.Common.{◌≡◌, ◌++◌, drop, map}
use Rattle.v_syntax.specs.declared.module.Wire.{Wire}
use Rattle.v_hier.specs.declared.entry.Tag.TheVariants.{Net}
use Rattle.v_hier.specs.Entries.{entries_of, tagged}
use Rattle.v_hier.proofs.entry.add_wires.Given as goal

abbrev pub invariant-loop-wire : goal.invariant-loop-wire
invariant-loop-wire l =
    entries_of l.entries.items ++ tagged Net (map (λ (w : Wire). w.name.now) (drop l.wire-index l.wires)) ≡ entries_of l.initial.entries.items ++ tagged Net (map (λ (w : Wire). w.name.now) l.wires)
