use Rattle.std.proofs.Common.{◌≡◌, ◌++◌, drop, map}
use Rattle.v_syntax.specs.declared.module.Wire.{Wire}
use Rattle.v_scopes.specs.Rows.{rows_of, named}
use Rattle.v_scopes.proofs.row.add_wires.Given as goal

abbrev pub invariant-loop-wire : goal.invariant-loop-wire
invariant-loop-wire l =
    rows_of l.list.items ++ named l.form (map (λ (w : Wire). w.name.now) (drop l.wire-index l.wires)) ≡ rows_of l.initial.list.items ++ named l.form (map (λ (w : Wire). w.name.now) l.wires)
