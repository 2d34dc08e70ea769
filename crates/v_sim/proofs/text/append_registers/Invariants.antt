use Rattle.std.proofs.Common.{◌≡◌, ◌++◌, drop, map}
use Rattle.wb_terms.specs.Environment.{as_value}
use Rattle.ila_sim.specs.Names.{settable_of}
use Rattle.v_sim.specs.Texts.{registers_by}
use Rattle.v_sim.proofs.text.append_registers.Given as goal

abbrev pub invariant-loop-place : goal.invariant-loop-place
invariant-loop-place l =
    l.out.items ++ registers_by (map settable_of (drop l.place l.registers)) (map as_value (drop l.place l.values)) ≡ l.initial.out.items ++ registers_by (map settable_of l.registers) (map as_value l.values)
