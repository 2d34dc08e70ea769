use Rattle.std.proofs.Common.{drop}
use Rattle.std.specs.Prelude.{map}
use Rattle.verilog_meaning.specs.Register.{clocked_blocks}
use Rattle.v_value.specs.Scope.{scope_at}
use Rattle.v_syntax.specs.Source.{item_of}
use Rattle.v_registers.specs.Registers.{counted_of}
use Rattle.v_registers.proofs.Splitting.{SplitSoFar}
use Rattle.v_registers.proofs.registers.registers_among.Given as goal

abbrev pub invariant-loop-name : goal.invariant-loop-name
invariant-loop-name l =
    SplitSoFar (scope_at l.scope) (clocked_blocks (map item_of l.items)) (map (λ n. n.now) l.declared) (map (λ n. n.now) (drop l.name-index l.declared))
    (map counted_of l.split.registers.items) (map (λ n. n.now) l.split.others.items)
