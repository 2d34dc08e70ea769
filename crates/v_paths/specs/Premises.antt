-- What blocks are asked for: none of them assigns a memory.
use Rattle.std.specs.Prelude.{◌≡◌, ℕ, true, false}
use Rattle.wb_values.specs.Value.{Name}
use Rattle.verilog_trees.specs.Syntax.{Statement}
use Rattle.verilog_meaning.specs.Expression.{Scope, is_memory}
use Rattle.verilog_meaning.specs.Register.{may_assign}
use Rattle.verilog_designs.specs.Reads.{BitSet}
use Rattle.v_flow.specs.Spans.{existing}

-- no bit of a memory is among them
abbrev pub HasNoMemory : Scope → BitSet → Type 0
HasNoMemory s p = (n : Name) (k b : ℕ) → is_memory (s n) ≡ true → p n k b ≡ false

-- A run of the statement assigns no bit of a memory.
abbrev pub AssignsNoMemory : Scope → Statement → Type 0
AssignsNoMemory s x = HasNoMemory s (existing s (may_assign s x))
