-- Laws on the conditions of this crate.
use Rattle.std.specs.Prelude.{◌≡◌, Bool, None, Contains, IsTrue}
use Rattle.wb_values.specs.Value.{Name}
use Rattle.verilog_trees.specs.Syntax.{Statement}
use Rattle.verilog_meaning.specs.Expression.{Scope}
use Rattle.verilog_rules.specs.Expression.{is_unbroken}
use Rattle.verilog_designs.specs.Expressions.{broken_statement}
use Rattle.verilog_designs.specs.Drivers.{assigned_names}
use Rattle.v_value.specs.Narrow.{HasNarrowObjects}
use Rattle.v_write.specs.Sound.{IsSoundStatement}

-- A statement of a block that breaks no rule on expressions and targets, and assigns no parameter, is sound.
abbrev pub UnbrokenIsSound : Type 0
UnbrokenIsSound =
    (s : Scope) (is_clocked_block : Bool) (x : Statement) → HasNarrowObjects s → IsTrue (is_unbroken (broken_statement s is_clocked_block x))
    → ((n : Name) → Contains (assigned_names x) n → (s n).constant ≡ None) → IsSoundStatement s x
