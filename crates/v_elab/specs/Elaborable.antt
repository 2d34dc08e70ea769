-- What can be elaborated.
use Rattle.std.specs.Prelude.{◌≡◌, Bool, true, false, IsTrue}
use Rattle.std.specs.List.{list_any}
use Rattle.wb_values.specs.Value.{Name}
use Rattle.verilog_meaning.specs.Register.{clocked_blocks}
use Rattle.verilog_designs.specs.Names.{is_among}
use Rattle.verilog_designs.specs.Paths.{has_blocking}
use Rattle.v_value.specs.Narrow.{HasNarrowObjects}
use Rattle.v_lower.specs.Lowered.{has_sort, has_number}
use Rattle.v_drivers.specs.Premises.{AreNarrowBlocks}
use Rattle.v_loops.specs.OneModule.{HasLoopIn}
use Rattle.v_settle.specs.OneModule.{IsEvaluable}
use Rattle.v_edge.specs.Edge.{AreSound}
use Rattle.v_registers.specs.Registers.{IsRegister}
use Rattle.v_elab.specs.Names.{AreDistinct, HasSmallAddresses}
use Rattle.v_elab.specs.Elaborated.{Body}

-- Names fit their words, nets can be evaluated and come to be settled, clocked blocks can be lowered and assign nothing at once, all that
-- may have a value is declared, once, and nothing is given to a register from outside.
pub record IsElaborable (b : Body) (is_given : Name → Bool) : Type 0 where
  pub objects : HasNarrowObjects b.scope
  pub small : HasSmallAddresses b.scope
  pub narrow : AreNarrowBlocks b.scope (clocked_blocks b.items)
  pub evaluable : IsEvaluable b.scope b.items
  pub sound : AreSound b.scope (clocked_blocks b.items)
  pub waits : list_any has_blocking (clocked_blocks b.items) ≡ false
  pub no_loop : ¬ HasLoopIn b.scope b.items
  pub distinct : AreDistinct b.declared
  pub all_declared : (n : Name) → IsTrue (has_sort (b.scope n)) → has_number (b.scope n) ≡ false → is_among b.declared n ≡ true
  pub apart : (n : Name) → is_given n ≡ true → ¬ IsRegister b.scope (clocked_blocks b.items) n
