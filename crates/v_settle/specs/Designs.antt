-- What the settled valuations of a module are to a design that is this module alone.
use Rattle.std.specs.Prelude.{◌≡◌, ◌≢◌, ℕ, true, false, [], Some, IsTrue}
use Rattle.wb_values.specs.Value.{Name, Valuation}
use Rattle.verilog_trees.specs.Syntax.{input, Module}
use Rattle.verilog_meaning.specs.Register.{value_bit}
use Rattle.verilog_meaning.specs.Hierarchy.{Placed, placed_scope}
use Rattle.verilog_meaning.specs.Settled.{Design, at_path, IsPlacedIn, IsDeclared, inside, HasPort, IsBitOf, is_counted, IsSettled}
use Rattle.verilog_meaning.specs.Next.{AreInputs}
use Rattle.verilog_rules.specs.Expression.{is_unbroken}
use Rattle.verilog_designs.specs.Expressions.{broken_module_items}
use Rattle.verilog_settled.specs.Locality.{HasNoConstantMemory}
use Rattle.verilog_exists.specs.Exists.{IsShapely}
use Rattle.verilog_exists.specs.Loops.{IsAcceptedButForLoops}
use Rattle.v_value.specs.Narrow.{HasNarrowObjects}
use Rattle.v_hier.specs.Instances.{has_parts, module_has_parts}
use Rattle.v_scopes.specs.Ports.{alone}
use Rattle.v_lower.specs.Lowered.{Images}
use Rattle.v_loops.specs.Turns.{IsRunnable}
use Rattle.v_settle.specs.OneModule.{is_driven, IsSettledFrom, HasOneDriver, IsEvaluable}

-- u has what is given to the top from outside: in each bit that counts as a register's what the registers have; in an input but the clock
-- what the inputs have; and in all other bits of declared names, which nothing drives, 0. Names that are not declared have what v gives
-- them.
pub record IsGivenTo (d : Design) (p : Placed) (registers inputs v u : Valuation) : Type 0 where
  pub held : (n : Name) (k b : ℕ) → IsDeclared p n → IsTrue (is_counted p n k b) → value_bit (u n) k b ≡ value_bit (inside registers p n) k b
  pub inputs_held : (n : Name) (k b : ℕ) → IsDeclared p n → HasPort p.of_module n input → n ≢ d.clock → value_bit (u n) k b ≡ value_bit (inputs n) k b
  pub unset : (n : Name) (k b : ℕ) → IsDeclared p n → IsBitOf p n k b → is_driven (placed_scope p) p.of_module.items n k b ≡ false
      → is_counted p n k b ≡ false → ¬ (HasPort p.of_module n input × (n ≢ d.clock)) → value_bit (u n) k b ≡ false
  pub others : (n : Name) → ¬ IsDeclared p n → u n ≡ v n

-- Where the design has settled, its one module has settled from what is given to it.
abbrev pub SettlesFromOutside : Type 0
SettlesFromOutside =
    (d : Design) (m : Module) (registers inputs u v : Valuation) (images : Images)
    → has_parts d.source ≡ false → module_has_parts m ≡ false → at_path d [] ≡ Some (alone m)
    → ((n : Name) (id : ℕ) → images n ≡ Some id → IsDeclared (alone m) n)
    → IsSettled d registers inputs v → IsGivenTo d (alone m) registers inputs v u
    → IsSettledFrom (placed_scope (alone m)) m.items images u v

-- And back: where its one module has settled from what is given to it, and each declared name has a term, so has a design that breaks no
-- rule but perhaps that on loops.
abbrev pub SettlesWithItsModule : Type 0
SettlesWithItsModule =
    (d : Design) (m : Module) (registers inputs u v : Valuation) (images : Images)
    → has_parts d.source ≡ false → module_has_parts m ≡ false → at_path d [] ≡ Some (alone m)
    → IsAcceptedButForLoops d → IsShapely d → AreInputs d inputs
    → ((n : Name) → IsDeclared (alone m) n → (id : ℕ) × (images n ≡ Some id))
    → IsGivenTo d (alone m) registers inputs v u → IsSettledFrom (placed_scope (alone m)) m.items images u v
    → IsSettled d registers inputs v

-- A bit of a design that breaks no rule has one driver at most, and no parameter is a memory.
abbrev pub AcceptedHasOneDriver : Type 0
AcceptedHasOneDriver =
    (d : Design) (p : Placed) → IsAcceptedButForLoops d → IsShapely d → IsPlacedIn d p → HasOneDriver (placed_scope p) p.of_module.items

abbrev pub NoParameterIsMemory : Type 0
NoParameterIsMemory = (d : Design) (p : Placed) → IsPlacedIn d p → HasNoConstantMemory (placed_scope p)

-- A module that is an accepted design by itself can be evaluated, where its names have at most 128 bits and its drivers can be run.
abbrev pub AcceptedIsEvaluable : Type 0
AcceptedIsEvaluable =
    (d : Design) (m : Module) → at_path d [] ≡ Some (alone m) → IsAcceptedButForLoops d → IsShapely d
    → HasNarrowObjects (placed_scope (alone m)) → is_unbroken (broken_module_items d.source (placed_scope (alone m)) m.items) ≡ true
    → IsRunnable (placed_scope (alone m)) m.items
    → IsEvaluable (placed_scope (alone m)) m.items
