-- Bits of a module that are read and have no driver, where the module stands by itself.
use Rattle.std.specs.Prelude.{ℕ, Bool, true, false, List, [], ◌∷◌, ◌⊎◌, IsTrue}
use Rattle.wb_values.specs.Value.{Name}
use Rattle.verilog_trees.specs.Syntax.{Item}
use Rattle.verilog_meaning.specs.Expression.{Scope, is_memory}
use Rattle.verilog_designs.specs.Reads.{BitSet}
use Rattle.v_scopes.specs.declared.table.ModuleScope.{ModuleScope}
use Rattle.v_drivers.specs.Sets.{drivers}
use Rattle.v_undriven.specs.Names.{needs_driver}
use Rattle.v_undriven.specs.Reads.{module_reads}

-- one of the sets has the bit
abbrev pub OneHas : List BitSet → Name → (word bit : ℕ) → Type 0
OneHas [] n k b = ⊥
OneHas (p ∷ ps) n k b = IsTrue (p n k b) ⊎ OneHas ps n k b

-- one of the sets has the bit; of a memory some bit
abbrev pub HasAnyAs : (of_memory : Bool) → List BitSet → Name → (word bit : ℕ) → Type 0
HasAnyAs false ps n k b = OneHas ps n k b
HasAnyAs true ps n k b = (l : ℕ) × (c : ℕ) × OneHas ps n l c

abbrev pub HasAny : Scope → List BitSet → Name → (word bit : ℕ) → Type 0
HasAny s ps n k b = HasAnyAs (is_memory (s n)) ps n k b

-- A bit that is read, in the module or as a bit of its output, has no driver, though its name needs one: of a memory no bit has one.
pub record HasUndrivenBit (s : Scope) (names : ModuleScope) (clock : Name) (items : List Item) : Type 0 where
  pub name : Name
  pub word : ℕ
  pub bit : ℕ
  pub needs : IsTrue (needs_driver s names clock name)
  pub is_read : IsTrue (module_reads s names items name word bit)
  pub undriven : ¬ HasAny s (drivers s items) name word bit
