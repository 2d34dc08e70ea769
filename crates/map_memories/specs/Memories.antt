-- The memories of the modules that stand in a design, as the code keeps them.
use Rattle.std.specs.Prelude.{◌≡◌, ◌↔◌, ℕ, ◌-◌, ◌^◌, ◌==◌, Bool, false, ◌&&◌, ◌||◌, List, slice_get, Option, Some, None, IsTrue}
use Rattle.std.specs.List.{AllZip}
use Rattle.wb_values.specs.Value.{Name}
use Rattle.verilog_meaning.specs.Expression.{Object, object_width}
use Rattle.verilog_meaning.specs.Register.{clocked_blocks}
use Rattle.v_value.specs.Scope.{scope_at}
use Rattle.v_value.specs.Narrow.{HasNarrowObjects}
use Rattle.v_hier.specs.Tables.{has_name}
use Rattle.v_drivers.specs.Premises.{AreNarrowBlocks}
use Rattle.v_registers.specs.Registers.{HasCounted}
use Rattle.v_places.specs.Below.{Spot}
use Rattle.map_paths.specs.Located.{scope_there}
use Rattle.map_memories.specs.declared.kept.Memories.{Memories}

-- In each of the modules names and clocked blocks fit words of 128 bits.
abbrev pub IsNarrowSpot : Spot → Type 0
IsNarrowSpot x = HasNarrowObjects (scope_there x) × AreNarrowBlocks (scope_there x) (clocked_blocks x.of_module.items)

abbrev pub AreNarrowSpots : List Spot → Type 0
AreNarrowSpots spots = (k : ℕ) (x : Spot) → slice_get spots k ≡ Some x → IsNarrowSpot x

-- ---- shapes

-- the indexes 0 to 2^a - 1, in either order
abbrev pub has_indexes : ℕ → Option (ℕ × ℕ) → Bool
has_indexes a None = false
has_indexes a (Some x) = (x.0 == 0 && x.1 == 2 ^ a - 1) || (x.0 == 2 ^ a - 1 && x.1 == 0)

-- a memory of 2^a words of w bits
abbrev pub has_shape : ℕ → ℕ → Object → Bool
has_shape a w o = has_indexes a o.addresses && object_width o == w

-- The name is that of a memory of this shape in the module, and a clocked block may assign a bit of it.
abbrev pub IsMemoryIn : Spot → Name → ℕ → ℕ → Type 0
IsMemoryIn x n a w = IsTrue (has_shape a w (scope_there x n)) × HasCounted (scope_there x) (clocked_blocks x.of_module.items) n

abbrev pub IsMemoryThere : Option Spot → Name → ℕ → ℕ → Type 0
IsMemoryThere None n a w = ⊥
IsMemoryThere (Some x) n a w = IsMemoryIn x n a w

-- where a dotted name leads
abbrev pub IsMemoryWhere : List Spot → Option (ℕ × Name) → ℕ → ℕ → Type 0
IsMemoryWhere spots None a w = ⊥
IsMemoryWhere spots (Some p) a w = IsMemoryThere (slice_get spots p.0) p.1 a w

-- ---- what is kept of a module

-- its scope, and the names of which a clocked block may assign a bit
pub record HasMemories (x : Spot) (m : Memories) : Type 0 where
  pub scope : scope_at m.scope ≡ scope_there x
  pub assigned : (n : Name) → IsTrue (has_name m.assigned n) ↔ HasCounted (scope_there x) (clocked_blocks x.of_module.items) n

abbrev pub HasMemoriesIf : Spot → Option Memories → Type 0
HasMemoriesIf x None = Unit {0}
HasMemoriesIf x (Some m) = HasMemories x m

-- those of the modules of a list that are kept, by their numbers
abbrev pub HaveMemories : List Spot → List (Option Memories) → Type 0
HaveMemories = AllZip HasMemoriesIf
