-- The first memory of a model that is not mapped to one of its shape.
use Rattle.std.specs.Prelude.{◌≡◌, ◌↔◌, ◌⊎◌, ℕ, List, [], ◌∷◌, Option, Some, None, is_some, option_map, codes, IsTrue}
use Rattle.wb_values.specs.Value.{Name, Sort, memory, Entries}
use Rattle.model_meaning.specs.Model.{Model}
use Rattle.verilog_meaning.specs.Settled.{Design}
use Rattle.verilog_exists.specs.Exists.{NamesHaveNoDots}
use Rattle.model_places.specs.Sites.{Spot}
use Rattle.map_files.specs.Written.{Text}
use Rattle.map_rules.specs.Case.{MapCase, case_design, state_sort}
use Rattle.map_rules.specs.Mapped.{IsMemoryPath, HasMemoryMismatch}
use Rattle.v_places.specs.Below as places
use Rattle.map_names.specs.Places.{first_under}
use Rattle.map_paths.specs.Located.{Below, AreBelow, AreStanding}
use Rattle.map_sorts.specs.declared.sorts.ModelSorts.{ModelSorts}
use Rattle.map_sorts.specs.Tables.{sort_of_state_in}
use Rattle.map_memories.specs.declared.kept.Shape.{Shape}

-- ---- sorts and shapes

-- the address width and the width of a memory's words
abbrev pub memory_shape : Option Sort → Option (ℕ × ℕ)
memory_shape (Some (memory a w)) = Some (a, w)
memory_shape _ = None

abbrev pub shape_view : Option Shape → Option (ℕ × ℕ)
shape_view o = option_map (λ s. (s.address_width, s.width)) o

-- the sorts of the states in the table are those of the model
abbrev pub KnowsStates : ModelSorts → Model → Type 0
KnowsStates t m = (q : Name) → sort_of_state_in t q ≡ state_sort m q

-- ---- the first mismatch

-- What is asked of a design: the list has the modules that stand in it, these are the instances in each, and no name has a dot.
pub record HasInstances (d : Design) (spots : List places.Spot) (below : Below) : Type 0 where
  pub standing : AreStanding d spots
  pub are_below : AreBelow spots below
  pub no_dots : NamesHaveNoDots d.source

-- The state of an entry is a memory, and its text is not the path of one of its shape.
pub record IsUnfit (d : Design) (m : Model) (e : Name × Text) : Type 0 where
  pub address_width : ℕ
  pub width : ℕ
  pub is_memory : state_sort m e.0 ≡ Some (memory address_width width)
  pub no_path : ¬ IsMemoryPath d e.1 address_width width

-- the name of the first of the entries that is so, if there is one
abbrev pub IsFirstUnfit : Design → Model → Entries Text → Option Name → Type 0
IsFirstUnfit d m [] o = o ≡ None
IsFirstUnfit d m (e ∷ es) o = (IsUnfit d m e × (o ≡ Some e.0)) ⊎ ((¬ IsUnfit d m e) × IsFirstUnfit d m es o)

-- The place of the first state whose memory is mapped to none of its shape; there is one exactly where the map breaks the rule.
pub record IsMismatch (c : MapCase) (o : Option Spot) : Type 0 where
  pub state : Option Name
  pub is_first : IsFirstUnfit (case_design c) c.model c.written.states state
  pub place : o ≡ first_under (codes "states") state
  pub rule : IsTrue (is_some o) ↔ HasMemoryMismatch c
