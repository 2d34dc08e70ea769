-- The emitted module of a model is one.
use Rattle.std.specs.Prelude.{◌≡◌, ℕ, ◌<◌, ◌^◌, Bool, List, length, IsTrue}
use Rattle.wb_values.specs.Value.{Name}
use Rattle.model_meaning.specs.Invariant.{IsModel}
use Rattle.wb_terms.specs.declared.store.Declared.{Declared}
use Rattle.wb_terms.specs.declared.store.Entry.{Entry}
use Rattle.wb_terms.specs.Entries.{graph_of, IsWellSorted}
use Rattle.ila_model.specs.declared.parts.Parts.{Parts}
use Rattle.ila_model.specs.Sorted.{is_well_sorted}
use Rattle.ila_model.specs.Meaning.{model_from}
use Rattle.emitted_designs.specs.Bounds.{nesting_of}
use Rattle.emitted_designs.specs.Emits.{IsEmittedModule}
use Rattle.emitted_modules.specs.Kept.{IsStored, IsKept}
use Rattle.emitted_modules.specs.Module.{emitted_module}

-- The parts are well sorted, and the model that they stand for keeps the rules. It has no child programs.
pub record IsFlatModel (name : Name) (p : Parts) : Type 0 where
  pub sorted : IsTrue (is_well_sorted p)
  pub stored : IsStored p.terms
  pub few : length p.instructions.items < 2 ^ 64
  pub is_model : IsModel (model_from name p)
  pub childless : nesting_of (model_from name p).top ≡ 0

abbrev pub FlatModelsAreEmitted : Type 0
FlatModelsAreEmitted =
    (name : Name) (p : Parts) (keep : ℕ → Bool) → IsFlatModel name p → IsKept p keep → IsEmittedModule (model_from name p) (emitted_module name p keep)

-- Every store of terms with fewer than 2^64 nodes keeps what is asked of a model's graph.
abbrev pub StoresAreStored : Type 0
StoresAreStored = (ds : List Declared) (es : List Entry) → IsWellSorted ds es → length es < 2 ^ 64 → IsStored (graph_of ds es)
