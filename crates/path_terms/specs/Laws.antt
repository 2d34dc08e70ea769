-- The laws on terms over a design.
use Rattle.std.specs.Prelude.{◌≡◌, IsTrue}
use Rattle.wb_values.specs.Value.{Name, Valuation}
use Rattle.verilog_meaning.specs.Expression.{Scope, is_memory}
use Rattle.verilog_meaning.specs.Hierarchy.{Placed, placed_scope}
use Rattle.verilog_meaning.specs.Settled.{Design, IsPlacedIn, IsDeclared, inside}
use Rattle.verilog_designs.specs.Accepted.{IsAccepted}
use Rattle.verilog_exists.specs.Exists.{IsOfText}
use Rattle.wb_terms.specs.Graph.{Graph}
use Rattle.v_operators.specs.Meaning.{Grows}
use Rattle.v_lower.specs.Lowered.{Images, HasImages, StandsFor}
use Rattle.v_design.specs.Parts.{Parts}
use Rattle.v_design.specs.Design.{IsDesignOf}
use Rattle.path_terms.specs.Cycles.{HasItsTerms, IsCycle, IsScopeOf, environment, over}
use Rattle.path_terms.specs.Origins.{AreTermsOfNames}

-- A design stays one where terms are added to its store.
abbrev pub DesignsStay : Type 0
DesignsStay =
    (d : Design) (e : Parts) (g : Graph) → IsDesignOf d e → HasItsTerms e → Grows e.graph g → IsDesignOf d (over e g)

-- Each name has its term, and in a cycle it is worth what has settled.
pub record NamesHaveTerms (d : Design) (e : Parts) (s : Scope) (a : Images) (g : Graph) : Type 0 where
  pub known : HasImages s a g
  pub stands : (registers inputs v : Valuation) → IsCycle d registers inputs v → StandsFor s a g (environment e registers inputs) v

abbrev pub TermsStandForNames : Type 0
TermsStandForNames =
    (d : Design) (e : Parts) (s : Scope) (a : Images) (g : Graph) → IsDesignOf d e → HasItsTerms e → IsAccepted d → IsOfText d → IsScopeOf d s
    → Grows e.graph g → AreTermsOfNames s e g a → NamesHaveTerms d e s a g

-- A memory holds in a settled cycle what its register does.
abbrev pub MemoriesAreRegisters : Type 0
MemoriesAreRegisters =
    (d : Design) (registers inputs v : Valuation) (p : Placed) (n : Name) → IsAccepted d → IsOfText d → IsCycle d registers inputs v → IsPlacedIn d p
    → IsDeclared p n → IsTrue (is_memory (placed_scope p n)) → inside v p n ≡ inside registers p n
