-- What is known of a term of truth sort once it is settled.
use Rattle.std.specs.Prelude.{◌≡◌, ℕ, false, List, Option, Contains}
use Rattle.wb_values.specs.Value.{Name, Sort, Entries, truth_value, Valuation, HasSort}
use Rattle.model_meaning.specs.Term.{val}
use Rattle.wb_terms.specs.Graph.{Graph, tree}
use Rattle.wb_terms.specs.Environment.{Fits, value_of}
use Rattle.sat_base.specs.Log.{Refutes, IsSpent}
use Rattle.sat_gates.specs.Names.{names_in}
use Rattle.sat_gates.specs.Encodes.{Encodes}
use Rattle.sat_gates.specs.Layout.{variables_of, IsNumbered}
use Rattle.sat_settle.specs.Refutation.{Refutation}
use Rattle.sat_settle.specs.declared.settling.Settled.{Settled}
use Rattle.sat_settle.specs.declared.settling.Settled.TheVariants.{Breaks, Holds, Spent}

-- The valuation gives each of the names a value of its sort.
abbrev pub FitsNames : Entries Sort → Valuation → Type 0
FitsNames names v = (n : Name) (s : Sort) → Contains names (n, s) → HasSort (v n) s

-- The refuted formula encodes the term, for some map from its names to variables, and the log refutes it.
pub record IsRefutationOf (g : Graph) (id : ℕ) (r : Refutation) : Type 0 where
  pub firsts : List (Option ℕ)
  pub encodes : Encodes r.formula (variables_of g.names firsts) (tree g id)
  pub refutes : Refutes r.formula r.log

-- It breaks under values that fit; or it is false under none; or a formula encodes it, and a log over the formula is spent on the budget.
abbrev pub IsSettled : Graph → (id budget : ℕ) → Settled → Type 0
IsSettled g id budget (Breaks env) = Fits g env × (value_of g env id ≡ truth_value false)
IsSettled g id budget (Holds _) = (v : Valuation) → FitsNames g.names v → ¬ (val (tree g id) v ≡ truth_value false)
IsSettled g id budget (Spent b log) =
    Encodes b.cnf (variables_of g.names b.map) (tree g id) × IsNumbered g.names (names_in (tree g id)) b.map b.cnf.vars
    × IsSpent budget b.cnf log

-- where it is said to hold, a refutation of its formula stands beside the answer
abbrev pub IsShown : Graph → (id : ℕ) → Settled → Type 0
IsShown g id (Breaks _) = Unit {0}
IsShown g id (Holds r) = IsRefutationOf g id r
IsShown g id (Spent _ _) = Unit {0}
