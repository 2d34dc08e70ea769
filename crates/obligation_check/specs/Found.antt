-- What is found of a term of a run's store.
use Rattle.std.specs.Prelude.{◌≡◌, ℕ, zero, suc, ◌<◌, false, List, [], ◌∷◌, map, length, ⊤}
use Rattle.std.specs.Global.{Vec}
use Rattle.wb_values.specs.Value.{truth_value, number, Valuation}
use Rattle.model_meaning.specs.Term.{val}
use Rattle.refinement.specs.Map.{Setting}
use Rattle.refinement.specs.Run.{Run}
use Rattle.refinement.specs.Obligation as pure
use Rattle.refinement.specs.Obligation.{Obligation, Falsifies}
use Rattle.reports.specs.Encoding as encoding
use Rattle.reports.specs.Encoding.{EncodesObligation}
use Rattle.reports.specs.Report.{Cover, covered, not_covered, unknown_cover}
use Rattle.sat_base.specs.Log.{IsSpent}
use Rattle.wb_terms.specs.Graph.{Graph, tree}
use Rattle.wb_terms.specs.Environment.{as_value}
use Rattle.v_design.specs.Parts.{Parts}
use Rattle.mapped_designs.specs.Runs.{Values}
use Rattle.mapped_runs.specs.Valued.{HasValues}
use Rattle.run_terms.specs.Names.{values_of_run, FitsNames}
use Rattle.obligation_check.specs.Bits.{bits_of}
use Rattle.obligation_check.specs.Spread.{EncodesSpread}
use Rattle.obligation_check.specs.declared.findings.Spent as code
use Rattle.obligation_check.specs.declared.values.RunValues.{RunValues}
use Rattle.obligation_check.specs.declared.findings.Finding.{Finding}
use Rattle.obligation_check.specs.declared.findings.Finding.TheVariants.{Holds, Breaks, Spent}

-- the list at a place, empty past the last
abbrev pub numbers_at : List (Vec ℕ) → ℕ → List ℕ
numbers_at [] t = []
numbers_at (ns ∷ rest) zero = ns.items
numbers_at (ns ∷ rest) (suc t) = numbers_at rest t

-- the values that the code's record stands for
abbrev pub values_view : RunValues → Values
values_view x = record { first = map as_value x.registers.items; inputs = λ t. map number (numbers_at x.inputs.items t) }

-- The code's values are these, in so many cycles.
pub record AreValues (cycles : ℕ) (x : RunValues) (y : Values) : Type 0 where
  pub first : (values_view x).first ≡ y.first
  pub count : length x.inputs.items ≡ cycles
  pub inputs : (t : ℕ) → t < cycles → (values_view x).inputs t ≡ y.inputs t

-- It is false under no values that fit; or it is false under these values of a run; or a formula encodes it, and a log over the formula is
-- spent on the budget.
abbrev pub IsFinding : Parts → (cycles : ℕ) → Graph → (id budget : ℕ) → Finding → Type 0
IsFinding d cycles g id budget Holds = (v : Valuation) → FitsNames g.names v → ¬ (val (tree g id) v ≡ truth_value false)
IsFinding d cycles g id budget (Breaks x) =
    (v : Valuation) × FitsNames g.names v × (val (tree g id) v ≡ truth_value false) × AreValues cycles x (values_of_run d cycles v)
IsFinding d cycles g id budget (Spent x) =
    EncodesSpread g id x.formula.map x.formula.cnf × IsSpent budget x.formula.cnf x.log × (x.cycles ≡ cycles)

-- What is found of an obligation: that it holds; or values of a run that falsifies it; or a formula that encodes it, and a log over it that
-- is spent on the budget.
abbrev pub IsFoundOf : Setting → Parts → (budget : ℕ) → Obligation → Finding → Type 0
IsFoundOf s d budget o Holds = pure.Holds s o
IsFoundOf s d budget o (Breaks x) = (run : Run) × Falsifies s run o × HasValues d run o.cycles (values_view x) × (length x.inputs.items ≡ o.cycles)
IsFoundOf s d budget o (Spent x) = EncodesObligation s o x.formula.cnf (bits_of d x.cycles x.formula.map) × IsSpent budget x.formula.cnf x.log

-- what is found of the obligations of a list, in order
abbrev pub AreFound : Setting → Parts → (budget : ℕ) → List Obligation → List Finding → Type 0
AreFound s d budget [] [] = ⊤
AreFound s d budget (o ∷ os) (x ∷ xs) = IsFoundOf s d budget o x × AreFound s d budget os xs
AreFound s d budget [] (x ∷ xs) = ⊥
AreFound s d budget (o ∷ os) [] = ⊥

-- what shows that a budget was spent, with the bits that the variables stand for
abbrev pub spent_by : Parts → code.Spent → encoding.Spent
spent_by d x = record { formula = x.formula.cnf; bits = bits_of d x.cycles x.formula.map; log = x.log }

-- The term of a cover is false under a whole command.
abbrev pub cover_by : Parts → Finding → Cover
cover_by d Holds = not_covered
cover_by d (Breaks x) = covered
cover_by d (Spent x) = unknown_cover (spent_by d x)
