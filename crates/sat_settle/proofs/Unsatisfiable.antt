-- A term whose formula no assignment satisfies is false under no values that fit.
use Rattle.std.proofs.Common.{◌≡◌, ℕ, Bool, false, List, [], Option, Contains, subst, sym}
use Rattle.std.proofs.lemmas.List.Elements.{Contains-get_or}
use Rattle.wb_values.specs.Value.{truth, truth_value, Valuation}
use Rattle.model_meaning.specs.Term.{val}
use Rattle.wb_terms.specs.Graph.{Graph, tree}
use Rattle.sat_base.specs.Formula.{Formula, Satisfies}
use Rattle.sat_base.specs.Log.{Refutes}
use Rattle.sat_gates.specs.Names.{names_in}
use Rattle.sat_gates.specs.Encodes.{GivesSorts, Encodes}
use Rattle.sat_gates.specs.Layout.{variables_of, IsNumbered}
use Rattle.sat_gates.proofs.Solved.{has_solutions}
use Rattle.sat_settle.specs.Refutation.{Refutation}
use Rattle.sat_settle.specs.Settled.{FitsNames, IsRefutationOf}

-- what fits all names of the store fits those of the term
pub gives_sorts : (g : Graph) (id : ℕ) (firsts : List (Option ℕ)) (vars : ℕ) (v : Valuation) → IsNumbered g.names (names_in (tree g id)) firsts vars
    → FitsNames g.names v → GivesSorts v (tree g id)
gives_sorts g id firsts vars v numbered fits n s stands =
    let u = numbered.declared n s stands in
    fits n s (subst (Contains g.names) u.2 (Contains-get_or g.names u.0 ([], truth) u.1))

pub never_false : (g : Graph) (id : ℕ) (firsts : List (Option ℕ)) (f : Formula) → Encodes f (variables_of g.names firsts) (tree g id)
    → IsNumbered g.names (names_in (tree g id)) firsts f.vars → ((a : List Bool) → ¬ Satisfies a f)
    → (v : Valuation) → FitsNames g.names v → ¬ (val (tree g id) v ≡ truth_value false)
never_false g id firsts f encodes numbered none v fits e =
    let found = ((has_solutions f (variables_of g.names firsts) (tree g id) encodes).some v (gives_sorts g id firsts f.vars v numbered fits)).0 e in
    none found.0 found.1.satisfies

pub is_refutation_of : (g : Graph) (id : ℕ) (firsts : List (Option ℕ)) (f : Formula) (r : Refutation) → Encodes f (variables_of g.names firsts) (tree g id)
    → r.formula ≡ f → Refutes r.formula r.log → IsRefutationOf g id r
is_refutation_of g id firsts f r encodes same refutes =
    record { firsts = firsts; encodes = subst (λ h. Encodes h (variables_of g.names firsts) (tree g id)) (sym same) encodes; refutes = refutes }
