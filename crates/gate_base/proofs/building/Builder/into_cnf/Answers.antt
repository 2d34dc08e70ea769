use Rattle.std.proofs.Common.{◌≡◌, ◌∙◌, ◌+◌, length, arith, subst, sym, ap}
use Rattle.std.proofs.lemmas.Bool.{false≢true}
use Rattle.gate_base.specs.Circuit.{Circuit, IsDetermined, IsFormulaOf, IsKnown}
use Rattle.gate_base.specs.Clauses.{clauses_from}
use Rattle.gate_base.proofs.Following.{determined}
use Rattle.gate_base.specs.contracts.building.Builder.{the_view}
use Rattle.gate_base.proofs.Satisfying.{formula_of, formula_over}
use Rattle.gate_base.proofs.building.Builder.into_cnf.Goals as goal

pub returns-in_default-clause-determined : goal.returns-in_default-clause-determined
returns-in_default-clause-determined c = subst IsDetermined c.self.view_is (determined _ c.self.invariant)

pub returns-in_err-clauses-clause-determined : goal.returns-in_err-clauses-clause-determined
returns-in_err-clauses-clause-determined c = subst IsDetermined c.self.view_is (determined _ c.self.invariant)

pub returns-in_err-push_bit-clause-determined : goal.returns-in_err-push_bit-clause-determined
returns-in_err-push_bit-clause-determined c = subst IsDetermined c.self.view_is (determined _ c.self.invariant)

pub returns-clause-determined : goal.returns-clause-determined
returns-clause-determined c = subst IsDetermined c.self.view_is (determined _ c.self.invariant)

pub unreachable-requires : goal.unreachable-requires
unreachable-requires c =
    let vars : c.in-Some.vars ≡ c.self.inside.inputs + length c.self.inside.gates.items = omega (arith, c.in-Some.ensures.1, c.len.ensures) in
    false≢true (c.in-Err.ensures.all_known.1
    (formula_over (the_view c.self.inside) c.args.wanted c.in-Some.vars c.push_bit.new.clauses.items c.in_ok-clauses.clauses.items vars c.self.invariant
    (subst (λ (g : Circuit). IsKnown g c.args.wanted) (sym c.self.view_is) c.requires)
    c.in_ok-push_bit.ensures (c.in_ok-clauses.ensures ∙ ap (clauses_from c.self.inside.inputs) c.as_slice.ensures.value)))

pub returns-clause-formula : goal.returns-clause-formula
returns-clause-formula c =
    let vars : c.in-Some.vars ≡ c.self.inside.inputs + length c.self.inside.gates.items = omega (arith, c.in-Some.ensures.1, c.len.ensures) in
    subst (λ (g : Circuit). IsFormulaOf g c.args.wanted c.in-Ok.cnf) c.self.view_is
    (formula_of (the_view c.self.inside) c.args.wanted c.in-Ok.cnf c.in-Some.vars c.push_bit.new.clauses.items c.in_ok-clauses.clauses.items c.self.invariant c.in-Ok.ensures.ok vars
    c.in_ok-push_bit.ensures (c.in_ok-clauses.ensures ∙ ap (clauses_from c.self.inside.inputs) c.as_slice.ensures.value))
