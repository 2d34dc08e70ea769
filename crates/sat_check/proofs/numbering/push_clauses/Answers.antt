use Rattle.std.proofs.Common.{◌≡◌, ◌∙◌, ◌++◌, ◌∷◌, [], List, take, map, sym, ap, subst}
use Rattle.std.proofs.lemmas.List.{take_more, take_all}
use Rattle.sat_base.specs.declared.literals.Lit.{Lit}
use Rattle.sat_check.specs.Numbering.{HasVariables}
use Rattle.sat_check.proofs.Numberings.{HasVariables-push, KeepsAll-push}
use Rattle.sat_check.proofs.numbering.push_clauses.Goals as goal

pub loop-clause-preserved : goal.loop-clause-preserved
loop-clause-preserved c =
    let i = c.loop-clause.clause-index in
    let clauses = c.args.clauses.now in
    let added : c.push_variables.new.variables.items ≡ c.loop-clause.variables.items ++ map (λ l. l.var) c.clause-item.result =
    c.in_ok-push_variables.ensures ∙ ap (λ (lits : List Lit). c.loop-clause.variables.items ++ map (λ l. l.var) lits) c.as_slice.ensures in
    record {
      kept = KeepsAll-push c.args.variables.now.items c.loop-clause.variables.items c.push_variables.new.variables.items _ c.loop-clause.invariant.kept added;
      added =
          subst (HasVariables c.push_variables.new.variables.items)
          (ap (λ (lits : List Lit). take i clauses ++ (lits ∷ [])) c.clause-item.is ∙ sym (take_more clauses i c.clause-item.result c.loop-clause-test.true))
          (HasVariables-push c.loop-clause.variables.items c.push_variables.new.variables.items (take i clauses) c.clause-item.result c.loop-clause.invariant.added added);
    }

pub returns-clause-added : goal.returns-clause-added
returns-clause-added c =
    subst (HasVariables c.loop-clause.variables.items) (take_all c.loop-clause.clause-index c.args.clauses.now c.loop-clause-test.false) c.loop-clause.invariant.added
