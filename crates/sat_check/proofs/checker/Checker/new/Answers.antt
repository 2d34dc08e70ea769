use Rattle.std.proofs.Common.{List, ℕ, sym, subst, map}
use Rattle.sat_base.specs.declared.logs.Lemma.{Lemma}
use Rattle.sat_check.specs.Numbering.{HasVariables}
use Rattle.sat_check.proofs.checker.Checker.new.Goals as goal

pub add_clauses-requires-clause-known : goal.add_clauses-requires-clause-known
add_clauses-requires-clause-known c =
    subst (λ (v : List ℕ). HasVariables v c.clauses-clauses.result.now) (sym c.as_slice.ensures.value) c.in_ok-variables.ensures.clauses

pub add_lemmas-requires-clause-known : goal.add_lemmas-requires-clause-known
add_lemmas-requires-clause-known c =
    subst (λ (v : List ℕ). HasVariables v (map (λ (s : Lemma). s.lits) c.args.log.now)) (sym c.as_slice-2.ensures.value) c.in_ok-variables.ensures.lemmas
