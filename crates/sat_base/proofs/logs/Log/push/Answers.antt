use Rattle.std.proofs.Common.{◌≡◌, ℕ, ◌++◌, ◌∙◌, [], ◌∷◌, List, Result, Ok, Err, ap, sym, map, All, subst}
use Rattle.std.specs.Prelude.{OnErr}
use Rattle.sat_base.specs.declared.literals.Lit.{Lit}
use Rattle.sat_base.specs.declared.logs.Lemma.{Lemma}
use Rattle.sat_base.specs.declared.logs.Step.{Step}
use Rattle.sat_base.specs.Steps.{lemma_in, IsWithin}
use Rattle.sat_base.proofs.StepLemmas.{all_within_grown, all_within_push, lemmas_grown, lemmas_push}
use Rattle.sat_base.proofs.logs.Log.push.Goals as goal

on_err : {T E : Type 0} (r : Result T E) (P : Type 0) → P → OnErr r P
on_err (Ok x) P p = tt
on_err (Err e) P p = p

pub invariant_of-self : goal.invariant_of-self
invariant_of-self c = all_within_grown c.self.inside.codes.items c.write.new.codes.items c.self.inside.hints.items c.write.new.hints.items c.in_err-step.ensures.codes c.in_err-step.ensures.hints c.self.inside.steps.items c.self.invariant

pub invariant_of-self-in_err-push : goal.invariant_of-self-in_err-push
invariant_of-self-in_err-push c =
    subst (λ (ss : List Step). All (IsWithin c.write.new.codes.items c.write.new.hints.items) ss) (sym c.in_err-push.ensures.items)
    (all_within_grown c.self.inside.codes.items c.write.new.codes.items c.self.inside.hints.items c.write.new.hints.items c.in_ok-step.ensures.codes c.in_ok-step.ensures.hints c.self.inside.steps.items c.self.invariant)

pub invariant_of-self-2 : goal.invariant_of-self-2
invariant_of-self-2 c =
    subst (λ (ss : List Step). All (IsWithin c.write.new.codes.items c.write.new.hints.items) ss) (sym c.in_ok-push.ensures.items)
    (all_within_push c.self.inside.codes.items c.write.new.codes.items c.self.inside.hints.items c.write.new.hints.items c.in_ok-step.ensures.codes c.in_ok-step.ensures.hints c.self.inside.steps.items c.in_ok-step.step c.self.invariant c.in_ok-step.ensures.step.0)

pub returns-in_err-step-clause-err : goal.returns-in_err-step-clause-err
returns-in_err-step-clause-err c =
    on_err c.from_residual.result _
    (lemmas_grown c.self.inside.codes.items c.write.new.codes.items c.self.inside.hints.items c.write.new.hints.items c.in_err-step.ensures.codes c.in_err-step.ensures.hints c.self.inside.steps.items c.self.invariant
    ∙ c.self.view_is)

pub returns-in_err-push-clause-err : goal.returns-in_err-push-clause-err
returns-in_err-push-clause-err c =
    on_err c.from_residual-in_err-push.result _
    (ap (λ (ss : List Step). map (lemma_in c.write.new.codes.items c.write.new.hints.items) ss) c.in_err-push.ensures.items
    ∙ lemmas_grown c.self.inside.codes.items c.write.new.codes.items c.self.inside.hints.items c.write.new.hints.items c.in_ok-step.ensures.codes c.in_ok-step.ensures.hints c.self.inside.steps.items c.self.invariant
    ∙ c.self.view_is)

pub returns-clause-ok : goal.returns-clause-ok
returns-clause-ok c =
    let lemma = c.args.lemma in
    let made : List Lit → List ℕ → Lemma = λ ls ns. record { lits = ls; hints = ns } in
    let is : lemma_in c.write.new.codes.items c.write.new.hints.items c.in_ok-step.step ≡ lemma =
    c.in_ok-step.ensures.step.1 ∙ ap (λ (ls : List Lit). made ls c.as_slice-numbers.result.now) c.as_slice-lits.ensures ∙ ap (λ (ns : List ℕ). made lemma.lits ns) c.as_slice-numbers.ensures in
    ap (λ (ss : List Step). map (lemma_in c.write.new.codes.items c.write.new.hints.items) ss) c.in_ok-push.ensures.items
    ∙ lemmas_push c.self.inside.codes.items c.write.new.codes.items c.self.inside.hints.items c.write.new.hints.items c.in_ok-step.ensures.codes c.in_ok-step.ensures.hints c.self.inside.steps.items c.in_ok-step.step lemma c.self.invariant is
    ∙ ap (λ (ls : List Lemma). ls ++ lemma ∷ []) c.self.view_is
