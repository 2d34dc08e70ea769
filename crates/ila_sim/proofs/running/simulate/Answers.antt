use Rattle.std.proofs.Common.{◌≡◌, ◌++◌, ◌+◌, ◌<◌, [], ◌∷◌, List, true, length, map, drop, sym, ap, ◌∙◌, subst, arith, append-nil, Vec, Global}
use Rattle.std.specs.List.{list_all}
use Rattle.std.proofs.lemmas.List.{map-append, drop_all}
use Rattle.std.proofs.lemmas.List.Elements.{All-same, All-push}
use Rattle.scripts.specs.Script.{settables_of, inputs_of, initial_state, first_state, with_sets}
use Rattle.model_meaning.specs.Outcome.{IsOutcome}
use Rattle.scripts.specs.Simulation.{AreOutcomes}
use Rattle.ila_child.specs.State.{IsStateOf, state_valuation}
use Rattle.ila_model.specs.Model.{model_of}
use Rattle.ila_sim.specs.declared.set.Set.{Set}
use Rattle.ila_sim.specs.Lines.{sets_view}
use Rattle.ila_child.specs.declared.stepping.Stepped.{Stepped}
use Rattle.ila_child.specs.Step.{outcome_view, IsWell}
use Rattle.ila_child.specs.Runs.{state_in, stepped_of}
use Rattle.ila_sim.specs.Outcomes.{inputs_from}
use Rattle.ila_sim.specs.Scripts.{script_view}
use Rattle.ila_sim.specs.Sets.{are_right}
use Rattle.ila_sim.proofs.Steps.{after_well, one_more, lines_next, rest_right, first_right, ended}
use Rattle.ila_sim.proofs.running.simulate.Goals as goal

pub loop-sets-init : goal.loop-sets-init
loop-sets-init c =
    let m = model_of c.args.model.now in
    let p = c.args.model.now.parts in
    let v = first_state m (script_view (settables_of m) c.args.script.now) in
    let ws = inputs_from m c.args.script.now.inputs.items in
    let begun = ap (state_valuation m) c.in_ok-runner.ensures.state ∙ c.in_ok-state.ensures.values ∙ ap (λ ss. with_sets (initial_state m) (sets_view (settables_of m).states ss)) c.deref.ensures.value in record {
      made = c.in_ok-runner.ensures.made;
      well = All-same (IsWell m) c.in_ok-answers.answers.items [] c.in_ok-answers.ensures.items (λ k d h. absurd (omega (arith, h)));
      state = subst (IsStateOf m) (sym c.in_ok-runner.ensures.state) c.in_ok-state.ensures.sorted;
      right = subst (λ ls. list_all (λ (l : Vec Set Global). are_right (settables_of m).inputs l.items) ls ≡ true) (sym c.deref-sets-items.ensures.value) c.requires.1;
      runs = λ os h. subst (λ (done : List Stepped). AreOutcomes m v ws (map (outcome_view m) done ++ os)) (sym c.in_ok-answers.ensures.items)
          (subst (λ u. AreOutcomes m u ws os) begun (subst (λ ls. AreOutcomes m (state_valuation m (state_in p c.in_ok-runner.runner)) (inputs_from m ls) os) c.deref-sets-items.ensures.value h));
    }

pub answer-requires-clause-sets : goal.answer-requires-clause-sets
answer-requires-clause-sets c =
    let m = model_of c.args.model.now in
    let items = c.deref-sets-items.result.now in
    let k = c.loop-sets.sets-index in
    let line = c.sets-item.result in
    let cut = lines_next items k line (omega arith) c.sets-item.is in
    let first = first_right (λ (l : Vec Set Global). are_right (settables_of m).inputs l.items) (drop k items) (drop (k + 1) items) line cut c.loop-sets.invariant.right in
    subst (λ (ss : List Set). are_right (settables_of m).inputs ss ≡ true) (sym c.deref-in-loop-sets.ensures.value) first

pub loop-sets-preserved : goal.loop-sets-preserved
loop-sets-preserved c =
    let m = model_of c.args.model.now in
    let items = c.deref-sets-items.result.now in
    let k = c.loop-sets.sets-index in
    let line = c.sets-item.result in
    let p = c.args.model.now.parts in
    let q = state_in p c.loop-sets.runner in
    let r = state_in p c.answer.new.runner in
    let a = stepped_of c.in_ok-moved.moved r in
    let outcome =
    subst (λ (ss : List Set). IsOutcome m (state_valuation m q) (inputs_of m (sets_view (settables_of m).inputs ss)) (outcome_view m a)) c.deref-in-loop-sets.ensures.value c.in_ok-moved.ensures.outcome in
    let cut = lines_next items k line (omega arith) c.sets-item.is in
    let items_now = c.in_ok-push.ensures.items ∙ ap (λ b. c.loop-sets.answers.items ++ b ∷ []) c.in_ok-stepped.ensures in
    let pushed = ap (map (outcome_view m)) items_now ∙ map-append (outcome_view m) c.loop-sets.answers.items (a ∷ []) in record {
      made = c.in_ok-moved.ensures.made;
      well = All-same (IsWell m) c.push.new.self.items (c.loop-sets.answers.items ++ a ∷ []) items_now (All-push (IsWell m) c.loop-sets.answers.items a c.loop-sets.invariant.well c.in_ok-moved.ensures.well);
      state = after_well m q r a c.loop-sets.invariant.state c.in_ok-moved.ensures.well c.in_ok-moved.ensures.after;
      right = rest_right (λ (l : Vec Set Global). are_right (settables_of m).inputs l.items) (drop k items) (drop (k + 1) items) line cut c.loop-sets.invariant.right;
      runs = one_more m (first_state m (script_view (settables_of m) c.args.script.now)) (inputs_from m c.args.script.now.inputs.items) q r a (drop k items) (drop (k + 1) items) line
          (map (outcome_view m) c.loop-sets.answers.items) (map (outcome_view m) c.push.new.self.items) cut c.loop-sets.invariant.runs outcome c.in_ok-moved.ensures.after pushed;
    }

pub returns-clause-outcomes : goal.returns-clause-outcomes
returns-clause-outcomes c =
    let m = model_of c.args.model.now in
    let done = map (outcome_view m) c.loop-sets.answers.items in
    let v = first_state m (script_view (settables_of m) c.args.script.now) in
    let ws = inputs_from m c.args.script.now.inputs.items in
    let left = drop_all c.loop-sets.sets-index c.deref-sets-items.result.now (omega arith) in
    subst (AreOutcomes m v ws) (append-nil done) (ended m (state_valuation m (state_in c.args.model.now.parts c.loop-sets.runner)) _ (λ os. AreOutcomes m v ws (done ++ os)) left c.loop-sets.invariant.runs)
