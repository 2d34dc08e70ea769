use Rattle.std.proofs.Common.{◌≡◌, ◌++◌, ◌+◌, suc, List, drop, true, sym, ap, ◌∙◌, subst, arith, add-one, append-nil, Vec, Global}
use Rattle.std.specs.List.{list_all}
use Rattle.std.proofs.lemmas.List.{drop_all}
use Rattle.scripts.specs.Script.{settables_of, inputs_of, initial_state, first_state, with_sets}
use Rattle.model_meaning.specs.Outcome.{IsOutcome}
use Rattle.scripts.specs.Simulation.{outcome_lines}
use Rattle.ila_child.specs.State.{IsStateOf, state_valuation}
use Rattle.ila_child.specs.Runs.{state_in, stepped_of}
use Rattle.ila_model.specs.Model.{model_of}
use Rattle.ila_sim.specs.declared.set.Set.{Set}
use Rattle.ila_sim.specs.Lines.{sets_view}
use Rattle.ila_child.specs.Step.{outcome_view}
use Rattle.ila_sim.specs.Outcomes.{inputs_from, IsToldFrom}
use Rattle.ila_sim.specs.Scripts.{script_view}
use Rattle.ila_sim.specs.Sets.{are_right}
use Rattle.ila_sim.specs.Texts.{outcome_line}
use Rattle.ila_sim.proofs.Steps.{after_well, one_told, lines_next, rest_right, ended, start_told, first_right}
use Rattle.ila_sim.proofs.running.simulated_text.Goals as goal

pub loop-place-init : goal.loop-place-init
loop-place-init c =
    let m = model_of c.args.model.now in
    let script = script_view (settables_of m) c.args.script.now in
    let begun = ap (state_valuation m) c.in_ok-runner.ensures.state ∙ c.in_ok-state.ensures.values ∙ ap (λ ss. with_sets (initial_state m) (sets_view (settables_of m).states ss)) c.deref.ensures.value in record {
      made = c.in_ok-runner.ensures.made;
      state = subst (IsStateOf m) (sym c.in_ok-runner.ensures.state) c.in_ok-state.ensures.sorted;
      right = subst (λ ls. list_all (λ (l : Vec Set Global). are_right (settables_of m).inputs l.items) ls ≡ true) (sym c.deref-sets-items.ensures.value) c.requires.1;
      runs = start_told m (state_valuation m (state_in c.args.model.now.parts c.in_ok-runner.runner)) (first_state m script) c.deref-sets-items.result.now c.args.script.now.inputs.items c.new-text.result.items begun c.deref-sets-items.ensures.value c.new-text.ensures.items;
    }

pub answer-requires-clause-sets : goal.answer-requires-clause-sets
answer-requires-clause-sets c =
    let m = model_of c.args.model.now in
    let items = c.deref-sets-items.result.now in
    let k = c.loop-place.place in
    let line = c.sets-item.result in
    let cut = lines_next items k line (omega arith) c.sets-item.is in
    let first = first_right (λ (l : Vec Set Global). are_right (settables_of m).inputs l.items) (drop k items) (drop (k + 1) items) line cut c.loop-place.invariant.right in
    subst (λ (ss : List Set). are_right (settables_of m).inputs ss ≡ true) (sym c.deref-in-loop-place.ensures.value) first

pub loop-place-preserved : goal.loop-place-preserved
loop-place-preserved c =
    let m = model_of c.args.model.now in
    let v = first_state m (script_view (settables_of m) c.args.script.now) in
    let ws = inputs_from m c.args.script.now.inputs.items in
    let items = c.deref-sets-items.result.now in
    let k = c.loop-place.place in
    let line = c.sets-item.result in
    let p = c.args.model.now.parts in
    let q = state_in p c.loop-place.runner in
    let r = state_in p c.answer.new.runner in
    let a = stepped_of c.in_ok-moved.moved r in
    let more = c.append_moved.new.out.items in
    let outcome =
    subst (λ (ss : List Set). IsOutcome m (state_valuation m q) (inputs_of m (sets_view (settables_of m).inputs ss)) (outcome_view m a)) c.deref-in-loop-place.ensures.value c.in_ok-moved.ensures.outcome in
    let cut = lines_next items k line (omega arith) c.sets-item.is in
    let told = c.in_ok-append_moved.ensures ∙ ap (λ j. c.loop-place.text.items ++ outcome_line m j (outcome_view m a)) (add-one k) in record {
      made = c.in_ok-moved.ensures.made;
      state = after_well m q r a c.loop-place.invariant.state c.in_ok-moved.ensures.well c.in_ok-moved.ensures.after;
      right = rest_right (λ (l : Vec Set Global). are_right (settables_of m).inputs l.items) (drop k items) (drop (k + 1) items) line cut c.loop-place.invariant.right;
      runs = λ os h. subst (λ j. IsToldFrom m v ws (more ++ outcome_lines m (suc j) os)) (sym (add-one k))
          (one_told m v ws q r a (drop k items) (drop (k + 1) items) line (suc k) c.loop-place.text.items more cut c.loop-place.invariant.runs outcome c.in_ok-moved.ensures.after told os h);
    }

pub returns : goal.returns
returns c =
    let m = model_of c.args.model.now in
    let text = c.loop-place.text.items in
    let v = first_state m (script_view (settables_of m) c.args.script.now) in
    let ws = inputs_from m c.args.script.now.inputs.items in
    let left = drop_all c.loop-place.place c.deref-sets-items.result.now (omega arith) in
    subst (IsToldFrom m v ws) (append-nil text) (ended m (state_valuation m (state_in c.args.model.now.parts c.loop-place.runner)) _ (λ os. IsToldFrom m v ws (text ++ outcome_lines m (suc c.loop-place.place) os)) left c.loop-place.invariant.runs)
