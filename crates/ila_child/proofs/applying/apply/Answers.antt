use Rattle.std.proofs.Common.{◌≡◌, ◌∙◌, ◌≤◌, ℕ, List, length, take, slice_get, Some, None, sym, ap, subst, arith, string_bytes}
use Rattle.std.proofs.lemmas.Bool.{and_parts}
use Rattle.std.proofs.lemmas.List.{take_at}
use Rattle.model_meaning.specs.Model.{holds, point_of}
use Rattle.wb_values.specs.Value as meaning
use Rattle.wb_terms.specs.Graph.{tree}
use Rattle.wb_terms.specs.Environment.{AreOfSorts}
use Rattle.term_evaluation.specs.Links.{valuation_at}
use Rattle.ila_model.specs.Scope.{nesting}
use Rattle.ila_model.specs.Sorted.{is_condition}
use Rattle.ila_model.specs.Meaning.{model_from}
use Rattle.ila_model.proofs.Declarations.{sorted}
use Rattle.ila_child.specs.State.{AreInputsOf, state_valuation, input_valuation}
use Rattle.ila_child.specs.Running.{seen}
use Rattle.ila_child.specs.Start.{IsStart, started}
use Rattle.ila_child.specs.Applied.{LeadsTo}
use Rattle.ila_child.specs.Runs.{stepped_of, with_values}
use Rattle.ila_child.proofs.Machines.{decodes_same, are_conditions-from}
use Rattle.ila_child.proofs.Starts.{given}
use Rattle.ila_child.proofs.Movement.{first_fits}
use Rattle.ila_child.proofs.StepLemmas.{seen_there}
use Rattle.ila_child.proofs.Effects.{found_at, is_number, decode_here, condition_here, leads}
use Rattle.ila_child.proofs.applying.apply.Goals as goal

pub set_inputs-requires-clause-inputs : goal.set_inputs-requires-clause-inputs
set_inputs-requires-clause-inputs c =
    subst (AreInputsOf (model_from (string_bytes c.args.model.now.name) c.args.model.now.parts)) (sym c.values.ensures) c.requires.inputs

pub set_inputs-requires-clause-fits : goal.set_inputs-requires-clause-fits
set_inputs-requires-clause-fits c =
    let m = c.args.model.now in
    let p = m.parts in
    let s = sorted p m.well_sorted in
    let g = given p s (string_bytes m.name) c.args.state.now c.args.inputs.now c.requires.state c.requires.inputs in
    subst (AreOfSorts p.terms.names) (sym c.in_ok-point.ensures.values) (first_fits p.terms.names (length p.initial_values.items) c.args.state.now s.declared.states_within g.states)

pub holds_at-requires-clause-condition : goal.holds_at-requires-clause-condition
holds_at-requires-clause-condition c =
    let p = c.args.model.now.parts in
    let is = p.instructions.items in
    let x = c.index-instruction.result.now in
    let top = and_parts (is_condition p None p.valid.0) _ (sorted p c.args.model.now.well_sorted).top in
    condition_here p.terms is c.args.place x (are_conditions-from p None 0 is top.1) (found_at is c.args.place x c.requires.place c.index-instruction.ensures)

pub holds_at-requires-clause-fits : goal.holds_at-requires-clause-fits
holds_at-requires-clause-fits c = subst (AreOfSorts c.args.model.now.parts.terms.names) (sym c.let_go.ensures.values) c.in_ok-set_inputs.ensures.fits

pub start_or_stay-requires-clause-fits : goal.start_or_stay-requires-clause-fits
start_or_stay-requires-clause-fits c = subst (AreOfSorts c.args.model.now.parts.terms.names) (sym (c.holds_at.ensures.values ∙ c.let_go.ensures.values)) c.in_ok-set_inputs.ensures.fits

pub next_state-requires : goal.next_state-requires
next_state-requires c = record { fits = c.in_ok-moved.ensures.fits; point = c.in_ok-moved.ensures.point }

pub returns : goal.returns
returns c =
    let m = c.args.model.now in
    let p = m.parts in
    let s = sorted p m.well_sorted in
    let name = string_bytes m.name in
    let q = c.args.state.now in
    let w = c.args.inputs.now in
    let n = length p.initial_values.items in
    let g = given p s name q w c.requires.state c.requires.inputs in
    let xs = c.in_ok-point.point.values in
    let ys = c.let_go.new.self.values in
    let fits = subst (AreOfSorts p.terms.names) (sym c.in_ok-point.ensures.values) (first_fits p.terms.names n q s.declared.states_within g.states) in
    let made = c.in_ok-set_inputs.ensures.values ∙ ap (λ vs. with_values n vs xs) c.values.ensures in
    let there = seen_there p s name w xs c.set_inputs.new.point.values ys fits c.in_ok-set_inputs.ensures.fits c.requires.inputs made c.let_go.ensures.values in
    let front : take n xs ≡ q = ap (take n) c.in_ok-point.ensures.values ∙ take_at q _ n (omega (arith, g.states_count)) in
    let at = subst (λ r. seen p None ys ≡ point_of (model_from name p) (state_valuation (model_from name p) r) (input_valuation (model_from name p) w)) front there in
    let top = and_parts (is_condition p None p.valid.0) _ s.top in
    let low : 0 ≤ nesting = omega arith in
    let is = p.instructions.items in
    let k = c.args.place in
    let x = c.index-instruction.result.now in
    let found : slice_get is k ≡ Some x = found_at is k x c.requires.place c.index-instruction.ensures in
    let same = ap (λ (t : ℕ → _). t k) (decodes_same p None 0 ys is tt low top.1) in
    let stepped = stepped_of c.in_ok-moved.moved (take n c.start_or_stay.new.point.values) in
    let begun = subst (λ (zs : List meaning.Value). IsStart p (seen p None zs) k stepped) c.holds_at.ensures.values c.in_ok-moved.ensures.started in
    let began = subst (λ v. IsStart p v k stepped) at begun in
    record {
      i = started p x;
      is_j = is_number name p k x found;
      decodes =
          c.in_ok-decodes.ensures.holds ∙ sym (decode_here p.terms (valuation_at p.terms ys) is k x found) ∙ same ∙ decode_here p.terms (seen p None ys) is k x found
          ∙ ap (λ v. holds (tree p.terms x.decode.0) v) at;
      leads = subst (LeadsTo (model_from name p) (started p x) q w) (sym c.next_state.ensures) (leads name p s q w k x stepped found began);
    }
