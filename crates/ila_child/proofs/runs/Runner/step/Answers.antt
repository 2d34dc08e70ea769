use Rattle.std.proofs.Common.{◌≡◌, ◌∙◌, List, None, true, length, take, sym, ap, subst, string_bytes}
use Rattle.std.proofs.lemmas.Bool.{and_parts}
use Rattle.wb_values.specs.Value as meaning
use Rattle.wb_values.specs.Value.{truth}
use Rattle.wb_terms.specs.Environment.{AreOfSorts}
use Rattle.term_evaluation.specs.Links.{valuation_at}
use Rattle.ila_model.specs.Sorted.{is_condition, is_term_of}
use Rattle.ila_model.specs.Meaning.{model_from}
use Rattle.ila_model.proofs.Declarations.{sorted}
use Rattle.ila_child.specs.declared.decoding.Decoded.TheVariants.{Nothing, One, Several}
use Rattle.ila_child.specs.Decoding.{are_conditions, decodes, AreDecoded}
use Rattle.ila_child.specs.State.{AreInputsOf}
use Rattle.ila_child.specs.Running.{seen}
use Rattle.ila_child.specs.Start.{IsStart}
use Rattle.ila_child.specs.Runs.{state_in, stepped_of, Stays, with_values}
use Rattle.ila_child.proofs.Machines.{are_conditions-from}
use Rattle.ila_child.proofs.StepLemmas.{seen_there, state_left, not_valid_step, none_step, several_step, one_step}
use Rattle.ila_child.proofs.runs.Runner.step.Goals as goal

pub set_inputs-requires-clause-inputs : goal.set_inputs-requires-clause-inputs
set_inputs-requires-clause-inputs c =
    subst (AreInputsOf (model_from (string_bytes c.args.model.now.name) c.args.model.now.parts)) (sym c.values.ensures) c.requires.inputs

pub holds_at-requires-clause-condition : goal.holds_at-requires-clause-condition
holds_at-requires-clause-condition c =
    let p = c.args.model.now.parts in
    let top = and_parts (is_condition p None p.valid.0) _ (sorted p c.args.model.now.well_sorted).top in
    (and_parts (is_term_of p.terms truth p.valid.0) _ top.0).0

pub holds_at-requires-clause-fits : goal.holds_at-requires-clause-fits
holds_at-requires-clause-fits c = subst (AreOfSorts c.args.model.now.parts.terms.names) (sym c.let_go.ensures.values) c.in_ok-set_inputs.ensures.fits

pub find_decoded-requires-clause-conditions : goal.find_decoded-requires-clause-conditions
find_decoded-requires-clause-conditions c =
    let p = c.args.model.now.parts in
    let top = and_parts (is_condition p None p.valid.0) _ (sorted p c.args.model.now.well_sorted).top in
    subst (λ is. are_conditions p.terms is ≡ true) (sym c.deref.ensures.value) (are_conditions-from p None 0 p.instructions.items top.1)

pub find_decoded-requires-clause-fits : goal.find_decoded-requires-clause-fits
find_decoded-requires-clause-fits c = subst (AreOfSorts c.args.model.now.parts.terms.names) (sym (c.holds_at.ensures.values ∙ c.let_go.ensures.values)) c.in_ok-set_inputs.ensures.fits

pub returns-then-not-is_valid-clause-made : goal.returns-then-not-is_valid-clause-made
returns-then-not-is_valid-clause-made c = record {
  fits = subst (AreOfSorts c.args.model.now.parts.terms.names) (sym (c.holds_at.ensures.values ∙ c.let_go.ensures.values)) c.in_ok-set_inputs.ensures.fits;
  point = c.holds_at.ensures.point;
}

pub returns-then-not-is_valid-clause-stepped : goal.returns-then-not-is_valid-clause-stepped
returns-then-not-is_valid-clause-stepped c =
    let m = c.args.model.now in
    let p = m.parts in
    let s = sorted p m.well_sorted in
    let name = string_bytes m.name in
    let xs = c.args.self.now.point.values in
    let w = c.args.inputs.now in
    let made = c.in_ok-set_inputs.ensures.values ∙ ap (λ vs. with_values (length p.initial_values.items) vs xs) c.values.ensures in
    let at = seen_there p s name w xs c.set_inputs.new.point.values c.let_go.new.self.values c.requires.made.fits c.in_ok-set_inputs.ensures.fits c.requires.inputs made c.let_go.ensures.values in
    not_valid_step p s name (state_in p c.args.self.now) w c.let_go.new.self.values at c.in_ok-is_valid.is_valid c.in_ok-is_valid.ensures.holds c.if-not-is_valid.true

pub returns-then-not-is_valid-clause-stays : goal.returns-then-not-is_valid-clause-stays
returns-then-not-is_valid-clause-stays c =
    let p = c.args.model.now.parts in
    let xs = c.args.self.now.point.values in
    let w = c.args.inputs.now in
    let made = c.in_ok-set_inputs.ensures.values ∙ ap (λ vs. with_values (length p.initial_values.items) vs xs) c.values.ensures in
    state_left p w xs c.set_inputs.new.point.values c.holds_at.new.point.values made (c.holds_at.ensures.values ∙ c.let_go.ensures.values)

pub returns-in-Nothing-clause-made : goal.returns-in-Nothing-clause-made
returns-in-Nothing-clause-made c = record {
  fits = subst (AreOfSorts c.args.model.now.parts.terms.names) (sym (c.find_decoded.ensures.values ∙ c.holds_at.ensures.values ∙ c.let_go.ensures.values)) c.in_ok-set_inputs.ensures.fits;
  point = c.find_decoded.ensures.point;
}

pub returns-in-Nothing-clause-stepped : goal.returns-in-Nothing-clause-stepped
returns-in-Nothing-clause-stepped c =
    let m = c.args.model.now in
    let p = m.parts in
    let s = sorted p m.well_sorted in
    let name = string_bytes m.name in
    let xs = c.args.self.now.point.values in
    let zs = c.let_go.new.self.values in
    let w = c.args.inputs.now in
    let is = p.instructions.items in
    let made = c.in_ok-set_inputs.ensures.values ∙ ap (λ vs. with_values (length p.initial_values.items) vs xs) c.values.ensures in
    let at = seen_there p s name w xs c.set_inputs.new.point.values zs c.requires.made.fits c.in_ok-set_inputs.ensures.fits c.requires.inputs made c.let_go.ensures.values in
    let told = subst (λ js. AreDecoded (decodes p.terms (valuation_at p.terms c.holds_at.new.point.values) js) (length js) c.in_ok-decoded.decoded) c.deref.ensures.value c.in_ok-decoded.ensures.decoded in
    let here = subst (λ d. AreDecoded (decodes p.terms (valuation_at p.terms c.holds_at.new.point.values) is) (length is) d) c.in-Nothing.is told in
    let found = subst (λ (ys : List meaning.Value). AreDecoded (decodes p.terms (valuation_at p.terms ys) is) (length is) Nothing) c.holds_at.ensures.values here in
    none_step p s name (state_in p c.args.self.now) w zs at c.in_ok-is_valid.is_valid c.in_ok-is_valid.ensures.holds c.if-not-is_valid.false found

pub returns-in-Nothing-clause-stays : goal.returns-in-Nothing-clause-stays
returns-in-Nothing-clause-stays c =
    let p = c.args.model.now.parts in
    let xs = c.args.self.now.point.values in
    let made = c.in_ok-set_inputs.ensures.values ∙ ap (λ vs. with_values (length p.initial_values.items) vs xs) c.values.ensures in
    state_left p c.args.inputs.now xs c.set_inputs.new.point.values c.find_decoded.new.point.values made (c.find_decoded.ensures.values ∙ c.holds_at.ensures.values ∙ c.let_go.ensures.values)

pub returns-in-Several-clause-made : goal.returns-in-Several-clause-made
returns-in-Several-clause-made c = record {
  fits = subst (AreOfSorts c.args.model.now.parts.terms.names) (sym (c.find_decoded.ensures.values ∙ c.holds_at.ensures.values ∙ c.let_go.ensures.values)) c.in_ok-set_inputs.ensures.fits;
  point = c.find_decoded.ensures.point;
}

pub returns-in-Several-clause-stepped : goal.returns-in-Several-clause-stepped
returns-in-Several-clause-stepped c =
    let m = c.args.model.now in
    let p = m.parts in
    let s = sorted p m.well_sorted in
    let name = string_bytes m.name in
    let xs = c.args.self.now.point.values in
    let zs = c.let_go.new.self.values in
    let w = c.args.inputs.now in
    let is = p.instructions.items in
    let made = c.in_ok-set_inputs.ensures.values ∙ ap (λ vs. with_values (length p.initial_values.items) vs xs) c.values.ensures in
    let at = seen_there p s name w xs c.set_inputs.new.point.values zs c.requires.made.fits c.in_ok-set_inputs.ensures.fits c.requires.inputs made c.let_go.ensures.values in
    let j = c.in-Several.first in
    let k = c.in-Several.second in
    let told = subst (λ js. AreDecoded (decodes p.terms (valuation_at p.terms c.holds_at.new.point.values) js) (length js) c.in_ok-decoded.decoded) c.deref.ensures.value c.in_ok-decoded.ensures.decoded in
    let here = subst (λ d. AreDecoded (decodes p.terms (valuation_at p.terms c.holds_at.new.point.values) is) (length is) d) c.in-Several.is told in
    let found = subst (λ (ys : List meaning.Value). AreDecoded (decodes p.terms (valuation_at p.terms ys) is) (length is) (Several j k)) c.holds_at.ensures.values here in
    several_step p s name (state_in p c.args.self.now) w zs at c.in_ok-is_valid.is_valid c.in_ok-is_valid.ensures.holds j k c.if-not-is_valid.false found

pub returns-in-Several-clause-stays : goal.returns-in-Several-clause-stays
returns-in-Several-clause-stays c =
    let p = c.args.model.now.parts in
    let xs = c.args.self.now.point.values in
    let made = c.in_ok-set_inputs.ensures.values ∙ ap (λ vs. with_values (length p.initial_values.items) vs xs) c.values.ensures in
    state_left p c.args.inputs.now xs c.set_inputs.new.point.values c.find_decoded.new.point.values made (c.find_decoded.ensures.values ∙ c.holds_at.ensures.values ∙ c.let_go.ensures.values)

pub start_or_stay-requires-clause-place : goal.start_or_stay-requires-clause-place
start_or_stay-requires-clause-place c =
    let p = c.args.model.now.parts in
    let told = subst (λ js. AreDecoded (decodes p.terms (valuation_at p.terms c.holds_at.new.point.values) js) (length js) c.in_ok-decoded.decoded) c.deref.ensures.value c.in_ok-decoded.ensures.decoded in
    let is = p.instructions.items in
    (subst (λ d. AreDecoded (decodes p.terms (valuation_at p.terms c.holds_at.new.point.values) is) (length is) d) c.in-One.is told).0

pub start_or_stay-requires-clause-fits : goal.start_or_stay-requires-clause-fits
start_or_stay-requires-clause-fits c =
    subst (AreOfSorts c.args.model.now.parts.terms.names) (sym (c.find_decoded.ensures.values ∙ c.holds_at.ensures.values ∙ c.let_go.ensures.values)) c.in_ok-set_inputs.ensures.fits

pub returns-in_ok-moved-in-One-clause-made : goal.returns-in_ok-moved-in-One-clause-made
returns-in_ok-moved-in-One-clause-made c = record {
  fits = c.in_ok-moved-in-One.ensures.fits;
  point = c.in_ok-moved-in-One.ensures.point;
}

pub returns-in_ok-moved-in-One-clause-stepped : goal.returns-in_ok-moved-in-One-clause-stepped
returns-in_ok-moved-in-One-clause-stepped c =
    let m = c.args.model.now in
    let p = m.parts in
    let s = sorted p m.well_sorted in
    let name = string_bytes m.name in
    let xs = c.args.self.now.point.values in
    let zs = c.let_go.new.self.values in
    let w = c.args.inputs.now in
    let is = p.instructions.items in
    let made = c.in_ok-set_inputs.ensures.values ∙ ap (λ vs. with_values (length p.initial_values.items) vs xs) c.values.ensures in
    let at = seen_there p s name w xs c.set_inputs.new.point.values zs c.requires.made.fits c.in_ok-set_inputs.ensures.fits c.requires.inputs made c.let_go.ensures.values in
    let k = c.in-One.place in
    let a = stepped_of c.in_ok-moved-in-One.moved (take (length p.initial_values.items) c.start_or_stay.new.point.values) in
    let told = subst (λ js. AreDecoded (decodes p.terms (valuation_at p.terms c.holds_at.new.point.values) js) (length js) c.in_ok-decoded.decoded) c.deref.ensures.value c.in_ok-decoded.ensures.decoded in
    let here = subst (λ d. AreDecoded (decodes p.terms (valuation_at p.terms c.holds_at.new.point.values) is) (length is) d) c.in-One.is told in
    let found = subst (λ (ys : List meaning.Value). AreDecoded (decodes p.terms (valuation_at p.terms ys) is) (length is) (One k)) c.holds_at.ensures.values here in
    let started = subst (λ (ys : List meaning.Value). IsStart p (seen p None ys) k a) (c.find_decoded.ensures.values ∙ c.holds_at.ensures.values) c.in_ok-moved-in-One.ensures.started in
    one_step p s name (state_in p c.args.self.now) w zs at c.in_ok-is_valid.is_valid c.in_ok-is_valid.ensures.holds k a c.if-not-is_valid.false found started

pub returns-in_ok-moved-in-One-clause-stays : goal.returns-in_ok-moved-in-One-clause-stays
returns-in_ok-moved-in-One-clause-stays c =
    let p = c.args.model.now.parts in
    let xs = c.args.self.now.point.values in
    let made = c.in_ok-set_inputs.ensures.values ∙ ap (λ vs. with_values (length p.initial_values.items) vs xs) c.values.ensures in
    let left = state_left p c.args.inputs.now xs c.set_inputs.new.point.values c.find_decoded.new.point.values made (c.find_decoded.ensures.values ∙ c.holds_at.ensures.values ∙ c.let_go.ensures.values) in
    subst (λ q. Stays c.in_ok-moved-in-One.moved q (take (length p.initial_values.items) c.start_or_stay.new.point.values)) left c.in_ok-moved-in-One.ensures.stays
