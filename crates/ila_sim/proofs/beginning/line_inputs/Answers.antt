use Rattle.std.proofs.Common.{sym, ap, ◌∙◌, subst}
use Rattle.std.specs.String.{string_bytes}
use Rattle.ila_child.specs.State.{AreInputsOf, input_valuation}
use Rattle.ila_model.specs.Model.{model_of}
use Rattle.ila_sim.specs.Outcomes.{with_all}
use Rattle.ila_sim.proofs.Declared.{inputs_apart}
use Rattle.ila_sim.proofs.Made.{inputs_sorted, inputs_meant}
use Rattle.ila_sim.proofs.beginning.line_inputs.Goals as goal

pub returns-clause-values : goal.returns-clause-values
returns-clause-values c =
    let model = c.args.model.now in
    let m = model_of model in
    let sets = c.args.sets.now in
    ap (input_valuation m) (c.new.ensures ∙ (c.set_all.ensures ∙ ap (λ xs. with_all xs sets) c.in_ok-values.ensures))
    ∙ inputs_meant m sets (inputs_apart model.parts (string_bytes model.name) model.well_sorted) c.requires

pub returns-clause-sorted : goal.returns-clause-sorted
returns-clause-sorted c =
    let m = model_of c.args.model.now in
    let sets = c.args.sets.now in
    subst (AreInputsOf m) (sym (c.new.ensures ∙ (c.set_all.ensures ∙ ap (λ xs. with_all xs sets) c.in_ok-values.ensures))) (inputs_sorted m sets c.requires)
