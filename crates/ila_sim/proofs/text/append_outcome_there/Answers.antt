use Rattle.std.proofs.Common.{◌≡◌, ◌++◌, sym, ap, ◌∙◌, subst}
use Rattle.std.specs.Prelude.{OnOk}
use Rattle.std.specs.String.{string_bytes}
use Rattle.scripts.specs.Simulation.{name_of_instruction, outcome_text}
use Rattle.ila_child.specs.declared.runs.Moved.{Moved}
use Rattle.ila_child.specs.Runs.{state_in, stepped_of}
use Rattle.ila_model.specs.Model.{model_of}
use Rattle.ila_child.specs.Step.{outcome_view}
use Rattle.ila_sim.proofs.Declared.{states_apart}
use Rattle.ila_sim.proofs.Told.{states_told}
use Rattle.ila_sim.proofs.text.append_outcome_there.Goals as goal

pub returns-in-Next : goal.returns-in-Next
returns-in-Next c =
    let model = c.args.model.now in
    let m = model_of model in
    let q = state_in model.parts c.args.runner.now in
    let out = c.args.out.now.items in
    let told = states_told m q (states_apart model.parts (string_bytes model.name) model.well_sorted) in
    let same =
    ap (λ t. out ++ (name_of_instruction m c.in-Next.place ++ t)) (sym told)
    ∙ ap (λ (a : Moved). out ++ outcome_text m (outcome_view m (stepped_of a q))) (sym c.in-Next.is) in
    subst (λ t. OnOk c.append_next_there.result (c.append_next_there.new.out.items ≡ t)) same c.append_next_there.ensures
