use Rattle.std.proofs.Common.{◌≡◌, ◌++◌, sym, ap, ◌∙◌, subst}
use Rattle.std.specs.Prelude.{OnOk}
use Rattle.std.specs.String.{string_bytes}
use Rattle.scripts.specs.Simulation.{name_of_instruction, outcome_text}
use Rattle.ila_child.specs.declared.stepping.Stepped.{Stepped}
use Rattle.ila_model.specs.Model.{model_of}
use Rattle.ila_child.specs.Step.{outcome_view}
use Rattle.ila_sim.specs.Texts.{next_text}
use Rattle.ila_sim.proofs.Declared.{states_apart}
use Rattle.ila_sim.proofs.Told.{states_told}
use Rattle.ila_sim.proofs.text.append_outcome.Goals as goal

pub returns-in-Next : goal.returns-in-Next
returns-in-Next c =
    let model = c.args.model.now in
    let m = model_of model in
    let out = c.args.out.now.items in
    let told = states_told m c.in-Next.state (states_apart model.parts (string_bytes model.name) model.well_sorted) in
    let same =
    ap (λ xs. out ++ next_text m c.in-Next.place xs) c.values.ensures
    ∙ (ap (λ t. out ++ (name_of_instruction m c.in-Next.place ++ t)) (sym told)
    ∙ ap (λ (a : Stepped). out ++ outcome_text m (outcome_view m a)) (sym c.in-Next.is)) in
    subst (λ t. OnOk c.append_next.result (c.append_next.new.out.items ≡ t)) same c.append_next.ensures
