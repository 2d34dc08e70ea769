use Rattle.std.proofs.Common.{sym, subst}
use Rattle.std.specs.Prelude.{IsTrue, ◌↔◌}
use Rattle.refinement.specs.Obligation.{one_decodes}
use Rattle.mapped_designs.specs.Runs.{Shows}
use Rattle.shown_facts.specs.Values.{model_in, map_in, values_in}
use Rattle.shown_facts.proofs.Acting.{stepped_there, started_told}
use Rattle.shown_facts.proofs.instructions.one_decodes.Goals as goal

pub step-requires-clause-state : goal.step-requires-clause-state
step-requires-clause-state c = c.requires.shown.first_is.sorted

pub step-requires-clause-inputs : goal.step-requires-clause-inputs
step-requires-clause-inputs c = c.requires.shown.inputs_sorted

pub returns : goal.returns
returns c =
    let g = c.args.given.now in
    let s = c.args.shown.now in
    let h = c.requires.shown in
    subst (λ b. IsTrue b ↔ Shows (model_in g) (map_in g) (values_in g) one_decodes) (sym c.is_begun.ensures)
    (started_told (model_in g) _ _ c.in_ok-stepped.stepped (stepped_there (model_in g) s.first.state _ s.inputs _ c.in_ok-stepped.stepped h.first_is.state_is h.inputs_are c.in_ok-stepped.ensures))
