use Rattle.std.proofs.Common.{sym, subst}
use Rattle.std.specs.Prelude.{IsTrue, ◌↔◌}
use Rattle.refinement.specs.Obligation.{ends}
use Rattle.mapped_designs.specs.Runs.{Shows}
use Rattle.shown_facts.specs.Values.{model_in, map_in, values_in}
use Rattle.shown_facts.proofs.Acting.{applied_there, ends_told}
use Rattle.shown_facts.proofs.instructions.does_end.Goals as goal

pub returns : goal.returns
returns c =
    let g = c.args.given.now in
    let m = model_in g in
    let s = c.args.shown.now in
    let h = c.requires.shown in
    subst (λ b. IsTrue b ↔ Shows m (map_in g) (values_in g) (ends c.args.place)) (sym c.is_some.ensures)
    (ends_told m c.args.place _ _ c.in_ok-found.found (applied_there m c.args.place s.first.state _ s.inputs _ c.in_ok-found.found h.first_is.state_is h.inputs_are c.in_ok-found.ensures))
