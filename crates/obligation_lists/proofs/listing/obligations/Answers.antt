use Rattle.std.proofs.Common.{◌++◌, map, subst, sym, ap, ◌∙◌}
use Rattle.refinement.specs.Obligation as pure
use Rattle.ila_model.specs.Model.{model_of}
use Rattle.obligation_lists.specs.Claims.{obligation_of}
use Rattle.obligation_lists.specs.Within.{Each, IsObligationOf}
use Rattle.obligation_lists.proofs.Growing.{next}
use Rattle.obligation_lists.proofs.listing.obligations.Goals as goal

pub returns-clause-listed : goal.returns-clause-listed
returns-clause-listed c =
    let m = model_of c.args.model.now in
    let counts = c.args.counts in
    λ p h.
    (next m counts _ _ _ _ _ (next m counts _ _ _ _ _ c.in_ok-add_reset.ensures c.in_ok-add_idle.ensures)
    (next m counts _ _ _ _ _ (c.in_ok-add_decode.ensures m counts) c.in_ok-add_instructions.ensures)).listed p h
    ∙ ap (λ os. map (obligation_of p) os ++ pure.obligations m p) c.new-list.ensures.items

pub returns-clause-within : goal.returns-clause-within
returns-clause-within c =
    let m = model_of c.args.model.now in
    let counts = c.args.counts in
    (next m counts _ _ _ _ _ (next m counts _ _ _ _ _ c.in_ok-add_reset.ensures c.in_ok-add_idle.ensures)
    (next m counts _ _ _ _ _ (c.in_ok-add_decode.ensures m counts) c.in_ok-add_instructions.ensures)).within
    (subst (Each (IsObligationOf m counts)) (sym c.new-list.ensures.items) tt)
