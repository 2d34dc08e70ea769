use Rattle.std.proofs.Common.{◌≡◌, ◌∙◌, ◌++◌, ◌∷◌, [], ap, List, refl}
use Rattle.verilog_meaning.specs.Statement as meaning
use Rattle.v_statement.specs.declared.place.Update.{Update}
use Rattle.v_statement.specs.Places.{update_of, updates_of}
use Rattle.v_statement.proofs.statement.defer.Goals as goal

updates_push : (us : List Update) (u : Update) → updates_of (us ++ u ∷ []) ≡ updates_of us ++ update_of u ∷ []
updates_push [] u = refl
updates_push (x ∷ us) u = ap (λ ws. update_of x ∷ ws) (updates_push us u)

pub returns : goal.returns
returns c =
    let us = c.args.updates.now.items in
    ap updates_of c.in_ok-push.ensures.items ∙ updates_push us c.in_ok-update.update
    ∙ ap (λ (u : meaning.Update). updates_of us ++ u ∷ []) c.in_ok-update.ensures
