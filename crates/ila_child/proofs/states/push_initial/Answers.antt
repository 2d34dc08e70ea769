use Rattle.std.proofs.Common.{◌≡◌, ◌∙◌, ◌++◌, [], ◌∷◌, sym, ap, subst}
use Rattle.std.specs.Prelude.{OnOk}
use Rattle.wb_values.specs.Value as meaning
use Rattle.wb_terms.specs.Sort.{as_sort}
use Rattle.ila_child.specs.Values.{beginning}
use Rattle.ila_child.proofs.Initial.{same_zero}
use Rattle.ila_child.proofs.states.push_initial.Goals as goal

pub returns-in-None : goal.returns-in-None
returns-in-None c =
    let s = as_sort c.args.sort in
    subst (λ (v : meaning.Value). OnOk c.push_zero.result (c.push_zero.new.self ≡ c.args.values.now ++ v ∷ [])) (same_zero s ∙ sym (ap (beginning s) c.in-None.is)) c.push_zero.ensures.ok

pub returns-in-Some : goal.returns-in-Some
returns-in-Some c =
    let s = as_sort c.args.sort in
    subst (λ (v : meaning.Value). OnOk c.push.result (c.push.new.self ≡ c.args.values.now ++ v ∷ [])) (sym (ap (beginning s) c.in-Some.is)) c.push.ensures.ok
