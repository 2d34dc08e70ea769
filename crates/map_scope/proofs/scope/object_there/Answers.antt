use Rattle.std.proofs.Common.{◌∙◌, ap, sym, Some}
use Rattle.map_paths.specs.Located.{object_there}
use Rattle.map_scope.proofs.Kept.{got_some, spot_got, no_spot_got}
use Rattle.map_scope.proofs.scope.object_there.Goals as goal

pub returns-in-Some-Some : goal.returns-in-Some-Some
returns-in-Some-Some c =
    let got = got_some c.args.scopes.now c.args.number c.get.result c.in-Some-Some.field-0 c.in-Some-Some.is c.get.ensures.lookup.3 in
    let kept = c.requires c.args.number c.in-Some-Some.scope (got ∙ ap Some c.in-Some-Some.field-0-is) in
    c.object.ensures ∙ ((λ i. kept.2 i c.args.name.now) ∙ ap (λ o. object_there o c.args.name.now) (sym kept.1))

pub returns-in_ok-scope-in-Some : goal.returns-in_ok-scope-in-Some
returns-in_ok-scope-in-Some c =
    let got = spot_got c.args.places.now c.args.number c.get-2.result c.in-Some.place c.in-Some.is c.get-2.ensures.lookup.3 in
    c.object-in-Some.ensures ∙ ((λ i. c.in_ok-scope-in-Some.ensures i c.args.name.now) ∙ ap (λ o. object_there o c.args.name.now) (sym got))

pub returns-in-None : goal.returns-in-None
returns-in-None c =
    let none = no_spot_got c.args.places.now c.args.number c.get-2.result c.in-None.is c.get-2.ensures.lookup.3 in
    c.nothing.ensures ∙ ap (λ o. object_there o c.args.name.now) (sym none)
