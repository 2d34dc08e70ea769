use Rattle.std.proofs.Common.{◌≡◌, ◌<◌, ◌+◌, List, ◌∷◌, length, drop, get_or, sym, ap, ◌∙◌, arith, map, add-one, drop-cons}
use Rattle.serde_json.specs.View.{view, items_view}
use Rattle.serde_json.specs.declared.value.Value.{Value}
use Rattle.model_files.specs.Shape.{all_in, definition_in}
use Rattle.ila_file.specs.View.{definition_view}
use Rattle.ila_file.proofs.Lists.{onto, onto_pushed}
use Rattle.ila_file.proofs.declarations.definitions_in.Goals as goal

pub loop-item-preserved : goal.loop-item-preserved
loop-item-preserved c =
    let vs = c.args.items.now in
    let i = c.loop-item.item-index in
    let v = c.item-item.result in
    let kept = c.loop-item.definitions.items in
    let here : i < length vs = omega arith in
    let cut : drop i vs ≡ get_or vs i v ∷ drop (i + 1) vs = rw (add-one, drop-cons vs i v) in
    c.loop-item.invariant
    ∙ (ap (λ (t : List Value). onto (map definition_view kept) (all_in definition_in (items_view t))) cut
    ∙ onto_pushed definition_view kept _ c.in_ok-definition.definition _ (all_in definition_in (items_view (drop (i + 1) vs)))
    (ap (λ (w : Value). definition_in (view w)) (sym c.item-item.is) ∙ c.in_ok-definition.ensures) c.in_ok-push.ensures.items)
