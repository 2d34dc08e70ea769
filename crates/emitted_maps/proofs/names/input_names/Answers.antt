use Rattle.std.proofs.Common.{◌++◌, List, ℕ, map, ap, ◌∙◌, arith}
use Rattle.std.specs.Borrow.{Bor}
use Rattle.model_meaning.specs.Model.{InputDeclaration}
use Rattle.ila_model.specs.Model.{model_of}
use Rattle.emitted_designs.specs.Map.{in_byte_order}
use Rattle.emitted_maps.proofs.Declared.{name_pushed, all_pushed}
use Rattle.emitted_maps.proofs.names.input_names.Goals as goal

pub loop-place-init : goal.loop-place-init
loop-place-init c =
    let ds = (model_of c.args.model.now).inputs in
    ap (λ (xs : List (Bor (List ℕ))). map (λ x. x.now) xs ++ map (λ (i : InputDeclaration). i.input_name) ds) c.new-inputs.ensures.items

pub input_name-requires : goal.input_name-requires
input_name-requires c = omega (arith, c.loop-place-test.true, c.input_count-place-end.ensures.inputs)

pub loop-place-preserved : goal.loop-place-preserved
loop-place-preserved c =
    name_pushed (λ (i : InputDeclaration). i.input_name) (model_of c.args.model.now).inputs c.loop-place.place c.loop-place.inputs.items
    c.push.new.self.items c.input_name.result c.input_name.ensures c.in_ok-push.ensures.items
    ∙ c.loop-place.invariant

pub returns : goal.returns
returns c =
    c.sort.ensures
    ∙ ap in_byte_order
    (all_pushed (λ (i : InputDeclaration). i.input_name) (model_of c.args.model.now).inputs c.loop-place.place c.loop-place.inputs.items _
    (omega (arith, c.loop-place-test.false, c.input_count-place-end.ensures.inputs)) c.loop-place.invariant)
