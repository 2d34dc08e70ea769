use Rattle.std.proofs.Common.{◌++◌, List, ℕ, map, ap, ◌∙◌, arith}
use Rattle.std.specs.Borrow.{Bor}
use Rattle.model_meaning.specs.Model.{StateDeclaration, states_of}
use Rattle.ila_model.specs.Model.{model_of}
use Rattle.emitted_designs.specs.Map.{in_byte_order}
use Rattle.emitted_maps.proofs.Declared.{name_pushed, all_pushed}
use Rattle.emitted_maps.proofs.names.state_names.Goals as goal

pub loop-place-init : goal.loop-place-init
loop-place-init c =
    let ds = states_of (model_of c.args.model.now).top in
    ap (λ (xs : List (Bor (List ℕ))). map (λ x. x.now) xs ++ map (λ (s : StateDeclaration). s.state_name) ds) c.new-states.ensures.items

pub state_name-requires : goal.state_name-requires
state_name-requires c = omega (arith, c.loop-place-test.true, c.state_count-place-end.ensures.states)

pub loop-place-preserved : goal.loop-place-preserved
loop-place-preserved c =
    name_pushed (λ (s : StateDeclaration). s.state_name) (states_of (model_of c.args.model.now).top) c.loop-place.place c.loop-place.states.items
    c.push.new.self.items c.state_name.result c.state_name.ensures c.in_ok-push.ensures.items
    ∙ c.loop-place.invariant

pub returns : goal.returns
returns c =
    c.sort.ensures
    ∙ ap in_byte_order
    (all_pushed (λ (s : StateDeclaration). s.state_name) (states_of (model_of c.args.model.now).top) c.loop-place.place c.loop-place.states.items _
    (omega (arith, c.loop-place-test.false, c.state_count-place-end.ensures.states)) c.loop-place.invariant)
