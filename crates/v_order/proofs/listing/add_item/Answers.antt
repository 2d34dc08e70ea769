use Rattle.std.proofs.Common.{◌∙◌, [], ◌∷◌, ◌++◌, ap, sym, cond, refl}
use Rattle.std.specs.Prelude.{map}
use Rattle.verilog_meaning.specs.Settled.{wire_assignments}
use Rattle.v_syntax.specs.Tree.{tree_of, target_of, statement_of}
use Rattle.v_syntax.specs.Source.{item_of, boxed_tree_of}
use Rattle.v_drivers.specs.Lists.{links_of, wire_links}
use Rattle.v_order.specs.Drivers.{by_block, all_links, all_blocks, drivings}
use Rattle.v_order.specs.Lists.{drivings_in}
use Rattle.v_order.proofs.Growing.{none, same, pushed, of-links}
use Rattle.v_order.proofs.listing.add_item.Goals as goal

pub returns-in_ok-add_wires-in-Wires : goal.returns-in_ok-add_wires-in-Wires
returns-in_ok-add_wires-in-Wires c =
    same (drivings_in c.args.found.now.items) (drivings_in c.add_wires.new.found.items) (all_links (wire_links c.deref.result.now)) (drivings (item_of c.args.item.now ∷ []))
    (ap (λ ws. all_links (wire_links ws)) c.deref.ensures.value
    ∙ of-links (wire_assignments (map (λ w. (w.name.now, boxed_tree_of w.value)) c.in-Wires.wires.items))
    ∙ ap (λ i. drivings (item_of i ∷ [])) (sym c.in-Wires.is))
    c.in_ok-add_wires-in-Wires.ensures

pub returns-in_ok-add_assignments-in-Assign : goal.returns-in_ok-add_assignments-in-Assign
returns-in_ok-add_assignments-in-Assign c =
    same (drivings_in c.args.found.now.items) (drivings_in c.add_assignments.new.found.items) (all_links (links_of c.deref-in-Assign.result.now)) (drivings (item_of c.args.item.now ∷ []))
    (ap (λ xs. all_links (links_of xs)) c.deref-in-Assign.ensures.value
    ∙ of-links (map (λ a. (target_of a.target, tree_of a.value)) c.in-Assign.assignments.items)
    ∙ ap (λ i. drivings (item_of i ∷ [])) (sym c.in-Assign.is))
    c.in_ok-add_assignments-in-Assign.ensures

pub returns-in_ok-push-in-Always : goal.returns-in_ok-push-in-Always
returns-in_ok-push-in-Always c =
    same (drivings_in c.args.found.now.items) (drivings_in c.push.new.self.items) (by_block (statement_of c.deref-in-Always.result.now) ∷ []) (drivings (item_of c.args.item.now ∷ []))
    (ap (λ x. by_block (statement_of x) ∷ []) c.deref-in-Always.ensures
    ∙ ap (λ t. all_blocks (cond t [] (statement_of c.in-Always.block.value ∷ [])) ++ []) (sym c.if-is_clocked.false ∙ c.is_clocked.ensures)
    ∙ ap (λ i. drivings (item_of i ∷ [])) (sym c.in-Always.is))
    (pushed c.args.found.now.items _ _ (by_block (statement_of c.deref-in-Always.result.now)) c.in_ok-push-in-Always.ensures.items refl)

pub returns-in-Port : goal.returns-in-Port
returns-in-Port c = none (drivings_in c.args.found.now.items) (drivings (item_of c.args.item.now ∷ [])) (ap (λ i. drivings (item_of i ∷ [])) c.in-Port.is)

pub returns-in-Parameter : goal.returns-in-Parameter
returns-in-Parameter c = none (drivings_in c.args.found.now.items) (drivings (item_of c.args.item.now ∷ [])) (ap (λ i. drivings (item_of i ∷ [])) c.in-Parameter.is)

pub returns-in-Variables : goal.returns-in-Variables
returns-in-Variables c = none (drivings_in c.args.found.now.items) (drivings (item_of c.args.item.now ∷ [])) (ap (λ i. drivings (item_of i ∷ [])) c.in-Variables.is)

pub returns-in-Instances : goal.returns-in-Instances
returns-in-Instances c = none (drivings_in c.args.found.now.items) (drivings (item_of c.args.item.now ∷ [])) (ap (λ i. drivings (item_of i ∷ [])) c.in-Instances.is)
