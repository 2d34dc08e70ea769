use Rattle.std.proofs.Common.{ap, sym, subst, ◌∙◌, option_map, Bor}
use Rattle.verilog_trees.specs.Syntax.{instances}
use Rattle.v_syntax.specs.declared.module.Module.{Module}
use Rattle.v_syntax.specs.Source.{connections_of, item_of, module_of}
use Rattle.v_value.specs.Scope.{objects_of}
use Rattle.v_constants.specs.Given.{given_of}
use Rattle.v_places.specs.Added.{IsAdded}
use Rattle.v_places.specs.Views.{spots_of, module_in}
use Rattle.v_places.proofs.Parts.{pairs_of, item_spots}
use Rattle.v_places.proofs.below.add_item.Goals as goal

pub returns-in_ok-more-in-Instances : goal.returns-in_ok-more-in-Instances
returns-in_ok-more-in-Instances c = λ x h.
    subst (IsAdded c.args.count c.in_ok-more-in-Instances.more (spots_of c.add_if_any.new.queue.items) (spots_of c.args.queue.now.items))
    (item_spots (module_in c.args.modules.now c.args.numbers.now) c.args.parent x (item_of c.args.item.now) c.in-Instances.name.now (connections_of c.in-Instances.given)
    (objects_of c.args.around.scope.now.declarations.items) (option_map (λ (m : Bor Module). module_of m.now) c.named-below.result) (given_of c.deref-in-Instances.result.now) c.deref.result.now
    (ap item_of c.in-Instances.is ∙ ap (λ is. instances c.in-Instances.name.now (connections_of c.in-Instances.given) (pairs_of is)) (sym c.deref.ensures.value)) c.named-below.ensures h
    (λ m e n. ap (λ os. given_of os n) c.deref-in-Instances.ensures.value ∙ c.in_ok-given-in-Instances.ensures x.of_module m e n)) c.in_ok-more-in-Instances.ensures
