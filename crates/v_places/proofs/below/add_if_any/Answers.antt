use Rattle.std.proofs.Common.{subst, sym, refl, option_map, Bor, Option, Some}
use Rattle.v_syntax.specs.declared.module.Module.{Module}
use Rattle.v_syntax.specs.Source.{module_of}
use Rattle.v_constants.specs.Given.{given_of}
use Rattle.v_places.specs.Added.{IsAdded}
use Rattle.v_places.specs.Views.{spots_of, each_if_any}
use Rattle.v_places.proofs.Rooms.{nothing_added}
use Rattle.v_places.proofs.Parts.{pairs_of}
use Rattle.v_places.proofs.below.add_if_any.Goals as goal

pub returns-in_ok-more-in-Some : goal.returns-in_ok-more-in-Some
returns-in_ok-more-in-Some c =
    subst (λ (o : Option (Bor Module)). IsAdded c.args.count c.in_ok-more-in-Some.more (spots_of c.add_each.new.queue.items) (spots_of c.args.queue.now.items)
    (each_if_any c.args.parent (option_map (λ m. module_of m.now) o) (given_of c.args.given.now) (pairs_of c.args.instances.now))) (sym c.in-Some.is) c.in_ok-more-in-Some.ensures

pub returns-in-None : goal.returns-in-None
returns-in-None c =
    subst (λ (o : Option (Bor Module)). IsAdded c.args.count (Some c.args.count) (spots_of c.args.queue.now.items) (spots_of c.args.queue.now.items)
    (each_if_any c.args.parent (option_map (λ m. module_of m.now) o) (given_of c.args.given.now) (pairs_of c.args.instances.now))) (sym c.in-None.is) (nothing_added c.args.count (spots_of c.args.queue.now.items) _ refl)
