use Rattle.std.proofs.Common.{◌∙◌, ap, sym, subst, map}
use Rattle.v_syntax.specs.Source.{item_of}
use Rattle.v_places.specs.Below.{all_instances, below_by}
use Rattle.v_places.specs.Added.{IsAdded}
use Rattle.v_places.specs.Views.{spots_of, module_in}
use Rattle.v_places.proofs.walk.add_below.Goals as goal

pub returns : goal.returns
returns c = λ x e h.
    subst (λ is. IsAdded c.args.count c.in_ok-more.more (spots_of c.add_items.new.queue.items) (spots_of c.args.queue.now.items) (below_by (module_in c.args.modules.now c.args.numbers.now) c.args.number x (all_instances is)))
    (ap (map item_of) c.deref.ensures.value ∙ sym e) (c.in_ok-more.ensures x h)
