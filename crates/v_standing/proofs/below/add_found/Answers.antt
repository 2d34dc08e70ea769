use Rattle.std.proofs.Common.{subst, sym, ap, ◌∙◌, [], map, option_map, Bor, Option}
use Rattle.v_syntax.specs.declared.module.Module.{Module as CodeModule}
use Rattle.v_syntax.specs.Source.{item_of, module_of}
use Rattle.v_standing.specs.Standing.{left_in, numbered, items_of, IsBelowOne, AreAdded}
use Rattle.v_standing.proofs.Adding.{none_added}
use Rattle.v_standing.proofs.below.add_found.Goals as goal

pub returns-in_ok-add_items-in-Some-clause-added : goal.returns-in_ok-add_items-in-Some-clause-added
returns-in_ok-add_items-in-Some-clause-added c = λ source.
    subst (λ is. AreAdded source (IsBelowOne source is) (left_in source c.args.left.now) (numbered source c.args.found.now.items) (left_in source c.add_items.new.left) (numbered source c.add_items.new.found.items))
    (ap (map item_of) c.deref.ensures.value ∙ ap (λ (o : Option (Bor CodeModule)). items_of (option_map (λ m. module_of m.now) o)) (sym c.in-Some.is)) (c.in_ok-add_items-in-Some.ensures.added source)

pub returns-in-None-clause-added : goal.returns-in-None-clause-added
returns-in-None-clause-added c = λ source.
    subst (λ (o : Option (Bor CodeModule)). AreAdded source (IsBelowOne source (items_of (option_map (λ m. module_of m.now) o))) (left_in source c.args.left.now) (numbered source c.args.found.now.items)
    (left_in source c.args.left.now) (numbered source c.args.found.now.items)) (sym c.in-None.is) (none_added source (IsBelowOne source []) (left_in source c.args.left.now) (numbered source c.args.found.now.items) (λ n k. k))
