use Rattle.std.proofs.Common.{◌≡◌, ◌∙◌, sym, subst, map, false}
use Rattle.std.specs.List.{list_any}
use Rattle.v_value.specs.Scope.{scope_at}
use Rattle.v_syntax.specs.Source.{item_of, module_of}
use Rattle.v_hier.specs.Instances.{is_part}
use Rattle.v_fitting.specs.Wires.{HavePlainWires}
use Rattle.v_fitting.proofs.Wires.{wires-plain}
use Rattle.test_map_inputs.proofs.asked.told.Goals as goal

pub invariant_of-narrow : goal.invariant_of-narrow
invariant_of-narrow c = record { narrow = c.are_objects_narrow.ensures.objects c.if-not-are_objects_narrow.false }

pub told_of_items-requires-clause-alone : goal.told_of_items-requires-clause-alone
told_of_items-requires-clause-alone c =
    subst (λ xs. list_any is_part (map item_of xs) ≡ false) (c.deref.ensures.value ∙ sym c.deref-2.ensures.value) (sym c.has_part.ensures ∙ c.if-has_part.false)

pub told_of_items-requires-clause-plain : goal.told_of_items-requires-clause-plain
told_of_items-requires-clause-plain c =
    subst (λ xs. HavePlainWires (scope_at c.in_ok-scope.scope) (map item_of xs)) (sym c.deref-2.ensures.value)
    (subst (λ s. HavePlainWires s (map item_of c.args.within.now.items.items)) (sym (c.in_ok-scope.ensures ∙ c.in_ok-declared.ensures.scope))
    (wires-plain (module_of c.args.within.now) (sym c.in_ok-twice.ensures ∙ c.if-twice.false)))
