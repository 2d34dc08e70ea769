use Rattle.std.proofs.Common.{sym, subst, map, List, ap, ◌∙◌}
use Rattle.wb_values.specs.Value.{truth}
use Rattle.v_syntax.specs.declared.tree.Expression.{Expression}
use Rattle.v_syntax.specs.Tree.{tree_of}
use Rattle.v_value.specs.Scope.{scope_at}
use Rattle.v_operators.proofs.Growing.{Grows-trans}
use Rattle.v_lower.specs.Table.{images_at}
use Rattle.v_lower.proofs.Lowering.{images_kept}
use Rattle.refinement.specs.Map.{map_scope}
use Rattle.path_terms.specs.Mapped.{AreFit, AreConditions}
use Rattle.path_terms.proofs.Made.{term_kept, conditions_kept}
use Rattle.map_trees.specs.View.{mapped_tree_view, instruction_tree_view}
use Rattle.mapped_designs.specs.View.{number_of}
use Rattle.map_terms.specs.View.{setting_of, wanted_view, called_of}
use Rattle.map_terms.proofs.Listed.{fits_of, readable_here, ends_here, entries_told_here, ends_told_here}
use Rattle.map_terms.proofs.Named.{instructions_called}
use Rattle.map_terms.proofs.terms.terms_of_map.Goals as goal

pub condition-requires-clause-objects : goal.condition-requires-clause-objects
condition-requires-clause-objects c = c.requires.ready.2.is_scope.narrow

pub condition-requires-clause-fit : goal.condition-requires-clause-fit
condition-requires-clause-fit c = c.requires.ready.2.start.fit

pub conditions-requires-clause-objects : goal.conditions-requires-clause-objects
conditions-requires-clause-objects c = c.requires.ready.2.is_scope.narrow

pub conditions-requires-clause-known : goal.conditions-requires-clause-known
conditions-requires-clause-known c =
    images_kept (scope_at c.args.scope.now) (images_at c.args.table.now) c.args.terms.now c.condition.new.terms c.condition.ensures.grows c.requires.known

pub conditions-requires-clause-fit : goal.conditions-requires-clause-fit
conditions-requires-clause-fit c =
    subst (λ (xs : List Expression). AreFit (scope_at c.args.scope.now) (map tree_of xs)) (sym c.deref.ensures.value)
    (fits_of (scope_at c.args.scope.now) _ _ c.requires.ready.2.assume)

pub conditions-requires-2-clause-known : goal.conditions-requires-2-clause-known
conditions-requires-2-clause-known c =
    images_kept (scope_at c.args.scope.now) (images_at c.args.table.now) c.args.terms.now c.conditions.new.terms
    (Grows-trans c.condition.ensures.grows c.conditions.ensures.grows) c.requires.known

pub conditions-requires-2-clause-fit : goal.conditions-requires-2-clause-fit
conditions-requires-2-clause-fit c =
    subst (λ (xs : List Expression). AreFit (scope_at c.args.scope.now) (map tree_of xs)) (sym c.deref-2.ensures.value)
    (fits_of (scope_at c.args.scope.now) _ _ c.requires.ready.2.invariants)

pub entry_terms-requires-clause-objects : goal.entry_terms-requires-clause-objects
entry_terms-requires-clause-objects c = c.requires.ready.2.is_scope.narrow

pub entry_terms-requires-clause-known : goal.entry_terms-requires-clause-known
entry_terms-requires-clause-known c =
    images_kept (scope_at c.args.scope.now) (images_at c.args.table.now) c.args.terms.now c.conditions-2.new.terms
    (Grows-trans c.condition.ensures.grows (Grows-trans c.conditions.ensures.grows c.conditions-2.ensures.grows)) c.requires.known

pub entry_terms-requires-clause-entries : goal.entry_terms-requires-clause-entries
entry_terms-requires-clause-entries c = (
  map_scope (setting_of c.args.model.now c.args.map.now c.requires.ready.0),
  readable_here (scope_at c.args.scope.now) _ mapped_tree_view wanted_view c.args.map.now.states.items c.deref-3.result.now _ c.deref-4.result.now
      (sym c.deref-3.ensures.value) (sym c.in_ok-wanted.ensures ∙ ap (map wanted_view) (sym c.deref-4.ensures.value)) c.requires.ready.2.states,
)

pub entry_terms-requires-2-clause-known : goal.entry_terms-requires-2-clause-known
entry_terms-requires-2-clause-known c =
    images_kept (scope_at c.args.scope.now) (images_at c.args.table.now) c.args.terms.now c.entry_terms.new.terms
    (Grows-trans c.condition.ensures.grows (Grows-trans c.conditions.ensures.grows (Grows-trans c.conditions-2.ensures.grows c.entry_terms.ensures.grows))) c.requires.known

pub entry_terms-requires-2-clause-entries : goal.entry_terms-requires-2-clause-entries
entry_terms-requires-2-clause-entries c = (
  map_scope (setting_of c.args.model.now c.args.map.now c.requires.ready.0),
  readable_here (scope_at c.args.scope.now) _ mapped_tree_view wanted_view c.args.map.now.inputs.items c.deref-5.result.now _ c.deref-6.result.now
      (sym c.deref-5.ensures.value) (sym c.in_ok-wanted-2.ensures ∙ ap (map wanted_view) (sym c.deref-6.ensures.value)) c.requires.ready.2.inputs,
)

pub ends-requires-clause-objects : goal.ends-requires-clause-objects
ends-requires-clause-objects c = c.requires.ready.2.is_scope.narrow

pub ends-requires-clause-known : goal.ends-requires-clause-known
ends-requires-clause-known c =
    images_kept (scope_at c.args.scope.now) (images_at c.args.table.now) c.args.terms.now c.entry_terms-2.new.terms
    (Grows-trans c.condition.ensures.grows (Grows-trans c.conditions.ensures.grows (Grows-trans c.conditions-2.ensures.grows
    (Grows-trans c.entry_terms.ensures.grows c.entry_terms-2.ensures.grows)))) c.requires.known

pub ends-requires-clause-entries : goal.ends-requires-clause-entries
ends-requires-clause-entries c = (
  map_scope (setting_of c.args.model.now c.args.map.now c.requires.ready.0),
  ends_here (scope_at c.args.scope.now) _ instruction_tree_view called_of c.args.map.now.instructions.items c.deref-7.result.now _ c.deref-8.result.now
      (sym c.deref-7.ensures.value) (instructions_called c.args.model.now ∙ ap (map called_of) (sym c.deref-8.ensures.value)) c.requires.ready.2.instructions,
)

pub returns-clause-made : goal.returns-clause-made
returns-clause-made c =
    record {
      start = term_kept (scope_at c.args.scope.now) (images_at c.args.table.now) c.condition.new.terms c.ends.new.terms truth (tree_of c.args.map.now.start) c.in_ok-start.start.0
          (Grows-trans c.conditions.ensures.grows (Grows-trans c.conditions-2.ensures.grows (Grows-trans c.entry_terms.ensures.grows
          (Grows-trans c.entry_terms-2.ensures.grows c.ends.ensures.grows))))
          (images_kept (scope_at c.args.scope.now) (images_at c.args.table.now) c.args.terms.now c.condition.new.terms c.condition.ensures.grows c.requires.known)
          c.in_ok-start.ensures.condition;
      assume = conditions_kept (scope_at c.args.scope.now) (images_at c.args.table.now) c.conditions.new.terms c.ends.new.terms (map tree_of c.args.map.now.assume.items)
          (map number_of c.in_ok-assume.assume.items)
          (Grows-trans c.conditions-2.ensures.grows (Grows-trans c.entry_terms.ensures.grows (Grows-trans c.entry_terms-2.ensures.grows c.ends.ensures.grows)))
          (images_kept (scope_at c.args.scope.now) (images_at c.args.table.now) c.args.terms.now c.conditions.new.terms
          (Grows-trans c.condition.ensures.grows c.conditions.ensures.grows) c.requires.known)
          (subst (λ (xs : List Expression). AreConditions (scope_at c.args.scope.now) (images_at c.args.table.now) c.conditions.new.terms (map tree_of xs) (map number_of c.in_ok-assume.assume.items))
          c.deref.ensures.value c.in_ok-assume.ensures.conditions);
      invariants = conditions_kept (scope_at c.args.scope.now) (images_at c.args.table.now) c.conditions-2.new.terms c.ends.new.terms (map tree_of c.args.map.now.invariants.items)
          (map number_of c.in_ok-invariants.invariants.items)
          (Grows-trans c.entry_terms.ensures.grows (Grows-trans c.entry_terms-2.ensures.grows c.ends.ensures.grows))
          (images_kept (scope_at c.args.scope.now) (images_at c.args.table.now) c.args.terms.now c.conditions-2.new.terms
          (Grows-trans c.condition.ensures.grows (Grows-trans c.conditions.ensures.grows c.conditions-2.ensures.grows)) c.requires.known)
          (subst (λ (xs : List Expression). AreConditions (scope_at c.args.scope.now) (images_at c.args.table.now) c.conditions-2.new.terms (map tree_of xs) (map number_of c.in_ok-invariants.invariants.items))
          c.deref-2.ensures.value c.in_ok-invariants.ensures.conditions);
      states = entries_told_here (scope_at c.args.scope.now) (images_at c.args.table.now) c.entry_terms.new.terms c.ends.new.terms mapped_tree_view wanted_view
          (Grows-trans c.entry_terms-2.ensures.grows c.ends.ensures.grows)
          (images_kept (scope_at c.args.scope.now) (images_at c.args.table.now) c.args.terms.now c.entry_terms.new.terms
          (Grows-trans c.condition.ensures.grows (Grows-trans c.conditions.ensures.grows (Grows-trans c.conditions-2.ensures.grows c.entry_terms.ensures.grows))) c.requires.known)
          c.deref-3.result.now c.args.map.now.states.items _ c.deref-4.result.now _ c.deref-3.ensures.value
          (ap (map wanted_view) c.deref-4.ensures.value ∙ c.in_ok-wanted.ensures) c.in_ok-states.ensures.entries;
      inputs = entries_told_here (scope_at c.args.scope.now) (images_at c.args.table.now) c.entry_terms-2.new.terms c.ends.new.terms mapped_tree_view wanted_view
          c.ends.ensures.grows
          (images_kept (scope_at c.args.scope.now) (images_at c.args.table.now) c.args.terms.now c.entry_terms-2.new.terms
          (Grows-trans c.condition.ensures.grows (Grows-trans c.conditions.ensures.grows (Grows-trans c.conditions-2.ensures.grows
          (Grows-trans c.entry_terms.ensures.grows c.entry_terms-2.ensures.grows)))) c.requires.known)
          c.deref-5.result.now c.args.map.now.inputs.items _ c.deref-6.result.now _ c.deref-5.ensures.value
          (ap (map wanted_view) c.deref-6.ensures.value ∙ c.in_ok-wanted-2.ensures) c.in_ok-inputs.ensures.entries;
      instructions = ends_told_here (scope_at c.args.scope.now) (images_at c.args.table.now) c.ends.new.terms instruction_tree_view called_of
          c.deref-7.result.now c.args.map.now.instructions.items _ c.deref-8.result.now _ c.deref-7.ensures.value
          (ap (map called_of) c.deref-8.ensures.value ∙ sym (instructions_called c.args.model.now)) c.in_ok-instructions.ensures.ends;
    }

pub returns-clause-grows : goal.returns-clause-grows
returns-clause-grows c =
    Grows-trans c.condition.ensures.grows (Grows-trans c.conditions.ensures.grows (Grows-trans c.conditions-2.ensures.grows
    (Grows-trans c.entry_terms.ensures.grows (Grows-trans c.entry_terms-2.ensures.grows c.ends.ensures.grows))))

pub returns-in_err-assume-clause-grows : goal.returns-in_err-assume-clause-grows
returns-in_err-assume-clause-grows c = Grows-trans c.condition.ensures.grows c.conditions.ensures.grows

pub returns-in_err-invariants-clause-grows : goal.returns-in_err-invariants-clause-grows
returns-in_err-invariants-clause-grows c = Grows-trans c.condition.ensures.grows (Grows-trans c.conditions.ensures.grows c.conditions-2.ensures.grows)

pub returns-in_err-wanted-clause-grows : goal.returns-in_err-wanted-clause-grows
returns-in_err-wanted-clause-grows c = Grows-trans c.condition.ensures.grows (Grows-trans c.conditions.ensures.grows c.conditions-2.ensures.grows)

pub returns-in_err-states-clause-grows : goal.returns-in_err-states-clause-grows
returns-in_err-states-clause-grows c =
    Grows-trans c.condition.ensures.grows (Grows-trans c.conditions.ensures.grows (Grows-trans c.conditions-2.ensures.grows c.entry_terms.ensures.grows))

pub returns-in_err-inputs-clause-grows : goal.returns-in_err-inputs-clause-grows
returns-in_err-inputs-clause-grows c =
    Grows-trans c.condition.ensures.grows (Grows-trans c.conditions.ensures.grows (Grows-trans c.conditions-2.ensures.grows
    (Grows-trans c.entry_terms.ensures.grows c.entry_terms-2.ensures.grows)))

pub returns-in_err-instructions-clause-grows : goal.returns-in_err-instructions-clause-grows
returns-in_err-instructions-clause-grows c =
    Grows-trans c.condition.ensures.grows (Grows-trans c.conditions.ensures.grows (Grows-trans c.conditions-2.ensures.grows
    (Grows-trans c.entry_terms.ensures.grows (Grows-trans c.entry_terms-2.ensures.grows c.ends.ensures.grows))))
