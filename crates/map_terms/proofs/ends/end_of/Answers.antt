use Rattle.std.proofs.Common.{sym, ◌∙◌, refl}
use Rattle.map_trees.specs.declared.trees.InstructionTree.{InstructionTree}
use Rattle.map_trees.specs.View.{instruction_tree_view}
use Rattle.mapped_designs.specs.View.{instruction_view}
use Rattle.v_value.specs.Scope.{scope_at}
use Rattle.v_lower.specs.Table.{images_at}
use Rattle.map_terms.proofs.Firsts.{first_got, first_not_got, first_missing, end_there, end_not_missing, end_made}
use Rattle.map_terms.proofs.ends.end_of.Goals as goal

pub condition-requires-clause-fit : goal.condition-requires-clause-fit
condition-requires-clause-fit c =
    end_there instruction_tree_view (scope_at c.args.scope.now) c.requires.entry.0 c.args.entries.now c.args.name.now c.requires.entry.1 c.in-Some-get.entry.now
    (first_got (λ (e : InstructionTree). e.name.now) c.args.entries.now c.args.name.now c.in-Some.place c.get.result c.in-Some-get.entry
    (sym c.in-Some.is ∙ c.place.ensures ∙ c.requires.places c.args.name.now) c.in-Some-get.is c.get.ensures.lookup.3)

pub unreachable-requires : goal.unreachable-requires
unreachable-requires c =
    first_not_got (λ (e : InstructionTree). e.name.now) c.args.entries.now c.args.name.now c.in-Some.place c.get.result
    (sym c.in-Some.is ∙ c.place.ensures ∙ c.requires.places c.args.name.now) c.in-None-get.is c.get.ensures.lookup.3

pub unreachable-requires-in-None : goal.unreachable-requires-in-None
unreachable-requires-in-None c =
    end_not_missing instruction_tree_view (scope_at c.args.scope.now) c.requires.entry.0 c.args.entries.now c.args.name.now c.requires.entry.1
    (first_missing (λ (e : InstructionTree). e.name.now) c.args.entries.now c.args.name.now
    (sym c.in-None.is ∙ c.place.ensures ∙ c.requires.places c.args.name.now))

pub returns-clause-end : goal.returns-clause-end
returns-clause-end c =
    end_made instruction_tree_view (scope_at c.args.scope.now) c.requires.entry.0 c.args.entries.now c.args.name.now c.requires.entry.1
    (images_at c.args.table.now) c.condition.new.terms c.in-Some-get.entry.now (instruction_view (record { commit = c.in_ok-commit-in-Some-get.commit; bound = c.in-Some-get.entry.now.bound }))
    (first_got (λ (e : InstructionTree). e.name.now) c.args.entries.now c.args.name.now c.in-Some.place c.get.result c.in-Some-get.entry
    (sym c.in-Some.is ∙ c.place.ensures ∙ c.requires.places c.args.name.now) c.in-Some-get.is c.get.ensures.lookup.3)
    c.in_ok-commit-in-Some-get.ensures.condition refl
