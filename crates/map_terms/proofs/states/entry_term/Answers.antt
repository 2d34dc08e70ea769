use Rattle.std.proofs.Common.{sym, ◌∙◌}
use Rattle.map_trees.specs.declared.trees.MappedTree.{MappedTree}
use Rattle.map_trees.specs.View.{mapped_tree_view}
use Rattle.v_value.specs.Scope.{scope_at}
use Rattle.v_lower.specs.Table.{images_at}
use Rattle.map_terms.specs.View.{wanted_view}
use Rattle.map_terms.proofs.Firsts.{first_got, first_not_got, first_missing, entry_there, entry_not_missing, entry_made}
use Rattle.map_terms.proofs.states.entry_term.Goals as goal

pub mapped_term-requires-clause-gives : goal.mapped_term-requires-clause-gives
mapped_term-requires-clause-gives c =
    entry_there mapped_tree_view (scope_at c.args.scope.now) c.requires.entry.0 c.args.entries.now (wanted_view c.args.wanted) c.requires.entry.1 c.in-Some-get.entry.now
    (first_got (λ (e : MappedTree). e.name.now) c.args.entries.now c.args.wanted.name.now c.in-Some.place c.get.result c.in-Some-get.entry
    (sym c.in-Some.is ∙ c.place.ensures ∙ c.requires.places c.args.wanted.name.now) c.in-Some-get.is c.get.ensures.lookup.3)

pub unreachable-requires : goal.unreachable-requires
unreachable-requires c =
    first_not_got (λ (e : MappedTree). e.name.now) c.args.entries.now c.args.wanted.name.now c.in-Some.place c.get.result
    (sym c.in-Some.is ∙ c.place.ensures ∙ c.requires.places c.args.wanted.name.now) c.in-None-get.is c.get.ensures.lookup.3

pub unreachable-requires-in-None : goal.unreachable-requires-in-None
unreachable-requires-in-None c =
    entry_not_missing mapped_tree_view (scope_at c.args.scope.now) c.requires.entry.0 c.args.entries.now (wanted_view c.args.wanted) c.requires.entry.1
    (first_missing (λ (e : MappedTree). e.name.now) c.args.entries.now c.args.wanted.name.now
    (sym c.in-None.is ∙ c.place.ensures ∙ c.requires.places c.args.wanted.name.now))

pub returns-clause-entry : goal.returns-clause-entry
returns-clause-entry c =
    entry_made mapped_tree_view (scope_at c.args.scope.now) c.requires.entry.0 c.args.entries.now (wanted_view c.args.wanted) c.requires.entry.1
    (images_at c.args.table.now) c.mapped_term.new.terms c.in-Some-get.entry.now c.in_ok-id-in-Some-get.id.0
    (first_got (λ (e : MappedTree). e.name.now) c.args.entries.now c.args.wanted.name.now c.in-Some.place c.get.result c.in-Some-get.entry
    (sym c.in-Some.is ∙ c.place.ensures ∙ c.requires.places c.args.wanted.name.now) c.in-Some-get.is c.get.ensures.lookup.3)
    c.in_ok-id-in-Some-get.ensures.mapped
