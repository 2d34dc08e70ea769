use Rattle.std.proofs.Common.{arith, map, []}
use Rattle.v_value.specs.Scope.{scope_at}
use Rattle.v_operators.proofs.Growing.{Grows-refl, Grows-trans}
use Rattle.v_lower.specs.Table.{images_at}
use Rattle.v_lower.proofs.Lowering.{images_kept}
use Rattle.wb_terms.specs.declared.nodes.TermId.{TermId}
use Rattle.wb_terms.specs.declared.sorts.Sort.{Sort}
use Rattle.map_trees.specs.View.{mapped_tree_view}
use Rattle.map_terms.specs.declared.states.Wanted.{Wanted}
use Rattle.map_terms.specs.View.{wanted_view}
use Rattle.map_terms.proofs.Listed.{none_entered, entry_turn, entry_first, entry_rest}
use Rattle.map_terms.proofs.states.entry_terms.Goals as goal

-- what a list shows past its end
abbrev no_wanted : Wanted
no_wanted = record { name = record { ref_ptr = (0, 0); now = [] }; sort = Sort.Truth }

pub loop-want-init : goal.loop-want-init
loop-want-init c =
    record {
      grows = Grows-refl c.args.terms.now;
      known = c.requires.known;
      rest = c.requires.entries;
      made = none_entered (scope_at c.args.scope.now) (images_at c.args.table.now) (λ (id : TermId). id.0) c.args.terms.now (map mapped_tree_view c.args.entries.now) _
          c.new-list.ensures.items;
    }

pub returns-in_err-places-clause-grows : goal.returns-in_err-places-clause-grows
returns-in_err-places-clause-grows c = Grows-refl c.args.terms.now

pub returns-in_err-id-clause-grows : goal.returns-in_err-id-clause-grows
returns-in_err-id-clause-grows c = Grows-trans c.loop-want.invariant.grows c.entry_term.ensures.grows

pub returns-in_err-push-clause-grows : goal.returns-in_err-push-clause-grows
returns-in_err-push-clause-grows c = Grows-trans c.loop-want.invariant.grows c.entry_term.ensures.grows

pub entry_term-requires-clause-entry : goal.entry_term-requires-clause-entry
entry_term-requires-clause-entry c = (
  c.loop-want.invariant.rest.0,
  entry_first (scope_at c.args.scope.now) c.loop-want.invariant.rest.0 wanted_view (map mapped_tree_view c.args.entries.now) c.args.wanted.now c.loop-want.want-index _
      (omega arith) c.loop-want.invariant.rest.1,
)

pub loop-want-preserved : goal.loop-want-preserved
loop-want-preserved c =
    record {
      grows = Grows-trans c.loop-want.invariant.grows c.entry_term.ensures.grows;
      known = images_kept (scope_at c.args.scope.now) (images_at c.args.table.now) c.loop-want.terms c.entry_term.new.terms c.entry_term.ensures.grows c.loop-want.invariant.known;
      rest = (
        c.loop-want.invariant.rest.0,
        entry_rest (scope_at c.args.scope.now) c.loop-want.invariant.rest.0 wanted_view (map mapped_tree_view c.args.entries.now) c.args.wanted.now c.loop-want.want-index
            no_wanted (omega arith) c.loop-want.invariant.rest.1,
      );
      made = entry_turn (scope_at c.args.scope.now) (images_at c.args.table.now) wanted_view (λ (id : TermId). id.0) c.loop-want.terms c.entry_term.new.terms
          (map mapped_tree_view c.args.entries.now) c.args.wanted.now c.loop-want.want-index no_wanted (omega arith) c.loop-want.list.items c.push.new.self.items
          c.in_ok-id.id c.entry_term.ensures.grows c.loop-want.invariant.known c.loop-want.invariant.made c.in_ok-id.ensures.entry c.in_ok-push.ensures.items;
    }
