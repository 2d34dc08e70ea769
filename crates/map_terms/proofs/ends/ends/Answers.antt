use Rattle.std.proofs.Common.{sym, subst, arith, map, ◌∙◌, ap}
use Rattle.v_value.specs.Scope.{scope_at}
use Rattle.v_operators.proofs.Growing.{Grows-refl, Grows-trans}
use Rattle.v_lower.specs.Table.{images_at}
use Rattle.v_lower.proofs.Lowering.{images_kept}
use Rattle.map_trees.specs.View.{instruction_tree_view}
use Rattle.mapped_designs.specs.View.{instruction_view}
use Rattle.map_terms.specs.Terms.{IsEnd}
use Rattle.map_terms.specs.Ready.{HasEnd}
use Rattle.map_terms.specs.View.{called_of}
use Rattle.map_terms.proofs.Listed.{none_ended, end_turn, end_first, end_rest}
use Rattle.map_terms.proofs.ends.ends.Goals as goal

pub loop-instruction-init : goal.loop-instruction-init
loop-instruction-init c =
    record {
      grows = Grows-refl c.args.terms.now;
      known = c.requires.known;
      rest = c.requires.entries;
      made = none_ended (scope_at c.args.scope.now) (images_at c.args.table.now) instruction_view c.args.terms.now (map instruction_tree_view c.args.entries.now) _
          c.new-list.ensures.items;
    }

pub returns-in_err-places-clause-grows : goal.returns-in_err-places-clause-grows
returns-in_err-places-clause-grows c = Grows-refl c.args.terms.now

pub returns-in_err-end-clause-grows : goal.returns-in_err-end-clause-grows
returns-in_err-end-clause-grows c = Grows-trans c.loop-instruction.invariant.grows c.end_of.ensures.grows

pub returns-in_err-push-clause-grows : goal.returns-in_err-push-clause-grows
returns-in_err-push-clause-grows c = Grows-trans c.loop-instruction.invariant.grows c.end_of.ensures.grows

pub end_of-requires-clause-entry : goal.end_of-requires-clause-entry
end_of-requires-clause-entry c = (
  c.loop-instruction.invariant.rest.0,
  subst (HasEnd (scope_at c.args.scope.now) c.loop-instruction.invariant.rest.0 (map instruction_tree_view c.args.entries.now))
      (ap called_of (sym c.instruction-item.is) ∙ sym c.as_str.ensures.value)
      (end_first (scope_at c.args.scope.now) c.loop-instruction.invariant.rest.0 called_of (map instruction_tree_view c.args.entries.now) c.args.instructions.now
      c.loop-instruction.instruction-index c.instruction-item.result (omega arith) c.loop-instruction.invariant.rest.1),
)

pub loop-instruction-preserved : goal.loop-instruction-preserved
loop-instruction-preserved c =
    record {
      grows = Grows-trans c.loop-instruction.invariant.grows c.end_of.ensures.grows;
      known = images_kept (scope_at c.args.scope.now) (images_at c.args.table.now) c.loop-instruction.terms c.end_of.new.terms c.end_of.ensures.grows c.loop-instruction.invariant.known;
      rest = (
        c.loop-instruction.invariant.rest.0,
        end_rest (scope_at c.args.scope.now) c.loop-instruction.invariant.rest.0 called_of (map instruction_tree_view c.args.entries.now) c.args.instructions.now
            c.loop-instruction.instruction-index c.instruction-item.result (omega arith) c.loop-instruction.invariant.rest.1,
      );
      made = end_turn (scope_at c.args.scope.now) (images_at c.args.table.now) called_of instruction_view c.loop-instruction.terms c.end_of.new.terms
          (map instruction_tree_view c.args.entries.now) c.args.instructions.now c.loop-instruction.instruction-index c.instruction-item.result (omega arith)
          c.loop-instruction.list.items c.push.new.self.items c.in_ok-end.end c.end_of.ensures.grows c.loop-instruction.invariant.known c.loop-instruction.invariant.made
          (subst (λ n. IsEnd (scope_at c.args.scope.now) (images_at c.args.table.now) c.end_of.new.terms (map instruction_tree_view c.args.entries.now) n (instruction_view c.in_ok-end.end))
          (c.as_str.ensures.value ∙ ap called_of c.instruction-item.is) c.in_ok-end.ensures.end)
          c.in_ok-push.ensures.items;
    }
