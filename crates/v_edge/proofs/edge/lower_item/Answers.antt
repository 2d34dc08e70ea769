use Rattle.std.proofs.Common.{◌∙◌, ap, sym, subst}
use Rattle.v_value.specs.Scope.{scope_at}
use Rattle.v_syntax.specs.Tree.{statement_of}
use Rattle.v_operators.proofs.Growing.{Grows-refl}
use Rattle.v_lower.specs.Table.{images_at}
use Rattle.v_edge.specs.Edge.{blocks_in, AreSound, AreUpdated}
use Rattle.v_edge.proofs.Updated.{none_updated, item_updated}
use Rattle.v_edge.proofs.edge.lower_item.Goals as goal

pub lower_statement-requires-clause-sound : goal.lower_statement-requires-clause-sound
lower_statement-requires-clause-sound c =
    (subst (AreSound (scope_at c.args.scope.now)) (sym c.clocked_statement.ensures ∙ ap blocks_in c.in-Some.is) c.requires.sound).0

pub returns-in_ok-lower_statement-in-Some-clause-updated : goal.returns-in_ok-lower_statement-in-Some-clause-updated
returns-in_ok-lower_statement-in-Some-clause-updated c =
    item_updated (scope_at c.args.scope.now) (images_at c.args.table.now) (images_at c.args.next.now) c.args.terms.now _ (statement_of c.in-Some.statement.now)
    (images_at c.lower_statement.new.table) (images_at c.lower_statement.new.next) c.lower_statement.new.terms
    (sym (ap blocks_in c.in-Some.is) ∙ c.clocked_statement.ensures) c.requires.waits c.in_ok-lower_statement-in-Some.ensures.lowered

pub returns-in-None-clause-updated : goal.returns-in-None-clause-updated
returns-in-None-clause-updated c =
    subst (λ xs. AreUpdated (scope_at c.args.scope.now) (images_at c.args.table.now) (images_at c.args.next.now) c.args.terms.now xs (images_at c.args.table.now) (images_at c.args.next.now) c.args.terms.now)
    (sym (ap blocks_in c.in-None.is) ∙ c.clocked_statement.ensures)
    (none_updated (scope_at c.args.scope.now) (images_at c.args.table.now) (images_at c.args.next.now) c.args.terms.now c.requires.known c.requires.known_next)

pub returns-in-None-clause-grows : goal.returns-in-None-clause-grows
returns-in-None-clause-grows c = Grows-refl c.args.terms.now
