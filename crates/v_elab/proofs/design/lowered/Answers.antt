use Rattle.std.proofs.Common.{map, ◌∙◌, ap}
use Rattle.verilog_meaning.specs.Settled.{names_of}
use Rattle.v_syntax.specs.Source.{item_of}
use Rattle.v_value.specs.Scope.{scope_at}
use Rattle.v_lower.specs.Table.{images_at}
use Rattle.v_lower.proofs.Lowering.{images_kept}
use Rattle.v_elab.specs.Names.{top_front, is_given_input}
use Rattle.v_elab.specs.Elaborated.{body_in}
use Rattle.v_elab.proofs.Lowering.{known, known_next}
use Rattle.v_elab.proofs.Small.{few_words}
use Rattle.v_elab.proofs.design.lowered.Goals as goal

pub begin-requires-clause-ready : goal.begin-requires-clause-ready
begin-requires-clause-ready c =
    record { narrow = λ n. (c.requires.objects n).0; few = few_words (scope_at c.args.scope.now) c.requires.small; apart = c.requires.apart }

pub settle-requires-clause-known : goal.settle-requires-clause-known
settle-requires-clause-known c =
    known (body_in (scope_at c.args.scope.now) (map item_of c.args.items.now) (map (λ n. n.now) c.args.declared.now)) (is_given_input c.args.names.now c.args.clock.now top_front) _ _ _ (images_at c.in_ok-begun.begun.next)
    c.requires c.in_ok-begun.ensures.begun

pub lower_edge-requires-clause-known_next : goal.lower_edge-requires-clause-known_next
lower_edge-requires-clause-known_next c =
    images_kept _ _ _ _ c.in_ok-all.ensures.grows
    (known_next (body_in (scope_at c.args.scope.now) (map item_of c.args.items.now) (map (λ n. n.now) c.args.declared.now)) (is_given_input c.args.names.now c.args.clock.now top_front) _ c.in_ok-begun.begun.terms
    (images_at c.in_ok-begun.begun.table) (images_at c.in_ok-begun.begun.next) c.requires c.in_ok-begun.ensures.begun)

pub returns-clause-lowered : goal.returns-clause-lowered
returns-clause-lowered c =
    record {
      start = c.in_ok-begun.begun.terms;
      given = images_at c.in_ok-begun.begun.table;
      first = images_at c.in_ok-begun.begun.next;
      has_begun = c.in_ok-begun.ensures.begun;
      middle = c.settle.new.terms;
      nets = images_at c.settle.new.table;
      evaluated = c.in_ok-all.ensures.settled c.if-not-all.false;
      grows = c.in_ok-all.ensures.grows;
      updated = c.in_ok-lower_edge.ensures.updated;
      grows_more = c.in_ok-lower_edge.ensures.grows;
    }

pub returns-clause-stored : goal.returns-clause-stored
returns-clause-stored c = ap names_of (c.in_ok-lower_edge.ensures.grows.names ∙ c.in_ok-all.ensures.grows.names) ∙ c.in_ok-begun.ensures.stored
