use Rattle.v_operators.proofs.Growing.{Grows-refl, Grows-trans}
use Rattle.v_value.specs.Scope.{scope_at}
use Rattle.v_lower.specs.Table.{images_at}
use Rattle.v_masks.specs.Masks.{masked}
use Rattle.v_order.specs.Lists.{statements_in}
use Rattle.v_settle.specs.Turns.{state_of}
use Rattle.v_settle.proofs.Walks.{none-visits, visits-then, visits-open}
use Rattle.v_settle.proofs.turn.pass.Goals as goal

pub loop-index-init : goal.loop-index-init
loop-index-init c =
    record {
      grows = Grows-refl c.args.terms.now;
      visits = none-visits (scope_at c.args.scope.now) (statements_in c.args.drivers.now)
          (state_of (images_at c.args.table.now) (images_at c.args.spare.now) c.args.terms.now (masked c.args.unsettled.now));
    }

pub visit_at-requires-clause-opens : goal.visit_at-requires-clause-opens
visit_at-requires-clause-opens c =
    visits-open (scope_at c.args.scope.now) (statements_in c.args.drivers.now)
    (state_of (images_at c.args.table.now) (images_at c.args.spare.now) c.args.terms.now (masked c.args.unsettled.now))
    (state_of (images_at c.loop-index.table) (images_at c.loop-index.spare) c.loop-index.terms (masked c.loop-index.unsettled)) c.requires.opens c.loop-index.invariant.visits

pub loop-index-preserved : goal.loop-index-preserved
loop-index-preserved c =
    record {
      grows = Grows-trans c.loop-index.invariant.grows c.in_ok-visit_at.ensures.grows;
      visits = visits-then (scope_at c.args.scope.now) (statements_in c.args.drivers.now)
          (state_of (images_at c.args.table.now) (images_at c.args.spare.now) c.args.terms.now (masked c.args.unsettled.now))
          (state_of (images_at c.loop-index.table) (images_at c.loop-index.spare) c.loop-index.terms (masked c.loop-index.unsettled))
          (state_of (images_at c.visit_at.new.table) (images_at c.visit_at.new.spare) c.visit_at.new.terms (masked c.visit_at.new.unsettled))
          c.loop-index.invariant.visits c.in_ok-visit_at.ensures.visits;
    }

pub returns-in_err-visit_at-clause-grows : goal.returns-in_err-visit_at-clause-grows
returns-in_err-visit_at-clause-grows c = Grows-trans c.loop-index.invariant.grows c.visit_at.ensures.grows

pub returns-clause-grows : goal.returns-clause-grows
returns-clause-grows c = c.loop-index.invariant.grows

pub returns-clause-visits : goal.returns-clause-visits
returns-clause-visits c = c.loop-index.invariant.visits
