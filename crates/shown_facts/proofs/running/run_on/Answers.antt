use Rattle.std.proofs.Common.{◌+◌, sym, subst}
use Rattle.shown_facts.specs.Values.{map_in, values_in}
use Rattle.shown_facts.specs.Run.{IsRunTo}
use Rattle.shown_facts.proofs.Noting.{next_row}
use Rattle.shown_facts.proofs.running.run_on.Goals as goal

pub row_of-requires-clause-sorted : goal.row_of-requires-clause-sorted
row_of-requires-clause-sorted c = c.requires.given.sorted

pub loop-time-preserved : goal.loop-time-preserved
loop-time-preserved c =
    let g = c.args.given.now in
    subst (λ rows. IsRunTo (map_in g) (values_in g) c.take_cycle.new.cycle rows (c.loop-time.time + 1)) (sym c.in_ok-push.ensures.items)
    (next_row (map_in g) (values_in g) c.loop-time.cycle c.take_cycle.new.cycle c.loop-time.rows.items c.in_ok-row.row c.loop-time.time c.loop-time.invariant
    c.take_cycle.ensures.made c.take_cycle.ensures.ran c.take_cycle.ensures.registers c.in_ok-row.ensures)
