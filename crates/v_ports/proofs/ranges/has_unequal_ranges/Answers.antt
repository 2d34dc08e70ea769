use Rattle.std.proofs.Common.{sym, subst, arith, drop, ◌+◌}
use Rattle.v_scopes.specs.Rows.{rows_of}
use Rattle.v_ports.specs.Ranges.{first_in}
use Rattle.v_ports.proofs.Differing.{IsMetSoFar, other_at, more_at, past_at, met_end}
use Rattle.v_ports.proofs.ranges.has_unequal_ranges.Goals as goal
use Rattle.v_ports.proofs.ranges.has_unequal_ranges.Goals.{then-is_port+else-is_other+in_ok-keep, else-is_port}

pub returns-then-is_other : goal.returns-then-is_other
returns-then-is_other c =
    other_at c.args.declared.now c.args.names.now.declared.items c.loop-row.row-index _ (first_in c.loop-row.first) c.loop-row-test.true c.loop-row.invariant c.requires
    c.is_port.result c.is_port.ensures c.if-is_port.true c.first_of-before.result c.first_of-before.ensures c.is_other.result c.is_other.ensures c.if-is_other.true

pub loop-row-preserved : goal.loop-row-preserved
loop-row-preserved c =
    elim c.if-is_port.branch [
      | then-is_port+else-is_other+in_ok-keep w ↦
          subst (λ t. IsMetSoFar (rows_of c.args.declared.now) (first_in t) (rows_of (drop (c.loop-row.row-index + 1) c.args.declared.now))) (sym w.first-is)
          (more_at c.args.declared.now c.loop-row.row-index _ (first_in c.loop-row.first) (first_in w.keep.new.first) c.loop-row-test.true c.loop-row.invariant
          w.first_of-before.result w.first_of-before.ensures w.is_other.result w.is_other.ensures w.if-is_other.false (λ n. w.in_ok-keep.ensures n))
      | else-is_port w ↦
          subst (λ t. IsMetSoFar (rows_of c.args.declared.now) (first_in t) (rows_of (drop (c.loop-row.row-index + 1) c.args.declared.now))) (sym w.first-is)
          (past_at c.args.declared.now c.args.names.now.declared.items c.loop-row.row-index _ (first_in c.loop-row.first) c.loop-row-test.true c.loop-row.invariant c.requires
          c.is_port.result c.is_port.ensures w.if-is_port.false)
    ]

pub returns : goal.returns
returns c = met_end c.args.declared.now c.loop-row.row-index (first_in c.loop-row.first) (omega arith) c.loop-row.invariant
