use Rattle.std.proofs.Common.{◌∙◌, ap, sym, arith}
use Rattle.std.specs.Prelude.{◌||◌}
use Rattle.std.proofs.lemmas.List.{at_drop_all}
use Rattle.verilog_designs.specs.Names.{is_among}
use Rattle.verilog_designs.specs.Paths.{signals}
use Rattle.v_statement.specs.Registers.{events_list}
use Rattle.v_flow.proofs.Sets.{or_false}
use Rattle.v_hier.specs.Tables.{has_name}
use Rattle.v_paths.proofs.Covered.{name-turn, no-name}
use Rattle.v_paths.proofs.event.signal_set.Goals as goal

pub loop-event-init : goal.loop-event-init
loop-event-init c = λ q. ap (λ b. b || is_among (signals (events_list c.args.events.now)) q) (no-name c.new-names.result c.new-names.ensures.empty q)

pub loop-event-preserved : goal.loop-event-preserved
loop-event-preserved c = λ q.
    name-turn c.args.events.now c.loop-event.event-index _ c.loop-event.names c.insert.new.self _ q (omega arith) c.in_ok-insert.ensures.updates (c.loop-event.invariant q)

pub returns : goal.returns
returns c = λ q.
    sym (or_false (has_name c.loop-event.names q))
    ∙ ap (λ b. has_name c.loop-event.names q || b) (sym (at_drop_all (λ ys. is_among (signals (events_list ys)) q) c.args.events.now c.loop-event.event-index c.loop-event-test.false))
    ∙ c.loop-event.invariant q
