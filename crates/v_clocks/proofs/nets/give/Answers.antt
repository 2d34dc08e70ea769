use Rattle.std.proofs.Common.{◌∙◌, ◌||◌, ap, sym}
use Rattle.v_hier.specs.Tables.{has_name}
use Rattle.v_clocks.specs.Nets.{gives}
use Rattle.v_clocks.specs.Views.{use_of}
use Rattle.v_clocks.proofs.Walks.{one_more, port_given, not_given}
use Rattle.v_clocks.proofs.nets.give.Goals as goal

pub returns-in-NoClock : goal.returns-in-NoClock
returns-in-NoClock c = λ q. not_given (has_name c.args.ports.now q) ∙ ap (λ u. has_name c.args.ports.now q || gives q (use_of u)) (sym c.in-NoClock.is)

pub returns-in-AsData : goal.returns-in-AsData
returns-in-AsData c = λ q. not_given (has_name c.args.ports.now q) ∙ ap (λ u. has_name c.args.ports.now q || gives q (use_of u)) (sym c.in-AsData.is)

pub returns-in_ok-insert-in-AsClock : goal.returns-in_ok-insert-in-AsClock
returns-in_ok-insert-in-AsClock c = λ q.
    port_given (has_name c.args.ports.now q) _ c.in-AsClock.port.now q (one_more c.args.ports.now c.insert.new.self c.in-AsClock.port _ c.in_ok-insert-in-AsClock.ensures.updates q)
    ∙ ap (λ u. has_name c.args.ports.now q || gives q (use_of u)) (sym c.in-AsClock.is)
