use Rattle.std.proofs.Common.{◌∙◌, sym}
use Rattle.v_syntax.specs.Tree.{statement_of}
use Rattle.v_value.specs.Scope.{scope_at}
use Rattle.v_hier.specs.Tables.{has_name}
use Rattle.v_paths.proofs.Listed.{star-so, clocked-so, names-so}
use Rattle.v_paths.proofs.event.has_event_list.Goals as goal

pub returns-in-AnyChange : goal.returns-in-AnyChange
returns-in-AnyChange c = star-so (scope_at c.args.scope.now) (has_name c.args.clocks.now) (statement_of c.args.statement.now) c.args.events.now c.in-AnyChange.is

pub returns-then-is_clocked : goal.returns-then-is_clocked
returns-then-is_clocked c =
    clocked-so (scope_at c.args.scope.now) (has_name c.args.clocks.now) (statement_of c.args.statement.now) c.args.events.now c.in-OnEvents.list c.in-OnEvents.is c.deref.result.now c.deref.ensures.value
    c.is_clocked.result c.is_clocked.ensures c.if-is_clocked.true _ c.is_clock_list.ensures

pub covers_reads-requires-clause-no_memory : goal.covers_reads-requires-clause-no_memory
covers_reads-requires-clause-no_memory c = c.requires.no_memory (sym c.is_clocked.ensures ∙ c.if-is_clocked.false)

pub returns-in_ok-covers-in-OnEvents : goal.returns-in_ok-covers-in-OnEvents
returns-in_ok-covers-in-OnEvents c =
    names-so (scope_at c.args.scope.now) (has_name c.args.clocks.now) (statement_of c.args.statement.now) c.args.events.now c.in-OnEvents.list c.in-OnEvents.is c.deref-in-OnEvents.result.now c.deref-in-OnEvents.ensures.value
    c.is_clocked.result c.is_clocked.ensures c.if-is_clocked.false _ c.in_ok-covers-in-OnEvents.ensures
