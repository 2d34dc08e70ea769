use Rattle.std.proofs.Common.{◌∙◌, ap, not, refl}
use Rattle.verilog_designs.specs.Reads.{or_in}
use Rattle.v_syntax.specs.Tree.{statement_of}
use Rattle.v_value.specs.Scope.{scope_at}
use Rattle.v_statement.specs.Registers.{events_list}
use Rattle.v_flow.specs.Spans.{bits_in}
use Rattle.v_hier.specs.Tables.{has_name}
use Rattle.v_paths.specs.Walks.{outside_at}
use Rattle.v_paths.specs.Latches.{one_has_bit}
use Rattle.v_paths.proofs.Plain.{free-assigned}
use Rattle.v_paths.proofs.Covered.{covers-so}
use Rattle.v_paths.proofs.event.covers_reads.Goals as goal

pub walk-requires-clause-plain : goal.walk-requires-clause-plain
walk-requires-clause-plain c = free-assigned (scope_at c.args.scope.now) (statement_of c.args.statement.now) c.requires.no_memory

pub returns : goal.returns
returns c =
    let s = scope_at c.args.scope.now in
    let x = statement_of c.args.statement.now in
    covers-so s x (events_list c.args.events.now) c.walk.new.outside.items c.in_ok-names.names c.one_is_unnamed.result _
    (c.in_ok-_sure.ensures.outside ∙ ap (λ ys. or_in (bits_in ys) (outside_at s x)) c.new-outside.ensures.items) c.in_ok-names.ensures
    (c.one_is_unnamed.ensures ∙ ap (one_has_bit (λ n. not (has_name c.in_ok-names.names n))) c.deref.ensures.value) refl
