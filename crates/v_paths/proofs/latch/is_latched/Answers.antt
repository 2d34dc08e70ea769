use Rattle.std.proofs.Common.{◌∙◌, ap}
use Rattle.std.specs.Prelude.{is_none}
use Rattle.verilog_meaning.specs.Register.{may_assign}
use Rattle.verilog_designs.specs.Reads.{or_in, but_not_in}
use Rattle.v_syntax.specs.Tree.{statement_of}
use Rattle.v_value.specs.Scope.{scope_at}
use Rattle.v_flow.specs.Spans.{bits_in, existing}
use Rattle.v_masks.specs.Masks.{spread}
use Rattle.v_paths.specs.Walks.{outside_at}
use Rattle.v_paths.specs.Latches.{one_has_bit}
use Rattle.v_paths.proofs.Plain.{free-assigned}
use Rattle.v_paths.proofs.Found.{latched-so}
use Rattle.v_paths.proofs.latch.is_latched.Goals as goal

pub walk-requires-clause-plain : goal.walk-requires-clause-plain
walk-requires-clause-plain c = free-assigned (scope_at c.args.scope.now) (statement_of c.args.statement.now) c.requires.no_memory

pub returns : goal.returns
returns c =
    let s = scope_at c.args.scope.now in
    let x = statement_of c.args.statement.now in
    latched-so s x c.requires.no_memory c.in_ok-sure.sure.items c.walk.new.outside.items c.add_assigned.new.found.items c.in_ok-found.found.items _
    c.in_ok-sure.ensures.sure
    (c.in_ok-sure.ensures.outside ∙ ap (λ ys. or_in (bits_in ys) (outside_at s x)) c.new-outside.ensures.items)
    (c.in_ok-add_assigned.ensures ∙ ap (λ ys. or_in (bits_in ys) (existing s (may_assign s x))) c.new-assigned.ensures.items)
    (c.in_ok-found.ensures
    ∙ ap (λ ys. but_not_in (bits_in ys) (but_not_in (spread (bits_in c.deref.result.now)) (spread (bits_in c.deref-2.result.now)))) c.deref-3.ensures.value
    ∙ ap (λ ys. but_not_in (bits_in c.add_assigned.new.found.items) (but_not_in (spread (bits_in ys)) (spread (bits_in c.deref-2.result.now)))) c.deref.ensures.value
    ∙ ap (λ ys. but_not_in (bits_in c.add_assigned.new.found.items) (but_not_in (spread (bits_in c.in_ok-sure.sure.items)) (spread (bits_in ys)))) c.deref-2.ensures.value)
    (c.one_has_variable_bit.ensures ∙ ap (one_has_bit (λ n. is_none (s n).constant)) c.deref-4.ensures.value)
