use Rattle.std.proofs.Common.{◌∙◌, ap, sym, drop, map, arith}
use Rattle.v_value.specs.Scope.{scope_at}
use Rattle.v_flat.specs.Views.{entry_in}
use Rattle.v_lower.specs.Table.{images_at}
use Rattle.v_design.specs.Table.{term_under}
use Rattle.v_elab.specs.Settled.{after_entries}
use Rattle.v_elab.proofs.NetTerms.{no_term, entry_turn, entry_end}
use Rattle.v_elab.proofs.settled.terms_from.Goals as goal

pub loop-number-init : goal.loop-number-init
loop-number-init c = λ n.
    ap (after_entries (scope_at c.args.scope.now) (images_at c.args.table.now) (drop c.args.first (map entry_in c.args.names.now)) n)
    (sym (no_term c.new-found.result c.new-found.ensures.empty n))

pub loop-number-preserved : goal.loop-number-preserved
loop-number-preserved c = λ n.
    entry_turn (scope_at c.args.scope.now) (images_at c.args.table.now) c.args.names.now c.loop-number.number c.index-names-number.result _ n _ _ _ (omega arith)
    c.index-names-number.is (c.in_ok-enter_entry.ensures n) (c.loop-number.invariant n)

pub returns : goal.returns
returns c = λ n.
    sym (c.loop-number.invariant n
    ∙ entry_end (scope_at c.args.scope.now) (images_at c.args.table.now) c.args.names.now c.loop-number.number n (term_under c.loop-number.found n)
    (omega (arith, c.loop-number-test.false)))
