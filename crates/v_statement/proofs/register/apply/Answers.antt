use Rattle.std.proofs.Common.{◌∙◌, ◌+◌, ap, sym, subst, drop, arith}
use Rattle.verilog_meaning.specs.Statement.{with_updates, written}
use Rattle.v_value.specs.Scope.{scope_at, valuation_at}
use Rattle.v_statement.specs.Places.{places_of, updates_of}
use Rattle.v_value.specs.Narrow.{HasFittingValues}
use Rattle.v_statement.specs.Registers.{AreNarrowUpdates}
use Rattle.v_statement.proofs.Written.{written_fits}
use Rattle.v_statement.proofs.Runs.{rest_is}
use Rattle.v_statement.proofs.register.apply.Goals as goal

pub loop-update-preserved : goal.loop-update-preserved
loop-update-preserved c =
    let s = scope_at c.args.scope.now in
    let us = c.args.updates.now in
    let i = c.loop-update.update-index in
    let r = c.update-item.result in
    let v = valuation_at c.loop-update.values.entries.items in
    let rest = rest_is us i r (omega arith) c.update-item.is in
    record {
      same = c.loop-update.invariant.same
          ∙ ap (λ ws. with_updates s v (updates_of ws)) rest
          ∙ ap (λ u. with_updates s u (updates_of (drop (i + 1) us)))
          (ap (λ ps. written s v (places_of ps) r.value) (sym c.deref.ensures.value) ∙ sym c.in_ok-write.ensures.written);
      ready = (
        c.requires.ready.0,
        subst (HasFittingValues s) (sym c.in_ok-write.ensures.written)
            (written_fits s v (places_of c.deref.result.now) r.value c.loop-update.invariant.ready.1),
      );
      narrow = (subst (λ ws. AreNarrowUpdates (updates_of ws)) rest c.loop-update.invariant.narrow).1;
    }
