use Rattle.std.proofs.Common.{◌≡◌, ℕ, List, sym, subst}
use Rattle.std.specs.Prelude.{map}
use Rattle.verilog_meaning.specs.Register.{is_set}
use Rattle.v_value.specs.Scope.{scope_at}
use Rattle.v_syntax.specs.Source.{item_of}
use Rattle.v_masks.specs.Masks.{mask_under}
use Rattle.v_undriven.specs.Tables.{drivers_mask, OneHasMore}
use Rattle.v_undriven.proofs.Lacking.{as-found}
use Rattle.v_undriven.proofs.module.has_undriven.Goals as goal

pub returns : goal.returns
returns c =
    let s = scope_at c.args.scope.now in
    let names = c.args.names.now in
    let clock = c.args.clock.now in
    let f = mask_under c.in_ok-table.table in
    let table = subst (λ vs. (n : List ℕ) (b : ℕ) → is_set (f n) b ≡ is_set (drivers_mask s vs n) b) c.deref.ensures.value c.in_ok-table.ensures in
    let rule = as-found s names clock f (map item_of c.args.items.now) c.in_ok-drivers.drivers.items c.in_ok-drivers.ensures table c.in_ok-reads.reads.items c.in_ok-reads.ensures in (
      (λ h. rule.0 (subst (OneHasMore s names clock f) c.deref-2.ensures.value (c.one_has_more-found.ensures.0 h))),
      (λ h. c.one_has_more-found.ensures.1 (subst (OneHasMore s names clock f) (sym c.deref-2.ensures.value) (rule.1 h))),
    )
