use Rattle.std.proofs.Common.{◌∙◌, ap, not, ℕ}
use Rattle.std.specs.Prelude.{◌≡◌, ◌&&◌}
use Rattle.verilog_meaning.specs.Register.{is_set}
use Rattle.v_value.specs.Scope.{scope_at}
use Rattle.v_masks.specs.Masks.{mask_under}
use Rattle.v_drivers.specs.Tables.{span_mask}
use Rattle.v_undriven.proofs.Looping.{found-more, more-found}
use Rattle.v_undriven.proofs.table.has_more.Goals as goal

pub returns : goal.returns
returns c =
    let s = scope_at c.args.scope.now in
    let f = mask_under c.args.table.now in
    let x = c.args.span in
    let is : (b : ℕ) → is_set c.without.result b ≡ (is_set (span_mask s x) b && not (is_set (f x.name.now) b)) =
    λ b. c.without.ensures b ∙ ap (λ m. is_set m b && not (is_set c.mask_under.result b)) c.span_mask.ensures
    ∙ ap (λ m. is_set (span_mask s x) b && not (is_set m b)) c.mask_under.ensures in
    ((λ h. found-more s f x c.without.result is h), (λ h. more-found s f x c.without.result is h))
