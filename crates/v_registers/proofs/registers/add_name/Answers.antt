use Rattle.std.proofs.Common.{◌∙◌, sym, ap, refl, map}
use Rattle.std.specs.Prelude.{◌||◌}
use Rattle.std.proofs.lemmas.List.{map-append}
use Rattle.verilog_meaning.specs.Expression.{is_memory}
use Rattle.v_value.specs.Scope.{scope_at}
use Rattle.v_registers.specs.Masks.{has_bits}
use Rattle.v_registers.specs.Registers.{counted_of}
use Rattle.v_registers.proofs.Splitting.{added, not_added}
use Rattle.v_registers.proofs.registers.add_name.Goals as goal

pub returns-in_ok-push : goal.returns-in_ok-push
returns-in_ok-push c = λ q e.
    added (scope_at c.args.scope.now) q c.args.name.now (record { of_name = c.args.name.now; masks = c.in_ok-masks.masks.items }) (map counted_of c.args.split.now.registers.items) _ _ _
    refl (c.in_ok-masks.ensures q e)
    (ap (λ xs. has_bits xs || is_memory (scope_at c.args.scope.now c.args.name.now)) (sym c.deref.ensures.value)
    ∙ ap (λ o. has_bits c.deref.result.now || is_memory o) (sym c.object.ensures) ∙ sym c.is_register.ensures ∙ c.if-is_register.true)
    (ap (map counted_of) c.in_ok-push.ensures.items ∙ map-append counted_of c.args.split.now.registers.items _) refl

pub returns-in_ok-push-2 : goal.returns-in_ok-push-2
returns-in_ok-push-2 c = λ q e.
    not_added (scope_at c.args.scope.now) q c.args.name.now c.in_ok-masks.masks.items (map counted_of c.args.split.now.registers.items) _ (map (λ n. n.now) c.args.split.now.others.items) _
    (c.in_ok-masks.ensures q e)
    (ap (λ xs. has_bits xs || is_memory (scope_at c.args.scope.now c.args.name.now)) (sym c.deref.ensures.value)
    ∙ ap (λ o. has_bits c.deref.result.now || is_memory o) (sym c.object.ensures) ∙ sym c.is_register.ensures ∙ c.if-is_register.false)
    refl (ap (map (λ n. n.now)) c.in_ok-push-2.ensures.items ∙ map-append (λ n. n.now) c.args.split.now.others.items _)
