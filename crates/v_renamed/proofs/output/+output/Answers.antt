use Rattle.std.proofs.Common.{◌≡◌, ◌∙◌, IfOk, refl, ap, sym, subst, map, option_map, arith}
use Rattle.v_syntax.specs.Tree.{tree_of, target_of}
use Rattle.v_renamed.specs.NewNames.{new_name}
use Rattle.v_renamed.specs.Copies.{as_renamed}
use Rattle.v_renamed.proofs.Outputs as outputs
use Rattle.v_renamed.proofs.Outputs.{targets_turn}
use Rattle.v_renamed.proofs.output.+output.Goals as goal

pub copy_as_target-returns-in-Number : goal.copy_as_target-returns-in-Number
copy_as_target-returns-in-Number t c = outputs.number-out (new_name c.args.names.now) c.args.tree.now c.in-Number.field-0 c.in-Number.is

pub copy_as_target-returns-in_ok-target-in-Name : goal.copy_as_target-returns-in_ok-target-in-Name
copy_as_target-returns-in_ok-target-in-Name t c =
    outputs.name-out (new_name c.args.names.now) c.args.tree.now c.in-Name.name c.in-Name.selects c.in_ok-target-in-Name.target c.in-Name.is c.in_ok-target-in-Name.ensures

pub copy_as_target-returns-in_ok-targets-in-Concatenation : goal.copy_as_target-returns-in_ok-targets-in-Concatenation
copy_as_target-returns-in_ok-targets-in-Concatenation t c =
    outputs.concatenation-out (new_name c.args.names.now) c.args.tree.now c.in-Concatenation.parts c.deref.result.now (option_map (λ v. map target_of v.items) c.in_ok-targets-in-Concatenation.targets)
    (option_map target_of c.joined.result) c.in-Concatenation.is c.deref.ensures.value c.in_ok-targets-in-Concatenation.ensures c.joined.ensures

pub copy_as_target-returns-in-Replication : goal.copy_as_target-returns-in-Replication
copy_as_target-returns-in-Replication t c = outputs.replication-out (new_name c.args.names.now) c.args.tree.now c.in-Replication.field-0 c.in-Replication.field-1 c.in-Replication.is

pub copy_as_target-returns-in-AsSigned : goal.copy_as_target-returns-in-AsSigned
copy_as_target-returns-in-AsSigned t c = outputs.signed-out (new_name c.args.names.now) c.args.tree.now c.in-AsSigned.field-0 c.in-AsSigned.is

pub copy_as_target-returns-in-AsUnsigned : goal.copy_as_target-returns-in-AsUnsigned
copy_as_target-returns-in-AsUnsigned t c = outputs.unsigned-out (new_name c.args.names.now) c.args.tree.now c.in-AsUnsigned.field-0 c.in-AsUnsigned.is

pub copy_as_target-returns-else-are_none : goal.copy_as_target-returns-else-are_none
copy_as_target-returns-else-are_none t c =
    outputs.prefix-others (new_name c.args.names.now) c.args.tree.now c.in-Prefix.operand.value c.in-Prefix.operand refl c.in-Prefix.operators c.deref-in-Prefix.result.now c.in-Prefix.is c.deref-in-Prefix.ensures.value
    (sym c.are_none.ensures ∙ c.if-are_none.false)

pub copy_as_target-returns-then-are_none-2 : goal.copy_as_target-returns-then-are_none-2
copy_as_target-returns-then-are_none-2 t c =
    subst (λ z. IfOk c.copy_as_target-then-are_none-2.result (λ o. option_map target_of o ≡ z))
    (outputs.binary-alone (new_name c.args.names.now) c.args.tree.now c.deref-then-are_none-2.result.now c.in-Binary.first c.deref-then-are_none-2.ensures c.in-Binary.links c.deref-in-Binary.result.now _ c.in-Binary.is c.deref-in-Binary.ensures.value
    (sym c.are_none-in-Binary.ensures ∙ c.if-are_none-2.true) refl)
    c.copy_as_target-then-are_none-2.ensures

pub copy_as_target-returns-else-are_none-2 : goal.copy_as_target-returns-else-are_none-2
copy_as_target-returns-else-are_none-2 t c =
    outputs.binary-others (new_name c.args.names.now) c.args.tree.now c.in-Binary.first.value c.in-Binary.first refl c.in-Binary.links c.deref-in-Binary.result.now c.in-Binary.is c.deref-in-Binary.ensures.value
    (sym c.are_none-in-Binary.ensures ∙ c.if-are_none-2.false)

pub copy_as_target-returns-then-are_none-3 : goal.copy_as_target-returns-then-are_none-3
copy_as_target-returns-then-are_none-3 t c =
    subst (λ z. IfOk c.copy_as_target-then-are_none-3.result (λ o. option_map target_of o ≡ z))
    (outputs.test-alone (new_name c.args.names.now) c.args.tree.now c.deref-then-are_none-3.result.now c.in-Test.first c.deref-then-are_none-3.ensures c.in-Test.links c.deref-in-Test.result.now _ c.in-Test.is c.deref-in-Test.ensures.value
    (sym c.are_none-in-Test.ensures ∙ c.if-are_none-3.true) refl)
    c.copy_as_target-then-are_none-3.ensures

pub copy_as_target-returns-else-are_none-3 : goal.copy_as_target-returns-else-are_none-3
copy_as_target-returns-else-are_none-3 t c =
    outputs.test-others (new_name c.args.names.now) c.args.tree.now c.in-Test.first.value c.in-Test.first refl c.in-Test.links c.deref-in-Test.result.now c.in-Test.is c.deref-in-Test.ensures.value
    (sym c.are_none-in-Test.ensures ∙ c.if-are_none-3.false)

pub copy_as_target-returns-then-are_none-4 : goal.copy_as_target-returns-then-are_none-4
copy_as_target-returns-then-are_none-4 t c =
    subst (λ z. IfOk c.copy_as_target-then-are_none-4.result (λ o. option_map target_of o ≡ z))
    (outputs.conditional-alone (new_name c.args.names.now) c.args.tree.now c.deref-then-are_none-4.result.now c.in-Conditional.last c.deref-then-are_none-4.ensures c.in-Conditional.choices c.deref-in-Conditional.result.now _ c.in-Conditional.is c.deref-in-Conditional.ensures.value
    (sym c.are_none-in-Conditional.ensures ∙ c.if-are_none-4.true) refl)
    c.copy_as_target-then-are_none-4.ensures

pub copy_as_target-returns-else-are_none-4 : goal.copy_as_target-returns-else-are_none-4
copy_as_target-returns-else-are_none-4 t c =
    outputs.conditional-others (new_name c.args.names.now) c.args.tree.now c.in-Conditional.last.value c.in-Conditional.last refl c.in-Conditional.choices c.deref-in-Conditional.result.now c.in-Conditional.is c.deref-in-Conditional.ensures.value
    (sym c.are_none-in-Conditional.ensures ∙ c.if-are_none-4.false)

pub copy_all_as_targets-loop-part-preserved : goal.copy_all_as_targets-loop-part-preserved
copy_all_as_targets-loop-part-preserved t c =
    targets_turn (new_name c.args.names.now) c.args.parts.now c.loop-part.part-index _ c.loop-part.targets.items c.push.new.self.items c.in-Some.target (omega arith) c.loop-part.invariant
    (ap (option_map target_of) (sym c.in-Some.is) ∙ c.in_ok-target.ensures ∙ ap (λ e. as_renamed (new_name c.args.names.now) (tree_of e)) c.part-item.is) c.in_ok-push-in-Some.ensures.items
