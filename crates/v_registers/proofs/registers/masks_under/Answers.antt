use Rattle.std.proofs.Common.{◌∙◌, ap}
use Rattle.verilog_meaning.specs.Register.{word_count}
use Rattle.v_value.specs.Scope.{scope_at}
use Rattle.v_registers.specs.Groups.{items_of}
use Rattle.v_registers.proofs.Splitting.{masks_so}
use Rattle.v_registers.proofs.registers.masks_under.Goals as goal

pub returns-in_ok-masks-in-Some : goal.returns-in_ok-masks-in-Some
returns-in_ok-masks-in-Some c = λ q e.
    masks_so (scope_at c.args.scope.now) q c.args.name.now c.args.groups.now c.in_ok-masks-in-Some.masks.items c.word_count-count.result c.deref.result.now
    (c.word_count-count.ensures ∙ ap word_count c.object.ensures) (c.deref.ensures.value ∙ ap items_of c.in-Some.ensures.value) c.in_ok-masks-in-Some.ensures.long
    c.in_ok-masks-in-Some.ensures.bits e

pub returns-in_ok-masks-in-None : goal.returns-in_ok-masks-in-None
returns-in_ok-masks-in-None c = λ q e.
    masks_so (scope_at c.args.scope.now) q c.args.name.now c.args.groups.now c.in_ok-masks-in-None.masks.items c.word_count-count.result _
    (c.word_count-count.ensures ∙ ap word_count c.object.ensures) (ap items_of c.in-None.ensures.value) c.in_ok-masks-in-None.ensures.long
    c.in_ok-masks-in-None.ensures.bits e
