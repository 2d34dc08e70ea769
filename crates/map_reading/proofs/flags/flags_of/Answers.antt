use Rattle.std.proofs.Common.{◌∙◌, ap, ◌++◌, replicate, true, false}
use Rattle.map_reading.specs.Flags.{value_flags}
use Rattle.map_reading.proofs.Asking.{all_flags}
use Rattle.map_reading.proofs.flags.flags_of.Goals as goal

pub returns : goal.returns
returns c = λ m w p tokens stands.
    all_flags m w c.args.tokens.now p tokens stands c.new-flags.result.items c.add_flags.new.flags.items c.add_flags-2.new.flags.items c.push.new.self.items
    c.add_value_flags.new.flags.items c.add_flags-3.new.flags.items c.add_flags-4.new.flags.items c.new-flags.ensures.items
    (c.in_ok-add_flags.ensures ∙ ap (λ n. c.new-flags.result.items ++ replicate n false) (c.len.ensures ∙ c.args.tokens.now.assume.ok.0))
    (c.in_ok-add_flags-2.ensures ∙ ap (λ n. c.add_flags.new.flags.items ++ replicate n true) (c.len-2.ensures ∙ c.args.tokens.now.invariants.ok.0)) c.in_ok-push.ensures.items
    (c.in_ok-add_value_flags.ensures ∙ ap (λ s. c.push.new.self.items ++ value_flags s) c.deref.ensures.value)
    (c.in_ok-add_flags-3.ensures ∙ ap (λ n. c.add_value_flags.new.flags.items ++ replicate n false) (c.len-3.ensures ∙ c.args.tokens.now.inputs.ok.0))
    (c.in_ok-add_flags-4.ensures ∙ ap (λ n. c.add_flags-3.new.flags.items ++ replicate n false) (c.len-4.ensures ∙ c.args.tokens.now.instructions.ok.0))
