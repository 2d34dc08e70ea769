use Rattle.std.proofs.Common.{◌∙◌, ap, sym, ◌++◌, take, [], ◌∷◌, arith, append_assoc}
use Rattle.map_reading.specs.Flags.{value_flags}
use Rattle.map_reading.proofs.Asking.{more_values}
use Rattle.map_reading.proofs.flags.add_value_flags.Goals as goal

pub loop-state-preserved : goal.loop-state-preserved
loop-state-preserved c =
    let before = value_flags (take c.loop-state.state-index c.args.states.now) in
    let one = value_flags (c.state-item.result ∷ []) in
    c.in_ok-add_value_flag.ensures
    ∙ (ap (λ z. z ++ one) c.loop-state.invariant
    ∙ (append_assoc c.args.flags.now.items before one
    ∙ ap (λ z. c.args.flags.now.items ++ z) (sym (more_values c.args.states.now c.loop-state.state-index c.state-item.result _ (omega arith) c.state-item.is))))
