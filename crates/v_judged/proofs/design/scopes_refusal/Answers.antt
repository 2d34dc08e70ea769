use Rattle.std.proofs.Common.{◌∙◌, sym, subst, ◌++◌}
use Rattle.v_places.specs.Views.{spots_of}
use Rattle.v_judged.specs.First.{IsFirst, rule_kinds, block_kinds, driver_kinds}
use Rattle.v_judged.specs.Standing.{IsSoundDesign}
use Rattle.v_judged.proofs.First.{joined, kept, none_is}
use Rattle.v_judged.proofs.design.scopes_refusal.Goals as goal

pub blocks_refusal-requires-clause-sound : goal.blocks_refusal-requires-clause-sound
blocks_refusal-requires-clause-sound c =
    let d = c.requires.named.0 in
    let h = c.requires.named.1 in
    let none = subst (IsFirst d rule_kinds) (none_is c.in_ok-rules.rules (sym c.is_some.ensures ∙ c.if-is_some.false))
    (c.in_ok-rules.ensures d c.args.numbers.now (spots_of c.args.places.now) c.requires.shared h) in
    (d, record { named = h; rules = none }, c.requires.named.2)

pub drivers_refusal-requires-clause-sound : goal.drivers_refusal-requires-clause-sound
drivers_refusal-requires-clause-sound c =
    let d = c.requires.named.0 in
    let h = c.requires.named.1 in
    let none = subst (IsFirst d rule_kinds) (none_is c.in_ok-rules.rules (sym c.is_some.ensures ∙ c.if-is_some.false))
    (c.in_ok-rules.ensures d c.args.numbers.now (spots_of c.args.places.now) c.requires.shared h) in
    (d, record { named = h; rules = none })

pub returns-then-is_some : goal.returns-then-is_some
returns-then-is_some c = λ d h k.
    kept d rule_kinds (block_kinds ++ driver_kinds) c.in_ok-rules.rules (sym c.is_some.ensures ∙ c.if-is_some.true)
    (c.in_ok-rules.ensures d c.args.numbers.now (spots_of c.args.places.now) c.requires.shared h)

pub returns-then-is_some-2 : goal.returns-then-is_some-2
returns-then-is_some-2 c = λ d h k.
    let none = subst (IsFirst d rule_kinds) (none_is c.in_ok-rules.rules (sym c.is_some.ensures ∙ c.if-is_some.false))
    (c.in_ok-rules.ensures d c.args.numbers.now (spots_of c.args.places.now) c.requires.shared h) in
    let sound : IsSoundDesign c.args.interfaces.now (spots_of c.args.places.now) d = record { named = h; rules = none } in
    joined d rule_kinds (block_kinds ++ driver_kinds) c.in_ok-blocks.blocks none
    (kept d block_kinds driver_kinds c.in_ok-blocks.blocks (sym c.is_some-2.ensures ∙ c.if-is_some-2.true)
    (c.in_ok-blocks.ensures d sound k))

pub returns : goal.returns
returns c = λ d h k.
    let none = subst (IsFirst d rule_kinds) (none_is c.in_ok-rules.rules (sym c.is_some.ensures ∙ c.if-is_some.false))
    (c.in_ok-rules.ensures d c.args.numbers.now (spots_of c.args.places.now) c.requires.shared h) in
    let sound : IsSoundDesign c.args.interfaces.now (spots_of c.args.places.now) d = record { named = h; rules = none } in
    let clear = subst (IsFirst d block_kinds) (none_is c.in_ok-blocks.blocks (sym c.is_some-2.ensures ∙ c.if-is_some-2.false))
    (c.in_ok-blocks.ensures d sound k) in
    joined d rule_kinds (block_kinds ++ driver_kinds) c.in_ok-drivers.drivers none (joined d block_kinds driver_kinds c.in_ok-drivers.drivers clear (c.in_ok-drivers.ensures d sound k))
