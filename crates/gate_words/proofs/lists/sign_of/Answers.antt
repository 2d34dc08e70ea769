use Rattle.std.proofs.Common.{◌<◌, ◌-◌, length, false, arith, sym}
use Rattle.std.proofs.lemmas.List.{get_or-map}
use Rattle.std.proofs.lemmas.List.Elements.{All-get_or}
use Rattle.std.proofs.lemmas.Bool.{eqb-false}
use Rattle.gate_base.specs.Circuit.{bit_value, IsKnown}
use Rattle.gate_words.proofs.lists.sign_of.Goals as goal

pub returns-clause-value : goal.returns-clause-value
returns-clause-value c =
    let some = eqb-false (length c.args.xs.now) 0 (sym c.if-is_empty.ensures) in
    let i : length c.args.xs.now - 1 < length c.args.xs.now = omega (arith, some) in
    λ w. sym (get_or-map (bit_value w) c.args.xs.now (length c.args.xs.now - 1) _ false i)

pub returns-clause-known : goal.returns-clause-known
returns-clause-known c =
    let some = eqb-false (length c.args.xs.now) 0 (sym c.if-is_empty.ensures) in
    let i : length c.args.xs.now - 1 < length c.args.xs.now = omega (arith, some) in
    λ k h. All-get_or (IsKnown k) c.args.xs.now (length c.args.xs.now - 1) _ i h
