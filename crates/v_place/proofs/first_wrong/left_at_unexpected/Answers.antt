use Rattle.std.proofs.Common.{◌≡◌, ◌<◌, ◌≤◌, ◌∙◌, Bool, cond, length, List, Option, Some, None, sym, ap, arith}
use Rattle.v_place.specs.Table.{Symbol}
use Rattle.v_place.specs.View.{expected_of}
use Rattle.v_place.proofs.Taken.{none_left, goes_on, stuck}
use Rattle.v_place.proofs.first_wrong.left_at_unexpected.Goals as goal

pub returns-then-not-branch : goal.returns-then-not-branch
returns-then-not-branch c =
    let ts = c.args.tokens.now in
    let within : c.loop-place.place < length ts = omega arith in
    let next : Option (List Symbol) = Some (expected_of c.take.new.expected.items) in
    sym
    (c.loop-place.invariant
    ∙ stuck ts c.loop-place.place _ (expected_of c.loop-place.expected.items) within (c.in_ok-take.ensures ∙ ap (λ (b : Bool). cond b next None) c.if-not-branch.true))

pub loop-place-preserved : goal.loop-place-preserved
loop-place-preserved c =
    let ts = c.args.tokens.now in
    let within : c.loop-place.place < length ts = omega arith in
    let next : Option (List Symbol) = Some (expected_of c.take.new.expected.items) in
    c.loop-place.invariant
    ∙ goes_on ts c.loop-place.place _ (expected_of c.loop-place.expected.items) (expected_of c.take.new.expected.items) within
    (c.in_ok-take.ensures ∙ ap (λ (b : Bool). cond b next None) c.if-not-branch.false)

pub returns : goal.returns
returns c =
    let ts = c.args.tokens.now in
    let past : length ts ≤ c.loop-place.place = omega arith in
    sym (c.loop-place.invariant ∙ none_left ts c.loop-place.place (expected_of c.loop-place.expected.items) past)
