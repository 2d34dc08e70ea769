use Rattle.std.proofs.Common.{◌≤◌, sym, subst, arith}
use Rattle.v_syntax.specs.Tree.{tree_of, target_of}
use Rattle.v_value.specs.Scope.{scope_at}
use Rattle.v_lower.specs.Table.{images_at}
use Rattle.v_lower.proofs.Lowering.{images_kept}
use Rattle.v_settle.proofs.Visits.{link-lowered}
use Rattle.v_settle.proofs.driver.lower_link.Goals as goal

pub target_width-width-requires-clause-narrow : goal.target_width-width-requires-clause-narrow
target_width-width-requires-clause-narrow c = c.requires.fit.narrow.0

pub target_width-width-requires-clause-at_most_128 : goal.target_width-width-requires-clause-at_most_128
target_width-width-requires-clause-at_most_128 c = c.requires.fit.targets

pub assigned-requires-clause-sound : goal.assigned-requires-clause-sound
assigned-requires-clause-sound c = c.requires.sound.value

pub assigned-requires-clause-some_bits : goal.assigned-requires-clause-some_bits
assigned-requires-clause-some_bits c = subst (λ k. 1 ≤ k) (sym c.target_width-width.ensures) c.requires.sound.some_bits

pub assigned-requires-clause-at_most_128 : goal.assigned-requires-clause-at_most_128
assigned-requires-clause-at_most_128 c = subst (λ k. k ≤ 128) (sym c.target_width-width.ensures) c.requires.sound.at_most_128

pub write_bits-requires-clause-known : goal.write_bits-requires-clause-known
write_bits-requires-clause-known c =
    images_kept (scope_at c.args.scope.now) (images_at c.args.table.now) c.args.terms.now c.assigned.new.terms c.in_ok-number.ensures.grows c.requires.known

pub write_bits-requires-clause-nets : goal.write_bits-requires-clause-nets
write_bits-requires-clause-nets c = c.requires.sound.nets

pub write_bits-requires-clause-narrow : goal.write_bits-requires-clause-narrow
write_bits-requires-clause-narrow c = c.requires.fit.narrow.0

pub write_bits-requires-clause-number : goal.write_bits-requires-clause-number
write_bits-requires-clause-number c = c.in_ok-number.ensures.assigned.of_sort

pub write_bits-requires-clause-within : goal.write_bits-requires-clause-within
write_bits-requires-clause-within c = let e = c.target_width-width.ensures in omega (arith, e)

pub returns-clause-lowered : goal.returns-clause-lowered
returns-clause-lowered c =
    link-lowered (scope_at c.args.scope.now) (images_at c.args.table.now) c.args.terms.now c.assigned.new.terms (target_of c.args.target.now) (tree_of c.args.value.now)
    c.in_ok-number.number.0 c.target_width-width.result (images_at c.write_bits.new.table) c.write_bits.new.terms c.requires.parameters c.requires.sound.constant
    c.requires.known c.in_ok-number.ensures.grows c.target_width-width.ensures c.in_ok-number.ensures.assigned c.in_ok-write_bits.ensures.written
