use Rattle.std.proofs.Common.{◌+◌, ◌-◌, length, refl, arith}
use Rattle.wb_values.specs.Value.{word}
use Rattle.v_value.specs.Scope.{scope_at}
use Rattle.v_operators.proofs.Growing.{Grows-trans, IsOfSort-kept}
use Rattle.v_lower.specs.Table.{images_at}
use Rattle.v_lower.proofs.Lowering.{images_kept}
use Rattle.v_write.proofs.Kept.{guard_there, part_kept}
use Rattle.v_write.proofs.Pieces.{part_at, next_within, begun, turned, finished}
use Rattle.v_write.proofs.writing.write_parts.Goals as goal

pub loop-i-init : goal.loop-i-init
loop-i-init c =
    begun (scope_at c.args.scope.now) (images_at c.args.table.now) c.args.terms.now c.args.guard c.args.parts.now c.args.number.0 c.args.width c.requires.parts c.requires.guard c.requires.number c.requires.known _ (omega arith) 0 refl

pub piece-requires-clause-number : goal.piece-requires-clause-number
piece-requires-clause-number c = IsOfSort-kept c.args.number.0 (word c.args.width) c.loop-i.invariant.grows c.requires.number

pub piece-requires-clause-some_bits : goal.piece-requires-clause-some_bits
piece-requires-clause-some_bits c = (part_at (scope_at c.args.scope.now) c.args.terms.now c.args.parts.now _ _ (omega arith) c.requires.parts).width.0

pub piece-requires-clause-within : goal.piece-requires-clause-within
piece-requires-clause-within c =
    let ps = c.args.parts.now in
    next_within ps _ (length ps - (c.loop-i.i + 1)) _ _ c.loop-i.low c.args.width (omega arith) (omega arith) (omega arith) c.loop-i.invariant.lowest c.requires.width

pub write_part-requires-clause-known : goal.write_part-requires-clause-known
write_part-requires-clause-known c = images_kept (scope_at c.args.scope.now) (images_at c.loop-i.table) c.loop-i.terms c.piece.new.terms c.in_ok-bits.ensures.grows c.loop-i.invariant.known

pub write_part-requires-clause-part : goal.write_part-requires-clause-part
write_part-requires-clause-part c =
    part_kept c.args.terms.now c.piece.new.terms (Grows-trans c.loop-i.invariant.grows c.in_ok-bits.ensures.grows) _ _
    (part_at (scope_at c.args.scope.now) c.args.terms.now c.args.parts.now _ _ (omega arith) c.requires.parts)

pub write_part-requires-clause-guard : goal.write_part-requires-clause-guard
write_part-requires-clause-guard c = guard_there c.args.terms.now c.piece.new.terms (Grows-trans c.loop-i.invariant.grows c.in_ok-bits.ensures.grows) c.args.guard c.requires.guard

pub loop-i-preserved : goal.loop-i-preserved
loop-i-preserved c =
    let ps = c.args.parts.now in
    turned (scope_at c.args.scope.now) (images_at c.args.table.now) c.args.terms.now c.args.guard ps c.args.number.0 c.args.width c.requires.parts c.requires.guard c.requires.number
    (images_at c.loop-i.table) (images_at c.write_part.new.table) c.loop-i.terms c.piece.new.terms c.write_part.new.terms _ (length ps - (c.loop-i.i + 1)) _ _ c.loop-i.low _ c.in_ok-bits.bits.0 (omega arith) (omega arith) (omega arith)
    c.loop-i.invariant c.in_ok-bits.ensures.grows c.in_ok-bits.ensures.made c.in_ok-write_part.ensures.grows c.in_ok-write_part.ensures.written refl

pub returns-clause-grows : goal.returns-clause-grows
returns-clause-grows c = c.loop-i.invariant.grows

pub returns-clause-written : goal.returns-clause-written
returns-clause-written c =
    finished (scope_at c.args.scope.now) (images_at c.args.table.now) c.args.terms.now c.args.guard c.args.parts.now c.args.number.0 c.args.width c.requires.parts c.requires.guard c.requires.number
    (images_at c.loop-i.table) c.loop-i.terms (length c.args.parts.now - c.loop-i.i) c.loop-i.low (omega arith) c.requires.width c.loop-i.invariant
