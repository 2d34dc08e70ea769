use Rattle.std.proofs.Common.{◌∙◌, [], ◌∷◌, subst}
use Rattle.verilog_meaning.specs.Expression.{no_values}
use Rattle.verilog_meaning.specs.Statement.{named_place}
use Rattle.v_syntax.specs.Tree.{selects_of}
use Rattle.v_value.specs.Scope.{scope_at}
use Rattle.v_lower.specs.Table.{images_at}
use Rattle.v_lower.proofs.Lowering.{images_kept}
use Rattle.v_settle.specs.Drivers.{AreBitsWritten}
use Rattle.v_settle.proofs.Placed.{place_count, one_written}
use Rattle.v_settle.proofs.writing.write_place.Goals as goal

pub write_part-requires-clause-known : goal.write_part-requires-clause-known
write_part-requires-clause-known c =
    images_kept (scope_at c.args.scope.now) (images_at c.args.table.now) c.args.terms.now c.piece.new.terms c.in_ok-bits.ensures.grows c.requires.known

pub returns-clause-written : goal.returns-clause-written
returns-clause-written c =
    let s = scope_at c.args.scope.now in
    let n = c.args.name.now in
    let x = selects_of c.args.selects.now in
    let q = named_place s no_values n x in
    let a = images_at c.args.table.now in
    let b = images_at c.write_part.new.table in
    subst (λ k. AreBitsWritten s a c.args.terms.now (q ∷ []) k c.args.number.0 c.args.width c.args.low b c.write_part.new.terms) c.place_width-count.ensures
    (one_written s a c.args.terms.now c.piece.new.terms q c.args.number.0 c.args.width c.args.low c.place_width-count.result c.in_ok-bits.bits.0 b c.write_part.new.terms
    c.requires.known c.in_ok-bits.ensures.grows (c.place_width-count.ensures ∙ place_count s n x c.requires.net c.requires.one) c.in_ok-bits.ensures.made
    c.in_ok-write_part.ensures.written)
