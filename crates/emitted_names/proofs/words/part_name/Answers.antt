use Rattle.std.proofs.Common.{◌∙◌, length, refl, sym, arith}
use Rattle.std.proofs.lemmas.Bool.{eqb-true}
use Rattle.std.proofs.lemmas.Option.{slice_get_read}
use Rattle.emitted_names.proofs.PartLists.{not_here, named_here}
use Rattle.emitted_names.proofs.words.part_name.Goals as goal

pub loop-part-init : goal.loop-part-init
loop-part-init c = λ j low f. absurd (omega (arith, low))

pub loop-part-preserved : goal.loop-part-preserved
loop-part-preserved c =
    let i = c.loop-part.part-index in
    not_here c.args.id.0 c.args.parts.now i c.part-item.result c.is_named.result
    (slice_get_read c.args.parts.now (length c.args.parts.now) i c.part-item.result refl (omega arith) c.part-item.is) c.is_named.ensures c.if-is_named.false
    c.loop-part.invariant

pub returns-then-is_named : goal.returns-then-is_named
returns-then-is_named c =
    let i = c.loop-part.part-index in
    λ name ks e. c.as_str.ensures.value
    ∙ named_here name c.args.parts.now ks i c.part-item.result c.args.id.0
    (slice_get_read c.args.parts.now (length c.args.parts.now) i c.part-item.result refl (omega arith) c.part-item.is) (omega arith)
    (eqb-true c.part-item.result.id.0 c.args.id.0 (sym c.is_named.ensures ∙ c.if-is_named.true)) e

pub unreachable-requires : goal.unreachable-requires
unreachable-requires c = c.loop-part.invariant c.requires.at (omega (arith, c.requires.within)) c.requires.is
