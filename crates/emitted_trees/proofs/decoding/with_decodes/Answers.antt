use Rattle.std.proofs.Common.{arith, map, length, refl}
use Rattle.v_syntax.specs.Source.{item_of}
use Rattle.emitted_names.proofs.Bounds.{id_below}
use Rattle.emitted_trees.proofs.Decodes.{no_decodes, decode_more, all_decodes}
use Rattle.emitted_trees.proofs.decoding.with_decodes.Goals as goal

pub loop-after-init : goal.loop-after-init
loop-after-init c = no_decodes c.args.wires.terms.now c.args.decodes.now _ _ c.in_ok-all.ensures

pub with_decode-requires : goal.with_decode-requires
with_decode-requires c = record {
  decode = id_below (length c.args.wires.terms.now.nodes) c.args.decodes.now _ c.id_at-decode.result c.requires.below c.id_at-decode.ensures;
  named = c.requires.named;
  none = omega (arith, c.loop-after-test.true, c.requires.none);
  one = omega (arith, c.loop-after-test.true, c.requires.one);
  decoding = c.requires.decoding;
}

pub loop-after-preserved : goal.loop-after-preserved
loop-after-preserved c =
    decode_more c.args.wires.terms.now c.args.decodes.now c.loop-after.after _ c.id_at-decode.result _ _ _ refl c.loop-after-test.true c.id_at-decode.ensures
    c.loop-after.invariant c.in_ok-all-2.ensures

pub returns : goal.returns
returns c =
    all_decodes c.args.wires.terms.now c.args.decodes.now c.loop-after.after _ _ (omega (arith, c.loop-after-test.false)) c.loop-after.invariant
