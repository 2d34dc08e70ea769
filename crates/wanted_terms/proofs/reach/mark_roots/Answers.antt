use Rattle.std.proofs.Common.{length, refl, arith}
use Rattle.wanted_terms.proofs.Marks.{rooting_start, rooting_more, rooting_end, below_at}
use Rattle.wanted_terms.proofs.reach.mark_roots.Goals as goal

pub loop-place-init : goal.loop-place-init
loop-place-init c = rooting_start c.args.roots.now (length c.args.marks.now.items) c.args.marks.now.items refl

pub index_mut-requires : goal.index_mut-requires
index_mut-requires c =
    let l = c.loop-place in
    omega (arith, below_at (length c.args.marks.now.items) c.args.roots.now l.place (record { 0 = 0 }) c.requires c.loop-place-test.true, l.invariant.room, l.marks.ok.0)

pub loop-place-preserved : goal.loop-place-preserved
loop-place-preserved c =
    let l = c.loop-place in
    rooting_more c.args.roots.now (length c.args.marks.now.items) l.marks.items l.place (record { 0 = 0 }) c.requires c.loop-place-test.true l.invariant

pub returns : goal.returns
returns c = record {
  marked = rooting_end c.args.roots.now (length c.args.marks.now.items) c.loop-place.marks.items c.loop-place.place (omega (arith, c.loop-place-test.false)) c.loop-place.invariant;
  length = c.loop-place.invariant.room;
}
