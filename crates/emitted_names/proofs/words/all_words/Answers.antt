use Rattle.std.proofs.Common.{◌≡◌, length, arith}
use Rattle.emitted_names.specs.Ids.{kept_by}
use Rattle.emitted_names.proofs.PartLists.{no_rows, one_row, all_rows}
use Rattle.emitted_names.proofs.words.all_words.Goals as goal

pub loop-place-init : goal.loop-place-init
loop-place-init c = no_rows c.args.terms.now (kept_by c.args.keep.now) _ c.new-rows.ensures.items

pub words_if-requires : goal.words_if-requires
words_if-requires c = record { ordered = c.requires; id = omega (arith, c.loop-place-test.true, c.len-place-end.ensures.terms) }

pub loop-place-preserved : goal.loop-place-preserved
loop-place-preserved c =
    let l = c.loop-place in
    one_row c.args.terms.now (kept_by c.args.keep.now) l.place l.rows.items _ c.in_ok-row.row l.invariant c.in_ok-row.ensures c.in_ok-push.ensures.items

pub returns : goal.returns
returns c =
    let e : c.loop-place.place ≡ length c.args.terms.now.nodes = omega (arith, c.loop-place-test.false, c.loop-place.auto.place-end, c.len-place-end.ensures.terms) in
    all_rows c.args.terms.now (kept_by c.args.keep.now) c.loop-place.place _ c.loop-place.rows.items e c.loop-place.invariant
