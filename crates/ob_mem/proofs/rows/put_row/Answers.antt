use Rattle.std.proofs.Common.{◌≡◌, ◌+◌, suc, arith, refl, sym, subst}
use Rattle.ob_mem.specs.Rows.{IsRow, tree_in}
use Rattle.ob_mem.proofs.Growing.{row_grows, row_more, row_start, next_over, next_tree, next_sorted}
use Rattle.ob_mem.proofs.rows.put_row.Goals as goal

pub put_in-requires-clause-over : goal.put_in-requires-clause-over
put_in-requires-clause-over c =
    let l = c.loop-place in
    next_over c.args.terms.now l.terms c.args.row c.args.count l.place c.requires (row_grows (tree_in c.args.terms.now c.args.row) l.place l.invariant) c.loop-place-test.true

pub put_in-requires-clause-sorted : goal.put_in-requires-clause-sorted
put_in-requires-clause-sorted c =
    let l = c.loop-place in
    next_sorted c.args.terms.now l.terms c.args.row c.args.count l.place c.requires (row_grows (tree_in c.args.terms.now c.args.row) l.place l.invariant) c.loop-place-test.true

pub loop-place-init : goal.loop-place-init
loop-place-init c = row_start c.args.terms.now (tree_in c.args.terms.now c.args.row)

pub loop-place-preserved : goal.loop-place-preserved
loop-place-preserved c =
    let l = c.loop-place in
    let g = c.args.terms.now in
    let f = tree_in g c.args.row in
    let e : suc l.place ≡ l.place + 1 = omega arith in
    let more : IsRow g c.put_in.new.terms f (suc l.place) =
    row_more g l.terms c.put_in.new.terms f l.place _ l.invariant c.in_ok-put_in.ensures.names c.in_ok-put_in.ensures.trees
    (next_tree g l.terms c.args.row c.args.count l.place c.requires (row_grows f l.place l.invariant) c.loop-place-test.true) in
    subst (IsRow g c.put_in.new.terms f) e more
