use Rattle.std.proofs.Common.{◌≡◌, ◌∙◌, ◌<◌, ◌&&◌, ◌^◌, get_or, nat_le, IsTrue, ap, sym, subst, arith}
use Rattle.std.proofs.lemmas.List.{get_or_default}
use Rattle.model_meaning.specs.Term.{is_width}
use Rattle.wb_terms.proofs.HeldLemmas.{both}
use Rattle.ob_mem.specs.Rows.{IsRow, tree_in, AreOver}
use Rattle.ob_mem.specs.declared.rows.Row.TheVariants.{Names}
use Rattle.ob_mem.proofs.Counting.{row_counted}
use Rattle.ob_mem.proofs.Growing.{row_grows}
use Rattle.ob_mem.proofs.Imaging.{leaf_over, leaf_image}
use Rattle.ob_mem.proofs.images.put_leaf.Goals as goal

pub start-first-requires : goal.start-first-requires
start-first-requires c = omega (arith, c.requires.firsts.room, c.requires.name)

pub put_row-requires : goal.put_row-requires
put_row-requires c =
    let n = c.args.name.0 in
    let at : get_or c.args.firsts.now n 0 ≡ c.start-first.result = c.start-first.ensures in
    subst (AreOver c.args.terms.now (Names (record { 0 = c.start-first.result }))) (sym c.power.ensures)
    (leaf_over c.args.old.now c.args.terms.now c.args.list.now c.args.firsts.now n c.start-first.result c.args.address_width c.requires.sort.0 c.requires.firsts c.requires.name at c.requires.sort.1
    (both (nat_le 1 c.args.address_width && nat_le c.args.address_width 16) (is_width c.requires.sort.0) c.requires.sort.2).1)

pub returns-clause-grows : goal.returns-clause-grows
returns-clause-grows c = row_grows (tree_in c.args.terms.now (Names (record { 0 = c.start-first.result }))) c.power.result c.in_ok-id.ensures.row

pub returns-clause-image : goal.returns-clause-image
returns-clause-image c =
    let n = c.args.name.0 in
    let at : get_or c.args.firsts.now n 0 ≡ c.start-first.result = c.start-first.ensures in
    let row = subst (IsRow c.args.terms.now c.put_row.new.terms (tree_in c.args.terms.now (Names (record { 0 = c.start-first.result })))) c.power.ensures c.in_ok-id.ensures.row in
    leaf_image c.args.old.now c.args.terms.now c.put_row.new.terms c.args.list.now c.args.firsts.now n c.start-first.result c.in_ok-id.id.0 c.args.address_width c.requires.sort.0 c.requires.firsts c.requires.name at c.requires.sort.1
    (both (nat_le 1 c.args.address_width && nat_le c.args.address_width 16) (is_width c.requires.sort.0) c.requires.sort.2).1 c.requires.sort.2 c.in_ok-id.ensures.first row

pub returns-clause-count : goal.returns-clause-count
returns-clause-count c =
    let row = row_counted c.args.terms.now c.put_row.new.terms (tree_in c.args.terms.now (Names (record { 0 = c.start-first.result }))) c.power.result c.in_ok-id.ensures.row in
    omega (arith, row, c.power.ensures)
