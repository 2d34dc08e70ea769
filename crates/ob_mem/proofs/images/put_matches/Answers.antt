use Rattle.std.proofs.Common.{◌^◌, sym, subst, arith}
use Rattle.ob_mem.specs.Rows.{IsRow, tree_in, AreOver}
use Rattle.ob_mem.specs.declared.rows.Row.TheVariants.{Matches}
use Rattle.ob_mem.proofs.Storing.{matches_over}
use Rattle.ob_mem.proofs.images.put_matches.Goals as goal

pub put_row-requires : goal.put_row-requires
put_row-requires c =
    subst (AreOver c.args.terms.now (Matches c.args.x c.args.first)) (sym c.power.ensures)
    (matches_over c.args.terms.now c.args.x c.args.first (2 ^ c.args.width) c.args.width c.requires.x c.requires.words)

pub returns-clause-row : goal.returns-clause-row
returns-clause-row c = subst (IsRow c.args.terms.now c.put_row.new.terms (tree_in c.args.terms.now (Matches c.args.x c.args.first))) c.power.ensures c.in_ok-id.ensures.row
