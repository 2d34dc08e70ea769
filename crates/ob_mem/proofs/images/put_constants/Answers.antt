use Rattle.std.proofs.Common.{sym, subst, arith}
use Rattle.ob_mem.specs.Rows.{IsRow, tree_in, AreOver}
use Rattle.ob_mem.specs.declared.rows.Row.TheVariants.{Constants}
use Rattle.ob_mem.proofs.Storing.{constants_over}
use Rattle.ob_mem.proofs.images.put_constants.Goals as goal

pub put_row-requires : goal.put_row-requires
put_row-requires c = subst (AreOver c.args.terms.now (Constants c.args.width)) (sym c.power.ensures) (constants_over c.args.terms.now c.args.width c.requires.some c.requires.narrow)

pub returns-clause-row : goal.returns-clause-row
returns-clause-row c = subst (IsRow c.args.terms.now c.put_row.new.terms (tree_in c.args.terms.now (Constants c.args.width))) c.power.ensures c.in_ok-id.ensures.row
