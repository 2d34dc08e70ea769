use Rattle.v_syntax.specs.Tree.{statement_of}
use Rattle.v_value.specs.Scope.{scope_at}
use Rattle.v_operators.proofs.Growing.{Grows-same, cut_back}
use Rattle.v_lower.specs.Table.{images_at}
use Rattle.v_write.proofs.Whole.{statement_lowered}
use Rattle.v_write.proofs.block.lower_statement.Goals as goal

pub run_statement-requires-clause-guard : goal.run_statement-requires-clause-guard
run_statement-requires-clause-guard c = tt

pub returns-in-Ok-clause-lowered : goal.returns-in-Ok-clause-lowered
returns-in-Ok-clause-lowered c =
    statement_lowered (scope_at c.args.scope.now) (images_at c.args.table.now) (images_at c.args.next.now) (images_at c.run_statement.new.table) (images_at c.run_statement.new.next) c.args.terms.now c.run_statement.new.terms (statement_of c.args.statement.now) c.in-Ok.ensures.ran

pub returns-in-Err-clause-grows : goal.returns-in-Err-clause-grows
returns-in-Err-clause-grows c =
    Grows-same c.args.terms.now c.cut.new.self (cut_back c.args.terms.now c.run_statement.new.terms c.cut.new.self c.len-before.result c.run_statement.ensures.grows c.len-before.ensures.terms c.cut.ensures.nodes)

pub returns-in-Err-clause-kept : goal.returns-in-Err-clause-kept
returns-in-Err-clause-kept c = cut_back c.args.terms.now c.run_statement.new.terms c.cut.new.self c.len-before.result c.run_statement.ensures.grows c.len-before.ensures.terms c.cut.ensures.nodes
