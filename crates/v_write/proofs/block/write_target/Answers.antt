use Rattle.v_operators.proofs.Growing.{Grows-same, cut_back}
use Rattle.v_write.proofs.block.write_target.Goals as goal

pub returns-in-Ok-clause-written : goal.returns-in-Ok-clause-written
returns-in-Ok-clause-written c = c.in-Ok.ensures.written

pub returns-in-Err-clause-grows : goal.returns-in-Err-clause-grows
returns-in-Err-clause-grows c =
    Grows-same c.args.terms.now c.cut.new.self (cut_back c.args.terms.now c.write_number.new.terms c.cut.new.self c.len-before.result c.write_number.ensures.grows c.len-before.ensures.terms c.cut.ensures.nodes)

pub returns-in-Err-clause-kept : goal.returns-in-Err-clause-kept
returns-in-Err-clause-kept c = cut_back c.args.terms.now c.write_number.new.terms c.cut.new.self c.len-before.result c.write_number.ensures.grows c.len-before.ensures.terms c.cut.ensures.nodes
