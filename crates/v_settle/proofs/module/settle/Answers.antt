use Rattle.v_operators.proofs.Growing.{Grows-same, cut_back}
use Rattle.v_settle.proofs.module.settle.Goals as goal

pub returns-in-Err-clause-grows : goal.returns-in-Err-clause-grows
returns-in-Err-clause-grows c =
    Grows-same c.args.terms.now c.cut.new.self
    (cut_back c.args.terms.now c.settle_all.new.terms c.cut.new.self c.len-before.result c.settle_all.ensures.grows c.len-before.ensures.terms c.cut.ensures.nodes)

pub returns-in-Err-clause-kept : goal.returns-in-Err-clause-kept
returns-in-Err-clause-kept c =
    cut_back c.args.terms.now c.settle_all.new.terms c.cut.new.self c.len-before.result c.settle_all.ensures.grows c.len-before.ensures.terms c.cut.ensures.nodes
