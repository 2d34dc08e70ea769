use Rattle.v_lex.proofs.Placed.{new_placed}
use Rattle.v_lex.proofs.state.Reader.new.Goals as goal

pub returns-clause-places : goal.returns-clause-places
returns-clause-places c = λ files. new_placed files c.new.result c.new-3.result.items c.new.ensures.empty c.new-3.ensures.items
