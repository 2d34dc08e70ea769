use Rattle.std.proofs.Common.{◌∙◌}
use Rattle.v_lex.specs.Nesting.{opening_of}
use Rattle.v_lex.proofs.Stacks.{is_open_there}
use Rattle.v_lex.proofs.nesting.is_open.Goals as goal

pub returns : goal.returns
returns c = c.has_such.ensures ∙ is_open_there (opening_of c.args.opening) c.args.stack.now
