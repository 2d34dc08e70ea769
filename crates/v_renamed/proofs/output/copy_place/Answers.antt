use Rattle.std.proofs.Common.{◌∙◌, sym}
use Rattle.verilog_renamed.proofs.Paths.{ap2}
use Rattle.verilog_trees.specs.Syntax as pure
use Rattle.v_syntax.specs.Tree.{selects_of}
use Rattle.v_renamed.specs.NewNames.{new_name}
use Rattle.v_renamed.proofs.Statements.{place-at}
use Rattle.v_renamed.proofs.output.copy_place.Goals as goal

pub returns : goal.returns
returns c = ap2 pure.place c.name_for.ensures c.in_ok-selects.ensures ∙ sym (place-at (new_name c.args.names.now) c.args.name.now (selects_of c.args.selects.now))
