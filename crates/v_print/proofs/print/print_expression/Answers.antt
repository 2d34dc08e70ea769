use Rattle.std.proofs.Common.{[], sym, subst}
use Rattle.std.specs.String.{string_bytes}
use Rattle.v_syntax.specs.Tree.{tree_of}
use Rattle.v_print.specs.Reads.{ReadsAs}
use Rattle.v_print.specs.Spelled.{printed}
use Rattle.v_print.proofs.Finished.{finished, expression_reads}
use Rattle.v_print.proofs.print.print_expression.Goals as goal

pub returns : goal.returns
returns c =
    let e = tree_of c.args.expression.now in
    expression_reads e (string_bytes c.into_text.result)
    (subst (λ s. ReadsAs (string_bytes s) (printed e [])) (sym c.into_text.ensures) (finished c.new-out.result c.write.new.out (λ r. printed e r) c.new-out.ensures.text c.in_ok-write.ensures))
