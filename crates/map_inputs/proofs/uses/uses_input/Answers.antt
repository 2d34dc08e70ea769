use Rattle.std.proofs.Common.{◌≡◌, ◌∙◌, ap, sym, subst}
use Rattle.std.specs.Prelude.{IsTrue, ◌↔◌}
use Rattle.verilog_designs.specs.Reads.{or_in, reads}
use Rattle.v_syntax.specs.Tree.{tree_of}
use Rattle.v_value.specs.Scope.{scope_at}
use Rattle.v_flow.specs.Spans.{bits_in}
use Rattle.v_masks.specs.Masks.{masked}
use Rattle.v_renamed.specs.NewNames.{new_name}
use Rattle.map_inputs.specs.Spans.{AreRenamedSpans}
use Rattle.map_inputs.proofs.Renaming.{answered}
use Rattle.map_inputs.proofs.uses.uses_input.Goals as goal

pub returns : goal.returns
returns c =
    let e = reads (scope_at c.args.scope.now) (tree_of c.args.tree.now) in
    answered (new_name c.args.names.now) (masked c.args.marked.now) e c.deref.result.now c.deref-2.result.now c.meets-some.result
    (ap bits_in c.deref.ensures.value ∙ c.in_ok-add_reads.ensures ∙ ap (λ ys. or_in (bits_in ys) e) c.new-read.ensures.items)
    (subst (λ ys. AreRenamedSpans (new_name c.args.names.now) c.deref.result.now ys) (sym c.deref-2.ensures.value) c.in_ok-found.ensures)
    c.meets-some.ensures
