use Rattle.std.proofs.Common.{◌∙◌, ◌++◌, ◌∷◌, [], ap, map, sym}
use Rattle.std.specs.Prelude.{option_map}
use Rattle.std.proofs.lemmas.List.{append-nil}
use Rattle.wb_terms.specs.Sort.{as_sort}
use Rattle.wb_terms.specs.Environment.{as_value}
use Rattle.v_syntax.specs.Tree.{statement_of}
use Rattle.emitted_modules.specs.Rtl as rtl
use Rattle.emitted_trees.proofs.Written.{no_first, one_first}
use Rattle.emitted_trees.proofs.resets.with_first_take.Goals as goal

pub returns-then-is_memory : goal.returns-then-is_memory
returns-then-is_memory c =
    let front = map statement_of c.args.statements.items in
    sym (append-nil front)
    ∙ ap (λ us. front ++ map rtl.takes us) (sym (no_first c.args.name.now (as_sort c.args.sort) (option_map as_value c.args.initial.now) (sym c.is_memory.ensures ∙ c.if-is_memory.true)))

pub returns : goal.returns
returns c =
    let front = map statement_of c.args.statements.items in
    c.in_ok-all.ensures
    ∙ ap (λ x. front ++ x ∷ []) (c.in_ok-take.ensures ∙ ap (λ e. rtl.takes (c.args.name.now, e)) c.first_value.ensures)
    ∙ ap (λ us. front ++ map rtl.takes us) (sym (one_first c.args.name.now (as_sort c.args.sort) (option_map as_value c.args.initial.now) (sym c.is_memory.ensures ∙ c.if-is_memory.false)))
