use Rattle.std.proofs.Common.{◌∙◌, ◌++◌, ◌∷◌, [], ap, map, sym, refl}
use Rattle.std.proofs.lemmas.List.{append-nil}
use Rattle.wb_terms.specs.Sort.{as_sort}
use Rattle.v_syntax.specs.Tree.{statement_of}
use Rattle.emitted_modules.specs.Rtl as rtl
use Rattle.emitted_trees.proofs.Written.{no_kept, one_kept}
use Rattle.emitted_trees.proofs.resets.with_kept_word.Goals as goal

pub returns-then-not-is_memory : goal.returns-then-not-is_memory
returns-then-not-is_memory c =
    let front = map statement_of c.args.statements.items in
    sym (append-nil front)
    ∙ ap (λ us. front ++ map rtl.writes us) (sym (no_kept c.args.name.now (as_sort c.args.sort) (sym c.is_memory.ensures ∙ c.if-not-is_memory.true)))

pub returns : goal.returns
returns c =
    let front = map statement_of c.args.statements.items in
    c.in_ok-all.ensures
    ∙ ap (λ x. front ++ x ∷ []) c.in_ok-kept.ensures
    ∙ ap (λ xs. front ++ xs) (one_kept c.args.name.now (as_sort c.args.sort) _ (sym c.is_memory.ensures ∙ c.if-not-is_memory.false) (λ a b. refl))
