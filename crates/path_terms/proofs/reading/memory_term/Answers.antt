use Rattle.std.proofs.Common.{sym, ap, subst, ◌∙◌, option_map}
use Rattle.v_syntax.specs.Tree.{tree_of}
use Rattle.v_value.specs.Scope.{scope_at}
use Rattle.v_lower.specs.Table.{images_at}
use Rattle.path_terms.specs.Mapped.{IsTermFor}
use Rattle.path_terms.proofs.Made.{memory_made}
use Rattle.path_terms.proofs.reading.memory_term.Goals as goal

pub returns : goal.returns
returns c =
    let m = c.requires.memory in
    subst (λ t. IsTermFor (scope_at c.args.scope.now) (images_at c.args.table.now) c.args._terms.now t (tree_of c.args.expression.now) c.in-Some.id.0) (sym m.2)
    (memory_made (scope_at c.args.scope.now) (images_at c.args.table.now) c.args._terms.now m.0 m.1 (tree_of c.args.expression.now) c.in-Some.id.0 c.requires.known m.3
    (ap (option_map (λ k. k.0)) (sym c.in-Some.is) ∙ c.named_term.ensures))
