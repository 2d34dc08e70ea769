use Rattle.std.proofs.Common.{◌∙◌, ◌++◌, ◌∷◌, [], ap, sym}
use Rattle.std.proofs.lemmas.List.{append-nil}
use Rattle.verilog_meaning.specs.Settled.{whole_name}
use Rattle.emitted_modules.specs.Stores.{if_so}
use Rattle.emitted_trees.specs.Words.{any_so_far}
use Rattle.emitted_trees.proofs.ways.with_stored.Goals as goal

pub returns-then-not-is_way : goal.returns-then-not-is_way
returns-then-not-is_way c = λ es e.
    e
    ∙ ap any_so_far (sym (append-nil es))
    ∙ ap (λ b. any_so_far (es ++ if_so b (whole_name c.args.name.now))) (sym c.if-not-is_way.true)

pub returns : goal.returns
returns c = λ es e.
    c.in_ok-more.ensures es e
    ∙ ap (λ x. any_so_far (es ++ x ∷ [])) c.whole.ensures ∙ ap (λ b. any_so_far (es ++ if_so b (whole_name c.args.name.now))) (sym c.if-not-is_way.false)
