use Rattle.std.proofs.Common.{◌∙◌, sym, rules}
use Rattle.wb_words.proofs.Readings.{names_copied, no_names}
use Rattle.wb_words.proofs.matches.some_names.Goals as goal

pub returns-then-is_empty-clause-names : goal.returns-then-is_empty-clause-names
returns-then-is_empty-clause-names c = no_names c.args.names.now (sym c.is_empty.ensures ∙ c.if-is_empty.true)

pub returns-clause-names : goal.returns-clause-names
returns-clause-names c =
    names_copied c.args.names.now c.in_ok-to_vec.field-0.items (sym c.is_empty.ensures ∙ c.if-is_empty.false)
    (c.in_ok-to_vec.ensures.items_if_clones_equal (λ x y same. search rules))
