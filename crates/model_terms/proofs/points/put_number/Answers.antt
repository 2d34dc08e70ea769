use Rattle.std.proofs.Common.{◌≡◌, ◌∙◌, ◌^◌, nat_lt, cond, Some, None, ap}
use Rattle.std.specs.Prelude.{IsSome}
use Rattle.std.proofs.lemmas.Bool.{and_from}
use Rattle.wb_values.specs.Value.{word, Sort}
use Rattle.wb_terms.specs.declared.nodes.Node.TheVariants.{Const}
use Rattle.model_meaning.specs.Term.{is_width}
use Rattle.term_copies.proofs.Extending.{extended_by, extended_same, last_below}
use Rattle.model_terms.proofs.Choosing.{put_value, put_sort, is_some_of}
use Rattle.model_terms.proofs.points.put_number.Goals as goal

pub put-requires-clause-sorted : goal.put-requires-clause-sorted
put-requires-clause-sorted c =
    is_some_of _ (word c.args.width) (ap (λ b. cond b (Some (word c.args.width)) None) (and_from (is_width c.args.width) (nat_lt c.args.value (2 ^ c.args.width)) c.requires.width c.requires.fits))

pub returns-clause-sort : goal.returns-clause-sort
returns-clause-sort c =
    put_sort c.args.terms.now c.put.new.terms (Const c.args.width c.args.value) c.in_ok-id.id.0 c.in_ok-id.ensures.id c.in_ok-id.ensures.ok
    ∙ ap (λ b. cond b (Some (word c.args.width)) None) (and_from (is_width c.args.width) (nat_lt c.args.value (2 ^ c.args.width)) c.requires.width c.requires.fits)

pub returns-clause-value : goal.returns-clause-value
returns-clause-value c v = put_value c.args.terms.now c.put.new.terms (Const c.args.width c.args.value) c.in_ok-id.id.0 v c.in_ok-id.ensures.id c.in_ok-id.ensures.ok
