use Rattle.std.proofs.Common.{◌∙◌}
use Rattle.wb_values.specs.Value.{truth, as_number}
use Rattle.model_meaning.specs.Term.{val}
use Rattle.wb_terms.specs.Graph.{tree}
use Rattle.condition_terms.proofs.Forming.{IsTermOf-kept}
use Rattle.condition_terms.proofs.Comparing.{word_of}
use Rattle.obligation_terms.specs.Rest.{IsWithin}
use Rattle.obligation_terms.proofs.Resting.{within_all, word_below, and_always, and_before, same_within}
use Rattle.obligation_terms.proofs.rest.and_word_within.Goals as goal

pub returns-then-bits-mask-clause-told : goal.returns-then-bits-mask-clause-told
returns-then-bits-mask-clause-told c =
    let g = c.args.terms.now in
    let id = c.args.id.0 in
    let w = c.args.width in
    let a = c.args.address in
    and_always c.args.all.0 (λ v. IsWithin c.args.bits (word_of g id a v)) c.requires.all
    (λ v f. within_all w (word_of g id a v) c.args.bits (c.if-bits-mask.true ∙ c.mask.ensures) (word_below (val (tree g id) v) c.args.address_width w a (c.requires.sort.is_of v f) c.requires.address))

pub and_within-requires-clause-all : goal.and_within-requires-clause-all
and_within-requires-clause-all c = IsTermOf-kept c.args.all.0 truth c.in_ok-word.ensures.extended c.requires.all

pub and_within-requires-clause-sort : goal.and_within-requires-clause-sort
and_within-requires-clause-sort c = c.in_ok-word.ensures.word c.args.width c.requires.sort

pub returns-clause-told : goal.returns-clause-told
returns-clause-told c =
    let g = c.args.terms.now in
    let k = c.word_at.new.terms in
    let id = c.args.id.0 in
    let a = c.args.address in
    let word = c.in_ok-word.word.0 in
    and_before c.args.all.0 c.in_ok-id.id.0 (λ v. IsWithin c.args.bits (as_number (val (tree k word) v))) (λ v. IsWithin c.args.bits (word_of g id a v)) c.in_ok-word.ensures.extended
    c.in_ok-id.ensures.extended c.requires.all (λ v f. same_within c.args.bits (word_of g id a v) (val (tree k word) v) (c.in_ok-word.ensures.value v)) c.in_ok-id.ensures.told
