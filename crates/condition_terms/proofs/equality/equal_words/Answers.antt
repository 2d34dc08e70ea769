use Rattle.wb_values.specs.Value.{word, memory}
use Rattle.condition_terms.proofs.Forming.{IsTermOf-kept}
use Rattle.condition_terms.proofs.Comparing.{words_told}
use Rattle.condition_terms.proofs.equality.equal_words.Goals as goal

pub word_at-requires-2-clause-sort : goal.word_at-requires-2-clause-sort
word_at-requires-2-clause-sort c =
    (c.requires.sorts.0, IsTermOf-kept c.args.right.0 (memory c.args.address_width c.requires.sorts.0) c.in_ok-first.ensures.extended c.requires.sorts.2)

pub equal_numbers-requires : goal.equal_numbers-requires
equal_numbers-requires c =
    let d = c.requires.sorts.0 in (
      word d,
      IsTermOf-kept c.in_ok-first.first.0 (word d) c.in_ok-second.ensures.extended (c.in_ok-first.ensures.word d c.requires.sorts.1),
      c.in_ok-second.ensures.word d (IsTermOf-kept c.args.right.0 (memory c.args.address_width d) c.in_ok-first.ensures.extended c.requires.sorts.2),
      tt,
    )

pub returns-clause-told : goal.returns-clause-told
returns-clause-told c =
    let d = c.requires.sorts.0 in
    words_told c.args.terms.now c.word_at.new.terms c.word_at-2.new.terms c.equal_numbers.new.terms c.args.left.0 c.args.right.0 c.in_ok-first.first.0 c.in_ok-second.second.0 c.in_ok-id.id.0
    c.args.address_width d c.args.address c.in_ok-first.ensures.extended c.in_ok-second.ensures.extended c.requires.sorts.2 (c.in_ok-first.ensures.word d c.requires.sorts.1)
    c.in_ok-first.ensures.value c.in_ok-second.ensures.value c.in_ok-id.ensures.told
