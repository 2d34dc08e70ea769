use Rattle.term_evaluation.specs.Slots.{values_in}
use Rattle.term_evaluation.proofs.SlotLemmas.{keeps_then, slots_kept}
use Rattle.term_evaluation.proofs.PendingLemmas.{kept_at}
use Rattle.std.proofs.Common.{◌∙◌}
use Rattle.term_evaluation.proofs.evaluating.fill_term.Goals as goal

pub loop-words-preserved : goal.loop-words-preserved
loop-words-preserved c =
    let names = c.args.names.now in
    let before = c.loop-words.pool in
    let after = c.go_on.new.pool in
    let slots = slots_kept before after names c.in_ok-go_on.ensures.keeps c.loop-words.invariant.slots in
    record {
      slots = slots.0;
      values = slots.1 ∙ c.loop-words.invariant.values;
      keeps = keeps_then c.args.pool.now before after c.loop-words.invariant.keeps c.in_ok-go_on.ensures.keeps;
      kept =
          kept_at c.args.terms.now (values_in before names) (values_in c.args.pool.now names) after c.go_on.new.words c.go_on.new.links c.go_on.new.stamps c.args.time c.loop-words.invariant.values
          c.in_ok-go_on.ensures.kept;
      pending = c.in_ok-go_on.ensures.pending;
      first = c.in_ok-go_on.ensures.first c.args.id.0 c.loop-words.invariant.first;
      past = λ h. c.in_ok-go_on.ensures.past (c.loop-words.invariant.past h);
    }
