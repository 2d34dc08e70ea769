use Rattle.std.proofs.Common.{arith}
use Rattle.emitted_texts.proofs.checking.check_plain.Goals as goal

pub returns : goal.returns
returns c = record {
  sorted = c.args.model.now.well_sorted;
  stored = c.check_stored.ensures;
  typed = c.check_typed.ensures;
  few = omega (arith, c.instruction_count-count.ensures);
  is_model = c.args.model.now.kept;
  childless = c.requires;
}
