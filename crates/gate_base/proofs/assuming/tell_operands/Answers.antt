use Rattle.std.proofs.Common.{rules, ◌≡◌, true, Some}
use Rattle.gate_base.proofs.assuming.tell_operands.Goals as goal

pub returns-then-eq : goal.returns-then-eq
returns-then-eq c circuit wanted facts told =
    let is : c.args.truth ≡ Some true = search rules in
    c.tell_both.ensures circuit wanted facts (told true is)
