use Rattle.std.proofs.Common.{sym, ap}
use Rattle.wanted_terms.specs.Wanted.{with_marks}
use Rattle.emitted_names.proofs.PartMarks.{other_memories}
use Rattle.emitted_names.proofs.parts.mark_memories.Goals as goal

pub returns-in_default : goal.returns-in_default
returns-in_default c =
    sym (ap (λ ks. with_marks ks c.args.marks.now.items) (other_memories c.args.node c.in_default.not-Store c.in_default.not-Ite))
