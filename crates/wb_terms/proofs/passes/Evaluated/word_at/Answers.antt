use Rattle.std.proofs.Common.{arith}
use Rattle.wb_terms.proofs.HeldLemmas.{HasSortOf-held}
use Rattle.wb_terms.proofs.passes.Evaluated.word_at.Goals as goal

pub returns-clause-sorted : goal.returns-clause-sorted
returns-clause-sorted c = HasSortOf-held _ _ _ _ (c.requires.holds.held c.args.id.0 c.word_at.result c.requires.id)
