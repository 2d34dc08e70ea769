use Rattle.emitted_names.specs.Ids.{kept_by}
use Rattle.emitted_names.specs.Parts.{AreWords}
use Rattle.emitted_names.proofs.words.all_words.Given as goal

abbrev pub invariant-loop-place : goal.invariant-loop-place
invariant-loop-place l = AreWords l.terms (kept_by l.keep) l.place l.rows.items
