use Rattle.std.proofs.Common.{◌≡◌, drop}
use Rattle.v_value.specs.Scope.{object_of}
use Rattle.v_narrow.specs.Fitting.{words_fit}
use Rattle.v_narrow.proofs.object.words_fit.Given as goal

abbrev pub invariant-loop-word : goal.invariant-loop-word
invariant-loop-word l = words_fit (object_of l.object) l.words ≡ words_fit (object_of l.object) (drop l.word-index l.words)
