use Rattle.std.proofs.Common.{◌≡◌, drop}
use Rattle.v_lex.specs.Notes.{furthest, furthest_from}
use Rattle.v_lex.proofs.answer.furthest.Given as goal

abbrev pub invariant-loop-token : goal.invariant-loop-token
invariant-loop-token l = furthest l.tokens ≡ furthest_from l.far (drop l.token-index l.tokens)
