use Rattle.std.proofs.Common.{drop, ◌++◌, ◌∷◌, []}
use Rattle.sat_check.proofs.Walks.{IsWalked}
use Rattle.sat_check.proofs.walk.leads_to_conflict.Given as goal

abbrev pub invariant-loop-hint : goal.invariant-loop-hint
invariant-loop-hint l =
    IsWalked l.clauses l.earlier l.initial.marks l.hints l.marks (drop l.hint-index l.others ++ (l.last ∷ []))
