use Rattle.std.proofs.lemmas.List.Filters.{dedup_is}
use Rattle.std.proofs.lemmas.Map.Keys.{IsStrictlyIncreasing-dedup}
use Rattle.sat_check.proofs.Numberings.{HasVariables-sorted, HasVariables-kept}
use Rattle.sat_check.proofs.numbering.variables_of.Goals as goal

pub returns-clause-increasing : goal.returns-clause-increasing
returns-clause-increasing c =
    let is = dedup_is _ _ _ c.dedup.ensures.filtered in
    rw is (IsStrictlyIncreasing-dedup _ c.sort_unstable.ensures.sorted)

pub returns-clause-clauses : goal.returns-clause-clauses
returns-clause-clauses c =
    let is = dedup_is _ _ _ c.dedup.ensures.filtered in
    rw is (HasVariables-sorted _ _ _ c.sort_unstable.ensures.permutation
    (HasVariables-kept _ _ _ c.in_ok-push_lemmas.ensures.kept c.in_ok-push_clauses.ensures.added))

pub returns-clause-lemmas : goal.returns-clause-lemmas
returns-clause-lemmas c =
    let is = dedup_is _ _ _ c.dedup.ensures.filtered in
    rw is (HasVariables-sorted _ _ _ c.sort_unstable.ensures.permutation c.in_ok-push_lemmas.ensures.added)
