use Rattle.std.proofs.lemmas.List.Filters.{dedup_is}
use Rattle.sat_check.proofs.Numberings.{KeepsAll-sorted}
use Rattle.sat_check.proofs.numbering.thinned.Goals as goal

pub returns-then-len-limit : goal.returns-then-len-limit
returns-then-len-limit c = λ x member. member

pub returns : goal.returns
returns c =
    let is = dedup_is _ _ _ c.dedup.ensures.filtered in
    rw is (KeepsAll-sorted _ _ c.sort_unstable.ensures.permutation)
