use Rattle.emitted_names.proofs.PartLists.{IsNotBefore}
use Rattle.emitted_names.proofs.words.part_name.Given as goal

abbrev pub invariant-loop-part : goal.invariant-loop-part
invariant-loop-part l = IsNotBefore l.id.0 l.parts l.part-index
