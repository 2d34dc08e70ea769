use Rattle.std.proofs.Common.{◌≡◌, ◌++◌, [], ◌∷◌, drop}
use Rattle.std.specs.String.{string_bytes}
use Rattle.reports.specs.Report.{with_commas}
use Rattle.emitted_maps.proofs.Joined.{left_of}
use Rattle.emitted_maps.proofs.Entries.{entries}
use Rattle.emitted_maps.proofs.text.append_instructions.Given as goal

abbrev pub invariant-loop-index : goal.invariant-loop-index
invariant-loop-index l =
    let p = l.fn.model.parts in
    string_bytes l.text ++ left_of l.index (entries p (drop l.index p.instructions.items))
    ≡ (string_bytes l.fn.text ++ 91 ∷ []) ++ with_commas (entries p p.instructions.items)
