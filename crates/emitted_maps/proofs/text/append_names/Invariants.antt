use Rattle.std.proofs.Common.{◌≡◌, ◌++◌, [], ◌∷◌, drop}
use Rattle.std.specs.String.{string_bytes}
use Rattle.reports.specs.Report.{with_commas}
use Rattle.emitted_maps.proofs.Joined.{left_of, named}
use Rattle.emitted_maps.proofs.text.append_names.Given as goal

abbrev pub invariant-loop-index : goal.invariant-loop-index
invariant-loop-index l =
    string_bytes l.text ++ left_of l.index (named (drop l.index l.fn.names)) ≡ (string_bytes l.fn.text ++ 123 ∷ []) ++ with_commas (named l.fn.names)
