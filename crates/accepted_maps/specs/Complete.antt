-- A map that no rule refuses has an entry with a bound for each instruction.
use Rattle.refinement.specs.Map.{Setting}
use Rattle.refinement.specs.Soundness.{IsComplete}
use Rattle.map_files.specs.Written.{WrittenMap}
use Rattle.map_rules.specs.Accepted.{IsMapAccepted, case_of, StandsForMap}

abbrev pub AcceptedMapsAreComplete : Type 0
AcceptedMapsAreComplete =
    (s : Setting) (w : WrittenMap) → IsMapAccepted (case_of w s.model s.source) → StandsForMap s.model w s.map → IsComplete s
