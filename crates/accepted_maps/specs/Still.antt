-- A map that no rule refuses gives states and invariants what uses no input.
use Rattle.verilog_designs.specs.Accepted.{IsAccepted}
use Rattle.refinement.specs.Map.{Setting, design_of}
use Rattle.map_files.specs.Written.{WrittenMap}
use Rattle.map_rules.specs.Accepted.{IsMapAccepted, case_of, StandsForMap}
use Rattle.input_free.specs.Still.{IsStillMap}

abbrev pub AcceptedMapsAreStill : Type 0
AcceptedMapsAreStill =
    (s : Setting) (w : WrittenMap) → IsAccepted (design_of s) → IsMapAccepted (case_of w s.model s.source) → StandsForMap s.model w s.map → IsStillMap s
