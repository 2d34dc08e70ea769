-- A script that is refused ends by its kind.
use Rattle.std.proofs.Common.{ℕ, List}
use Rattle.scripts.specs.Script.{script_reading}
use Rattle.refinement.specs.Map.{Setting, design_of}
use Rattle.ila_sim.specs.Scripts.{IsRefused}
use Rattle.ila_sim.specs.declared.refusal.ScriptKind.{ScriptKind}
use Rattle.ila_sim.specs.declared.refusal.ScriptKind.TheVariants.{BadLine, MissingInput}
use Rattle.ila_sim.specs.declared.refusal.ScriptRefusal.{ScriptRefusal}
use Rattle.script_cycles.specs.Read.{IsRefusedFor}
use Rattle.watch_report.specs.Ending.{IsEnding}
use Rattle.watch_report.specs.View.{refused_as}

pub refused : (s : Setting) (bytes : List ℕ) (refusal : ScriptRefusal) → IsRefusedFor (design_of s) bytes refusal → IsEnding s bytes (refused_as refusal.kind)
refused s bytes refusal h = by_kind refusal.kind h.kind
  where
    by_kind : (k : ScriptKind) → IsRefused k (script_reading h.names bytes) → IsEnding s bytes (refused_as k)
    by_kind BadLine e = record { names = h.names; are_names = h.are_names; is_reading = e }
    by_kind MissingInput e = record { names = h.names; are_names = h.are_names; is_reading = e }
