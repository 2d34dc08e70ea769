-- What a replay answers, and of which runs it tells.
use Rattle.std.specs.Prelude.{◌≡◌, List}
use Rattle.model_meaning.specs.Model.{Model}
use Rattle.verilog_designs.specs.Accepted.{IsAccepted}
use Rattle.verilog_exists.specs.Exists.{IsOfText}
use Rattle.refinement.specs.Map.{Setting, design_of}
use Rattle.refinement.specs.Run.{Run, IsRun}
use Rattle.v_design.specs.declared.values.Registers.{Registers}
use Rattle.v_design.specs.declared.values.Inputs.{Inputs}
use Rattle.v_design.specs.Seen.{register_values}
use Rattle.mapped_designs.specs.Mapped.{Mapped}
use Rattle.mapped_designs.specs.Runs.{IsRestZero}
use Rattle.mapped_designs.specs.Meaning.{IsMappedBy}
use Rattle.mapped_runs.specs.Sound.{IsSoundDesign}
use Rattle.mapped_runs.specs.Valued.{HasValues}
use Rattle.mapped_runs.specs.Breaking.{IsWithinCycles}
use Rattle.obligation_lists.specs.declared.claims.MapCounts.{MapCounts}
use Rattle.obligation_lists.specs.declared.claims.Obligation.{Obligation}
use Rattle.obligation_lists.specs.Claims.{obligation_of}
use Rattle.obligation_lists.specs.Counts.{AreCountsOf}
use Rattle.trace_files.specs.Replay as pure
use Rattle.shown_facts.specs.Values.{values_given}
use Rattle.trace_replay.specs.declared.replaying.Replayed.{Replayed}
use Rattle.trace_replay.specs.declared.replaying.Replayed.TheVariants.{Falsifies, HypothesisFails, Holds}

abbrev pub replayed_view : Replayed → pure.Replayed
replayed_view Falsifies = pure.falsifies
replayed_view (HypothesisFails k) = pure.hypothesis_fails k
replayed_view Holds = pure.obligation_holds

-- The setting is that of a model and of a design with a map that has these counts, and the obligation speaks of its own cycles alone.
pub record IsSettingOf (m : Model) (e : Mapped) (counts : MapCounts) (o : Obligation) (s : Setting) : Type 0 where
  pub model : s.model ≡ m
  pub mapped : IsMappedBy s e
  pub sound : IsSoundDesign e.parts
  pub counts_are : AreCountsOf m s.map counts
  pub within : IsWithinCycles (obligation_of s.map o)

-- A run of the design from these registers under these inputs, of as many cycles as the obligation speaks of.
pub record IsGivenRun (e : Mapped) (o : Obligation) (r : Registers) (is : List Inputs) (s : Setting) (run : Run) : Type 0 where
  pub is_run : IsRun s run o.cycles
  pub values : HasValues e.parts run o.cycles (values_given e.parts r is)

-- Such a run shows this of the obligation.
abbrev pub IsSoIn : Mapped → Obligation → Registers → List Inputs → Setting → pure.Replayed → Type 0
IsSoIn e o r is s answer = (run : Run) × IsGivenRun e o r is s run × pure.IsSo s run (obligation_of s.map o) answer

-- The design is accepted and its tree is that of a text, and what does not count of the registers is 0: then there is such a run.
pub record HasRunFrom (e : Mapped) (r : Registers) (s : Setting) : Type 0 where
  pub accepted : IsAccepted (design_of s)
  pub of_text : IsOfText (design_of s)
  pub rest : IsRestZero e.parts (register_values r)
