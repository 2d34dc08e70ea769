-- The pure facts and obligations that the code's stand for.
use Rattle.std.specs.Prelude.{List, [], ◌∷◌, ◌++◌}
use Rattle.std.specs.String.{string_bytes}
use Rattle.refinement.specs.Map.{Map}
use Rattle.refinement.specs.Obligation as pure
use Rattle.refinement.specs.Obligation.{for_each, invariants_at, premises_at, start_hypotheses, started_by, not_ended, ended_at}
use Rattle.obligation_lists.specs.declared.claims.Fact.{Fact}
use Rattle.obligation_lists.specs.declared.claims.Fact.TheVariants.{ResetActive, ResetInactive, Assumed, Invariant, Start, NoStart, Decoded, Commit, NoCommit, Initial, Same, OneDecodes, Ends, ResultOf, Never}
use Rattle.obligation_lists.specs.declared.claims.Hypotheses.{Hypotheses}
use Rattle.obligation_lists.specs.declared.claims.Hypotheses.TheVariants.{Reset, Idle, Started, StartedBy, NotEnded, EndedAt}
use Rattle.obligation_lists.specs.declared.claims.Obligation.{Obligation}

abbrev pub fact_of : Fact → pure.Fact
fact_of (ResetActive t) = pure.reset_active t
fact_of (ResetInactive t) = pure.reset_inactive t
fact_of (Assumed k t) = pure.assumed k t
fact_of (Invariant k t) = pure.invariant k t
fact_of (Start t) = pure.start t
fact_of (NoStart t) = pure.no_start t
fact_of (Decoded j) = pure.decoded j
fact_of (Commit j t) = pure.commit j t
fact_of (NoCommit j t) = pure.no_commit j t
fact_of (Initial s t) = pure.initial s.name.now t
fact_of (Same s) = pure.same s.name.now
fact_of OneDecodes = pure.one_decodes
fact_of (Ends j) = pure.ends j
fact_of (ResultOf j s t) = pure.result_of j s.name.now t
fact_of Never = pure.never

-- the facts that hypotheses are, under a map
abbrev pub hypotheses_of : Map → Hypotheses → List pure.Fact
hypotheses_of p Reset = for_each (λ t. pure.reset_active t ∷ []) 0 p.reset_cycles
hypotheses_of p Idle = invariants_at p 0 ++ premises_at p 0 ++ pure.no_start 0 ∷ []
hypotheses_of p Started = start_hypotheses p
hypotheses_of p (StartedBy j) = started_by p j
hypotheses_of p (NotEnded j n) = not_ended p j n
hypotheses_of p (EndedAt j c) = ended_at p j c

abbrev pub obligation_of : Map → Obligation → pure.Obligation
obligation_of p o = record {
  called = string_bytes o.name;
  cycles = o.cycles;
  hypotheses = hypotheses_of p o.hypotheses;
  claim = fact_of o.claim;
}
