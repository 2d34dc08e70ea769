-- What a check finds is a report of each setting of the model and the design with its map.
use Rattle.std.proofs.Common.{◌≡◌, ◌∙◌, ℕ, zero, suc, List, [], ◌∷◌, ◌++◌, length, map, refl, sym, ap, subst}
use Rattle.std.specs.Prelude.{count_by}
use Rattle.wb_values.specs.Value.{Name}
use Rattle.model_meaning.specs.Model.{Model, instruction_name, instructions_in}
use Rattle.refinement.specs.Map.{Setting, Map}
use Rattle.refinement.specs.Obligation.{obligations, bound_named}
use Rattle.refinement.specs.Soundness.{EveryRunRefines, ObligationsGiveRefinement}
use Rattle.reports.specs.Report as pure
use Rattle.reports.specs.Report.{AreVerdicts, AreCovers, IsReport}
use Rattle.mapped_designs.specs.Mapped.{Mapped, MappedInstruction}
use Rattle.mapped_designs.specs.View.{instruction_view}
use Rattle.mapped_designs.specs.declared.design.MappedInstruction as coded
use Rattle.mapped_runs.proofs.Lists.{some_same}
use Rattle.trace_texts.specs.Told.{TracesTell}
use Rattle.obligation_lists.specs.Claims.{obligation_of}
use Rattle.obligation_lists.specs.Counts.{AreCountsOf}
use Rattle.obligation_lists.specs.Within.{Each, IsObligationOf}
use Rattle.obligation_lists.specs.declared.claims.MapCounts.{MapCounts}
use Rattle.obligation_lists.specs.declared.claims.Obligation.{Obligation}
use Rattle.fact_terms.specs.Asked.{AreCountsIn}
use Rattle.obligation_check.specs.Found.{AreFound, spent_by, cover_by}
use Rattle.obligation_check.specs.Decided.{IsSettingBy, AreStated}
use Rattle.obligation_check.specs.declared.findings.Finding.{Finding}
use Rattle.obligation_check.specs.declared.findings.Spent as code
use Rattle.check_report.specs.declared.totals.Ending.{Ending}
use Rattle.check_report.specs.declared.totals.Ending.TheVariants.{AllProved}
use Rattle.check_report.specs.Lines.{verdicts_by, verdict_lines_by, cover_lines_by}
use Rattle.check_report.specs.Totals.{is_proved, is_failed, is_unknown, total_by, ending_by, ending_view}
use Rattle.check_report.specs.Spending.{spent_among}
use Rattle.check_report.proofs.Reported.{named, verdicts_of, is_report, refines}

-- the bounds of the code's instructions
pub bounds_same : (is : List coded.MappedInstruction)
    → map (λ (i : MappedInstruction). i.bound) (map instruction_view is) ≡ map (λ (i : coded.MappedInstruction). i.bound) is
bounds_same [] = refl
bounds_same (i ∷ is) = ap (λ rest. i.bound ∷ rest) (bounds_same is)

-- each obligation of the list speaks of what is there
pub stated_of : (m : Model) (e : Mapped) (counts : MapCounts) → AreCountsIn e counts → (os : List Obligation) → Each (IsObligationOf m counts) os → AreStated m e os
stated_of m e counts c [] h k o is_o = cc
stated_of m e counts c (x ∷ os) h zero o is_o = let same : x ≡ o = some_same is_o in (counts, c, subst (IsObligationOf m counts) same h.0)
stated_of m e counts c (x ∷ os) h (suc k) o is_o = stated_of m e counts c os h.1 k o is_o

module _ (m : Model) (e : Mapped) (counts : MapCounts) (numbers : AreCountsIn e counts)
    (bounds : map (λ (i : MappedInstruction). i.bound) e.instructions ≡ counts.bounds.now) (os : List Obligation)
    (listed : (p : Map) → AreCountsOf m p counts → map (obligation_of p) os ≡ obligations m p) where
  pub counts_of : (s : Setting) → IsSettingBy m e s → AreCountsOf m s.map counts
  counts_of s own = record {
    reset_cycles = sym own.mapped.reset_cycles ∙ numbers.reset_cycles;
    assume = sym own.counts.assume ∙ numbers.assume;
    invariants = sym own.counts.invariants ∙ numbers.invariants;
    bounds =
        subst (λ (q : Model). map (λ i. bound_named s.map (instruction_name i)) (instructions_in q.top) ≡ counts.bounds.now) own.model (sym own.mapped.bounds ∙ bounds);
  }

  pub all : (s : Setting) → IsSettingBy m e s → map (obligation_of s.map) os ≡ obligations s.model s.map
  all s own = subst (λ (q : Model). map (obligation_of s.map) os ≡ obligations q s.map) (sym own.model) (listed s.map (counts_of s own))

  module _ (budget : ℕ) (xs : List Finding) (long : length xs ≡ length os)
      (found : (s : Setting) → IsSettingBy m e s → map (obligation_of s.map) os ≡ obligations s.model s.map → AreFound s e.parts budget (obligations s.model s.map) xs)
      (tell : TracesTell) where
    verdicts : (s : Setting) → IsSettingBy m e s → AreVerdicts s budget (obligations s.model s.map) (verdicts_by e.parts (obligations s.model s.map) xs)
    verdicts s own = verdicts_of s e.parts budget tell own.mapped.design own.of_text own.sound.counting (obligations s.model s.map) xs (found s own (all s own))

    pub reported : (ns : List Name) (cs : List Finding) (text : List ℕ) (ending : pure.Ending) (spent : List code.Spent) → ns ≡ map named (instructions_in m.top)
        → ((s : Setting) → IsSettingBy m e s → AreCovers s budget 0 (instructions_in s.model.top) (map (cover_by e.parts) cs))
        → text ≡ verdict_lines_by e.parts budget os xs ++ cover_lines_by budget ns cs ++ total_by (count_by is_proved xs) (count_by is_failed xs) (count_by is_unknown xs)
        → ending ≡ ending_by (count_by is_failed xs) (count_by is_unknown xs) → spent ≡ spent_among xs ++ spent_among cs
        → (s : Setting) → IsSettingBy m e s → IsReport s budget text ending (map (spent_by e.parts) spent)
    reported ns cs text ending spent is_ns covers is_text is_ending is_spent s own =
        is_report s e.parts budget os ns xs cs text ending spent (all s own)
        (subst (λ (q : Model). ns ≡ map named (instructions_in q.top)) (sym own.model) is_ns) long (verdicts s own) (covers s own) is_text is_ending is_spent

    pub all_refine : (ending : Ending) → ObligationsGiveRefinement → ending_view ending ≡ ending_by (count_by is_failed xs) (count_by is_unknown xs)
        → ending ≡ AllProved → (s : Setting) → IsSettingBy m e s → EveryRunRefines s
    all_refine ending give is_ending proved s own =
        refines s e.parts budget os xs ending give own.complete (all s own) long (verdicts s own) is_ending proved
