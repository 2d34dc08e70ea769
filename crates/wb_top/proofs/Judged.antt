-- What is told of the files of a check answers it.
use Rattle.std.proofs.Common.{◌≡◌, ℕ, List, [], ◌∷◌, Some, None, refl, sym, subst}
use Rattle.model_meaning.specs.Model.{Model}
use Rattle.refinement.specs.Map.{Setting}
use Rattle.std.specs.declared.option.Option.{Option}
use Rattle.refinement.specs.Soundness.{EveryRunRefines}
use Rattle.reports.specs.Report.{IsReport}
use Rattle.ila_model.specs.Model.{model_of}
use Rattle.ila_model.specs.declared.model.IlaModel.{IlaModel}
use Rattle.mapped_designs.specs.View.{mapped_of}
use Rattle.mapped_designs.specs.declared.design.MappedDesign.{MappedDesign}
use Rattle.obligation_check.specs.Decided.{IsSettingBy}
use Rattle.check_report.specs.Totals.{ending_view}
use Rattle.check_report.specs.declared.totals.Ending.{Ending}
use Rattle.check_report.specs.declared.totals.Ending.TheVariants.{AllProved, SomeUnknown, SomeFailed}
use Rattle.check_limits.specs.Limits as limits
use Rattle.v_design.specs.Seen.{parts_of}
use Rattle.check_cases.specs.Files.{IsSettingOf}
use Rattle.read_cases.specs.Told.{IsCaseOf}
use Rattle.wb_top.specs.Showing.{status_by}
use Rattle.wb_top.specs.Limits.{IsLimitOf}
use Rattle.wb_top.specs.Texts.{limit_text}
use Rattle.wb_top.specs.Outcome.{Told, IsReported, IsCheckedWithin, IsCheckedSetting, IsChecked}
use Rattle.wb_top.specs.declared.status.Status.{Status}
use Rattle.wb_top.specs.declared.status.Status.TheVariants.{Done, Failed, Unknown, Usage, Refused, ReadFault, WriteFault, NoMemory, Limit}

-- A case is one of its files' setting.
pub setting_by : (m p : List ℕ) (ds : List (List ℕ)) (model : IlaModel) (mapped : MappedDesign) (c : IsCaseOf m p ds model mapped)
    → IsSettingBy (model_of model) (mapped_of mapped) c.setting
setting_by m p ds model mapped c = record {
  model = c.model;
  accepted = c.accepted;
  of_text = c.of_text;
  mapped = c.mapped;
  sound = c.sound;
  counts = c.counts;
  complete = c.complete;
}

-- A report is that of its ending.
pub reported : (s : Setting) (budget : ℕ) (ending : Ending) (t : Told) → IsReport s budget t.text (ending_view ending) t.spent
    → (ending ≡ AllProved → EveryRunRefines s) → IsReported s budget (status_by ending) t
reported s budget AllProved t report refines = (report, refines refl)
reported s budget SomeUnknown t report refines = report
reported s budget SomeFailed t report refines = report

-- no setting is refused
limit_is_no_refusal : ◌≡◌ {A = Status} Refused Limit → ⊥
limit_is_no_refusal h = subst is_refused h tt
  where
    is_refused : Status → Type 0
    is_refused Refused = Unit {0}
    is_refused _ = ⊥

none_refused : (limit : Option limits.Limit) (s : Setting) (budget : ℕ) (t : Told) → IsCheckedWithin limit s budget Refused t → ⊥
none_refused None s budget t h = h
none_refused (Some limit) s budget t h = limit_is_no_refusal h.0

-- What is told of the setting that files stand for answers their check.
pub answered : (m p : List ℕ) (ds : List (List ℕ)) (s : Setting) (budget : ℕ) (status : Status) (t : Told) → IsSettingOf m p ds s
    → IsCheckedSetting s budget status t → IsChecked budget (m ∷ p ∷ ds) status t
answered m p ds s budget Done t stand checked = (s, stand, checked)
answered m p ds s budget Failed t stand checked = (s, stand, checked)
answered m p ds s budget Unknown t stand checked = (s, stand, checked)
answered m p ds s budget Usage t stand checked = (s, stand, checked)
answered m p ds s budget Refused t stand checked = absurd (none_refused checked.0 s budget t checked.2)
answered m p ds s budget ReadFault t stand checked = (s, stand, checked)
answered m p ds s budget WriteFault t stand checked = (s, stand, checked)
answered m p ds s budget NoMemory t stand checked = (s, stand, checked)
answered m p ds s budget Limit t stand checked = (s, stand, checked)

-- A case whose setting is checked so, whichever that is, answers the check of the files.
pub case_answered : (m p : List ℕ) (ds : List (List ℕ)) (model : IlaModel) (mapped : MappedDesign) (budget : ℕ) (status : Status) (t : Told)
    → IsCaseOf m p ds model mapped
    → ((s : Setting) → IsSettingBy (model_of model) (mapped_of mapped) s → IsCheckedSetting s budget status t)
    → IsChecked budget (m ∷ p ∷ ds) status t
case_answered m p ds model mapped budget status t c checked =
    answered m p ds c.setting budget status t c.is_setting (checked c.setting (setting_by m p ds model mapped c))

-- The limit of a case is that of its setting.
limit_of_setting : (model : IlaModel) (mapped : MappedDesign) (s : Setting) (limit : Option limits.Limit)
    → IsSettingBy (model_of model) (mapped_of mapped) s → limits.IsLimit (model_of model) (parts_of mapped.design) limit → IsLimitOf s limit
limit_of_setting model mapped s limit by is = record {
  parts = parts_of mapped.design;
  is_design = by.mapped.design;
  counting = by.sound.counting;
  is_limit = subst (λ (q : Model). limits.IsLimit q (parts_of mapped.design) limit) (sym by.model) is;
}

-- A case that is over a limit is checked by that.
pub over_limit : (model : IlaModel) (mapped : MappedDesign) (budget : ℕ) (limit : limits.Limit) (status : Status) (t : Told)
    → limits.IsLimit (model_of model) (parts_of mapped.design) (Some limit) → status ≡ Limit → t.text ≡ limit_text limit → t.spent ≡ []
    → (s : Setting) → IsSettingBy (model_of model) (mapped_of mapped) s → IsCheckedSetting s budget status t
over_limit model mapped budget limit status t is answered text spent s by =
    (Some limit, limit_of_setting model mapped s (Some limit) by is, (answered, text, spent))

-- A case that is over no limit is checked by its report.
pub within_limits : (model : IlaModel) (mapped : MappedDesign) (budget : ℕ) (status : Status) (t : Told)
    → limits.IsLimit (model_of model) (parts_of mapped.design) None
    → ((s : Setting) → IsSettingBy (model_of model) (mapped_of mapped) s → IsReported s budget status t)
    → (s : Setting) → IsSettingBy (model_of model) (mapped_of mapped) s → IsCheckedSetting s budget status t
within_limits model mapped budget status t is told s by = (None, limit_of_setting model mapped s None by is, told s by)
