-- What a trace file is by the parts of a design and by what is stated of obligations: values, or the first rule that refuses it.
use Rattle.std.specs.Prelude.{ℕ, zero, suc, cond, List, [], ◌∷◌, ◌+◌, map, Option, Some, None, string_bytes, codes}
use Rattle.wb_values.specs.Value.{Name, same_name, Value}
use Rattle.serde_json.specs.Data.{Data}
use Rattle.serde_json.specs.Find.{as_str}
use Rattle.model_files.specs.Shape.{document}
use Rattle.map_files.specs.Shape.{read_under}
use Rattle.trace_files.specs.Meaning.{TraceRule, BadJson, BadShape, UnknownObligation, MissingValue}
use Rattle.v_design.specs.Parts.{Parts}
use Rattle.v_design.specs.Seen.{register_values}
use Rattle.v_design.specs.declared.values.Inputs.{Inputs}
use Rattle.obligation_lists.specs.declared.claims.Obligation.{Obligation}
use Rattle.trace_reading.specs.Fitting.{is_fitting, is_full}
use Rattle.trace_reading.specs.Given.{registers_given, cycles_given}
use Rattle.trace_reading.specs.Rule.{rule_view}
use Rattle.trace_reading.specs.declared.outcome.FileTrace.{FileTrace}
use Rattle.trace_reading.specs.declared.outcome.TraceRead.{TraceRead}
use Rattle.trace_reading.specs.declared.outcome.TraceRead.TheVariants.{Trace, Refused}

-- the first place, from k on, of an obligation with this name
abbrev pub obligation_place : (k : ℕ) → List Obligation → Name → Option ℕ
obligation_place k [] n = None
obligation_place k (o ∷ os) n = cond (same_name (string_bytes o.name) n) (Some k) (obligation_place (k + 1) os n)

-- values for a design and the place of an obligation, or a rule
pub data PartsReading : Type 0 where
  gives : (place : ℕ) (registers : List Value) (inputs : List (List ℕ)) → PartsReading
  is_refused : TraceRule → PartsReading

-- the cycles that the obligation at a place speaks of
abbrev pub cycles_stated : List Obligation → ℕ → ℕ
cycles_stated [] k = 0
cycles_stated (o ∷ os) zero = o.cycles
cycles_stated (o ∷ os) (suc k) = cycles_stated os k

abbrev pub judged_place : Parts → List Obligation → Data → Option ℕ → PartsReading
judged_place e os d None = is_refused UnknownObligation
judged_place e os d (Some k) = cond (is_full e (cycles_stated os k) d) (gives k (registers_given e d) (cycles_given e d)) (is_refused MissingValue)

abbrev pub judged_name : Parts → List Obligation → Data → Option Name → PartsReading
judged_name e os d None = is_refused BadShape
judged_name e os d (Some n) = judged_place e os d (obligation_place 0 os n)

abbrev pub judged_data : Parts → List Obligation → Data → PartsReading
judged_data e os d = cond (is_fitting e d) (judged_name e os d (read_under as_str (codes "obligation") d)) (is_refused BadShape)

abbrev pub judged_document : Parts → List Obligation → Option Data → PartsReading
judged_document e os None = is_refused BadJson
judged_document e os (Some d) = judged_data e os d

-- the reading of a file's bytes
abbrev pub reading_by_parts : Parts → List Obligation → List ℕ → PartsReading
reading_by_parts e os bytes = judged_document e os (document bytes)

-- ---- what the code answers

abbrev pub cycles_view : List Inputs → List (List ℕ)
cycles_view is = map (λ i. i.numbers.items) is

abbrev pub trace_view : FileTrace → PartsReading
trace_view t = gives t.obligation (register_values t.registers) (cycles_view t.inputs.items)

abbrev pub answer_view : TraceRead → PartsReading
answer_view (Trace t) = trace_view t
answer_view (Refused r) = is_refused (rule_view r.rule)
