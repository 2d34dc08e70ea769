-- The notes of refusals that were found.
use Rattle.std.proofs.Common.{◌≡◌, Option, Some, None, option_map, sym, subst}
use Rattle.serde_json.specs.Data.{Data}
use Rattle.model_files.specs.Written.{WrittenModel}
use Rattle.ila_file.specs.Places.{note_text}
use Rattle.ila_rules.specs.Refusals.{refusal_view, IsNotedIn}
use Rattle.ila_rules.specs.Rule.{rule_view}
use Rattle.ila_rules.specs.declared.rule.ModelRefusal.{ModelRefusal}
use Rattle.ila_json.specs.Reading.{IsFoundNoted, IsNoted}
use Rattle.ila_json.specs.declared.stop.ModelStop.{ModelStop}
use Rattle.ila_json.proofs.Refusals.{note_later}

pub later_found : (d : Data) (m : WrittenModel) (o : Option ModelRefusal) → IsNotedIn m (option_map refusal_view o) → IsFoundNoted d m o
later_found d m None h = tt
later_found d m (Some r) h = note_later (rule_view r.rule) d m (note_text r.note) h

-- the note of a refusal of the data that bytes have
pub noted_of : (d : Data) (o : Option Data) (s : ModelStop) → o ≡ Some d → IsNoted (Some d) s → IsNoted o s
noted_of d o s e h = subst (λ q. IsNoted q s) (sym e) h
