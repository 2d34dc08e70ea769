-- The first rule that is broken, and its note, from what was found of each.
use Rattle.std.proofs.Common.{◌≡◌, ℕ, Bool, cond, List, [], Option, Some, None, option_map, refl, sym, ap, ◌∙◌}
use Rattle.std.specs.Prelude.{is_some}
use Rattle.wb_values.specs.Choice.{first_of}
use Rattle.model_files.specs.Meaning.{ModelRule, BadName, DuplicateName, UnknownName, BadWidth, BadSort, BadNumber, MemoryCopy, TooDeepChild, BadSteps, broken_rule}
use Rattle.model_files.specs.Written.{WrittenModel}
use Rattle.model_files.specs.Rules.{has_bad_name, has_duplicate_name, has_unknown_name, has_bad_width, has_bad_sort, has_bad_number, has_memory_copy, has_too_deep_child, has_bad_steps}
use Rattle.model_places.specs.First.{first_note}
use Rattle.ila_rules.specs.Flaws.{Flaws, model_flaws}
use Rattle.ila_rules.specs.NameFlaws.{NameFlaws, names_in_model}
use Rattle.ila_rules.specs.Limits.{deeper_note, limit_note}
use Rattle.ila_rules.specs.Refusals.{noted, IsNotedIn}
use Rattle.ila_rules.proofs.Flags.{Flags}
use Rattle.ila_rules.proofs.NameFlags.{NameFlags}
use Rattle.ila_rules.proofs.Erased.{erased, model_erased, names_erased, model_names_erased}
use Rattle.ila_rules.proofs.Judged.{model_judged}
use Rattle.ila_rules.proofs.Named.{bad_named, twice_named}
use Rattle.ila_rules.proofs.Gathered.{first_flaws}
use Rattle.ila_rules.proofs.NamesGathered.{first_bad, first_twice}
use Rattle.ila_rules.proofs.Limited.{first_deep, first_bad_limit, deeper_same, limits_same}

abbrev Note : Type 0
Note = Option (List ℕ)

abbrev Found : Type 0
Found = Option (ModelRule × List ℕ)

-- ---- the rule

abbrev rule_of : Found → Option ModelRule
rule_of o = option_map (λ r. r.0) o

-- of what was found of one rule and of those after it
one : (rule : ModelRule) (note : Note) (rest : Found) (b : Bool) (later : Option ModelRule) → is_some note ≡ b → rule_of rest ≡ later
    → rule_of (first_of (noted rule note) rest) ≡ cond b (Some rule) later
one rule note rest b later some same = found note ∙ (ap (λ c. cond c (Some rule) (rule_of rest)) some ∙ ap (λ o. cond b (Some rule) o) same) where
  found : (n : Note) → rule_of (first_of (noted rule n) rest) ≡ cond (is_some n) (Some rule) (rule_of rest)
  found None = refl
  found (Some t) = refl

-- ---- the note

one_noted : (m : WrittenModel) (rule : ModelRule) (note : Note) (rest : Found) → note ≡ first_note rule m → IsNotedIn m rest
    → IsNotedIn m (first_of (noted rule note) rest)
one_noted m rule None rest e later = later
one_noted m rule (Some t) rest e later = sym e

-- ---- all rules

abbrev pub all_found : (bad twice unknown width sort number copy deep steps : Option (List ℕ)) → Option (ModelRule × List ℕ)
all_found bad twice unknown width sort number copy deep steps =
    first_of (noted BadName bad)
    (first_of (noted DuplicateName twice)
    (first_of (noted UnknownName unknown)
    (first_of (noted BadWidth width)
    (first_of (noted BadSort sort)
    (first_of (noted BadNumber number)
    (first_of (noted MemoryCopy copy)
    (first_of (noted TooDeepChild deep)
    (first_of (noted BadSteps steps) None))))))))

-- what was found is of this model
pub record IsFoundIn (m : WrittenModel) (names : NameFlaws) (flaws : Flaws) (deep steps : Option (List ℕ)) : Type 0 where
  pub named : names ≡ names_in_model m
  pub judged : flaws ≡ model_flaws m
  pub nested : deep ≡ deeper_note [] 3 m.top
  pub limited : steps ≡ limit_note [] m.top

pub rule_found : (m : WrittenModel) (names : NameFlaws) (flaws : Flaws) (deep steps : Option (List ℕ)) → IsFoundIn m names flaws deep steps
    → option_map (λ r. r.0) (all_found names.bad names.twice flaws.unknown_name flaws.bad_width flaws.bad_sort flaws.bad_number flaws.memory_copy deep steps) ≡ broken_rule m
rule_found m names flaws deep steps f =
    let flags = ap erased f.judged ∙ (model_erased m ∙ model_judged m) in
    let named = ap names_erased f.named ∙ model_names_erased m in
    let rest8 : Found = first_of (noted BadSteps steps) None in
    let later8 : Option ModelRule = cond (has_bad_steps m) (Some BadSteps) None in
    let rest7 : Found = first_of (noted TooDeepChild deep) rest8 in
    let later7 : Option ModelRule = cond (has_too_deep_child m) (Some TooDeepChild) later8 in
    let rest6 : Found = first_of (noted MemoryCopy flaws.memory_copy) rest7 in
    let later6 : Option ModelRule = cond (has_memory_copy m) (Some MemoryCopy) later7 in
    let rest5 : Found = first_of (noted BadNumber flaws.bad_number) rest6 in
    let later5 : Option ModelRule = cond (has_bad_number m) (Some BadNumber) later6 in
    let rest4 : Found = first_of (noted BadSort flaws.bad_sort) rest5 in
    let later4 : Option ModelRule = cond (has_bad_sort m) (Some BadSort) later5 in
    let rest3 : Found = first_of (noted BadWidth flaws.bad_width) rest4 in
    let later3 : Option ModelRule = cond (has_bad_width m) (Some BadWidth) later4 in
    let rest2 : Found = first_of (noted UnknownName flaws.unknown_name) rest3 in
    let later2 : Option ModelRule = cond (has_unknown_name m) (Some UnknownName) later3 in
    let rest1 : Found = first_of (noted DuplicateName names.twice) rest2 in
    let later1 : Option ModelRule = cond (has_duplicate_name m) (Some DuplicateName) later2 in
    one BadName names.bad rest1 (has_bad_name m) later1 (ap (λ (s : NameFlags). s.bad) named ∙ bad_named m)
    (one DuplicateName names.twice rest2 (has_duplicate_name m) later2 (ap (λ (s : NameFlags). s.twice) named ∙ twice_named m)
    (one UnknownName flaws.unknown_name rest3 (has_unknown_name m) later3 (ap (λ (s : Flags). s.unknown_name) flags)
    (one BadWidth flaws.bad_width rest4 (has_bad_width m) later4 (ap (λ (s : Flags). s.bad_width) flags)
    (one BadSort flaws.bad_sort rest5 (has_bad_sort m) later5 (ap (λ (s : Flags). s.bad_sort) flags)
    (one BadNumber flaws.bad_number rest6 (has_bad_number m) later6 (ap (λ (s : Flags). s.bad_number) flags)
    (one MemoryCopy flaws.memory_copy rest7 (has_memory_copy m) later7 (ap (λ (s : Flags). s.memory_copy) flags)
    (one TooDeepChild deep rest8 (has_too_deep_child m) later8 (ap is_some f.nested ∙ deeper_same [] 3 m.top)
    (one BadSteps steps None (has_bad_steps m) None (ap is_some f.limited ∙ limits_same [] m.top) refl))))))))

pub note_found : (m : WrittenModel) (names : NameFlaws) (flaws : Flaws) (deep steps : Option (List ℕ)) → IsFoundIn m names flaws deep steps
    → IsNotedIn m (all_found names.bad names.twice flaws.unknown_name flaws.bad_width flaws.bad_sort flaws.bad_number flaws.memory_copy deep steps)
note_found m names flaws deep steps f =
    let judged = f.judged ∙ first_flaws m in
    let rest8 : Found = first_of (noted BadSteps steps) None in
    let rest7 : Found = first_of (noted TooDeepChild deep) rest8 in
    let rest6 : Found = first_of (noted MemoryCopy flaws.memory_copy) rest7 in
    let rest5 : Found = first_of (noted BadNumber flaws.bad_number) rest6 in
    let rest4 : Found = first_of (noted BadSort flaws.bad_sort) rest5 in
    let rest3 : Found = first_of (noted BadWidth flaws.bad_width) rest4 in
    let rest2 : Found = first_of (noted UnknownName flaws.unknown_name) rest3 in
    let rest1 : Found = first_of (noted DuplicateName names.twice) rest2 in
    one_noted m BadName names.bad rest1 (ap (λ (s : NameFlaws). s.bad) f.named ∙ first_bad m)
    (one_noted m DuplicateName names.twice rest2 (ap (λ (s : NameFlaws). s.twice) f.named ∙ first_twice m)
    (one_noted m UnknownName flaws.unknown_name rest3 (ap (λ (s : Flaws). s.unknown_name) judged)
    (one_noted m BadWidth flaws.bad_width rest4 (ap (λ (s : Flaws). s.bad_width) judged)
    (one_noted m BadSort flaws.bad_sort rest5 (ap (λ (s : Flaws). s.bad_sort) judged)
    (one_noted m BadNumber flaws.bad_number rest6 (ap (λ (s : Flaws). s.bad_number) judged)
    (one_noted m MemoryCopy flaws.memory_copy rest7 (ap (λ (s : Flaws). s.memory_copy) judged)
    (one_noted m TooDeepChild deep rest8 (f.nested ∙ first_deep m)
    (one_noted m BadSteps steps None (f.limited ∙ first_bad_limit m) tt))))))))
