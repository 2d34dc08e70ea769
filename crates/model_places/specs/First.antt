-- The first place of a model file, in the order in which a model is gone through, at which a rule is broken.
use Rattle.std.specs.Prelude.{ℕ, Bool, false, cond, not, ◌&&◌, ◌||◌, nat_le, nat_lt, List, [], ◌∷◌, Option, Some, None, option_map}
use Rattle.wb_values.specs.Value.{Name, same_name}
use Rattle.wb_values.specs.Names.{is_model_name}
use Rattle.model_meaning.specs.Term.{is_sort}
use Rattle.model_files.specs.Written.{WrittenModel}
use Rattle.model_files.specs.Scope.{term_of, written_sort}
use Rattle.model_files.specs.Rules.{is_unknown_at, has_widths, accepts_sort, has_fitting_constants, fits_sort, copies_memory}
use Rattle.model_files.specs.Meaning.{ModelRule, BadJson, BadShape, UnknownKey, BadName, DuplicateName, UnknownName, BadWidth, BadSort, BadNumber, MemoryCopy, TooDeepChild, BadSteps}
use Rattle.model_places.specs.Sites.{Site}
use Rattle.model_places.specs.Notes.{site_note}
use Rattle.model_places.specs.Parts.{Thing, model_name, data_name, instruction_name, declaration, term, program, step_limit, ModelPart, parts_of_model}

abbrev pub is_bad_name : Thing → Bool
is_bad_name (model_name n) = not (is_model_name n)
is_bad_name (data_name n) = not (is_model_name n)
is_bad_name (instruction_name n) = not (is_model_name n)
is_bad_name _ = false

-- an input, a state or a definition of this name is among these
abbrev pub has_data_name : Name → List Thing → Bool
has_data_name n [] = false
has_data_name n (data_name k ∷ ts) = same_name k n || has_data_name n ts
has_data_name n (_ ∷ ts) = has_data_name n ts

-- an instruction of this name is among these
abbrev pub has_instruction_name : Name → List Thing → Bool
has_instruction_name n [] = false
has_instruction_name n (instruction_name k ∷ ts) = same_name k n || has_instruction_name n ts
has_instruction_name n (_ ∷ ts) = has_instruction_name n ts

-- its name stands before it already
abbrev pub stands_again : (before : List Thing) → Thing → Bool
stands_again before (data_name n) = has_data_name n before
stands_again before (instruction_name n) = has_instruction_name n before
stands_again before _ = false

abbrev pub is_unknown : Thing → Bool
is_unknown (term p) = is_unknown_at p
is_unknown _ = false

abbrev pub is_bad_width : Thing → Bool
is_bad_width (declaration s x) = not (is_sort s)
is_bad_width (term p) = not (has_widths p.written)
is_bad_width _ = false

abbrev pub is_bad_sort : Thing → Bool
is_bad_sort (term p) = not (accepts_sort p.place (written_sort p.names p.written))
is_bad_sort _ = false

abbrev pub is_bad_number : Thing → Bool
is_bad_number (declaration s x) = not (fits_sort s x)
is_bad_number (term p) = not (has_fitting_constants p.written)
is_bad_number _ = false

abbrev pub is_memory_copy : Thing → Bool
is_memory_copy (term p) = copies_memory p.place (term_of p.names p.written)
is_memory_copy _ = false

-- children nest 3 deep at most
abbrev pub is_deep_child : Thing → Bool
is_deep_child (program depth) = nat_lt 3 depth
is_deep_child _ = false

abbrev pub is_bad_limit : Thing → Bool
is_bad_limit (step_limit n) = not (nat_le 1 n && nat_le n 4096)
is_bad_limit _ = false

-- What stands there breaks the rule, where these stand before it. The first three rules are no rules on such things.
abbrev pub breaks : ModelRule → (before : List Thing) → Thing → Bool
breaks BadJson before t = false
breaks BadShape before t = false
breaks UnknownKey before t = false
breaks BadName before t = is_bad_name t
breaks DuplicateName before t = stands_again before t
breaks UnknownName before t = is_unknown t
breaks BadWidth before t = is_bad_width t
breaks BadSort before t = is_bad_sort t
breaks BadNumber before t = is_bad_number t
breaks MemoryCopy before t = is_memory_copy t
breaks TooDeepChild before t = is_deep_child t
breaks BadSteps before t = is_bad_limit t

-- the place of the first part that breaks a rule, where these stand before the parts
abbrev pub first_among : ((before : List Thing) → Thing → Bool) → (before : List Thing) → List ModelPart → Option Site
first_among is_broken before [] = None
first_among is_broken before (p ∷ ps) = cond (is_broken before p.thing) (Some p.site) (first_among is_broken (p.thing ∷ before) ps)

-- The first place at which the rule is broken, and the note that leads there.
abbrev pub first_site : ModelRule → WrittenModel → Option Site
first_site rule m = first_among (breaks rule) [] (parts_of_model m)

abbrev pub first_note : ModelRule → WrittenModel → Option (List ℕ)
first_note rule m = option_map site_note (first_site rule m)
