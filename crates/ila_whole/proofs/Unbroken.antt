-- What holds of a written model that no rule refuses.
use Rattle.std.proofs.Common.{◌≡◌, ◌≤◌, Bool, true, false, cond, not, ◌&&◌, List, [], ◌∷◌, Option, Some, None, refl, sym}
use Rattle.std.specs.List.{list_all, list_any}
use Rattle.std.proofs.lemmas.Bool.{false≢true, and_parts, ltb-false}
use Rattle.model_files.specs.Written.{WrittenModel}
use Rattle.model_files.specs.Scope.{PlacedTerm, written_sort, all_terms}
use Rattle.model_files.specs.Rules.{has_bad_name, has_duplicate_name, has_unknown_name, has_bad_width, has_bad_sort, has_bad_number, has_memory_copy, has_too_deep_child, has_bad_steps, has_fitting_constants, is_unknown_at, accepts_sort, depth_of}
use Rattle.model_files.specs.Meaning.{ModelRule, BadName, DuplicateName, UnknownName, BadWidth, BadSort, BadNumber, MemoryCopy, TooDeepChild, BadSteps, broken_rule}
use Rattle.ila_build.specs.Knowing.{is_right, are_right}
use Rattle.ila_build.proofs.Sorting.{or_parts}

unbroken_first : (b : Bool) (x : ModelRule) (r : Option ModelRule) → cond b (Some x) r ≡ None → (b ≡ false) × (r ≡ None)
unbroken_first true x r h = cc
unbroken_first false x r h = (refl, h)

pub not_false : (b : Bool) → not b ≡ false → b ≡ true
not_false true h = refl
not_false false h = absurd (false≢true (sym h))

-- the rules that the parts of a model depend on
pub record IsUnbroken (m : WrittenModel) : Type 0 where
  pub known : has_unknown_name m ≡ false
  pub sorted : has_bad_sort m ≡ false
  pub fitting : has_bad_number m ≡ false
  pub depth : has_too_deep_child m ≡ false
  pub apart : has_duplicate_name m ≡ false
  pub widths : has_bad_width m ≡ false
  pub steps : has_bad_steps m ≡ false
  pub named : has_bad_name m ≡ false
  pub uncopied : has_memory_copy m ≡ false

pub unbroken : (m : WrittenModel) → broken_rule m ≡ None → IsUnbroken m
unbroken m h =
    let a = unbroken_first (has_bad_name m) BadName _ h in
    let b = unbroken_first (has_duplicate_name m) DuplicateName _ a.1 in
    let c = unbroken_first (has_unknown_name m) UnknownName _ b.1 in
    let d = unbroken_first (has_bad_width m) BadWidth _ c.1 in
    let e = unbroken_first (has_bad_sort m) BadSort _ d.1 in
    let f = unbroken_first (has_bad_number m) BadNumber _ e.1 in
    let g = unbroken_first (has_memory_copy m) MemoryCopy _ f.1 in
    let k = unbroken_first (has_too_deep_child m) TooDeepChild _ g.1 in
    let l = unbroken_first (has_bad_steps m) BadSteps _ k.1 in
    record { known = c.0; sorted = e.0; fitting = f.0; depth = k.0; apart = b.0; widths = d.0; steps = l.0; named = a.0; uncopied = g.0 }

three : (a b c : Bool) → a ≡ false → b ≡ true → c ≡ true → (not a && (b && c)) ≡ true
three true b c p q r = absurd (false≢true (sym p))
three false false c p q r = absurd (false≢true q)
three false true false p q r = absurd (false≢true r)
three false true true p q r = refl

both : (a b : Bool) → a ≡ true → b ≡ true → (a && b) ≡ true
both false b p q = absurd (false≢true p)
both true b p q = q

right_all : (ps : List PlacedTerm) → list_any is_unknown_at ps ≡ false → list_all (λ p. accepts_sort p.place (written_sort p.names p.written)) ps ≡ true → list_all (λ p. has_fitting_constants p.written) ps ≡ true → are_right ps ≡ true
unfolding is_right are_right
right_all [] u s f = refl
right_all (p ∷ ps) u s f =
    let us = or_parts (is_unknown_at p) (list_any is_unknown_at ps) u in
    let ss = and_parts (accepts_sort p.place (written_sort p.names p.written)) _ s in
    let fs = and_parts (has_fitting_constants p.written) _ f in
    both (is_right p) (are_right ps) (three _ _ _ us.0 ss.0 fs.0) (right_all ps us.1 ss.1 fs.1)

-- Each term of the file uses visible names and has the sort that its place takes.
pub all_right : (m : WrittenModel) → broken_rule m ≡ None → are_right (all_terms m) ≡ true
all_right m h =
    let u = unbroken m h in
    right_all (all_terms m) u.known (not_false _ u.sorted) (and_parts _ (list_all (λ (p : PlacedTerm). has_fitting_constants p.written) (all_terms m)) (not_false _ u.fitting)).1

-- Children nest at most three deep.
pub not_too_deep : (m : WrittenModel) → broken_rule m ≡ None → depth_of m.top ≤ 3
not_too_deep m h = ltb-false 3 (depth_of m.top) (unbroken m h).depth
