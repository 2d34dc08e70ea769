-- Names without dots: what they mean in a design, and that no path below the top ends in them.
use Rattle.std.proofs.Common.{◌≡◌, ℕ, Bool, true, false, cond, not, ◌||◌, ◌==◌, List, [], ◌∷◌, ◌++◌, refl, sym, ◌∙◌, ap, arith}
use Rattle.std.specs.List.{list_all}
use Rattle.std.proofs.lemmas.Bool.{false≢true, and_parts, or_parts}
use Rattle.std.proofs.lemmas.Bool.Decides.{nat_tests}
use Rattle.wb_values.specs.Value.{Name}
use Rattle.wb_values.specs.Names.{begins_with_wb, is_name_byte, is_kept_word, is_model_name}
use Rattle.verilog_meaning.specs.Hierarchy.{PathStep, step_text, dotted}
use Rattle.refinement.specs.Map.{dotted_parts, with_character}

-- each byte is a letter, a digit or _
abbrev pub IsPlainName : Name → Type 0
IsPlainName n = list_all is_name_byte n ≡ true

no_dot : (c : ℕ) → is_name_byte c ≡ true → (c == 46) ≡ false
no_dot c h = grind (arith, nat_tests, h)

pub one_part : (n : Name) → IsPlainName n → dotted_parts n ≡ n ∷ []
one_part [] h = refl
one_part (c ∷ cs) h =
    let parts : (is_name_byte c ≡ true) × (list_all is_name_byte cs ≡ true) = and_parts (is_name_byte c) (list_all is_name_byte cs) h in
    ap (λ b. cond b ([] ∷ dotted_parts cs) (with_character c (dotted_parts cs))) (no_dot c parts.0)
    ∙ ap (with_character c) (one_part cs parts.1)

-- ---- dotted names

abbrev has_dot : Name → Bool
has_dot [] = false
has_dot (c ∷ cs) = (c == 46) || has_dot cs

or_true : (a b : Bool) → b ≡ true → (a || b) ≡ true
or_true true b e = refl
or_true false b e = e

dot_behind : (a b : Name) → has_dot b ≡ true → has_dot (a ++ b) ≡ true
dot_behind [] b h = h
dot_behind (c ∷ a) b h = or_true (c == 46) (has_dot (a ++ b)) (dot_behind a b h)

dot_kept : (path : List PathStep) (n : Name) → has_dot n ≡ true → has_dot (dotted path n) ≡ true
dot_kept [] n h = h
dot_kept (u ∷ around) n h = dot_kept around (step_text u ++ 46 ∷ n) (dot_behind (step_text u) (46 ∷ n) refl)

no_dots : (n : Name) → IsPlainName n → has_dot n ≡ false
no_dots [] h = refl
no_dots (c ∷ cs) h =
    let parts : (is_name_byte c ≡ true) × (list_all is_name_byte cs ≡ true) = and_parts (is_name_byte c) (list_all is_name_byte cs) h in
    ap (λ b. b || has_dot cs) (no_dot c parts.0) ∙ no_dots cs parts.1

-- a plain name is that of something of the top
pub at_top : (path : List PathStep) (k n : Name) → IsPlainName n → dotted path k ≡ n → (path ≡ []) × (k ≡ n)
at_top [] k n h e = (refl, e)
at_top (u ∷ around) k n h e =
    absurd
    (false≢true
    (sym (no_dots n h) ∙ (ap has_dot (sym e) ∙ dot_kept around (step_text u ++ 46 ∷ k) (dot_behind (step_text u) (46 ∷ k) refl))))

-- ---- names of models

not_true : (b : Bool) → not b ≡ true → b ≡ false
not_true true e = sym e
not_true false e = refl

-- a legal name does not begin with wb_, and is plain
pub not_own : (n : Name) → is_model_name n ≡ true → begins_with_wb n ≡ false
not_own n e = (or_parts _ (begins_with_wb n) (not_true (is_kept_word n) (and_parts _ (not (is_kept_word n)) e).1)).1

pub plain_name : (n : Name) → is_model_name n ≡ true → IsPlainName n
plain_name n e = (and_parts _ (list_all is_name_byte n) (and_parts _ _ (and_parts _ (not (is_kept_word n)) e).0).0).1
