-- The sort of a written term is that of the term that it stands for, and names that stand for the same give the same term.
use Rattle.std.proofs.Common.{◌≡◌, Bool, true, false, ◌&&◌, ◌||◌, Option, Some, None, refl, sym, ap, ◌∙◌}
use Rattle.std.specs.Prelude.{is_none, option_and_then}
use Rattle.std.proofs.lemmas.Bool.{false≢true, and_parts}
use Rattle.wb_values.specs.Value.{Name, word, Entries, entry_of}
use Rattle.model_meaning.specs.Term as terms
use Rattle.wb_values.specs.Choice.{some_if}
use Rattle.model_meaning.specs.Term.{Term, is_width, sort_of, extract_sort, ite_sort, store_sort, extended_sort}
use Rattle.model_files.specs.Written.{WrittenTerm, name, constant_truth, const, unary, binary, extract, widen, ite, store}
use Rattle.model_files.specs.Scope.{Visible, unary_term, binary_term, widened_term, unary_sort, binary_sort, term_named, term_of, written_sort}
use Rattle.model_files.specs.Rules.{uses_unknown_name, has_fitting_constants}
use Rattle.ila_build.specs.Standing.{term_by}
use Rattle.ila_build.proofs.Refused.{unary-sort, binary-sort, widened-sort}

pub or_parts : (a b : Bool) → (a || b) ≡ false → (a ≡ false) × (b ≡ false)
or_parts false b h = (refl, h)
or_parts true b h = absurd (false≢true (sym h))

and_true : (b : Bool) → (b && true) ≡ b
and_true true = refl
and_true false = refl

-- Each visible name has the sort of its term.
abbrev pub AreSorted : Entries Visible → Type 0
AreSorted names = (n : Name) (v : Visible) → entry_of names n ≡ Some v → sort_of v.term ≡ v.sort

of_name : (o : Option Visible) → ((v : Visible) → o ≡ Some v → sort_of v.term ≡ v.sort) → is_none o ≡ false → sort_of (term_named o) ≡ option_and_then (λ v. v.sort) o
of_name None s h = absurd (false≢true (sym h))
of_name (Some v) s h = s v refl

same_two : {A B C : Type 0} (f : A → B → C) {x u : A} {y w : B} → x ≡ u → y ≡ w → f x y ≡ f u w
same_two f {x} {u} {y} {w} p q = ap (λ t. f t y) p ∙ ap (f u) q

same_three : {A B C D : Type 0} (f : A → B → C → D) {x u : A} {y v : B} {z w : C} → x ≡ u → y ≡ v → z ≡ w → f x y z ≡ f u v w
same_three f {x} {u} {y} {v} {z} {w} p q r = ap (λ t. f t y z) p ∙ same_two (f u) q r

-- The sort of the term is the written one's: its constants fit, and it uses no unknown name.
pub sort_is : (names : Entries Visible) (e : WrittenTerm) → AreSorted names → uses_unknown_name names e ≡ false → has_fitting_constants e ≡ true → sort_of (term_of names e) ≡ written_sort names e
sort_is names (name n) s u f = of_name (entry_of names n) (s n) u
sort_is names (constant_truth b) s u f = refl
sort_is names (const w x) s u f = ap (λ b. some_if (is_width w && b) (word w)) f ∙ ap (λ b. some_if b (word w)) (and_true (is_width w))
sort_is names (unary op x) s u f = unary-sort op (term_of names x) ∙ ap (unary_sort op) (sort_is names x s u f)
sort_is names (binary op x y) s u f =
    let us = or_parts (uses_unknown_name names x) (uses_unknown_name names y) u in
    let fs = and_parts (has_fitting_constants x) _ f in
    binary-sort op (term_of names x) (term_of names y) ∙ same_two (binary_sort op) (sort_is names x s us.0 fs.0) (sort_is names y s us.1 fs.1)
sort_is names (extract h l x) s u f = ap (extract_sort h l) (sort_is names x s u f)
sort_is names (widen z n x) s u f = widened-sort z n (term_of names x) ∙ ap (extended_sort n) (sort_is names x s u f)
sort_is names (ite c x y) s u f =
    let us = or_parts (uses_unknown_name names c) _ u in
    let vs = or_parts (uses_unknown_name names x) (uses_unknown_name names y) us.1 in
    let fs = and_parts (has_fitting_constants c) _ f in
    let gs = and_parts (has_fitting_constants x) _ fs.1 in
    same_three ite_sort (sort_is names c s us.0 fs.0) (sort_is names x s vs.0 gs.0) (sort_is names y s vs.1 gs.1)
sort_is names (store c x y) s u f =
    let us = or_parts (uses_unknown_name names c) _ u in
    let vs = or_parts (uses_unknown_name names x) (uses_unknown_name names y) us.1 in
    let fs = and_parts (has_fitting_constants c) _ f in
    let gs = and_parts (has_fitting_constants x) _ fs.1 in
    same_three store_sort (sort_is names c s us.0 fs.0) (sort_is names x s vs.0 gs.0) (sort_is names y s vs.1 gs.1)

named_is : (o : Option Visible) (t : Term) → ((v : Visible) → o ≡ Some v → t ≡ v.term) → is_none o ≡ false → t ≡ term_named o
named_is None t s h = absurd (false≢true (sym h))
named_is (Some v) t s h = s v refl

-- Where each visible name stands for its term, a term that uses no other name is the same by either.
pub term_is : (at : Name → Term) (names : Entries Visible) (e : WrittenTerm) → ((n : Name) (v : Visible) → entry_of names n ≡ Some v → at n ≡ v.term) → uses_unknown_name names e ≡ false → term_by at e ≡ term_of names e
term_is at names (name n) s u = named_is (entry_of names n) (at n) (s n) u
term_is at names (constant_truth b) s u = refl
term_is at names (const w x) s u = refl
term_is at names (unary op x) s u = ap (unary_term op) (term_is at names x s u)
term_is at names (binary op x y) s u =
    let us = or_parts (uses_unknown_name names x) (uses_unknown_name names y) u in
    same_two (binary_term op) (term_is at names x s us.0) (term_is at names y s us.1)
term_is at names (extract h l x) s u = ap (terms.extract h l) (term_is at names x s u)
term_is at names (widen z n x) s u = ap (widened_term z n) (term_is at names x s u)
term_is at names (ite c x y) s u =
    let us = or_parts (uses_unknown_name names c) _ u in
    let vs = or_parts (uses_unknown_name names x) (uses_unknown_name names y) us.1 in
    same_three terms.ite (term_is at names c s us.0) (term_is at names x s vs.0) (term_is at names y s vs.1)
term_is at names (store c x y) s u =
    let us = or_parts (uses_unknown_name names c) _ u in
    let vs = or_parts (uses_unknown_name names x) (uses_unknown_name names y) us.1 in
    same_three terms.store (term_is at names c s us.0) (term_is at names x s vs.0) (term_is at names y s vs.1)
