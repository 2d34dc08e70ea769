-- The sort of a written term, and that of the term that it stands for.
use Rattle.std.proofs.Common.{◌≡◌, ℕ, zero, suc, ◌⊎◌, inl, inr, Bool, true, false, ◌&&◌, ◌||◌, List, [], ◌∷◌, ◌++◌, Option, Some, None, refl, sym, ap, ◌∙◌, subst}
use Rattle.std.specs.Prelude.{⊤, codes, not as truth_not, cond, ◌^◌, nat_lt, slice_get, is_none, option_and_then}
use Rattle.std.specs.List.{list_all, list_any}
use Rattle.std.proofs.lemmas.Bool.{false≢true, and_parts, and_from}
use Rattle.wb_values.specs.Value.{Name, same_name, Sort, truth, word, memory, Entries, entry_of}
use Rattle.wb_values.specs.Choice.{some_if}
use Rattle.model_meaning.specs.Term as terms
use Rattle.model_meaning.specs.Term.{Term, is_sort, is_width, sort_of, bits_sort, same_bits_sort, word_sort, same_word_sort, compared, concat_sort, extract_sort, extended_sort, ite_sort, load_sort, store_sort}
use Rattle.model_meaning.specs.Model.{StateDeclaration, InputDeclaration}
use Rattle.model_files.specs.Written.{UnaryForm, not, neg, BinaryForm, and, or, xor, add, sub, mul, shl, lshr, ashr, eq, ult, ule, slt, sle, concat, load, Widening, zext, sext, WrittenTerm, name, constant_truth, const, unary, binary, extract, widen, ite, store, WrittenMachine, machine, WrittenInstruction, instruction, WrittenInstructions, no_instructions, and_then, WrittenChild, no_child, child, WrittenModel}
use Rattle.model_files.specs.Scope.{Visible, unary_term, binary_term, widened_term, unary_sort, binary_sort, term_named, term_of, written_sort, declared, defined, MachineScope, with_inputs, with_states, with_definitions, with_fetch, scope_within, of_definition, of_fetch, of_condition, of_update, PlacedTerm, placed, placed_definitions, placed_fetch, placed_updates, terms_in, terms_below, terms_of_instruction, terms_of_child, outermost, all_terms}
use Rattle.model_files.specs.Rules.{uses_unknown_name, is_unknown_at, has_unknown_name, has_fitting_constants}
use Rattle.wb_laws.specs.Written.{meant, IsTermOf, TermsSortIsTheWritten, SortsAreTheSame}

-- ---- one form

unary_same : (op : UnaryForm) (x : Term) → sort_of (unary_term op x) ≡ unary_sort op (sort_of x)
unary_same not x = refl
unary_same neg x = refl

binary_same : (op : BinaryForm) (x y : Term) → sort_of (binary_term op x y) ≡ binary_sort op (sort_of x) (sort_of y)
binary_same and x y = refl
binary_same or x y = refl
binary_same xor x y = refl
binary_same add x y = refl
binary_same sub x y = refl
binary_same mul x y = refl
binary_same shl x y = refl
binary_same lshr x y = refl
binary_same ashr x y = refl
binary_same eq x y = refl
binary_same ult x y = refl
binary_same ule x y = refl
binary_same slt x y = refl
binary_same sle x y = refl
binary_same concat x y = refl
binary_same load x y = refl

widened_same : (z : Widening) (n : ℕ) (x : Term) → sort_of (widened_term z n x) ≡ extended_sort n (sort_of x)
widened_same zext n x = refl
widened_same sext n x = refl

unary_none : (op : UnaryForm) → unary_sort op None ≡ None
unary_none not = refl
unary_none neg = refl

compared_none : (o : Option Sort) → o ≡ None → compared o ≡ None
compared_none o h = ap compared h

bits_right : (s : Option Sort) → same_bits_sort s None ≡ None
bits_right None = refl
bits_right (Some truth) = refl
bits_right (Some (word w)) = refl
bits_right (Some (memory a d)) = refl

words_right : (s : Option Sort) → same_word_sort s None ≡ None
words_right None = refl
words_right (Some truth) = refl
words_right (Some (word w)) = refl
words_right (Some (memory a d)) = refl

concat_right : (s : Option Sort) → concat_sort s None ≡ None
concat_right None = refl
concat_right (Some truth) = refl
concat_right (Some (word w)) = refl
concat_right (Some (memory a d)) = refl

load_right : (s : Option Sort) → load_sort s None ≡ None
load_right None = refl
load_right (Some truth) = refl
load_right (Some (word w)) = refl
load_right (Some (memory a d)) = refl

binary_left : (op : BinaryForm) (s : Option Sort) → binary_sort op None s ≡ None
binary_left and s = refl
binary_left or s = refl
binary_left xor s = refl
binary_left add s = refl
binary_left sub s = refl
binary_left mul s = refl
binary_left shl s = refl
binary_left lshr s = refl
binary_left ashr s = refl
binary_left eq s = refl
binary_left ult s = refl
binary_left ule s = refl
binary_left slt s = refl
binary_left sle s = refl
binary_left concat s = refl
binary_left load s = refl

binary_right : (op : BinaryForm) (s : Option Sort) → binary_sort op s None ≡ None
binary_right and s = bits_right s
binary_right or s = bits_right s
binary_right xor s = bits_right s
binary_right add s = words_right s
binary_right sub s = words_right s
binary_right mul s = words_right s
binary_right shl s = words_right s
binary_right lshr s = words_right s
binary_right ashr s = words_right s
binary_right eq s = compared_none _ (bits_right s)
binary_right ult s = compared_none _ (words_right s)
binary_right ule s = compared_none _ (words_right s)
binary_right slt s = compared_none _ (words_right s)
binary_right sle s = compared_none _ (words_right s)
binary_right concat s = concat_right s
binary_right load s = load_right s

ite_second : (c y : Option Sort) → ite_sort c None y ≡ None
ite_second None y = refl
ite_second (Some truth) y = refl
ite_second (Some (word w)) y = refl
ite_second (Some (memory a d)) y = refl

ite_third : (c x : Option Sort) → ite_sort c x None ≡ None
ite_third None x = refl
ite_third (Some truth) None = refl
ite_third (Some truth) (Some s) = refl
ite_third (Some (word w)) x = refl
ite_third (Some (memory a d)) x = refl

store_second : (m x : Option Sort) → store_sort m None x ≡ None
store_second None x = refl
store_second (Some truth) x = refl
store_second (Some (word w)) x = refl
store_second (Some (memory a d)) x = refl

store_third : (m i : Option Sort) → store_sort m i None ≡ None
store_third None i = refl
store_third (Some truth) i = refl
store_third (Some (word w)) i = refl
store_third (Some (memory a d)) None = refl
store_third (Some (memory a d)) (Some truth) = refl
store_third (Some (memory a d)) (Some (word w)) = refl
store_third (Some (memory a d)) (Some (memory b e)) = refl

-- ---- one term

-- the written sort is the term's, where this has one
abbrev IsAtLeast : (written real : Option Sort) → Type 0
IsAtLeast w t = (t ≡ None) ⊎ (w ≡ t)

-- the two are the same
abbrev IsSame : (written real : Option Sort) → Type 0
IsSame w t = w ≡ t

-- What names stand for has sorts that agree in this way.
abbrev AgreeOn : (Option Sort → Option Sort → Type 0) → Entries Visible → Type 0
AgreeOn Agree names = (n : Name) (v : Visible) → entry_of names n ≡ Some v → Agree v.sort (sort_of v.term)

on_one : (f : Option Sort → Option Sort) (w t : Option Sort) → f None ≡ None → IsAtLeast w t → IsAtLeast (f w) (f t)
on_one f w t n (inl e) = inl (ap f e ∙ n)
on_one f w t n (inr e) = inr (ap f e)

on_two : (f : Option Sort → Option Sort → Option Sort) (w t v u : Option Sort) → ((s : Option Sort) → f None s ≡ None) → ((s : Option Sort) → f s None ≡ None)
    → IsAtLeast w t → IsAtLeast v u → IsAtLeast (f w v) (f t u)
on_two f w t v u l r (inl e) b = inl (ap (λ x. f x u) e ∙ l u)
on_two f w t v u l r (inr e) (inl d) = inl (ap (f t) d ∙ r t)
on_two f w t v u l r (inr e) (inr d) = inr (ap (λ x. f x v) e ∙ ap (f t) d)

on_three : (f : Option Sort → Option Sort → Option Sort → Option Sort) (w t v u x y : Option Sort) → ((a b : Option Sort) → f None a b ≡ None) → ((a b : Option Sort) → f a None b ≡ None)
    → ((a b : Option Sort) → f a b None ≡ None) → IsAtLeast w t → IsAtLeast v u → IsAtLeast x y → IsAtLeast (f w v x) (f t u y)
on_three f w t v u x y l m r (inl e) b c = inl (ap (λ z. f z u y) e ∙ l u y)
on_three f w t v u x y l m r (inr e) (inl d) c = inl (ap (λ z. f t z y) d ∙ m t y)
on_three f w t v u x y l m r (inr e) (inr d) (inl g) = inl (ap (f t u) g ∙ r t u)
on_three f w t v u x y l m r (inr e) (inr d) (inr g) = inr (ap (λ z. f z v x) e ∙ (ap (λ z. f t z x) d ∙ ap (f t u) g))

constant_at_least : (w : ℕ) (a b : Bool) → IsAtLeast (some_if a (word w)) (some_if (a && b) (word w))
constant_at_least w true true = inr refl
constant_at_least w true false = inl refl
constant_at_least w false b = inl refl

or_parts : (a b : Bool) → (a || b) ≡ false → (a ≡ false) × (b ≡ false)
or_parts false b h = (refl, h)
or_parts true b h = absurd (false≢true (sym h))

name_at_least : (Agree : Option Sort → Option Sort → Type 0) (o : Option Visible) → ((v : Visible) → o ≡ Some v → Agree v.sort (sort_of v.term)) → is_none o ≡ false → Agree (option_and_then (λ v. v.sort) o) (sort_of (term_named o))
name_at_least Agree None s h = absurd (false≢true (sym h))
name_at_least Agree (Some v) s h = s v refl

at_least : (names : Entries Visible) (e : WrittenTerm) → AgreeOn IsAtLeast names → uses_unknown_name names e ≡ false → IsAtLeast (written_sort names e) (sort_of (term_of names e))
at_least names (name n) s u = name_at_least IsAtLeast (entry_of names n) (s n) u
at_least names (constant_truth b) s u = inr refl
at_least names (const w x) s u = constant_at_least w (is_width w) (nat_lt x (2 ^ w))
at_least names (unary op x) s u =
    subst (IsAtLeast (unary_sort op (written_sort names x))) (sym (unary_same op (term_of names x))) (on_one (unary_sort op) _ _ (unary_none op) (at_least names x s u))
at_least names (binary op x y) s u =
    let parts = or_parts (uses_unknown_name names x) (uses_unknown_name names y) u in
    subst (IsAtLeast (binary_sort op (written_sort names x) (written_sort names y))) (sym (binary_same op (term_of names x) (term_of names y)))
    (on_two (binary_sort op) _ _ _ _ (binary_left op) (binary_right op) (at_least names x s parts.0) (at_least names y s parts.1))
at_least names (extract h l x) s u = on_one (extract_sort h l) _ _ refl (at_least names x s u)
at_least names (widen z n x) s u =
    subst (IsAtLeast (extended_sort n (written_sort names x))) (sym (widened_same z n (term_of names x))) (on_one (extended_sort n) _ _ refl (at_least names x s u))
at_least names (ite c x y) s u =
    let first = or_parts (uses_unknown_name names c) (uses_unknown_name names x || uses_unknown_name names y) u in
    let parts = or_parts (uses_unknown_name names x) (uses_unknown_name names y) first.1 in
    on_three ite_sort _ _ _ _ _ _ (λ a b. refl) ite_second ite_third (at_least names c s first.0) (at_least names x s parts.0) (at_least names y s parts.1)
at_least names (store m i x) s u =
    let first = or_parts (uses_unknown_name names m) (uses_unknown_name names i || uses_unknown_name names x) u in
    let parts = or_parts (uses_unknown_name names i) (uses_unknown_name names x) first.1 in
    on_three store_sort _ _ _ _ _ _ (λ a b. refl) store_second store_third (at_least names m s first.0) (at_least names i s parts.0) (at_least names x s parts.1)

constant_same : (w : ℕ) (a b : Bool) → b ≡ true → some_if a (word w) ≡ some_if (a && b) (word w)
constant_same w true b h = ap (λ t. some_if t (word w)) (sym h)
constant_same w false b h = refl

same : (names : Entries Visible) (e : WrittenTerm) → AgreeOn IsSame names → uses_unknown_name names e ≡ false → has_fitting_constants e ≡ true → written_sort names e ≡ sort_of (term_of names e)
same names (name n) s u f = name_at_least IsSame (entry_of names n) (s n) u
same names (constant_truth b) s u f = refl
same names (const w x) s u f = constant_same w (is_width w) (nat_lt x (2 ^ w)) f
same names (unary op x) s u f = ap (unary_sort op) (same names x s u f) ∙ sym (unary_same op (term_of names x))
same names (binary op x y) s u f =
    let parts = or_parts (uses_unknown_name names x) (uses_unknown_name names y) u in
    let fits = and_parts (has_fitting_constants x) (has_fitting_constants y) f in
    ap (λ t. binary_sort op t (written_sort names y)) (same names x s parts.0 fits.0)
    ∙ (ap (binary_sort op (sort_of (term_of names x))) (same names y s parts.1 fits.1) ∙ sym (binary_same op (term_of names x) (term_of names y)))
same names (extract h l x) s u f = ap (extract_sort h l) (same names x s u f)
same names (widen z n x) s u f = ap (extended_sort n) (same names x s u f) ∙ sym (widened_same z n (term_of names x))
same names (ite c x y) s u f =
    let first = or_parts (uses_unknown_name names c) (uses_unknown_name names x || uses_unknown_name names y) u in
    let parts = or_parts (uses_unknown_name names x) (uses_unknown_name names y) first.1 in
    let front = and_parts (has_fitting_constants c) (has_fitting_constants x && has_fitting_constants y) f in
    let fits = and_parts (has_fitting_constants x) (has_fitting_constants y) front.1 in
    ap (λ t. ite_sort t (written_sort names x) (written_sort names y)) (same names c s first.0 front.0)
    ∙ (ap (λ t. ite_sort (sort_of (term_of names c)) t (written_sort names y)) (same names x s parts.0 fits.0)
    ∙ ap (ite_sort (sort_of (term_of names c)) (sort_of (term_of names x))) (same names y s parts.1 fits.1))
same names (store m i x) s u f =
    let first = or_parts (uses_unknown_name names m) (uses_unknown_name names i || uses_unknown_name names x) u in
    let parts = or_parts (uses_unknown_name names i) (uses_unknown_name names x) first.1 in
    let front = and_parts (has_fitting_constants m) (has_fitting_constants i && has_fitting_constants x) f in
    let fits = and_parts (has_fitting_constants i) (has_fitting_constants x) front.1 in
    ap (λ t. store_sort t (written_sort names i) (written_sort names x)) (same names m s first.0 front.0)
    ∙ (ap (λ t. store_sort (sort_of (term_of names m)) t (written_sort names x)) (same names i s parts.0 fits.0)
    ∙ ap (store_sort (sort_of (term_of names m)) (sort_of (term_of names i))) (same names x s parts.1 fits.1))

-- ---- all terms of a file

-- a way to agree, and a test of a term that gives it where it holds of names
record Way : Type 1 where
  pub Agree : Option Sort → Option Sort → Type 0
  pub fine : Entries Visible → WrittenTerm → Bool
  pub term : (names : Entries Visible) (e : WrittenTerm) → AgreeOn Agree names → fine names e ≡ true → Agree (written_sort names e) (sort_of (term_of names e))
  pub declaration : (n : Name) (s : Sort) → Agree (some_if (is_sort s) s) (sort_of (terms.name n s))

abbrev AllFine : Way → List PlacedTerm → Type 0
AllFine w ps = list_all (λ p. w.fine p.names p.written) ps ≡ true

abbrev AllAgree : Way → List PlacedTerm → Type 0
AllAgree w [] = ⊤
AllAgree w (p ∷ ps) = w.Agree (written_sort p.names p.written) (sort_of (meant p)) × AllAgree w ps

both_agree : (w : Way) (ps qs : List PlacedTerm) → AllAgree w ps → AllAgree w qs → AllAgree w (ps ++ qs)
both_agree w [] qs a b = b
both_agree w (p ∷ ps) qs a b = (a.0, both_agree w ps qs a.1 b)

both_fine : (w : Way) (ps qs : List PlacedTerm) → AllFine w (ps ++ qs) → AllFine w ps × AllFine w qs
both_fine w [] qs h = (refl, h)
both_fine w (p ∷ ps) qs h =
    let parts = and_parts (w.fine p.names p.written) _ h in
    let rest = both_fine w ps qs parts.1 in
    (and_from (w.fine p.names p.written) _ parts.0 rest.0, rest.1)

one_more : (w : Way) (names : Entries Visible) (n : Name) (v : Visible) → AgreeOn w.Agree names → w.Agree v.sort (sort_of v.term) → AgreeOn w.Agree ((n, v) ∷ names)
one_more w names n v a b m x h = by_test (same_name n m) h where
  by_test : (t : Bool) → cond t (Some v) (entry_of names m) ≡ Some x → w.Agree x.sort (sort_of x.term)
  by_test true e = let here : v ≡ x = cc in subst (λ y. w.Agree y.sort (sort_of y.term)) here b
  by_test false e = a m x e

inputs_agree : (w : Way) (names : Entries Visible) (is : List InputDeclaration) → AgreeOn w.Agree names → AgreeOn w.Agree (with_inputs names is)
inputs_agree w names [] a = a
inputs_agree w names (i ∷ is) a =
    inputs_agree w ((i.input_name, declared i.input_name i.sort) ∷ names) is (one_more w names i.input_name (declared i.input_name i.sort) a (w.declaration i.input_name i.sort))

states_agree : (w : Way) (names : Entries Visible) (ss : List StateDeclaration) → AgreeOn w.Agree names → AgreeOn w.Agree (with_states names ss)
states_agree w names [] a = a
states_agree w names (s ∷ ss) a =
    states_agree w ((s.state_name, declared s.state_name s.sort) ∷ names) ss (one_more w names s.state_name (declared s.state_name s.sort) a (w.declaration s.state_name s.sort))

definitions_agree : (w : Way) (names : Entries Visible) (ds : Entries WrittenTerm) → AgreeOn w.Agree names → AllFine w (placed_definitions names ds)
    → AllAgree w (placed_definitions names ds) × AgreeOn w.Agree (with_definitions names ds)
definitions_agree w names [] a h = (tt, a)
definitions_agree w names (d ∷ ds) a h =
    let parts = and_parts (w.fine names d.1) _ h in
    let here = w.term names d.1 a parts.0 in
    let rest = definitions_agree w ((d.0, defined names d.1) ∷ names) ds (one_more w names d.0 (defined names d.1) a here) parts.1 in
    ((here, rest.0), rest.1)

fetch_agrees : (w : Way) (names : Entries Visible) (f : Option WrittenTerm) → AgreeOn w.Agree names → AllFine w (placed_fetch names f)
    → AllAgree w (placed_fetch names f) × AgreeOn w.Agree (with_fetch names f)
fetch_agrees w names None a h = (tt, a)
fetch_agrees w names (Some e) a h =
    let here = w.term names e a (and_parts (w.fine names e) _ h).0 in
    ((here, tt), one_more w names (codes "fetch") (defined names e) a here)

updates_agree : (w : Way) (names : Entries Visible) (states : List StateDeclaration) (us : Entries WrittenTerm) → AgreeOn w.Agree names → AllFine w (placed_updates names states us) → AllAgree w (placed_updates names states us)
updates_agree w names states [] a h = tt
updates_agree w names states (u ∷ us) a h =
    let parts = and_parts (w.fine names u.1) _ h in
    (w.term names u.1 a parts.0, updates_agree w names states us a parts.1)

mutual
  machine_agrees : (w : Way) (around : MachineScope) (m : WrittenMachine) → AgreeOn w.Agree around.names → AllFine w (terms_in around m) → AllAgree w (terms_in around m)
  machine_agrees w around (machine ss ds f v is) a h =
      let inner : MachineScope = scope_within around ss ds in
      let names = with_fetch inner.names f in
      let first = both_fine w (placed_definitions (with_states around.names ss) ds) _ h in
      let second = both_fine w (placed_fetch inner.names f) (placed names v of_condition ∷ terms_below inner names is) first.1 in
      let third = and_parts (w.fine names v) _ second.1 in
      let definitions = definitions_agree w (with_states around.names ss) ds (states_agree w around.names ss a) first.0 in
      let fetch = fetch_agrees w inner.names f definitions.1 second.0 in
      both_agree w (placed_definitions (with_states around.names ss) ds) _ definitions.0
      (both_agree w (placed_fetch inner.names f) (placed names v of_condition ∷ terms_below inner names is) fetch.0
      (w.term names v fetch.1 third.0, instructions_agree w inner names is definitions.1 fetch.1 third.1))

  instructions_agree : (w : Way) (inner : MachineScope) (names : Entries Visible) (is : WrittenInstructions) → AgreeOn w.Agree inner.names → AgreeOn w.Agree names
      → AllFine w (terms_below inner names is) → AllAgree w (terms_below inner names is)
  instructions_agree w inner names no_instructions a b h = tt
  instructions_agree w inner names (and_then (instruction n d u p) is) a b h =
      let parts = both_fine w (terms_of_instruction inner names (instruction n d u p)) (terms_below inner names is) h in
      let own = and_parts (w.fine names d) _ parts.0 in
      let rest = both_fine w (placed_updates names inner.states u) (terms_of_child inner p) own.1 in
      both_agree w (terms_of_instruction inner names (instruction n d u p)) (terms_below inner names is)
      (w.term names d b own.0, both_agree w (placed_updates names inner.states u) (terms_of_child inner p) (updates_agree w names inner.states u b rest.0) (child_agrees w inner p a rest.1))
      (instructions_agree w inner names is a b parts.1)

  child_agrees : (w : Way) (inner : MachineScope) (p : WrittenChild) → AgreeOn w.Agree inner.names → AllFine w (terms_of_child inner p) → AllAgree w (terms_of_child inner p)
  child_agrees w inner no_child a h = tt
  child_agrees w inner (child steps m) a h = machine_agrees w inner m a h

none_visible : (w : Way) → AgreeOn w.Agree []
none_visible w n v h = cc

all_agree : (w : Way) (m : WrittenModel) → AllFine w (all_terms m) → AllAgree w (all_terms m)
all_agree w m h = machine_agrees w (outermost m) m.top (inputs_agree w [] m.inputs (none_visible w)) h

agree_at : (w : Way) (ps : List PlacedTerm) (k : ℕ) (p : PlacedTerm) → AllAgree w ps → slice_get ps k ≡ Some p → w.Agree (written_sort p.names p.written) (sort_of (meant p))
agree_at w [] k p a h = cc
agree_at w (q ∷ ps) zero p a h = let here : q ≡ p = cc in subst (λ x. w.Agree (written_sort x.names x.written) (sort_of (meant x))) here a.0
agree_at w (q ∷ ps) (suc k) p a h = agree_at w ps k p a.1 h

-- ---- the laws

not_unknown : (ps : List PlacedTerm) → list_any is_unknown_at ps ≡ false → list_all (λ p. truth_not (uses_unknown_name p.names p.written)) ps ≡ true
not_unknown [] h = refl
not_unknown (p ∷ ps) h =
    let parts = or_parts (is_unknown_at p) (list_any is_unknown_at ps) h in
    let own = or_parts (uses_unknown_name p.names p.written) _ parts.0 in
    and_from (truth_not (uses_unknown_name p.names p.written)) _ (ap truth_not own.0) (not_unknown ps parts.1)

was_known : (b : Bool) → truth_not b ≡ true → b ≡ false
was_known true h = absurd (false≢true h)
was_known false h = refl

abbrev upward : Way
upward = record {
  Agree = IsAtLeast;
  fine = λ names e. truth_not (uses_unknown_name names e);
  term = λ names e a h. at_least names e a (was_known (uses_unknown_name names e) h);
  declaration = λ n s. inr refl;
}

abbrev both_ways : Way
both_ways = record {
  Agree = IsSame;
  fine = λ names e. truth_not (uses_unknown_name names e) && has_fitting_constants e;
  term = λ names e a h.
      let parts = and_parts (truth_not (uses_unknown_name names e)) (has_fitting_constants e) h in
      same names e a (was_known (uses_unknown_name names e) parts.0) parts.1;
  declaration = λ n s. refl;
}

fine_both : (ps : List PlacedTerm) → list_all (λ p. truth_not (uses_unknown_name p.names p.written)) ps ≡ true → list_all (λ p. has_fitting_constants p.written) ps ≡ true → AllFine both_ways ps
fine_both [] a b = refl
fine_both (p ∷ ps) a b =
    let x = and_parts (truth_not (uses_unknown_name p.names p.written)) _ a in
    let y = and_parts (has_fitting_constants p.written) _ b in
    and_from (truth_not (uses_unknown_name p.names p.written) && has_fitting_constants p.written) _ (and_from (truth_not (uses_unknown_name p.names p.written)) (has_fitting_constants p.written) x.0 y.0) (fine_both ps x.1 y.1)

where_some : (w t : Option Sort) (s : Sort) → IsAtLeast w t → t ≡ Some s → w ≡ Some s
where_some w t s (inl e) h = cc
where_some w t s (inr e) h = e ∙ h

pub terms_sort : TermsSortIsTheWritten
terms_sort m k p s known at h =
    where_some (written_sort p.names p.written) (sort_of (meant p)) s (agree_at upward (all_terms m) k p (all_agree upward m (not_unknown (all_terms m) known)) at) h

pub same_sorts : SortsAreTheSame
same_sorts m k p s known fits at =
    let e = agree_at both_ways (all_terms m) k p (all_agree both_ways m (fine_both (all_terms m) (not_unknown (all_terms m) known) fits)) at in
    (λ h. sym e ∙ h, λ h. e ∙ h)
