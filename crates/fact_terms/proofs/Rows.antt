-- Terms of the design at a cycle, read from the rows of a run.
use Rattle.std.proofs.Common.{◌≡◌, ℕ, zero, suc, ◌+◌, ◌<◌, ◌≤◌, Bool, true, false, ◌&&◌, List, [], ◌∷◌, ◌++◌, map, length, get_or, Some, refl, sym, ap, ◌∙◌, subst, arith}
use Rattle.std.specs.Prelude.{IsTrue, slice_get, ◌↔◌, All, unwrap_or, nat_lt, cond}
use Rattle.std.proofs.lemmas.Bool.{false≢true, le-ltb}
use Rattle.std.proofs.lemmas.Option.{slice_get_read, slice_get_within, get_or_from_slice_get}
use Rattle.std.proofs.lemmas.List.{get_or_read_under, length-append, get_or_append_left, get_or-append-add}
use Rattle.std.specs.Global.{Global}
use Rattle.std.specs.declared.vec.Vec.{Vec}
use Rattle.wb_values.specs.Value.{Sort, truth, Value, as_truth, Valuation, Entries}
use Rattle.wb_terms.specs.declared.nodes.TermId.{TermId}
use Rattle.wb_terms.specs.Graph.{Graph}
use Rattle.term_copies.specs.Copies.{declared_at}
use Rattle.v_design.specs.Parts.{Parts, inputs_of, value_in, is_term_of, are_terms_of}
use Rattle.model_meaning.specs.Model.{Model}
use Rattle.mapped_designs.specs.Mapped.{Mapped, IsSortedFor}
use Rattle.mapped_designs.specs.View.{mapped_of}
use Rattle.mapped_designs.specs.Runs.{registers_at, zero_inputs, worth_at, worth_of_registers_at}
use Rattle.run_terms.specs.Names.{values_from, first_input, values_of_run}
use Rattle.run_terms.proofs.Copied.{is_term}
use Rattle.condition_terms.specs.Told.{Tells}
use Rattle.fact_terms.specs.declared.shared.Shared.{Shared}
use Rattle.fact_terms.specs.Shown.{run_of}
use Rattle.fact_terms.specs.Ready.{IsShown, AreShown, IsReady}

of_row : (g source : Graph) (ids : List TermId) (meaning : Valuation → ℕ → Value) (k : ℕ) (id : TermId) (s : Sort) → AreShown g source ids meaning → id ≡ get_or ids k id
    → IsTrue (is_term_of source s k) → IsShown g id.0 s (λ v. meaning v k)
of_row g source ids meaning k id s a e t =
    let term = is_term source s k t in
    let at : id ≡ get_or ids k (record { 0 = 0 }) = get_or_read_under ids k (length ids) id (record { 0 = 0 }) e (omega (arith, term.below, a.count)) refl in
    subst (λ (x : TermId). IsShown g x.0 s (λ v. meaning v k)) (sym at) (a.each k s term.below term.sort)

pub read_row : (g : Graph) (h : Shared) (t k : ℕ) (row : Vec TermId Global) (id : TermId) (s : Sort) → IsReady g h → t < length h.read.now → row ≡ get_or h.read.now t row
    → id ≡ get_or row.items k id → IsTrue (is_term_of (mapped_of h.mapped.now).parts.graph s k)
    → IsShown g id.0 s (λ v. worth_at (mapped_of h.mapped.now).parts (run_of (mapped_of h.mapped.now) (length h.read.now) v) t k)
read_row g h t k row id s r b e i w =
    of_row g (mapped_of h.mapped.now).parts.graph row.items (λ v j. worth_at (mapped_of h.mapped.now).parts (run_of (mapped_of h.mapped.now) (length h.read.now) v) t j) k id s
    (r.read t row (slice_get_read h.read.now (length h.read.now) t row refl b e)) i w

pub shown_row : (g : Graph) (h : Shared) (t k : ℕ) (row : Vec TermId Global) (id : TermId) (s : Sort) → IsReady g h → t ≤ length h.read.now → row ≡ get_or h.shown.now t row
    → id ≡ get_or row.items k id → IsTrue (is_term_of (mapped_of h.mapped.now).parts.graph s k)
    → IsShown g id.0 s (λ v. worth_of_registers_at (mapped_of h.mapped.now).parts (run_of (mapped_of h.mapped.now) (length h.read.now) v) t k)
shown_row g h t k row id s r b e i w =
    of_row g (mapped_of h.mapped.now).parts.graph row.items (λ v j. worth_of_registers_at (mapped_of h.mapped.now).parts (run_of (mapped_of h.mapped.now) (length h.read.now) v) t j) k id s
    (r.shown t row (slice_get_read h.shown.now (length h.shown.now) t row refl (omega (arith, b, r.one_more)) e)) i w

pub shown_same : {g : Graph} (id : ℕ) (s : Sort) (m n : Valuation → Value) → ((v : Valuation) → m v ≡ n v) → IsShown g id s m → IsShown g id s n
shown_same id s m n e w = record { of_sort = w.of_sort; value = λ v f. w.value v f ∙ e v }

-- after the last cycle the inputs are 0
past_last : (d : Parts) (n t k : ℕ) (v : Valuation) → nat_lt t n ≡ false → worth_of_registers_at d (values_of_run d n v) t k ≡ worth_at d (values_of_run d n v) t k
past_last d n t k v p =
    ap (λ (b : Bool). value_in d (registers_at d (values_of_run d n v) t) (cond b (values_from (first_input d t) (inputs_of d) v) (zero_inputs d)) k) (sym p)

pub read_past : (g : Graph) (h : Shared) (t k : ℕ) (row : Vec TermId Global) (id : TermId) (s : Sort) → IsReady g h → t ≤ length h.read.now → length h.read.now ≤ t
    → row ≡ get_or h.shown.now t row → id ≡ get_or row.items k id → IsTrue (is_term_of (mapped_of h.mapped.now).parts.graph s k)
    → IsShown g id.0 s (λ v. worth_at (mapped_of h.mapped.now).parts (run_of (mapped_of h.mapped.now) (length h.read.now) v) t k)
read_past g h t k row id s r b p e i w =
    let d = (mapped_of h.mapped.now).parts in
    let n = length h.read.now in
    shown_same id.0 s (λ v. worth_of_registers_at d (values_of_run d n v) t k) (λ v. worth_at d (values_of_run d n v) t k) (λ v. past_last d n t k v (le-ltb t n p))
    (shown_row g h t k row id s r b e i w)

-- a condition of the design
pub told_shown : {g : Graph} (id : ℕ) (m : Valuation → Value) → IsShown g id truth m → Tells g id (λ v. IsTrue (as_truth (m v)))
told_shown {g} id m w = record {
  condition = w.of_sort;
  told = λ v f. (λ t. ap as_truth (sym (w.value v f)) ∙ t, λ t. ap as_truth (w.value v f) ∙ t);
}

-- ---- elements of lists

pub there : {A : Type 0} (xs : List A) (k : ℕ) → k < length xs → (x : A) × (slice_get xs k ≡ Some x)
there [] k b = absurd (omega (arith, b))
there (x ∷ xs) zero b = (x, refl)
there (x ∷ xs) (suc k) b = there xs k (omega (arith, b))

pub some_same : {A : Type 0} (x y : A) → Some x ≡ Some y → x ≡ y
some_same x y e = ap (λ o. unwrap_or o x) e

pub mapped_at : {A B : Type 0} (f : A → B) (xs : List A) (k : ℕ) (x : A) → slice_get xs k ≡ Some x → slice_get (map f xs) k ≡ Some (f x)
mapped_at f [] k x e = absurd (cc)
mapped_at f (y ∷ ys) zero x e = ap (λ (z : _). Some (f z)) (some_same y x e)
mapped_at f (y ∷ ys) (suc k) x e = mapped_at f ys k x e

-- what holds of the element at a place, told of each and of some
pub each_where : {A : Type 0} (xs : List A) (k : ℕ) (x : A) (P : A → Type 0) → slice_get xs k ≡ Some x → P x ↔ ((y : A) → slice_get xs k ≡ Some y → P y)
each_where xs k x P e = (λ p y i. subst P (some_same x y (sym e ∙ i)) p, λ h. h x e)

pub some_where : {A : Type 0} (xs : List A) (k : ℕ) (x : A) (P : A → Type 0) → slice_get xs k ≡ Some x → P x ↔ ((y : A) × (slice_get xs k ≡ Some y) × P y)
some_where xs k x P e = (λ p. (x, e, p), λ h. subst P (sym (some_same x h.0 (sym e ∙ h.1))) h.2)

-- ---- conditions of a map

-- each of a list, but for its first two
pub without_two : {A : Type 0} (P : A → Type 0) (x y : A) (xs : List A) → All P (x ∷ y ∷ xs) → All P xs
without_two P x y xs h k d b = h (suc (suc k)) d (omega (arith, b))

pub all_at : {A : Type 0} (P : A → Type 0) (xs : List A) (k : ℕ) (x : A) → All P xs → slice_get xs k ≡ Some x → P x
all_at P xs k x h e = subst P (get_or_from_slice_get xs k x x e) (h k x (slice_get_within xs k x e))

all_left : {A : Type 0} (P : A → Type 0) (xs ys : List A) → All P (xs ++ ys) → All P xs
all_left P xs ys h k d b = subst P (get_or_append_left xs ys d k b) (h k d (omega (arith, b, length-append xs ys)))

all_right : {A : Type 0} (P : A → Type 0) (xs ys : List A) → All P (xs ++ ys) → All P ys
all_right P xs ys h k d b = subst P (get_or-append-add xs ys k d) (h (length xs + k) d (omega (arith, b, length-append xs ys)))

pub among_first : {A : Type 0} (P : A → Type 0) (xs ys zs : List A) (k : ℕ) (x : A) → All P (xs ++ (ys ++ zs)) → slice_get xs k ≡ Some x → P x
among_first P xs ys zs k x h e = all_at P xs k x (all_left P xs (ys ++ zs) h) e

pub among_second : {A : Type 0} (P : A → Type 0) (xs ys zs : List A) (k : ℕ) (x : A) → All P (xs ++ (ys ++ zs)) → slice_get ys k ≡ Some x → P x
among_second P xs ys zs k x h e = all_at P ys k x (all_left P ys zs (all_right P xs (ys ++ zs) h)) e

pub among_third : {A : Type 0} (P : A → Type 0) (xs ys zs : List A) (k : ℕ) (x : A) → All P (xs ++ (ys ++ zs)) → slice_get zs k ≡ Some x → P x
among_third P xs ys zs k x h e = all_at P zs k x (all_right P ys zs (all_right P xs (ys ++ zs) h)) e

and_parts : (a b : Bool) → (a && b) ≡ true → (a ≡ true) × (b ≡ true)
and_parts true b h = (refl, h)
and_parts false b h = absurd (false≢true h)

-- the test of a term at a place
pub test_at : (g : Graph) (ns : Entries Sort) (ids : List ℕ) (k id : ℕ) → are_terms_of g ns ids ≡ true → k < length ns → slice_get ids k ≡ Some id → is_term_of g (declared_at ns k).1 id ≡ true
test_at g [] ids k id h b e = absurd (omega (arith, b))
test_at g (n ∷ ns) [] k id h b e = absurd (false≢true h)
test_at g (n ∷ ns) (j ∷ ids) zero id h b e = subst (λ x. is_term_of g n.1 x ≡ true) (some_same j id e) (and_parts (is_term_of g n.1 j) (are_terms_of g ns ids) h).0
test_at g (n ∷ ns) (j ∷ ids) (suc k) id h b e = test_at g ns ids k id (and_parts (is_term_of g n.1 j) (are_terms_of g ns ids) h).1 (omega (arith, b)) e

-- the id that the code reads at a place
pub id_there : (ids : List TermId) (k : ℕ) (id : TermId) → k < length ids → id ≡ get_or ids k id → slice_get (map (λ (x : TermId). x.0) ids) k ≡ Some id.0
id_there ids k id b e = mapped_at (λ (x : TermId). x.0) ids k id (slice_get_read ids (length ids) k id refl b e)

-- ---- the first two conditions of a map

pub reset_term : (m : Model) (e : Mapped) → IsSortedFor m e → IsTrue (is_term_of e.parts.graph truth e.reset)
reset_term m e s = s.conditions zero zero (omega arith)

pub start_term : (m : Model) (e : Mapped) → IsSortedFor m e → IsTrue (is_term_of e.parts.graph truth e.start)
start_term m e s = s.conditions (suc zero) zero (omega arith)
