-- What is known of a store is known of it with further terms, and facts that hold together.
use Rattle.std.proofs.Common.{◌≡◌, ℕ, zero, suc, ◌+◌, ◌<◌, ◌≤◌, List, [], ◌∷◌, map, length, Some, refl, ap, ◌∙◌, subst, arith}
use Rattle.std.specs.Prelude.{◌&&◌, slice_get}
use Rattle.std.specs.Global.{Global}
use Rattle.std.specs.declared.vec.Vec.{Vec}
use Rattle.wb_values.specs.Value.{Sort, Value, Valuation}
use Rattle.model_meaning.specs.Term.{Term, val}
use Rattle.model_meaning.specs.Model.{Model, Instruction}
use Rattle.model_meaning.specs.Instruction.{Does, DecodesAt, IsStarted}
use Rattle.wb_terms.specs.declared.nodes.TermId.{TermId}
use Rattle.wb_terms.specs.Graph.{Graph}
use Rattle.term_copies.specs.Copies.{IsExtended, id_at}
use Rattle.term_copies.proofs.Extending.{tree_kept}
use Rattle.mapped_designs.specs.Mapped.{Mapped}
use Rattle.mapped_designs.specs.Runs.{Values, Shows, ShowsAll, worth_at, worth_of_registers_at}
use Rattle.run_terms.proofs.Values.{fits_before}
use Rattle.condition_terms.specs.Told.{Tells, IsJoined, is_true}
use Rattle.condition_terms.proofs.Forming.{IsTermOf-kept, Tells-kept, Tells-same}
use Rattle.condition_terms.proofs.Comparing.{one_more_alike}
use Rattle.obligation_lists.specs.declared.claims.Fact.{Fact}
use Rattle.obligation_lists.specs.Claims.{fact_of}
use Rattle.obligation_lists.specs.Within.{Each}
use Rattle.model_terms.specs.declared.putting.InstructionTerms.{InstructionTerms}
use Rattle.model_terms.specs.declared.putting.ModelTerms.{ModelTerms}
use Rattle.fact_terms.specs.Shown.{run_of, first_state, first_inputs}
use Rattle.fact_terms.specs.Ready.{IsShown, AreShown, IsInstructionShown, IsReadyFor}
use Rattle.fact_terms.proofs.Rows.{some_same, each_where}

pub shown_kept : {g h : Graph} (id : ℕ) (s : Sort) (m : Valuation → Value) → IsExtended g h → IsShown g id s m → IsShown h id s m
shown_kept {g} {h} id s m a w = record {
  of_sort = IsTermOf-kept id s a w.of_sort;
  value = λ v f. ap (λ (t : Term). val t v) (tree_kept id a w.of_sort.below) ∙ w.value v (fits_before v a f);
}

all_shown_kept : {g h : Graph} (source : Graph) (ids : List TermId) (m : Valuation → ℕ → Value) → IsExtended g h → AreShown g source ids m → AreShown h source ids m
all_shown_kept source ids m a w = record {
  count = w.count;
  each = λ k s b e. shown_kept (id_at ids k) s (λ v. m v k) a (w.each k s b e);
}

instruction_kept : {g h : Graph} (m : Model) (e : Mapped) (n : ℕ) (i : Instruction) (t : InstructionTerms) → IsExtended g h → IsInstructionShown m e n g i t → IsInstructionShown m e n h i t
instruction_kept m e n i t a w = record {
  decode = Tells-kept t.decode.0 (λ v. DecodesAt m (first_state m e n v) (first_inputs m e n v) i) a w.decode;
  ends = Tells-kept t.ends.0 (λ v. (r : Valuation) × Does m i (first_state m e n v) (first_inputs m e n v) r) a w.ends;
  count = w.count;
  results = λ k d s. IsTermOf-kept (id_at t.results.items k) d.sort a (w.results k d s);
  values = λ k d v r s f does. ap (λ (x : Term). val x v) (tree_kept (id_at t.results.items k) a (w.results k d s).below) ∙ w.values k d v r s (fits_before v a f) does;
}

-- a larger store is ready too
pub ready_kept : {g h : Graph} (m : Model) (e : Mapped) (n : ℕ) (xs ys : List (Vec TermId Global)) (t : ModelTerms) → IsExtended g h → IsReadyFor m e n g xs ys t
    → IsReadyFor m e n h xs ys t
ready_kept m e n xs ys s a r = record {
  sorted = r.sorted;
  names = a.names ∙ r.names;
  distinct = r.distinct;
  initial = r.initial;
  each_cycle = r.each_cycle;
  read = λ t ids i. all_shown_kept e.parts.graph ids.items (λ v k. worth_at e.parts (run_of e n v) t k) a (r.read t ids i);
  one_more = r.one_more;
  shown = λ t ids i. all_shown_kept e.parts.graph ids.items (λ v k. worth_of_registers_at e.parts (run_of e n v) t k) a (r.shown t ids i);
  started = Tells-kept s.started.0 (λ v. (j : ℕ) × IsStarted m (first_state m e n v) (first_inputs m e n v) j) a r.started;
  counted = r.counted;
  instructions = λ j i t x y. instruction_kept m e n i t a (r.instructions j i t x y);
}

-- ---- facts that hold together

pub each_at : {A : Type 0} (P : A → Type 0) (xs : List A) (k : ℕ) (x : A) → Each P xs → slice_get xs k ≡ Some x → P x
each_at P [] k x h e = absurd (cc)
each_at P (y ∷ ys) zero x h e = subst P (some_same y x e) h.0
each_at P (y ∷ ys) (suc k) x h e = each_at P ys k x h.1 e

-- the run of each valuation shows the fact at a place
abbrev pub ShowsAt : Model → Mapped → (run : Valuation → Values) → List Fact → (k : ℕ) → Valuation → Type 0
ShowsAt m e run fs k v = (f : Fact) → slice_get fs k ≡ Some f → Shows m e (run v) (fact_of f)

all_shown : (m : Model) (e : Mapped) (x : Values) (fs : List Fact) → ((k : ℕ) (f : Fact) → k < length fs → slice_get fs k ≡ Some f → Shows m e x (fact_of f)) → ShowsAll m e x (map fact_of fs)
all_shown m e x [] h = tt
all_shown m e x (f ∷ fs) h = (h zero f (omega arith) refl, all_shown m e x fs (λ k q b i. h (suc k) q (omega (arith, b)) i))

each_shown : (m : Model) (e : Mapped) (x : Values) (fs : List Fact) → ShowsAll m e x (map fact_of fs) → (k : ℕ) (f : Fact) → slice_get fs k ≡ Some f → Shows m e x (fact_of f)
each_shown m e x [] a k f i = absurd (cc)
each_shown m e x (q ∷ fs) a zero f i = subst (λ (z : Fact). Shows m e x (fact_of z)) (some_same q f i) a.0
each_shown m e x (q ∷ fs) a (suc k) f i = each_shown m e x fs a.1 k f i

pub all_told : {g : Graph} (id n : ℕ) (m : Model) (e : Mapped) (run : Valuation → Values) (fs : List Fact) → length fs ≤ n → Tells g id (λ v. (k : ℕ) → k < n → ShowsAt m e run fs k v)
    → Tells g id (λ v. ShowsAll m e (run v) (map fact_of fs))
all_told id n m e run fs b w =
    Tells-same id (λ v. (k : ℕ) → k < n → ShowsAt m e run fs k v) (λ v. ShowsAll m e (run v) (map fact_of fs))
    (λ v f. (λ h. all_shown m e (run v) fs (λ k q l i. h k (omega (arith, b, l)) q i), λ a k l q i. each_shown m e (run v) fs a k q i)) w

-- the facts before a place, and the one at it
pub one_more_shown : (g h l : Graph) (all here id n : ℕ) (m : Model) (e : Mapped) (run : Valuation → Values) (fs : List Fact) (f : Fact) → slice_get fs n ≡ Some f → IsExtended g h → IsExtended h l
    → Tells g all (λ v. (k : ℕ) → k < n → ShowsAt m e run fs k v) → Tells h here (λ v. Shows m e (run v) (fact_of f)) → IsJoined l id (λ v. is_true h all v && is_true h here v)
    → Tells l id (λ v. (k : ℕ) → k < n + 1 → ShowsAt m e run fs k v)
one_more_shown g h l all here id n m e run fs f i a b w u j =
    one_more_alike g h l all here id n (λ k v. ShowsAt m e run fs k v) a b w
    (Tells-same here (λ v. Shows m e (run v) (fact_of f)) (λ v. ShowsAt m e run fs n v) (λ v z. each_where fs n f (λ (q : Fact). Shows m e (run v) (fact_of q)) i) u) j
