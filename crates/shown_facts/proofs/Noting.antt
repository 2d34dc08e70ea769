-- What is noted of a run, cycle by cycle.
use Rattle.std.proofs.Common.{◌≡◌, ◌∙◌, ◌<◌, ◌≤◌, ◌+◌, ◌-◌, ◌++◌, ℕ, Bool, true, zero, suc, List, [], ◌∷◌, length, get_or, map, replicate, Option, Some, None, refl, sym, ap, subst, arith}
use Rattle.std.specs.Prelude.{All, IsTrue, slice_get}
use Rattle.std.proofs.lemmas.Bool.{and_parts, false≢true}
use Rattle.std.proofs.lemmas.List.{append-nil, get_or-map, get_or_append_left, get_or-append-add, length-append, length-drop, length-map}
use Rattle.std.proofs.lemmas.List.Elements.{All-tail}
use Rattle.std.proofs.lemmas.Option.{none-some, same_Some}
use Rattle.wb_values.specs.Value.{Sort, truth, word, memory, Value, number, Entries, as_truth, valuation_of}
use Rattle.model_meaning.specs.Model.{Model}
use Rattle.model_meaning.specs.Term.{val}
use Rattle.wb_terms.specs.declared.nodes.TermId.{TermId}
use Rattle.wb_terms.specs.Graph.{tree}
use Rattle.wb_terms.specs.declared.values.Env.{Env}
use Rattle.wb_terms.specs.Environment.{AreOfSorts, value_of, values_of, values_by_name}
use Rattle.ila_model.specs.Meaning.{zero_of}
use Rattle.ila_child.specs.State.{IsStateOf}
use Rattle.ila_child.proofs.Initial.{zero_has_sort}
use Rattle.v_design.specs.declared.values.Inputs.{Inputs}
use Rattle.v_design.specs.Seen.{input_values}
use Rattle.v_design.specs.Parts.{Parts, inputs_of, is_term_of, is_word, are_words, value_in, registers_after}
use Rattle.v_cycle.specs.declared.cycle.Cycle.{Cycle}
use Rattle.v_cycle.specs.Running.{IsCycleOf, registers_in}
use Rattle.mapped_designs.specs.declared.design.MappedDesign.{MappedDesign}
use Rattle.mapped_designs.specs.declared.design.MappedInstruction.{MappedInstruction as CodeInstruction}
use Rattle.mapped_designs.specs.Mapped.{Mapped, MappedInstruction, IsSortedFor}
use Rattle.mapped_designs.specs.View.{mapped_of, number_of, instruction_view}
use Rattle.mapped_designs.specs.Runs.{Values, registers_at, worth_at, zero_inputs}
use Rattle.shown_facts.specs.declared.rows.Row.{Row}
use Rattle.shown_facts.specs.declared.seen.Seen.{Seen}
use Rattle.shown_facts.specs.Values.{inputs_given}
use Rattle.shown_facts.specs.Noted.{IsRowOf, AreRows, IsSeenFrom}
use Rattle.shown_facts.specs.Run.{IsRunTo}

-- ---- lists

pub of_mapped : {A B : Type 0} (P : B → Type 0) (f : A → B) (xs : List A) → All P (map f xs) → All (λ x. P (f x)) xs
of_mapped P f xs h k d lt = subst P (get_or-map f xs k d (f d) lt) (h k (f d) (omega (arith, lt, length-map xs f)))

pub fused : {A B C : Type 0} (f : B → C) (g : A → B) (xs : List A) → map f (map g xs) ≡ map (λ x. f (g x)) xs
fused f g [] = refl
fused f g (x ∷ xs) = ap (λ l. f (g x) ∷ l) (fused f g xs)

-- what is said of each element and its place is said of one more
pub pushed : {A : Type 0} (P : ℕ → A → Type 0) (xs : List A) (y : A) → ((k : ℕ) (x : A) → slice_get xs k ≡ Some x → P k x) → P (length xs) y
    → (k : ℕ) (x : A) → slice_get (xs ++ y ∷ []) k ≡ Some x → P k x
pushed P [] y h p zero x e = subst (P 0) (same_Some y x e) p
pushed P [] y h p (suc k) x e = absurd (none-some x e)
pushed P (z ∷ zs) y h p zero x e = h zero x e
pushed P (z ∷ zs) y h p (suc k) x e = pushed (λ j. P (suc j)) zs y (λ j u. h (suc j) u) p k x e

all_left : {A : Type 0} (P : A → Type 0) (xs ys : List A) → All P (xs ++ ys) → All P xs
all_left P xs ys h k d lt = subst P (get_or_append_left xs ys d k lt) (h k d (omega (arith, lt, length-append xs ys)))

all_right : {A : Type 0} (P : A → Type 0) (xs ys : List A) → All P (xs ++ ys) → All P ys
all_right P xs ys h k d lt = subst P (get_or-append-add xs ys k d) (h (length xs + k) d (omega (arith, lt, length-append xs ys)))

-- ---- the conditions of a map

module _ (m : Model) (x : MappedDesign) (sorted : IsSortedFor m (mapped_of x)) where
  abbrev IsTruth : ℕ → Type 0
  IsTruth id = IsTrue (is_term_of x.design.terms truth id)

  abbrev commits : List ℕ
  commits = map (λ (i : MappedInstruction). i.commit) (mapped_of x).instructions

  lists : All IsTruth ((mapped_of x).assume ++ ((mapped_of x).invariants ++ commits))
  lists =
      All-tail IsTruth (mapped_of x).start ((mapped_of x).assume ++ ((mapped_of x).invariants ++ commits))
      (All-tail IsTruth (mapped_of x).reset ((mapped_of x).start ∷ ((mapped_of x).assume ++ ((mapped_of x).invariants ++ commits))) sorted.conditions)

  later_lists : All IsTruth ((mapped_of x).invariants ++ commits)
  later_lists = all_right IsTruth (mapped_of x).assume ((mapped_of x).invariants ++ commits) lists

  pub reset_term : IsTruth x.reset.0
  reset_term = sorted.conditions zero zero (omega arith)

  pub start_term : IsTruth x.start.0
  start_term = sorted.conditions (suc zero) zero (omega arith)

  pub assume_terms : All (λ (id : TermId). IsTruth id.0) x.assume.items
  assume_terms =
      of_mapped IsTruth number_of x.assume.items
      (all_left IsTruth (mapped_of x).assume ((mapped_of x).invariants ++ commits) lists)

  pub invariant_terms : All (λ (id : TermId). IsTruth id.0) x.invariants.items
  invariant_terms =
      of_mapped IsTruth number_of x.invariants.items
      (all_left IsTruth (mapped_of x).invariants commits later_lists)

  pub commit_terms : All (λ (i : CodeInstruction). IsTruth i.commit.0) x.instructions.items
  commit_terms =
      of_mapped (λ (i : MappedInstruction). IsTruth i.commit) instruction_view x.instructions.items
      (of_mapped IsTruth (λ (i : MappedInstruction). i.commit) (mapped_of x).instructions
      (all_right IsTruth (mapped_of x).invariants commits later_lists))

-- ---- inputs

pub given_at : (d : Parts) (is : List Inputs) (t : ℕ) (i : Inputs) → slice_get is t ≡ Some i → inputs_given d is t ≡ input_values i
given_at d [] t i e = absurd (none-some i e)
given_at d (j ∷ is) zero i e = ap input_values (same_Some j i e)
given_at d (j ∷ is) (suc t) i e = given_at d is t i e

pub given_past : (d : Parts) (is : List Inputs) (t : ℕ) → length is ≤ t → inputs_given d is t ≡ zero_inputs d
given_past d [] t le = refl
given_past d (j ∷ is) zero le = absurd (omega (arith, le))
given_past d (j ∷ is) (suc t) le = given_past d is t (omega (arith, le))

pub zeros_are : (ns : Entries Sort) → are_words ns ≡ true → map number (replicate (length ns) 0) ≡ map (λ n. zero_of n.1) ns
zeros_are [] h = refl
zeros_are (n ∷ ns) h =
    let p = and_parts (is_word n.1) (are_words ns) h in
    let head : number 0 ≡ zero_of n.1 = zero_word n.1 p.0 in
    let rest : map number (replicate (length ns) 0) ≡ map (λ m. zero_of m.1) ns = zeros_are ns p.1 in
    (λ i. head i ∷ rest i)
  where
    zero_word : (s : Sort) → is_word s ≡ true → number 0 ≡ zero_of s
    zero_word truth h = absurd (false≢true h)
    zero_word (word w) h = refl
    zero_word (memory a w) h = absurd (false≢true h)

-- so many zeros as there are inputs
pub zeros_listed : (d : Parts) (xs : List ℕ) (n : ℕ) → are_words (inputs_of d) ≡ true → n ≡ length d.graph.names - d.register_count → xs ≡ replicate n 0
    → map number xs ≡ zero_inputs d
zeros_listed d xs n words count zeros =
    ap (map number) (zeros ∙ ap (λ k. replicate k 0) (count ∙ sym (length-drop d.register_count d.graph.names))) ∙ zeros_are (inputs_of d) words

pub zeros_fit : (ns : Entries Sort) → AreOfSorts ns (map (λ n. zero_of n.1) ns)
zeros_fit [] = tt
zeros_fit (n ∷ ns) = (zero_has_sort n.1, zeros_fit ns)

-- ---- what terms are worth

-- where the names of the store have these values
abbrev pub read : Parts → List Value → ℕ → Value
read d xs k = val (tree d.graph k) (valuation_of (values_by_name d.graph.names xs))

-- what is so of a condition under all values that the names may be is so of it under those that they have
pub here : (d : Parts) (e : Env) (k : ℕ) (b : Bool) → ((rs is : List Value) → values_of e ≡ rs ++ is → b ≡ as_truth (value_in d rs is k))
    → b ≡ as_truth (value_of d.graph e k)
here d e k b h = h (values_of e) [] (sym (append-nil (values_of e))) ∙ ap (λ xs. as_truth (read d xs k)) (append-nil (values_of e))

pub row_read : (e : Mapped) (xs ys : List Value) (row : Row) → xs ≡ ys → IsRowOf e (read e.parts xs) row → IsRowOf e (read e.parts ys) row
row_read e xs ys row same h = subst (λ zs. IsRowOf e (read e.parts zs) row) same h

one_more : (t : ℕ) → suc t ≡ t + 1
one_more t = omega arith

pub next_row : (e : Mapped) (x : Values) (before after : Cycle) (rows : List Row) (row : Row) (t : ℕ) → IsRunTo e x before rows t → IsCycleOf e.parts after
    → values_of after.env ≡ registers_in before ++ x.inputs t → registers_in after ≡ registers_after e.parts (registers_in before) (x.inputs t)
    → IsRowOf e (value_of e.parts.graph after.env) row → IsRunTo e x after (rows ++ row ∷ []) (t + 1)
next_row e x before after rows row t run made ran next noted =
    let names : values_of after.env ≡ registers_at e.parts x t ++ x.inputs t = ran ∙ ap (λ l. l ++ x.inputs t) run.reaches in
    let there : IsRowOf e (worth_at e.parts x t) row = row_read e (values_of after.env) (registers_at e.parts x t ++ x.inputs t) row names noted in
    record {
      made = made;
      reaches = subst (λ k. registers_in after ≡ registers_at e.parts x k) (one_more t) (next ∙ ap (λ l. registers_after e.parts l (x.inputs t)) run.reaches);
      rows_are = pushed (λ k r. IsRowOf e (worth_at e.parts x k) r) rows row run.rows_are (subst (λ k. IsRowOf e (worth_at e.parts x k) row) (sym run.count) there);
      count = omega (arith, run.count, length-append rows (row ∷ []));
    }

pub begun : (e : Mapped) (x : Values) (c : Cycle) (rows : List Row) → IsCycleOf e.parts c → registers_in c ≡ x.first → rows ≡ [] → IsRunTo e x c rows 0
begun e x c rows made at none =
    record { made = made; reaches = at; rows_are = λ t row e. absurd (none-some row (ap (λ (l : List Row). slice_get l t) (sym none) ∙ e)); count = ap length none }

-- what is seen where the names have the values of the registers and inputs that are 0
pub seen_so : (m : Model) (e : Mapped) (rs cs is : List Value) (env : Env) (seen : Seen) (ids : List TermId) → values_of env ≡ cs ++ is → cs ≡ rs → is ≡ zero_inputs e.parts
    → seen.state ≡ map (value_in e.parts cs is) e.states → IsStateOf m seen.state → e.invariants ≡ map (λ (id : TermId). id.0) ids
    → seen.invariants.items ≡ map (λ (id : TermId). as_truth (value_of e.parts.graph env id.0)) ids → IsSeenFrom m e rs seen
seen_so m e rs cs is env seen ids ran registers zeros states sorted listed bits =
    record {
      state_is = states ∙ (λ i. map (value_in e.parts (registers i) (zeros i)) e.states);
      sorted = sorted;
      invariants_are =
          bits ∙ (sym (fused (λ k. as_truth (value_of e.parts.graph env k)) (λ (id : TermId). id.0) ids)
          ∙ (ap (map (λ k. as_truth (value_of e.parts.graph env k))) (sym listed)
          ∙ ap (λ xs. map (λ k. as_truth (read e.parts xs k)) e.invariants) (ran ∙ (λ i. registers i ++ zeros i))));
    }
