-- A design over a store that has grown from its own, and what is told of a store after that.
use Rattle.std.proofs.Common.{◌≡◌, ◌∙◌, ℕ, suc, ◌<◌, ◌≤◌, true, refl, ap, sym, subst, List, [], ◌∷◌, take, drop, length, Option, Some, None, arith}
use Rattle.std.specs.Prelude.{IsTrue, nat_lt, ◌==◌}
use Rattle.std.proofs.lemmas.Bool.{and_from, and_parts, false≢true}
use Rattle.std.proofs.lemmas.Bool.Decides.{nat_tests}
use Rattle.wb_values.specs.Value.{Sort, truth, word, Valuation, Entries}
use Rattle.model_meaning.specs.Term.{Term, val, sort_of}
use Rattle.model_meaning.specs.Invariant.{IsModel}
use Rattle.verilog_trees.specs.Syntax.{Expression}
use Rattle.verilog_meaning.specs.Expression.{Scope}
use Rattle.verilog_meaning.specs.Settled.{Design}
use Rattle.refinement.specs.Map.{Setting, design_of}
use Rattle.wb_terms.specs.Graph.{Graph, tree}
use Rattle.v_operators.specs.Meaning.{Grows, IsOfSort, HasNumber}
use Rattle.v_operators.proofs.Growing.{Grows-trans, tree_kept, below_kept, truth_kept, IsOfSort-kept}
use Rattle.v_lower.specs.Lowered.{Images, HasImages}
use Rattle.v_lower.proofs.Lowering.{images_kept}
use Rattle.v_design.specs.Registers.{CountedBits}
use Rattle.v_design.specs.Parts.{Parts, has_sort, is_term_of, are_terms_of, is_within, are_bits_for, are_words}
use Rattle.path_terms.specs.Cycles.{HasItsTerms, environment}
use Rattle.path_terms.specs.Origins.{AreTermsOfNames}
use Rattle.path_terms.specs.Mapped.{AreConditions}
use Rattle.path_terms.specs.Laws.{NamesHaveTerms}
use Rattle.path_terms.proofs.Standing.{terms_stand}
use Rattle.mapped_designs.specs.Broken.{HasCountsOf}
use Rattle.mapped_designs.specs.Meaning.{IsMappedBy}
use Rattle.map_terms.specs.Terms.{TermsOfMap, IsResetTerm, AreMapTerms}
use Rattle.map_terms.specs.Ready.{IsReady}
use Rattle.map_terms.proofs.Signal.{signal_sort}
use Rattle.map_terms.proofs.Assembled.{mapped_with, is_mapped}

less : (m n : ℕ) → nat_lt m n ≡ true → m < n
less m n h = grind (arith, nat_tests, h)

more : (m n : ℕ) → m < n → nat_lt m n ≡ true
more m n h = grind (arith, nat_tests, h)

-- ---- what a design's record holds

module _ (g h : Graph) (grows : Grows g h) where
  term_stays : (t : Sort) (id : ℕ) → IsTrue (is_term_of g t id) → IsTrue (is_term_of h t id)
  term_stays t id k =
      let p = and_parts (nat_lt id (length g.nodes)) (has_sort t (sort_of (tree g id))) k in
      let l : id < length g.nodes = less id (length g.nodes) p.0 in
      and_from (nat_lt id (length h.nodes)) (has_sort t (sort_of (tree h id))) (more id (length h.nodes) (below_kept id grows l))
      (ap (λ (x : Term). has_sort t (sort_of x)) (tree_kept id grows l) ∙ p.1)

  terms_stay : (ns : Entries Sort) (ids : List ℕ) → IsTrue (are_terms_of g ns ids) → IsTrue (are_terms_of h ns ids)
  terms_stay [] [] k = refl
  terms_stay [] (id ∷ ids) k = absurd (false≢true k)
  terms_stay (n ∷ ns) [] k = absurd (false≢true k)
  terms_stay (n ∷ ns) (id ∷ ids) k =
      let p = and_parts (is_term_of g n.1 id) (are_terms_of g ns ids) k in
      and_from (is_term_of h n.1 id) (are_terms_of h ns ids) (term_stays n.1 id p.0) (terms_stay ns ids p.1)

  pub counted_stays : (count : ℕ) → count ≤ length g.names → count ≤ length h.names
  counted_stays count k = subst (λ (ns : Entries Sort). count ≤ length ns) (sym grows.names) k

  pub sorted_stays : (count : ℕ) (ids : List ℕ) → IsTrue (are_terms_of g (take count g.names) ids) → IsTrue (are_terms_of h (take count h.names) ids)
  sorted_stays count ids k = subst (λ (ns : Entries Sort). IsTrue (are_terms_of h (take count ns) ids)) (sym grows.names) (terms_stay (take count g.names) ids k)

  pub counting_stays : (count : ℕ) (bits : List CountedBits) → IsTrue (are_bits_for (take count g.names) bits) → IsTrue (are_bits_for (take count h.names) bits)
  counting_stays count bits k = subst (λ (ns : Entries Sort). IsTrue (are_bits_for (take count ns) bits)) (sym grows.names) k

  pub words_stay : (count : ℕ) → IsTrue (are_words (drop count g.names)) → IsTrue (are_words (drop count h.names))
  words_stay count k = subst (λ (ns : Entries Sort). IsTrue (are_words (drop count ns))) (sym grows.names) k

  pub within_stays : (o : Option ℕ) → IsTrue (is_within g o) → IsTrue (is_within h o)
  within_stays None k = refl
  within_stays (Some id) k = more id (length h.nodes) (below_kept id grows (less id (length g.nodes) k))

-- ---- names and the reset

pub names_kept : (d : Design) (e : Parts) (s : Scope) (a : Images) (g h : Graph) → Grows g h → NamesHaveTerms d e s a g → NamesHaveTerms d e s a h
names_kept d e s a g h grows n =
    record {
      known = images_kept s a g h grows n.known;
      stands = λ registers inputs v c.
          let before = n.stands registers inputs v c in
          record {
            fits = before.fits;
            same = λ m id i. ap (λ (t : Term). val t (environment e registers inputs)) (tree_kept id grows (n.known.image m id i).of_sort.below) ∙ before.same m id i;
          };
    }

-- a number of the larger store is one of the smaller
number_before : {g h : Graph} (id w : ℕ) (p : Valuation) (x : ℕ) → Grows g h → id < length g.nodes → HasNumber h id w p x → HasNumber g id w p x
number_before id w p x grows l n = record { value = ap (λ (t : Term). val t p) (sym (tree_kept id grows l)) ∙ n.value; fits = n.fits }

-- The term of the reset is one of each larger store.
pub reset_kept : (g k h : Graph) (net active id : ℕ) → net < length g.nodes → Grows g k → Grows k h → IsResetTerm g net active k id → IsResetTerm h net active h id
reset_kept g k h net active id l first second r =
    record {
      of_sort = IsOfSort-kept id truth second r.of_sort;
      value = λ p x n. truth_kept id p (x == active) second r.of_sort.below (r.value p x (number_before net 1 p x (Grows-trans first second) l n));
    }

-- ---- assumptions and invariants

so_many : (s : Scope) (a : Images) (g : Graph) (es : List Expression) (ids : List ℕ) → AreConditions s a g es ids → length ids ≡ length es
so_many s a g [] [] h = refl
so_many s a g [] (id ∷ ids) h = absurd h
so_many s a g (e ∷ es) [] h = absurd h
so_many s a g (e ∷ es) (id ∷ ids) h = ap suc (so_many s a g es ids h.1)

pub counts : (st : Setting) (s : Scope) (a : Images) (e : Parts) (h : Graph) (cycles reset : ℕ) (r : TermsOfMap) → AreMapTerms st.model st.map s a h r
    → HasCountsOf st.map (mapped_with e h cycles reset r)
counts st s a e h cycles reset r made =
    record { assume = so_many s a h st.map.assume r.assume made.assume; invariants = so_many s a h st.map.invariants r.invariants made.invariants }

-- ---- the whole

module _ (st : Setting) (s : Scope) (e : Parts) (x : IsReady st s e) (own : HasItsTerms e) where
  pub signal_of_sort : (g : Graph) (signal : ℕ) → Grows e.graph g → e.settled st.map.reset_signal ≡ Some signal → IsOfSort g signal (word 1)
  signal_of_sort g signal grows is =
      IsOfSort-kept signal (word 1) grows (signal_sort (design_of st) e x.design own x.accepted x.of_text st.map.reset_signal x.reset signal is)

  pub named : (a : Images) (g : Graph) → Grows e.graph g → AreTermsOfNames s e g a → NamesHaveTerms (design_of st) e s a g
  named a g grows table = terms_stand (design_of st) e s a g x.design own x.accepted x.of_text x.is_scope grows table

  pub known : (a : Images) (g h : Graph) → Grows e.graph g → Grows g h → AreTermsOfNames s e g a → HasImages s a h
  known a g h grows further table = images_kept s a g h further (named a g grows table).known

  -- g is the store after names have their terms, k that after the reset has its own
  pub whole : (kept : IsModel st.model) (a : Images) (g k h : Graph) → Grows e.graph g → Grows g k → Grows k h → AreTermsOfNames s e g a → (r : TermsOfMap)
      → AreMapTerms st.model st.map s a h r → (signal reset : ℕ) → e.settled st.map.reset_signal ≡ Some signal → IsResetTerm g signal st.map.reset_active k reset
      → IsMappedBy st (mapped_with e h st.map.reset_cycles reset r)
  whole kept a g k h first second third table r made signal reset is says =
      is_mapped st s e x own kept a h (Grows-trans first (Grows-trans second third))
      (names_kept (design_of st) e s a g h (Grows-trans second third) (named a g first table)) r made signal reset is
      (reset_kept g k h signal st.map.reset_active reset (signal_of_sort g signal first is).below second third says)
