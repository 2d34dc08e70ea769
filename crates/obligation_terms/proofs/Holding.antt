-- What terms of hypotheses, obligations and commands tell.
use Rattle.std.proofs.Common.{◌≡◌, ℕ, zero, suc, ◌+◌, ◌<◌, Bool, true, false, ◌||◌, List, [], length, Some, refl, sym, ap, ◌∙◌, subst, arith, inl, inr, ◌⊎◌}
use Rattle.std.specs.Prelude.{IsTrue, ◌↔◌, slice_get}
use Rattle.std.proofs.lemmas.Bool.{false≢true, cases_lt}
use Rattle.wb_values.specs.Value.{truth_value, truth, as_truth, Valuation}
use Rattle.model_meaning.specs.Term.{constant_truth, val}
use Rattle.model_meaning.specs.Model.{Model, machine, no_instructions}
use Rattle.refinement.specs.Map.{Map}
use Rattle.refinement.specs.Obligation.{Obligation, ended_at}
use Rattle.wb_terms.specs.Graph.{Graph, tree}
use Rattle.mapped_designs.specs.Mapped.{Mapped, MappedInstruction}
use Rattle.std.proofs.lemmas.List.{length-map}
use Rattle.mapped_designs.specs.declared.design.MappedDesign.{MappedDesign}
use Rattle.mapped_designs.specs.View.{mapped_of, number_of}
use Rattle.mapped_designs.specs.Broken.{BreaksObligation, HasCountsOf, IsCommandBy}
use Rattle.mapped_designs.specs.Runs.{Values, IsRestZero, Shows, ShowsAll}
use Rattle.run_terms.specs.Names.{values_of_run, FitsNames}
use Rattle.term_copies.specs.Copies.{IsExtended}
use Rattle.condition_terms.specs.Told.{Tells, IsJoined, IsTermOf, is_true}
use Rattle.condition_terms.proofs.Forming.{truth_form, Tells-kept, Tells-same, told_never, told_either}
use Rattle.fact_terms.proofs.Rows.{some_same}
use Rattle.obligation_lists.specs.declared.claims.MapCounts.{MapCounts}
use Rattle.obligation_lists.specs.declared.claims.Hypotheses.{Hypotheses}
use Rattle.obligation_lists.specs.declared.claims.Hypotheses.TheVariants.{Reset, Idle, Started, StartedBy, NotEnded, EndedAt}
use Rattle.obligation_lists.specs.Counts.{AreCountsOf}
use Rattle.obligation_lists.specs.Within.{Each, AreHypothesesOf}
use Rattle.fact_terms.specs.Asked.{AreCountsIn}
use Rattle.obligation_terms.specs.Asked.{IsFalseWhere}

-- hypotheses that are there by the one numbers are there by the others
pub alike_there : (m : Model) (c d : MapCounts) (last : ℕ) (h : Hypotheses) → c.reset_cycles ≡ d.reset_cycles → AreHypothesesOf m c last h → AreHypothesesOf m d last h
alike_there m c d last Reset e w = omega (arith, e, w)
alike_there m c d last Idle e w = w
alike_there m c d last Started e w = w
alike_there m c d last (StartedBy j) e w = w
alike_there m c d last (NotEnded j n) e w = w
alike_there m c d last (EndedAt j n) e w = w

-- A model without instructions asks for no bounds.
abbrev pub bare : Model
bare = record { model_name = []; inputs = []; top = machine [] (constant_truth true) no_instructions }

pub counts_of : (p : Map) (e : Mapped) (c : MapCounts) → HasCountsOf p e → p.reset_cycles ≡ e.reset_cycles → AreCountsIn e c → c.bounds.now ≡ [] → AreCountsOf bare p c
counts_of p e c h r w b = record {
  reset_cycles = r ∙ w.reset_cycles;
  assume = sym h.assume ∙ w.assume;
  invariants = sym h.invariants ∙ w.invariants;
  bounds = sym b;
}

-- a condition is false where its truth value is
pub false_where : {g : Graph} (id : ℕ) (v : Valuation) → IsTermOf g id truth → FitsNames g.names v → (val (tree g id) v ≡ truth_value false) ↔ (is_true g id v ≡ false)
false_where {g} id v w f = (λ e. ap as_truth e, λ e. truth_form (val (tree g id) v) (w.is_of v f) ∙ ap truth_value e)

fails : (b : Bool) (P : Type 0) → (IsTrue b ↔ P) → (b ≡ false) ↔ (¬ P)
fails true P e = (λ h. absurd (false≢true (sym h)), λ n. absurd (n (e.0 refl)))
fails false P e = (λ h p. false≢true (e.1 p), λ n. refl)

twice : (b : Bool) (P : Type 0) → (IsTrue b ↔ P) → ¬ ¬ P → P
twice true P e n = e.0 refl
twice false P e n = absurd (n (λ p. false≢true (e.1 p)))

-- The term of an obligation: not its premises, or its claim.
pub obligation_told : {g h : Graph} (id premises : ℕ) (m : Model) (e : Mapped) (n : ℕ) (o : Obligation) → ((v : Valuation) → FitsNames h.names v → FitsNames g.names v)
    → Tells g premises (λ v. IsRestZero e.parts (values_of_run e.parts n v).first × ShowsAll m e (values_of_run e.parts n v) o.hypotheses)
    → Tells h id (λ v. (¬ (IsRestZero e.parts (values_of_run e.parts n v).first × ShowsAll m e (values_of_run e.parts n v) o.hypotheses)) ⊎ Shows m e (values_of_run e.parts n v) o.claim)
    → IsFalseWhere h id e.parts n (λ x. BreaksObligation m e x o)
obligation_told {g} {h} id premises m e n o before w t v f =
    let x = values_of_run e.parts n v in
    let P : Type 0 = IsRestZero e.parts x.first × ShowsAll m e x o.hypotheses in
    let c = false_where id v t.condition f in
    let d = fails (is_true h id v) ((¬ P) ⊎ Shows m e x o.claim) (t.told v f) in (
      λ z.
          let no = d.0 (c.0 z) in
          let p : P = twice (is_true g premises v) P (w.told v (before v f)) (λ q. no (inl q)) in
          record { rest = p.0; hypotheses = p.1; fails = λ s. no (inr s) },
      λ b. c.1 (d.1 (λ s. elim s as (λ _. ⊥) [ inl q ↦ q (b.rest, b.hypotheses) | inr s ↦ b.fails s ])),
    )

-- ---- commands that end

-- for some cycle before a number the hypotheses of a commit at it hold
abbrev pub EndsBefore : Model → Mapped → Map → (j : ℕ) → Values → (n : ℕ) → Type 0
EndsBefore m e p j x n = (c : ℕ) × (c < n) × ShowsAll m e x (ended_at p j c)

one_later : (P : ℕ → Type 0) (n : ℕ) → (((c : ℕ) × (c < n) × P c) ⊎ P n) ↔ ((c : ℕ) × (c < n + 1) × P c)
one_later P n = (
  λ s. elim s as (λ _. (c : ℕ) × (c < n + 1) × P c) [ inl z ↦ (z.0, omega (arith, z.1), z.2) | inr y ↦ (n, omega arith, y) ],
  λ z. elim (cases_lt z.0 n) as (λ _. ((c : ℕ) × (c < n) × P c) ⊎ P n) [ inl l ↦ inl (z.0, l, z.2) | inr l ↦ inr (let same : z.0 ≡ n = omega (arith, z.1, l) in subst P same z.2) ],
)

pub none_ends : {g : Graph} (id : ℕ) (m : Model) (e : Mapped) (p : Map) (j : ℕ) (run : Valuation → Values) → IsJoined g id (λ v. false) → Tells g id (λ v. EndsBefore m e p j (run v) 0)
none_ends id m e p j run w = told_never id (λ v. EndsBefore m e p j (run v) 0) w (λ v f z. omega (arith, z.1))

pub one_ends : {g h l : Graph} (id any here n : ℕ) (m : Model) (e : Mapped) (p : Map) (j : ℕ) (run : Valuation → Values) → IsExtended g h → IsExtended h l
    → Tells g any (λ v. EndsBefore m e p j (run v) n) → Tells h here (λ v. ShowsAll m e (run v) (ended_at p j n)) → IsJoined l id (λ v. is_true h any v || is_true h here v)
    → Tells l id (λ v. EndsBefore m e p j (run v) (n + 1))
one_ends id any here n m e p j run a b w u t =
    Tells-same id (λ v. EndsBefore m e p j (run v) n ⊎ ShowsAll m e (run v) (ended_at p j n)) (λ v. EndsBefore m e p j (run v) (n + 1))
    (λ v f. one_later (λ c. ShowsAll m e (run v) (ended_at p j c)) n)
    (told_either id any here (λ v. EndsBefore m e p j (run v) n) (λ v. ShowsAll m e (run v) (ended_at p j n)) b (Tells-kept any (λ v. EndsBefore m e p j (run v) n) a w) u t)

-- The term of a cover: not what a command is.
pub cover_told : {g h : Graph} (id command : ℕ) (m : Model) (e : Mapped) (p : Map) (n j : ℕ) (i : MappedInstruction) → slice_get e.instructions j ≡ Some i
    → ((v : Valuation) → FitsNames h.names v → FitsNames g.names v)
    → Tells g command (λ v. IsRestZero e.parts (values_of_run e.parts n v).first × EndsBefore m e p j (values_of_run e.parts n v) i.bound)
    → Tells h id (λ v. ¬ (IsRestZero e.parts (values_of_run e.parts n v).first × EndsBefore m e p j (values_of_run e.parts n v) i.bound))
    → IsFalseWhere h id e.parts n (λ x. IsCommandBy m e p x j)
cover_told {g} {h} id command m e p n j i is before w t v f =
    let x = values_of_run e.parts n v in
    let P : Type 0 = IsRestZero e.parts x.first × EndsBefore m e p j x i.bound in
    let c = false_where id v t.condition f in
    let d = fails (is_true h id v) (¬ P) (t.told v f) in (
      λ z.
          let q : P = twice (is_true g command v) P (w.told v (before v f)) (d.0 (c.0 z)) in
          record { rest = q.0; ending = i; is_ending = is; cycle = q.1.0; below = q.1.1; hypotheses = q.1.2 },
      λ b. c.1 (d.1 (λ no. no (b.rest, (b.cycle, subst (λ (k : MappedInstruction). b.cycle < k.bound) (some_same b.ending i (sym b.is_ending ∙ is)) b.below, b.hypotheses)))),
    )

-- the hypotheses of a commit ask nothing of the reset
abbrev pub with_reset : Map → ℕ → Map
with_reset p n = record {
  top = p.top;
  clock = p.clock;
  reset_signal = p.reset_signal;
  reset_active = p.reset_active;
  reset_cycles = n;
  assume = p.assume;
  invariants = p.invariants;
  start = p.start;
  states = p.states;
  inputs = p.inputs;
  instructions = p.instructions;
}

pub same_counts : (p : Map) (e : Mapped) (n : ℕ) → HasCountsOf p e → HasCountsOf (with_reset p n) e
same_counts p e n h = record { assume = h.assume; invariants = h.invariants }

-- the numbers of a map in the code's form
abbrev pub numbers_of : MappedDesign → MapCounts
numbers_of x = record { reset_cycles = x.reset_cycles; assume = length x.assume.items; invariants = length x.invariants.items; bounds = record { ref_ptr = (0, 0); now = [] } }

pub are_numbers : (x : MappedDesign) → AreCountsIn (mapped_of x) (numbers_of x)
are_numbers x = record { reset_cycles = refl; assume = length-map x.assume.items number_of; invariants = length-map x.invariants.items number_of }

pub each_same : {A : Type 0} (P : A → Type 0) {xs ys : List A} → xs ≡ ys → Each P xs → Each P ys
each_same P e h = subst (Each P) e h
