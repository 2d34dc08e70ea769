-- Single obligations taken out of the list of all.
use Rattle.std.proofs.Common.{◌≡◌, ℕ, zero, suc, ◌+◌, ◌<◌, true, false, cond, List, [], ◌∷◌, length, arith, subst, refl, ap, ◌∙◌, Some}
use Rattle.std.specs.Prelude.{slice_get, IsTrue, is_some}
use Rattle.std.proofs.lemmas.Slice.Eq.{bytes_eq-Decides}
use Rattle.wb_values.specs.Value.{Name, same_name, Value}
use Rattle.model_meaning.specs.Model.{StateDeclaration, state_named, Instruction}
use Rattle.refinement.specs.Map.{Setting}
use Rattle.refinement.specs.Run.{Run, IsRun, HoldsOf}
use Rattle.refinement.specs.Obligation.{Fact, invariant, Means, MeansAll, numbered, invariant_obligations, state_obligations, with_initial_values, instruction_obligations, all_instruction_obligations}
use Rattle.refinement.specs.Soundness.{AllHold}
use Rattle.soundness.proofs.FactLists.{AllHold-left, AllHold-right, AllHold-for_each}

some_at : {A : Type 0} (xs : List A) (k : ℕ) (x : A) → slice_get xs k ≡ Some x → k < length xs
some_at [] k x e = cc
some_at (y ∷ xs) zero x e = omega arith
some_at (y ∷ xs) (suc k) x e = omega (arith, some_at xs k x e)

-- where the hypotheses hold, so does each invariant
pub invariants_given : (s : Setting) (text : Name) (cycles : ℕ) (hypotheses : List Fact) (t : ℕ)
    → AllHold s (invariant_obligations s.map text cycles hypotheses t)
    → (run : Run) → IsRun s run cycles → MeansAll s run hypotheses → (k : ℕ) → HoldsOf s run s.map.invariants k t
invariants_given s text cycles hypotheses t all run r h k e is_k =
    (AllHold-for_each s
    (λ i. record { called = numbered text i; cycles = cycles; hypotheses = hypotheses; claim = invariant i t } ∷ [])
    0 (length s.map.invariants) all k (omega arith) (omega (arith, some_at s.map.invariants k e is_k))).0 run r h e is_k

same_name_true : (m n : Name) → same_name m n ≡ true → m ≡ n
same_name_true m n h = (bytes_eq-Decides m n).0 h

-- where the hypotheses hold, so does the claim for each state
pub states_given : (s : Setting) (text : Name) (cycles : ℕ) (hypotheses : List Fact) (claim : Name → Fact) (ds : List StateDeclaration)
    → AllHold s (state_obligations text cycles hypotheses claim ds)
    → (run : Run) → IsRun s run cycles → MeansAll s run hypotheses
    → (n : Name) → IsTrue (is_some (state_named ds n)) → Means s run (claim n)
states_given s text cycles hypotheses claim [] all run r h n is_state = cc
states_given s text cycles hypotheses claim (d ∷ ds) all run r h n is_state =
    (elim (same_name d.state_name n) as
    (λ b. same_name d.state_name n ≡ b → IsTrue (is_some (cond b (Some d) (state_named ds n)))
    → ((m : Name) → IsTrue (is_some (state_named ds m)) → Means s run (claim m)) → Means s run (claim n)) [
      | true ↦ λ e some rest. subst (λ m. Means s run (claim m)) (same_name_true d.state_name n e) (all.0 run r h)
      | false ↦ λ e some rest. rest n some
    ]) refl is_state (states_given s text cycles hypotheses claim ds all.1 run r h)

named_among_initial : (ds : List StateDeclaration) (n : Name) (d : StateDeclaration) (x : Value) → state_named ds n ≡ Some d
    → d.init ≡ Some x → IsTrue (is_some (state_named (with_initial_values ds) n))
named_among_initial [] n d x is_d is_x = cc
named_among_initial (f ∷ ds) n d x is_d is_x =
    (elim (same_name f.state_name n) as
    (λ b. same_name f.state_name n ≡ b → cond b (Some f) (state_named ds n) ≡ Some d
    → (state_named ds n ≡ Some d → IsTrue (is_some (state_named (with_initial_values ds) n)))
    → IsTrue (is_some (state_named (cond (is_some f.init) (f ∷ with_initial_values ds) (with_initial_values ds)) n))) [
      | true ↦ λ e is_f rest.
          let same : f ≡ d = cc in
          let has : f.init ≡ Some x = ap (λ g. g.init) same ∙ is_x in
          rw (has, e) refl
      | false ↦ λ e is_f rest.
          (elim (is_some f.init) as
          (λ c. IsTrue (is_some (state_named (cond c (f ∷ with_initial_values ds) (with_initial_values ds)) n))) [
            | true ↦ rw e (rest is_f)
            | false ↦ rest is_f
          ])
    ]) refl is_d (λ g. named_among_initial ds n d x g is_x)

-- where the hypotheses hold, so does the claim for each state with a stated initial value
pub initial_given : (s : Setting) (text : Name) (cycles : ℕ) (hypotheses : List Fact) (claim : Name → Fact) (ds : List StateDeclaration)
    → AllHold s (state_obligations text cycles hypotheses claim (with_initial_values ds))
    → (run : Run) → IsRun s run cycles → MeansAll s run hypotheses
    → (n : Name) (d : StateDeclaration) (x : Value) → state_named ds n ≡ Some d → d.init ≡ Some x → Means s run (claim n)
initial_given s text cycles hypotheses claim ds all run r h n d x is_d is_x =
    states_given s text cycles hypotheses claim (with_initial_values ds) all run r h n (named_among_initial ds n d x is_d is_x)

instructions_from : (s : Setting) (is : List Instruction) (j : ℕ) → AllHold s (all_instruction_obligations s.model s.map j is)
    → (k : ℕ) (i : Instruction) → slice_get is k ≡ Some i → AllHold s (instruction_obligations s.model s.map (j + k) i)
instructions_from s [] j all k i e = cc
instructions_from s (x ∷ is) j all zero i e =
    let same : x ≡ i = cc in
    let index : j ≡ j + 0 = omega arith in
    subst (λ y. AllHold s (instruction_obligations s.model s.map (j + 0) y)) same
    (subst (λ m. AllHold s (instruction_obligations s.model s.map m x)) index
    (AllHold-left s (instruction_obligations s.model s.map j x) (all_instruction_obligations s.model s.map (suc j) is) all))
instructions_from s (x ∷ is) j all (suc k) i e =
    let index : suc j + k ≡ j + suc k = omega arith in
    subst (λ m. AllHold s (instruction_obligations s.model s.map m i)) index
    (instructions_from s is (suc j)
    (AllHold-right s (instruction_obligations s.model s.map j x) (all_instruction_obligations s.model s.map (suc j) is) all) k i e)

-- the obligations of instruction number j
pub instruction_given : (s : Setting) (is : List Instruction) → AllHold s (all_instruction_obligations s.model s.map 0 is)
    → (j : ℕ) (i : Instruction) → slice_get is j ≡ Some i → AllHold s (instruction_obligations s.model s.map j i)
instruction_given s is all j i e =
    let index : 0 + j ≡ j = omega arith in
    subst (λ m. AllHold s (instruction_obligations s.model s.map m i)) index (instructions_from s is 0 all j i e)
