-- What the terms of facts tell.
use Rattle.std.proofs.Common.{◌≡◌, ℕ, zero, suc, ◌<◌, Bool, true, false, cond, List, [], ◌∷◌, map, length, Option, Some, None, refl, sym, ap, ◌∙◌, subst, arith, inl, inr, ◌⊎◌}
use Rattle.std.specs.Prelude.{IsTrue, slice_get, ◌↔◌, option_map}
use Rattle.std.proofs.lemmas.Bool.{false≢true}
use Rattle.std.proofs.lemmas.Option.{slice_get_within, get_or_from_slice_get}
use Rattle.std.proofs.lemmas.List.{length-map, get_or-map}
use Rattle.std.proofs.lemmas.Cmp.{nat_list_eq_equiv}
use Rattle.wb_values.specs.Value.{Name, Sort, Value, number, same_name, Valuation, entry_of}
use Rattle.model_meaning.specs.Term.{val}
use Rattle.model_meaning.specs.Model.{Model, StateDeclaration, Instruction, states_of, state_named, instructions_in}
use Rattle.model_meaning.specs.Instruction.{Does}
use Rattle.refinement.specs.Obligation.{initial, same, ends, result_of}
use Rattle.wb_terms.specs.Graph.{Graph, tree, HasDistinctNames}
use Rattle.term_copies.specs.Copies.{IsExtended, declared_at}
use Rattle.ila_child.specs.State.{sorts_of_states, state_valuation}
use Rattle.mapped_designs.specs.Mapped.{Mapped}
use Rattle.mapped_designs.specs.Runs.{Values, Shows, shown_state, shown_inputs, worth_of_registers_at}
use Rattle.run_terms.specs.Names.{FitsNames}
use Rattle.run_terms.proofs.Values.{fits_before}
use Rattle.run_terms.proofs.Copied.{value_by_name}
use Rattle.condition_terms.specs.Told.{Tells, IsJoined, is_true}
use Rattle.condition_terms.proofs.Forming.{Tells-same, told_truth}
use Rattle.fact_terms.specs.Ready.{IsShown}
use Rattle.fact_terms.proofs.Rows.{some_same}

-- ---- states by their names

declared_state : (ss : List StateDeclaration) (k : ℕ) (d : StateDeclaration) → slice_get ss k ≡ Some d → declared_at (sorts_of_states ss) k ≡ (d.state_name, d.sort)
declared_state [] k d e = absurd (cc)
declared_state (s ∷ ss) zero d e = ap (λ (x : StateDeclaration). (x.state_name, x.sort)) (some_same s d e)
declared_state (s ∷ ss) (suc k) d e = declared_state ss k d e

pub state_declared : (ss : List StateDeclaration) (k : ℕ) (d : StateDeclaration) → slice_get ss k ≡ Some d → (declared_at (sorts_of_states ss) k).1 ≡ d.sort
state_declared ss k d e = ap (λ (x : Name × Sort). x.1) (declared_state ss k d e)

absent : (ss : List StateDeclaration) (n : Name) (k : ℕ) (d : StateDeclaration) → entry_of (sorts_of_states ss) n ≡ None → slice_get ss k ≡ Some d → same_name d.state_name n ≡ false
absent [] n k d h e = absurd (cc)
absent (s ∷ ss) n zero d h e = subst (λ (x : StateDeclaration). same_name x.state_name n ≡ false) (some_same s d e) (first (same_name s.state_name n) s.sort (entry_of (sorts_of_states ss) n) h).0
  where
    first : (t : Bool) (s : Sort) (o : Option Sort) → cond t (Some s) o ≡ None → (t ≡ false) × (o ≡ None)
    first true s o h = cc
    first false s o h = (refl, h)
absent (s ∷ ss) n (suc k) d h e = absent ss n k d (first (same_name s.state_name n) s.sort (entry_of (sorts_of_states ss) n) h).1 e
  where
    first : (t : Bool) (s : Sort) (o : Option Sort) → cond t (Some s) o ≡ None → (t ≡ false) × (o ≡ None)
    first true s o h = cc
    first false s o h = (refl, h)

-- a state is found under its name
pub named_at : (ss : List StateDeclaration) (k : ℕ) (d : StateDeclaration) → HasDistinctNames (sorts_of_states ss) → slice_get ss k ≡ Some d → state_named ss d.state_name ≡ Some d
named_at [] k d h e = absurd (cc)
named_at (s ∷ ss) zero d h e =
    let is : s ≡ d = some_same s d e in
    subst (λ (x : StateDeclaration). state_named (s ∷ ss) x.state_name ≡ Some x) is (let t : same_name s.state_name s.state_name ≡ true = nat_list_eq_equiv.refl s.state_name in rw t refl)
named_at (s ∷ ss) (suc k) d h e =
    let other : same_name s.state_name d.state_name ≡ false = nat_list_eq_equiv.symm s.state_name d.state_name ∙ absent ss s.state_name k d h.0 e in
    rw other (named_at ss k d h.1 e)

-- the mapped state has for the name at a place what the term there is worth
pub state_value : (m : Model) (e : Mapped) (x : Values) (t k id : ℕ) (d : StateDeclaration) → HasDistinctNames (sorts_of_states (states_of m.top)) → slice_get (states_of m.top) k ≡ Some d
    → length e.states ≡ length (states_of m.top) → slice_get e.states k ≡ Some id → shown_state m e x t d.state_name ≡ worth_of_registers_at e.parts x t id
state_value m e x t k id d distinct s count i =
    let ss = states_of m.top in
    let xs : List Value = map (worth_of_registers_at e.parts x t) e.states in
    let b : k < length ss = slice_get_within ss k d s in
    let names : length (sorts_of_states ss) ≡ length ss = length-map ss (λ (z : StateDeclaration). (z.state_name, z.sort)) in
    let many : length xs ≡ length (sorts_of_states ss) = length-map e.states (worth_of_registers_at e.parts x t) ∙ (count ∙ sym names) in
    ap (λ (n : Name × Sort). state_valuation m xs n.0) (sym (declared_state ss k d s))
    ∙ (value_by_name (sorts_of_states ss) xs k distinct many (omega (arith, b, names))
    ∙ (get_or-map (worth_of_registers_at e.parts x t) e.states k id (number 0) (omega (arith, b, count)) ∙ ap (worth_of_registers_at e.parts x t) (get_or_from_slice_get e.states k id id i)))

-- ---- facts on states

-- what is said of a name is said of the name of the state there
pub name_is : (ss : List StateDeclaration) (k : ℕ) (d : StateDeclaration) (n : Name) → slice_get ss k ≡ Some d → option_map (λ (x : StateDeclaration). x.state_name) (slice_get ss k) ≡ Some n → d.state_name ≡ n
name_is ss k d n e i = some_same d.state_name n (sym (ap (option_map (λ (x : StateDeclaration). x.state_name)) e) ∙ i)

pub initial_where : (m : Model) (e : Mapped) (x : Values) (t k : ℕ) (d : StateDeclaration) (y : Value) → HasDistinctNames (sorts_of_states (states_of m.top)) → slice_get (states_of m.top) k ≡ Some d
    → d.init ≡ Some y → (shown_state m e x t d.state_name ≡ y) ↔ Shows m e x (initial d.state_name t)
initial_where m e x t k d y distinct s i =
    let found : state_named (states_of m.top) d.state_name ≡ Some d = named_at (states_of m.top) k d distinct s in (
      λ h f z g j. h ∙ some_same y z (sym i ∙ (ap (λ (q : StateDeclaration). q.init) (some_same d f (sym found ∙ g)) ∙ j)),
      λ h. h d y found i,
    )

none_some : {A : Type 0} (y : A) → None ≡ Some y → ⊥
none_some y e = false≢true (ap is_there e)
  where
    is_there : {A : Type 0} → Option A → Bool
    is_there None = false
    is_there (Some z) = true

pub initial_free : (m : Model) (e : Mapped) (x : Values) (t k : ℕ) (d : StateDeclaration) → HasDistinctNames (sorts_of_states (states_of m.top)) → slice_get (states_of m.top) k ≡ Some d
    → d.init ≡ None → Shows m e x (initial d.state_name t)
initial_free m e x t k d distinct s i f z g j =
    let found : state_named (states_of m.top) d.state_name ≡ Some d = named_at (states_of m.top) k d distinct s in
    absurd (none_some z (sym i ∙ (ap (λ (q : StateDeclaration). q.init) (some_same d f (sym found ∙ g)) ∙ j)))

-- equality of terms that are shown
pub equal_told : {g h : Graph} (id x y : ℕ) (s : Sort) (m n : Valuation → Value) → IsExtended g h → IsShown g x s m → IsShown g y s n → Tells h id (λ v. val (tree g x) v ≡ val (tree g y) v)
    → Tells h id (λ v. m v ≡ n v)
equal_told {g} id x y s m n a w u t =
    Tells-same id (λ v. val (tree g x) v ≡ val (tree g y) v) (λ v. m v ≡ n v)
    (λ v f. let p = w.value v (fits_before v a f) in let q = u.value v (fits_before v a f) in (λ e. sym p ∙ (e ∙ q), λ e. p ∙ (e ∙ sym q))) t

pub value_told : {g h : Graph} (id x : ℕ) (s : Sort) (m : Valuation → Value) (y : Value) → IsExtended g h → IsShown g x s m → Tells h id (λ v. val (tree g x) v ≡ y) → Tells h id (λ v. m v ≡ y)
value_told {g} id x s m y a w t =
    Tells-same id (λ v. val (tree g x) v ≡ y) (λ v. m v ≡ y)
    (λ v f. let p = w.value v (fits_before v a f) in (λ e. sym p ∙ e, λ e. p ∙ e)) t

-- ---- results

decide : (b : Bool) (E X : Type 0) → (IsTrue b ↔ E) → (E → X) → (¬ E) ⊎ X
decide true E X e h = inr (h (e.0 refl))
decide false E X e h = inl (λ s. false≢true (e.1 s))

-- An instruction leads nowhere, or the state has the value that it gives.
pub result_told : {g l : Graph} (id ended x y : ℕ) (s : Sort) (m : Model) (e : Mapped) (run : Valuation → Values) (t j : ℕ) (i : Instruction) (d : StateDeclaration) (o : Name)
    → slice_get (instructions_in m.top) j ≡ Some i → d.state_name ≡ o → Tells g ended (λ v. Shows m e (run v) (ends j))
    → Tells l id (λ v. (¬ Shows m e (run v) (ends j)) ⊎ (val (tree g x) v ≡ val (tree g y) v)) → IsExtended g l → IsShown g x s (λ v. shown_state m e (run v) t d.state_name)
    → ((v r : Valuation) → FitsNames g.names v → Does m i (shown_state m e (run v) 0) (shown_inputs m e (run v) 0) r → val (tree g y) v ≡ r d.state_name)
    → Tells l id (λ v. Shows m e (run v) (result_of j o t))
result_told {g} {l} id ended x y s m e run t j i d o is named q w a u values =
    subst (λ (z : Name). Tells l id (λ v. Shows m e (run v) (result_of j z t))) named
    (Tells-same id (λ v. (¬ Shows m e (run v) (ends j)) ⊎ (val (tree g x) v ≡ val (tree g y) v)) (λ v. Shows m e (run v) (result_of j d.state_name t))
    (λ v f.
    let before : FitsNames g.names v = fits_before v a f in (
      λ c b r ib does. elim c as (λ _. shown_state m e (run v) t d.state_name ≡ r d.state_name) [
        | inl no_end ↦ absurd (no_end (b, ib, r, does))
        | inr eq ↦ sym (u.value v before) ∙ (eq ∙ values v r before
            (subst (λ (z : Instruction). Does m z (shown_state m e (run v) 0) (shown_inputs m e (run v) 0) r) (some_same b i (sym ib ∙ is)) does))
      ],
      λ c. decide (is_true g ended v) (Shows m e (run v) (ends j)) (val (tree g x) v ≡ val (tree g y) v) (q.told v before)
          (λ z. u.value v before ∙ (c z.0 z.2 z.1 z.3 ∙ sym (values v z.2 before
          (subst (λ (y : Instruction). Does m y (shown_state m e (run v) 0) (shown_inputs m e (run v) 0) z.2) (some_same z.0 i (sym z.1 ∙ is)) z.3)))),
    ))
    w)

-- two states of one sort are compared
pub same_told : {g h : Graph} (id x y : ℕ) (s : Sort) (o : Name) (e : Mapped) (run : Valuation → Values) (mo : Model) (d : StateDeclaration) → d.state_name ≡ o → IsExtended g h
    → IsShown g x s (λ v. shown_state mo e (run v) 1 d.state_name) → IsShown g y s (λ v. shown_state mo e (run v) 0 d.state_name)
    → Tells h id (λ v. val (tree g x) v ≡ val (tree g y) v) → Tells h id (λ v. Shows mo e (run v) (same o))
same_told {g} {h} id x y s o e run mo d named a w u t =
    subst (λ (z : Name). Tells h id (λ v. shown_state mo e (run v) 1 z ≡ shown_state mo e (run v) 0 z)) named
    (equal_told id x y s (λ v. shown_state mo e (run v) 1 d.state_name) (λ v. shown_state mo e (run v) 0 d.state_name) a w u t)

-- a state's place
pub place_within : (ss : List StateDeclaration) (k : ℕ) (n : Name) → option_map (λ (x : StateDeclaration). x.state_name) (slice_get ss k) ≡ Some n → k < length ss
place_within [] k n e = absurd (none_some n e)
place_within (s ∷ ss) zero n e = omega arith
place_within (s ∷ ss) (suc k) n e = omega (arith, place_within ss k n e)

-- ---- initial values

pub init_is : (ss : List StateDeclaration) (k : ℕ) (d : StateDeclaration) (o : Option Value) → slice_get ss k ≡ Some d → option_map (λ (x : StateDeclaration). x.init) (slice_get ss k) ≡ Some o → d.init ≡ o
init_is ss k d o e i = some_same d.init o (sym (ap (option_map (λ (x : StateDeclaration). x.init)) e) ∙ i)

pub initial_told : {g h : Graph} (id x t k : ℕ) (m : Model) (e : Mapped) (run : Valuation → Values) (d : StateDeclaration) (o : Name) (y : Value) → HasDistinctNames (sorts_of_states (states_of m.top))
    → slice_get (states_of m.top) k ≡ Some d → d.state_name ≡ o → d.init ≡ Some y → IsExtended g h → IsShown g x d.sort (λ v. shown_state m e (run v) t d.state_name)
    → Tells h id (λ v. val (tree g x) v ≡ y) → Tells h id (λ v. Shows m e (run v) (initial o t))
initial_told {g} {h} id x t k m e run d o y distinct s named i a w u =
    subst (λ (z : Name). Tells h id (λ v. Shows m e (run v) (initial z t))) named
    (Tells-same id (λ v. shown_state m e (run v) t d.state_name ≡ y) (λ v. Shows m e (run v) (initial d.state_name t)) (λ v f. initial_where m e (run v) t k d y distinct s i)
    (value_told id x d.sort (λ v. shown_state m e (run v) t d.state_name) y a w u))

pub free_told : {h : Graph} (id t k : ℕ) (m : Model) (e : Mapped) (run : Valuation → Values) (d : StateDeclaration) (o : Name) → HasDistinctNames (sorts_of_states (states_of m.top))
    → slice_get (states_of m.top) k ≡ Some d → d.state_name ≡ o → d.init ≡ None → IsJoined h id (λ v. true) → Tells h id (λ v. Shows m e (run v) (initial o t))
free_told {h} id t k m e run d o distinct s named i j =
    subst (λ (z : Name). Tells h id (λ v. Shows m e (run v) (initial z t))) named
    (told_truth id (λ v. Shows m e (run v) (initial d.state_name t)) j (λ v f. initial_free m e (run v) t k d distinct s i))
