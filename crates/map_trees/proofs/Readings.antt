-- What is read of all texts of a list, from what is read of each; and a text of a list that is read as nothing.
use Rattle.std.proofs.Common.{◌≡◌, ◌∙◌, ℕ, zero, suc, ◌<◌, ◌⊎◌, inl, inr, refl, sym, ap, subst, Bool, true, false, true≢false, cond, List, [], ◌∷◌, ◌++◌, length, get_or, map, Option, Some, None, Result, Ok, Err, arith}
use Rattle.std.specs.Prelude.{Contains, IsErrAnd}
use Rattle.std.specs.List.{AllZip}
use Rattle.std.proofs.lemmas.List.Elements.{Contains-append_cases, Contains-append_left, Contains-append_right}
use Rattle.wb_values.specs.Value.{Name, Sort, truth, word, memory, Entries}
use Rattle.model_meaning.specs.Model.{Model, StateDeclaration}
use Rattle.model_meaning.specs.Invariant.{is_memory_state}
use Rattle.verilog_trees.specs.Syntax as tree
use Rattle.verilog_trees.specs.Syntax.{whole, Source}
use Rattle.refinement.specs.Map.{sort_of_state}
use Rattle.map_files.specs.Written as pure
use Rattle.map_files.specs.Written.{Text}
use Rattle.map_files.specs.Meaning.{BadExpression}
use Rattle.map_file.specs.Rule.{rule_view}
use Rattle.map_file.specs.declared.refusal.MapRefusal.{MapRefusal}
use Rattle.map_rules.specs.Case.{is_memory_named, value_texts}
use Rattle.map_rules.specs.Expressions.{ReadsAs, IsBadExpression, HasBadExpression}
use Rattle.map_rules.specs.Accepted.{AreRead, IsStateRead, AreStatesRead, AreInputsRead, AreInstructionsRead, case_of}
use Rattle.v_syntax.specs.declared.tree.Expression.{Expression}
use Rattle.v_syntax.specs.Tree.{tree_of}
use Rattle.map_trees.specs.declared.trees.MappedTree.{MappedTree}
use Rattle.map_trees.specs.declared.trees.InstructionTree.{InstructionTree}
use Rattle.map_trees.specs.View.{mapped_tree_view, instruction_tree_view}
use Rattle.map_trees.specs.declared.stop.Stop.{Stop}
use Rattle.map_trees.specs.declared.stop.Stop.TheVariants.{Unread, NoMemory}
use Rattle.map_trees.specs.Tokens.{is_memory_sort}
use Rattle.map_trees.specs.Trees.{all_texts, IsStateTree, IsTree, IsUnreadAmong, IsValueTree}

-- ---- all of a list are read

pub all_read : (es : List Expression) (ts : List Text) → AllZip (λ e t. ReadsAs t (tree_of e)) es ts → AreRead ts (map tree_of es)
all_read [] [] h = AreRead.none
all_read [] (t ∷ ts) h = absurd h
all_read (e ∷ es) [] h = absurd h
all_read (e ∷ es) (t ∷ ts) h = AreRead.read t (tree_of e) ts (map tree_of es) h.0 (all_read es ts h.1)

state_read : (m : Model) (n : Name) (t : Text) (b : Bool) (x : Name × tree.Expression) → is_memory_named m n ≡ b → IsValueTree b (n, t) x
    → (x.0 ≡ n) × IsStateRead m n t x.1
state_read m n t true x e h = (ap (λ (y : Name × tree.Expression). y.0) h, subst (λ (y : Name × tree.Expression). IsStateRead m n t y.1) (sym h) (IsStateRead.a_memory e))
state_read m n t false x e h = (h.0, IsStateRead.a_value x.1 e h.1)

pub states_read : (m : Model) (xs : List MappedTree) (es : Entries Text)
    → AllZip (λ x e. IsValueTree (is_memory_named m e.0) e (mapped_tree_view x)) xs es → AreStatesRead m es (map mapped_tree_view xs)
states_read m [] [] h = AreStatesRead.none
states_read m [] (e ∷ es) h = absurd h
states_read m (x ∷ xs) [] h = absurd h
states_read m (x ∷ xs) (e ∷ es) h =
    let r = state_read m e.0 e.1 (is_memory_named m e.0) (mapped_tree_view x) refl h.0 in
    subst (λ n. AreStatesRead m (e ∷ es) ((n, tree_of x.tree) ∷ map mapped_tree_view xs)) (sym r.0)
    (AreStatesRead.state e.0 e.1 (tree_of x.tree) es (map mapped_tree_view xs) r.1 (states_read m xs es h.1))

-- an input's entry with its tree
abbrev pub IsInputTree : MappedTree → Name × Text → Type 0
IsInputTree x e = (x.name.now ≡ e.0) × ReadsAs e.1 (tree_of x.tree)

pub inputs_read : (xs : List MappedTree) (es : Entries Text) → AllZip IsInputTree xs es → AreInputsRead es (map mapped_tree_view xs)
inputs_read [] [] h = AreInputsRead.none
inputs_read [] (e ∷ es) h = absurd h
inputs_read (x ∷ xs) [] h = absurd h
inputs_read (x ∷ xs) (e ∷ es) h =
    subst (λ n. AreInputsRead (e ∷ es) ((n, tree_of x.tree) ∷ map mapped_tree_view xs)) (sym h.0.0)
    (AreInputsRead.an_input e.0 e.1 (tree_of x.tree) es (map mapped_tree_view xs) h.0.1 (inputs_read xs es h.1))

-- an instruction's entry with its tree
pub record IsInstructionTree (x : InstructionTree) (e : pure.InstructionEntry) : Type 0 where
  pub called : x.name.now ≡ e.called
  pub bound : x.bound ≡ e.bound
  pub commit : ReadsAs e.commit (tree_of x.commit)

pub instructions_read : (xs : List InstructionTree) (es : List pure.InstructionEntry) → AllZip IsInstructionTree xs es → AreInstructionsRead es (map instruction_tree_view xs)
instructions_read [] [] h = AreInstructionsRead.none
instructions_read [] (e ∷ es) h = absurd h
instructions_read (x ∷ xs) [] h = absurd h
instructions_read (x ∷ xs) (e ∷ es) h =
    subst
    (λ (q : Name × ℕ). AreInstructionsRead (e ∷ es) (record { called = q.0; commit = tree_of x.commit; bound = q.1 } ∷ map instruction_tree_view xs))
    (λ i. (sym h.0.called i, sym h.0.bound i))
    (AreInstructionsRead.instruction e.called e.commit e.bound (tree_of x.commit) es (map instruction_tree_view xs) h.0.commit (instructions_read xs es h.1))

-- ---- texts of a list

one_is : {A : Type 0} (x y : A) (i : ℕ) → i < length (x ∷ []) → get_or (x ∷ []) i y ≡ y → x ≡ y
one_is x y zero lt e = e
one_is x y (suc i) lt e = absurd (omega (arith, lt))

-- it is the first, or among the others
pub first_or_later : {A : Type 0} (x : A) (xs : List A) (y : A) → Contains (x ∷ xs) y → (x ≡ y) ⊎ Contains xs y
first_or_later x xs y c = by (Contains-append_cases (x ∷ []) xs y c) where
  by : Contains (x ∷ []) y ⊎ Contains xs y → (x ≡ y) ⊎ Contains xs y
  by (inl h) = inl (one_is x y h.0 h.1 h.2)
  by (inr h) = inr h

pub is_first : {A : Type 0} (x : A) (xs : List A) → Contains (x ∷ xs) x
is_first x xs = (0, omega arith, refl)

pub is_later : {A : Type 0} (x : A) (xs : List A) (y : A) → Contains xs y → Contains (x ∷ xs) y
is_later x xs y c = (suc c.0, omega (arith, c.1), c.2)

-- the text of a state that is no memory is among those of the states
pub value_among : (m : Model) (es : Entries Text) (e : Name × Text) → Contains es e → is_memory_named m e.0 ≡ false → Contains (value_texts m es) e.1
value_among m [] e c f = absurd (omega (arith, c.1))
value_among m (x ∷ es) e c f = by (first_or_later x es e c) (is_memory_named m x.0) refl (λ k. value_among m es e k f) where
  by : (x ≡ e) ⊎ Contains es e → (b : Bool) → is_memory_named m x.0 ≡ b → (Contains es e → Contains (value_texts m es) e.1)
      → Contains (cond b (value_texts m es) (x.1 ∷ value_texts m es)) e.1
  by (inl same) true k next = absurd (true≢false (sym k ∙ (ap (λ (z : Name × Text). is_memory_named m z.0) same ∙ f)))
  by (inl same) false k next = subst (λ (z : Name × Text). Contains (x.1 ∷ value_texts m es) z.1) same (is_first x.1 (value_texts m es))
  by (inr later) true k next = next later
  by (inr later) false k next = is_later x.1 (value_texts m es) e.1 (next later)

-- what a view makes of one of a list is among what it makes of all
pub view_among : {A B : Type 0} (f : A → B) (xs : List A) (x : A) → Contains xs x → Contains (map f xs) (f x)
view_among f [] x c = absurd (omega (arith, c.1))
view_among f (y ∷ xs) x c = by (first_or_later y xs x c) (view_among f xs x) where
  by : (y ≡ x) ⊎ Contains xs x → (Contains xs x → Contains (map f xs) (f x)) → Contains (f y ∷ map f xs) (f x)
  by (inl same) next = subst (λ z. Contains (f y ∷ map f xs) (f z)) same (is_first (f y) (map f xs))
  by (inr later) next = is_later (f y) (map f xs) (f x) (next later)

-- a text of a part is one of the whole
pub unread_more : (s : Stop) (ts us : List Text) → ((t : Text) → Contains ts t → Contains us t) → IsUnreadAmong s ts → IsUnreadAmong s us
unread_more (Unread r) ts us more h = (h.0, h.1, more h.1 h.2, h.3)
unread_more NoMemory ts us more h = tt

-- a refusal of one text
pub one_unread : (s : Stop) (ts : List Text) (t : Text) → Contains ts t → IsTree (Err s) t → IsUnreadAmong s ts
one_unread (Unread r) ts t c h = (h.0, t, c, h.1)
one_unread NoMemory ts t c h = tt

-- ---- the parts of a map

module _ (m : Model) (w : pure.WrittenMap) where
  after_assume : (t : Text) → Contains (w.invariants ++ w.start ∷ (value_texts m w.states ++ (map (λ e. e.1) w.inputs ++ map (λ i. i.commit) w.instructions))) t
      → Contains (all_texts m w) t
  after_assume t c = Contains-append_right w.assume _ t c

  after_start : (t : Text) → Contains (value_texts m w.states ++ (map (λ e. e.1) w.inputs ++ map (λ i. i.commit) w.instructions)) t → Contains (all_texts m w) t
  after_start t c = after_assume t (Contains-append_right w.invariants _ t (is_later w.start _ t c))

  pub in_assume : (t : Text) → Contains w.assume t → Contains (all_texts m w) t
  in_assume t c = Contains-append_left w.assume _ t c

  pub in_invariants : (t : Text) → Contains w.invariants t → Contains (all_texts m w) t
  in_invariants t c = after_assume t (Contains-append_left w.invariants _ t c)

  pub is_start : Contains (all_texts m w) w.start
  is_start = after_assume w.start (Contains-append_right w.invariants _ w.start (is_first w.start _))

  pub in_states : (t : Text) → Contains (value_texts m w.states) t → Contains (all_texts m w) t
  in_states t c = after_start t (Contains-append_left (value_texts m w.states) _ t c)

  pub in_inputs : (t : Text) → Contains (map (λ (e : Name × Text). e.1) w.inputs) t → Contains (all_texts m w) t
  in_inputs t c = after_start t (Contains-append_right (value_texts m w.states) _ t (Contains-append_left (map (λ (e : Name × Text). e.1) w.inputs) _ t c))

  pub in_instructions : (t : Text) → Contains (map (λ (i : pure.InstructionEntry). i.commit) w.instructions) t → Contains (all_texts m w) t
  in_instructions t c =
      after_start t (Contains-append_right (value_texts m w.states) _ t (Contains-append_right (map (λ (e : Name × Text). e.1) w.inputs) _ t c))

-- a refusal of a state's text
pub state_unread : (m : Model) (s : Stop) (es : Entries Text) (e : Name × Text) → Contains es e → IsStateTree (is_memory_named m e.0) e (Err s)
    → IsUnreadAmong s (value_texts m es)
state_unread m (Unread r) es e c h = (h.0, e.1, value_among m es e c h.1, h.2)
state_unread m NoMemory es e c h = tt

-- what is handed up is that refusal
pub handed_up : {A : Type 0} (IsTold : Result A Stop → Type 0) (r : Result A Stop) (s : Stop) → IsErrAnd r (λ t. t ≡ s) → IsTold (Err s) → IsTold r
handed_up IsTold (Ok x) s h p = absurd h
handed_up IsTold (Err t) s h p = subst (λ u. IsTold (Err u)) (sym h) p

-- where a text is read as nothing, the map breaks the rule on expressions
pub unread_is_bad : (m : Model) (w : pure.WrittenMap) (r : MapRefusal) → IsUnreadAmong (Unread r) (all_texts m w)
    → (rule_view r.rule ≡ BadExpression) × ((s : Source) → HasBadExpression (case_of w m s))
unread_is_bad m w r h = (h.0, λ s. HasBadExpression.an_expression h.1 h.2 (IsBadExpression.no_expression h.3))

-- ---- memories

pub memory_known : (o : Option StateDeclaration) → is_memory_sort (sort_of_state o) ≡ is_memory_state o
memory_known None = refl
memory_known (Some d) = by d.sort where
  by : (s : Sort) → is_memory_sort (Some s) ≡ is_memory_state (Some (record d { sort = s }))
  by truth = refl
  by (word w) = refl
  by (memory a w) = refl
