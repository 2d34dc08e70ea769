-- Lists of expressions that grow, and the trees of a map beside their tokens.
use Rattle.std.proofs.Common.{◌≡◌, ◌∙◌, ℕ, zero, suc, ◌+◌, ◌<◌, ◌≤◌, refl, sym, ap, subst, Bool, true, false, true≢false, cond, List, [], ◌∷◌, ◌++◌, length, get_or, take, map, Option, Some, None, arith}
use Rattle.std.proofs.lemmas.List.{take_more, take_all, append-nil, append_assoc}
use Rattle.std.specs.List.{AllZip}
use Rattle.wb_values.specs.Value.{Name, Sort, truth, word, memory, Entries}
use Rattle.model_meaning.specs.Model.{Model, StateDeclaration, states_of, state_named}
use Rattle.model_meaning.specs.Invariant.{is_memory_state}
use Rattle.verilog_trees.specs.Syntax as tree
use Rattle.verilog_designs.specs.Names.{names_in}
use Rattle.refinement.specs.Map.{InstructionMap, sort_of_state}
use Rattle.map_files.specs.Written.{Text, InstructionEntry}
use Rattle.map_rules.specs.Case.{state_sort, input_sort, is_memory_named}
use Rattle.map_rules.specs.Expressions.{ReadsAs}
use Rattle.map_rules.specs.Accepted.{AreRead, IsStateRead, AreStatesRead, AreInputsRead, AreInstructionsRead}
use Rattle.v_syntax.specs.declared.tree.Expression.{Expression}
use Rattle.v_syntax.specs.Tree.{tree_of}
use Rattle.v_instances.specs.Texts.{texts}
use Rattle.map_sorts.specs.declared.sorts.ModelSorts.{ModelSorts}
use Rattle.map_sorts.specs.Tables.{sort_of_state_in, sort_of_input_in}
use Rattle.map_trees.specs.declared.tokens.TextTokens.{TextTokens}
use Rattle.map_trees.specs.declared.tokens.StateTokens.{StateTokens}
use Rattle.map_trees.specs.declared.tokens.EntryTokens.{EntryTokens}
use Rattle.map_trees.specs.declared.tokens.InstructionTokens.{InstructionTokens}
use Rattle.map_trees.specs.declared.trees.MappedTree.{MappedTree}
use Rattle.map_trees.specs.declared.trees.InstructionTree.{InstructionTree}
use Rattle.map_trees.specs.Tokens.{IsTokens, IsStateTokens, IsStateEntry, IsInputEntry, IsInstructionEntry, AreTokens, AreStateTokens, AreEntryTokens, AreInstructionTokens, is_memory_in, is_memory_sort}
use Rattle.map_trees.specs.declared.trees.RefinementMap.{RefinementMap}
use Rattle.map_trees.specs.View.{mapped_tree_view, instruction_tree_view, tree_map_view}
use Rattle.map_judged.specs.declared.expression.MapExpression.{MapExpression}
use Rattle.map_judged.specs.Asked.{Asked, asked_of, asked_list, AreNamed}
use Rattle.map_judged.specs.Whole.{condition, valued, state_values, input_values, asked_in}
use Rattle.map_reading.specs.Listed.{IsTreeOf, IsConditionOf, IsValueOf, IsStateOf, IsInputOf, IsCommitOf, IsMore, all_asked, condition_asked, state_asked, input_asked, commit_asked}

-- ---- lists that grow

pub more_none : (a : List MapExpression) → IsMore a a []
more_none a = record { is_more = sym (append-nil (asked_list a)); named = λ h. h }

pub more_more : (a b c : List MapExpression) (xs ys : List Asked) → IsMore a b xs → IsMore b c ys → IsMore a c (xs ++ ys)
more_more a b c xs ys h g =
    record { is_more = g.is_more ∙ (ap (λ z. z ++ ys) h.is_more ∙ append_assoc (asked_list a) xs ys); named = λ n. g.named (h.named n) }

named_with : (a : List MapExpression) (x : MapExpression) → AreNamed a → texts x.names.items ≡ names_in (tree_of x.tree.now) → AreNamed (a ++ x ∷ [])
named_with [] x h n = (n, tt)
named_with (y ∷ a) x h n = (h.0, named_with a x h.1 n)

asked_with : (a : List MapExpression) (x : MapExpression) → asked_list (a ++ x ∷ []) ≡ asked_list a ++ asked_of x ∷ []
asked_with [] x = refl
asked_with (y ∷ a) x = ap (λ z. asked_of y ∷ z) (asked_with a x)

pub more_one : (a b : List MapExpression) (x : MapExpression) → b ≡ a ++ x ∷ [] → texts x.names.items ≡ names_in (tree_of x.tree.now) → IsMore a b (asked_of x ∷ [])
more_one a b x e n = record { is_more = ap asked_list e ∙ asked_with a x; named = λ h. subst AreNamed (sym e) (named_with a x h n) }

-- ---- loops

module _ {A : Type 0} (f : A → List Asked) where
  all_joined : (xs ys : List A) → all_asked f (xs ++ ys) ≡ all_asked f xs ++ all_asked f ys
  all_joined [] ys = refl
  all_joined (x ∷ xs) ys = ap (λ z. f x ++ z) (all_joined xs ys) ∙ sym (append_assoc (f x) (all_asked f xs) (all_asked f ys))

  pub more_turn : (a b c : List MapExpression) (xs : List A) (i : ℕ) (x d : A) → i < length xs → x ≡ get_or xs i d → IsMore a b (all_asked f (take i xs))
      → IsMore b c (f x) → IsMore a c (all_asked f (take (i + 1) xs))
  more_turn a b c xs i x d lt is h g =
      let last : all_asked f (get_or xs i d ∷ []) ≡ f x = append-nil (f (get_or xs i d)) ∙ ap f (sym is) in
      let path : all_asked f (take (i + 1) xs) ≡ all_asked f (take i xs) ++ f x =
      ap (all_asked f) (take_more xs i d lt) ∙ (all_joined (take i xs) (get_or xs i d ∷ []) ∙ ap (λ z. all_asked f (take i xs) ++ z) last) in
      subst (IsMore a c) (sym path) (more_more a b c (all_asked f (take i xs)) (f x) h g)

  pub more_end : (a b : List MapExpression) (xs : List A) (i : ℕ) → length xs ≤ i → IsMore a b (all_asked f (take i xs)) → IsMore a b (all_asked f xs)
  more_end a b xs i le h = subst (λ z. IsMore a b (all_asked f z)) (take_all i xs le) h

-- ---- two lists side by side

module _ {A B : Type 0} (IsSo : A → B → Type 0) where
  pub as_many : (xs : List A) (ys : List B) → AllZip IsSo xs ys → length xs ≡ length ys
  as_many [] [] h = refl
  as_many [] (y ∷ ys) h = absurd h
  as_many (x ∷ xs) [] h = absurd h
  as_many (x ∷ xs) (y ∷ ys) h = ap suc (as_many xs ys h.1)

  pub both_at : (xs : List A) (ys : List B) (i : ℕ) (x d : A) (y e : B) → i < length ys → x ≡ get_or xs i d → y ≡ get_or ys i e → AllZip IsSo xs ys → IsSo x y
  both_at [] [] i x d y e lt s t h = absurd (omega (arith, lt))
  both_at [] (z ∷ ys) i x d y e lt s t h = absurd h
  both_at (w ∷ xs) [] i x d y e lt s t h = absurd h
  both_at (w ∷ xs) (z ∷ ys) zero x d y e lt s t h = subst (λ v. IsSo v y) (sym s) (subst (IsSo w) (sym t) h.0)
  both_at (w ∷ xs) (z ∷ ys) (suc i) x d y e lt s t h = both_at xs ys i x d y e (omega (arith, lt)) s t h.1

-- what is so of the first and the second list, and of the second and a view of the third
pub both_through : {A B C D : Type 0} (One : A → B → Type 0) (Two : B → C → Type 0) (f : D → C) (Both : A → D → Type 0)
    → ((x : A) (y : B) (z : D) → One x y → Two y (f z) → Both x z) → (xs : List A) (ys : List B) (zs : List D) → AllZip One xs ys → AllZip Two ys (map f zs)
    → AllZip Both xs zs
both_through One Two f Both join [] [] [] h k = tt
both_through One Two f Both join [] [] (z ∷ zs) h k = absurd k
both_through One Two f Both join [] (y ∷ ys) zs h k = absurd h
both_through One Two f Both join (x ∷ xs) [] zs h k = absurd h
both_through One Two f Both join (x ∷ xs) (y ∷ ys) [] h k = absurd k
both_through One Two f Both join (x ∷ xs) (y ∷ ys) (z ∷ zs) h k = (join x y z h.0 k.0, both_through One Two f Both join xs ys zs h.1 k.1)

-- ---- trees beside their tokens

texts_read : (ts : List Text) (es : List tree.Expression) → AreRead ts es → AllZip ReadsAs ts es
texts_read _ _ AreRead.none = tt
texts_read _ _ (AreRead.read t e ts es r h) = (r, texts_read ts es h)

pub conditions_of : (xs : List TextTokens) (ts : List Text) (es : List Expression) → AreTokens xs ts → AreRead ts (map tree_of es) → AllZip IsConditionOf xs es
conditions_of xs ts es h r =
    both_through IsTokens ReadsAs tree_of IsConditionOf (λ x t e a b. record { text = t; are_tokens = a; is_read = b }) xs ts es h (texts_read ts (map tree_of es) r)

abbrev IsInputRead : Name × Text → Name × tree.Expression → Type 0
IsInputRead e x = ReadsAs e.1 x.1

inputs_read : (ts : Entries Text) (es : Entries tree.Expression) → AreInputsRead ts es → AllZip IsInputRead ts es
inputs_read _ _ AreInputsRead.none = tt
inputs_read _ _ (AreInputsRead.an_input n t e ts es r h) = (r, inputs_read ts es h)

pub inputs_of : (xs : List EntryTokens) (ts : Entries Text) (es : List MappedTree) → AreEntryTokens xs ts → AreInputsRead ts (map mapped_tree_view es)
    → AllZip IsInputOf xs es
inputs_of xs ts es h r =
    both_through IsInputEntry IsInputRead mapped_tree_view IsInputOf (λ x t e a b. record { text = t.1; are_tokens = a.1; is_read = b }) xs ts es h
    (inputs_read ts (map mapped_tree_view es) r)

abbrev IsCommitRead : InstructionEntry → InstructionMap → Type 0
IsCommitRead e x = ReadsAs e.commit x.commit

commits_read : (ts : List InstructionEntry) (es : List InstructionMap) → AreInstructionsRead ts es → AllZip IsCommitRead ts es
commits_read _ _ AreInstructionsRead.none = tt
commits_read _ _ (AreInstructionsRead.instruction n t b e ts es r h) = (r, commits_read ts es h)

pub commits_of : (xs : List InstructionTokens) (ts : List InstructionEntry) (es : List InstructionTree) → AreInstructionTokens xs ts
    → AreInstructionsRead ts (map instruction_tree_view es) → AllZip IsCommitOf xs es
commits_of xs ts es h r =
    both_through IsInstructionEntry IsCommitRead instruction_tree_view IsCommitOf (λ x t e a b. record { text = t.commit; are_tokens = a.1; is_read = b }) xs ts es h
    (commits_read ts (map instruction_tree_view es) r)

-- ---- states

-- the table has the sorts of the states of the model
abbrev pub HasStates : ModelSorts → Model → Type 0
HasStates s m = (q : Name) → sort_of_state_in s q ≡ state_sort m q

abbrev pub HasInputs : ModelSorts → Model → Type 0
HasInputs s m = (q : Name) → sort_of_input_in s q ≡ input_sort m q

memory_known : (o : Option StateDeclaration) → is_memory_sort (sort_of_state o) ≡ is_memory_state o
memory_known None = refl
memory_known (Some d) = by d.sort where
  by : (s : Sort) → is_memory_sort (Some s) ≡ is_memory_state (Some (record d { sort = s }))
  by truth = refl
  by (word w) = refl
  by (memory a w) = refl

module _ (s : ModelSorts) (m : Model) (knows : HasStates s m) where
  pub same_memories : (n : Name) → is_memory_in s n ≡ is_memory_named m n
  same_memories n = ap is_memory_sort (knows n) ∙ memory_known (state_named (states_of m.top) n)

  record IsStateAt (e : Name × Text) (x : Name × tree.Expression) : Type 0 where
    called : x.0 ≡ e.0
    is_read : IsStateRead m e.0 e.1 x.1

  states_read : (ts : Entries Text) (es : Entries tree.Expression) → AreStatesRead m ts es → AllZip IsStateAt ts es
  states_read _ _ AreStatesRead.none = tt
  states_read _ _ (AreStatesRead.state n t e ts es r h) = (record { called = refl; is_read = r }, states_read ts es h)

  value_read : (n : Name) (b : Bool) (x : TextTokens) (t : Text) (e : tree.Expression) → is_memory_named m n ≡ false → IsTokens x t → IsStateRead m n t e → IsTreeOf x e
  value_read n b x t _ f h (IsStateRead.a_value e g r) = record { text = t; are_tokens = h; is_read = r }
  value_read n b x t _ f h (IsStateRead.a_memory g) = absurd (true≢false (sym g ∙ f))

  value_of : (n : Name) (b : Bool) (o : Option TextTokens) (t : Text) (e : tree.Expression) → is_memory_named m n ≡ b → IsStateTokens b o t → IsStateRead m n t e
      → IsValueOf b o e
  value_of n true None t e f h r = tt
  value_of n true (Some x) t e f h r = absurd h
  value_of n false None t e f h r = absurd h
  value_of n false (Some x) t e f h r = value_read n false x t e f h r

  state_of : (x : StateTokens) (e : Name × Text) (z : MappedTree) → IsStateEntry (is_memory_named m) x e → IsStateAt e (mapped_tree_view z) → IsStateOf s x z
  state_of x e z h k =
      subst (λ b. IsValueOf b x.tokens (tree_of z.tree)) (ap (is_memory_named m) (sym k.called) ∙ sym (same_memories z.name.now))
      (value_of e.0 (is_memory_named m e.0) x.tokens e.1 (tree_of z.tree) refl h.1 k.is_read)

  pub states_of_map : (xs : List StateTokens) (ts : Entries Text) (es : List MappedTree) → AreStateTokens (is_memory_named m) xs ts
      → AreStatesRead m ts (map mapped_tree_view es) → AllZip (IsStateOf s) xs es
  states_of_map xs ts es h r =
      both_through (IsStateEntry (is_memory_named m)) IsStateAt mapped_tree_view (IsStateOf s) state_of xs ts es h (states_read ts (map mapped_tree_view es) r)

  asked_or_not : (b : Bool) (v : Asked) (rest : List Asked) → cond b [] (v ∷ []) ++ rest ≡ cond b rest (v ∷ rest)
  asked_or_not true v rest = refl
  asked_or_not false v rest = refl

  pub states_asked : (ts : List MappedTree) → all_asked (state_asked s) ts ≡ state_values m (map mapped_tree_view ts)
  states_asked [] = refl
  states_asked (t ∷ ts) =
      let rest : all_asked (state_asked s) ts ≡ state_values m (map mapped_tree_view ts) = states_asked ts in
      let is_memory : is_memory_in s t.name.now ≡ is_memory_named m t.name.now = same_memories t.name.now in
      let sort : sort_of_state_in s t.name.now ≡ state_sort m t.name.now = knows t.name.now in
      asked_or_not (is_memory_in s t.name.now) (valued (sort_of_state_in s t.name.now) (tree_of t.tree)) (all_asked (state_asked s) ts)
      ∙ (λ i. cond (is_memory i) (rest i) (valued (sort i) (tree_of t.tree) ∷ rest i))

-- ---- the others as they are asked in a map

pub conditions_asked : (es : List Expression) → all_asked condition_asked es ≡ map condition (map tree_of es)
conditions_asked [] = refl
conditions_asked (e ∷ es) = ap (λ z. condition (tree_of e) ∷ z) (conditions_asked es)

pub inputs_asked : (s : ModelSorts) (m : Model) → HasInputs s m → (ts : List MappedTree) → all_asked (input_asked s) ts ≡ input_values m (map mapped_tree_view ts)
inputs_asked s m knows [] = refl
inputs_asked s m knows (t ∷ ts) =
    let rest : all_asked (input_asked s) ts ≡ input_values m (map mapped_tree_view ts) = inputs_asked s m knows ts in
    λ i. valued (knows t.name.now i) (tree_of t.tree) ∷ rest i

pub commits_asked : (ts : List InstructionTree) → all_asked commit_asked ts ≡ map (λ (i : InstructionMap). condition i.commit) (map instruction_tree_view ts)
commits_asked [] = refl
commits_asked (t ∷ ts) = ap (λ z. condition (tree_of t.commit) ∷ z) (commits_asked ts)

-- ---- one state

value_some : (b : Bool) (x : TextTokens) (e : tree.Expression) → IsValueOf b (Some x) e → (b ≡ false) × IsTreeOf x e
value_some true x e h = absurd h
value_some false x e h = (refl, h)

pub value_there : (b : Bool) (o : Option TextTokens) (x : TextTokens) (e : tree.Expression) → o ≡ Some x → IsValueOf b o e → (b ≡ false) × IsTreeOf x e
value_there b o x e is h = value_some b x e (subst (λ p. IsValueOf b p e) is h)

value_none : (b : Bool) (e : tree.Expression) → IsValueOf b None e → b ≡ true
value_none true e h = refl
value_none false e h = absurd h

pub value_lacking : (b : Bool) (o : Option TextTokens) (e : tree.Expression) → o ≡ None → IsValueOf b o e → b ≡ true
value_lacking b o e is h = value_none b e (subst (λ p. IsValueOf b p e) is h)

pub more_value : (b : Bool) (old new : List MapExpression) (v : Asked) → b ≡ false → IsMore old new (v ∷ []) → IsMore old new (cond b [] (v ∷ []))
more_value b old new v f h = subst (λ c. IsMore old new (cond c [] (v ∷ []))) (sym f) h

pub no_value : (b : Bool) (old : List MapExpression) (v : Asked) → b ≡ true → IsMore old old (cond b [] (v ∷ []))
no_value b old v f = subst (λ c. IsMore old old (cond c [] (v ∷ []))) (sym f) (more_none old)

-- ---- whole maps

-- the same of lists that are equal to these
pub beside : {A B : Type 0} (IsSo : A → B → Type 0) (xs us : List A) (ys vs : List B) → us ≡ xs → vs ≡ ys → AllZip IsSo xs ys → AllZip IsSo us vs
beside IsSo xs us ys vs e f h = subst (λ z. AllZip IsSo z vs) (sym e) (subst (AllZip IsSo xs) (sym f) h)

pub more_of : {A : Type 0} (f : A → List Asked) (a b : List MapExpression) (xs ys : List A) → xs ≡ ys → IsMore a b (all_asked f xs) → IsMore a b (all_asked f ys)
more_of f a b xs ys e h = subst (λ z. IsMore a b (all_asked f z)) e h

module _ (s : ModelSorts) (m : Model) (states : HasStates s m) (inputs : HasInputs s m) (r : RefinementMap) where
  pub all_listed : (l0 l1 l2 l3 l4 l5 l6 : List MapExpression) → l0 ≡ [] → IsMore l0 l1 (all_asked condition_asked r.assume.items)
      → IsMore l1 l2 (all_asked condition_asked r.invariants.items) → IsMore l2 l3 (condition (tree_of r.start) ∷ [])
      → IsMore l3 l4 (all_asked (state_asked s) r.states.items) → IsMore l4 l5 (all_asked (input_asked s) r.inputs.items)
      → IsMore l5 l6 (all_asked commit_asked r.instructions.items) → (asked_list l6 ≡ asked_in m (tree_map_view r)) × AreNamed l6
  all_listed l0 l1 l2 l3 l4 l5 l6 e h1 h2 h3 h4 h5 h6 = (whole.is_more ∙ (ap (λ z. asked_list z ++ all) e ∙ same), whole.named (subst AreNamed (sym e) tt)) where
    all : List Asked
    all =
        all_asked condition_asked r.assume.items ++ (all_asked condition_asked r.invariants.items ++ condition (tree_of r.start)
        ∷ (all_asked (state_asked s) r.states.items ++ (all_asked (input_asked s) r.inputs.items ++ all_asked commit_asked r.instructions.items)))

    whole : IsMore l0 l6 all
    whole =
        more_more l0 l1 l6 (all_asked condition_asked r.assume.items) _ h1
        (more_more l1 l2 l6 (all_asked condition_asked r.invariants.items) _ h2
        (more_more l2 l3 l6 (condition (tree_of r.start) ∷ []) _ h3
        (more_more l3 l4 l6 (all_asked (state_asked s) r.states.items) _ h4
        (more_more l4 l5 l6 (all_asked (input_asked s) r.inputs.items) _ h5 h6))))

    same : all ≡ asked_in m (tree_map_view r)
    same i =
        conditions_asked r.assume.items i ++ (conditions_asked r.invariants.items i ++ condition (tree_of r.start)
        ∷ (states_asked s m states r.states.items i ++ (inputs_asked s m inputs r.inputs.items i ++ commits_asked r.instructions.items i)))
