-- The expressions of a whole map: each text with its tree, and what is told of a map by what is told of these.
use Rattle.std.proofs.Common.{◌≡◌, ◌∙◌, ℕ, Bool, true, false, cond, not, ◌⊎◌, inl, inr, refl, ap, sym, subst, List, [], ◌∷◌, ◌++◌, map, Option, Some, None, is_some, ◌≢◌}
use Rattle.std.specs.Prelude.{Contains, IsTrue}
use Rattle.std.proofs.lemmas.Bool.{false≢true, true≢false}
use Rattle.wb_values.specs.Value.{Name, Sort, truth, word, memory, Entries}
use Rattle.model_meaning.specs.Model.{Model, StateDeclaration, states_of, state_named}
use Rattle.model_meaning.specs.Invariant.{is_memory_state}
use Rattle.verilog_trees.specs.Syntax.{Expression, name, whole}
use Rattle.verilog_meaning.specs.Expression.{width_of}
use Rattle.verilog_meaning.specs.Settled.{Design}
use Rattle.verilog_rules.specs.Expression.{has_width, refusal_of}
use Rattle.refinement.specs.Map.{Map, InstructionMap, sort_of_state}
use Rattle.verilog_unique.proofs.Descent.{IsAmong, among_left, among_right, among_either, contains_among, among_contains}
use Rattle.map_files.specs.Written.{Text, InstructionEntry}
use Rattle.map_rules.specs.Case.{MapCase, case_design, state_sort, input_sort, is_memory_named, value_texts, expression_texts}
use Rattle.map_rules.specs.Expressions.{ReadsAs, design_scope, NamesClock, IsBadExpression, HasBadExpression, is_reset}
use Rattle.map_rules.specs.Mapped.{wanted_width, WantsWidth, HasWidthMismatch}
use Rattle.map_rules.specs.Accepted.{AreRead, IsStateRead, AreStatesRead, AreInputsRead, AreInstructionsRead, StandsForMap}
use Rattle.v_places.proofs.Spots.{get_among, among_get}
use Rattle.map_judged.specs.declared.flaw.Flaw.{Flaw}
use Rattle.map_judged.specs.declared.flaw.Flaw.TheVariants as flaws
use Rattle.map_judged.specs.declared.flaw.FirstFlaw.{FirstFlaw}
use Rattle.map_judged.specs.Asked.{Asked}
use Rattle.map_judged.specs.Flaws.{HasFlaw, HasNoFlaw, IsFirstFlaw, IsFirstMismatch}
use Rattle.map_judged.specs.Whole.{condition, valued, state_values, input_values, asked_in, FlawsAreBadExpressions, MismatchesAreWidthMismatches}

-- a text is read as one expression at most
abbrev pub TextsAreReadOnce : Type 0
TextsAreReadOnce = (t : Text) (e f : Expression) → ReadsAs t e → ReadsAs t f → e ≡ f

-- ---- texts with their trees

abbrev AreTrees : List Text → List Asked → Type 0
AreTrees [] [] = Unit {0}
AreTrees [] (x ∷ xs) = ⊥
AreTrees (t ∷ ts) [] = ⊥
AreTrees (t ∷ ts) (x ∷ xs) = ReadsAs t x.tree × AreTrees ts xs

trees_joined : (ts us : List Text) (xs ys : List Asked) → AreTrees ts xs → AreTrees us ys → AreTrees (ts ++ us) (xs ++ ys)
trees_joined [] us [] ys h g = g
trees_joined [] us (x ∷ xs) ys h g = absurd h
trees_joined (t ∷ ts) us [] ys h g = absurd h
trees_joined (t ∷ ts) us (x ∷ xs) ys h g = (h.0, trees_joined ts us xs ys h.1 g)

tree_for : (ts : List Text) (xs : List Asked) (t : Text) → AreTrees ts xs → IsAmong ts t → (x : Asked) × IsAmong xs x × ReadsAs t x.tree
tree_for [] xs t h a = absurd a
tree_for (u ∷ ts) [] t h a = absurd h
tree_for (u ∷ ts) (x ∷ xs) t h (inl e) = (x, inl refl, subst (λ v. ReadsAs v x.tree) e h.0)
tree_for (u ∷ ts) (x ∷ xs) t h (inr a) = let r = tree_for ts xs t h.1 a in (r.0, inr r.1, r.2)

text_for : (ts : List Text) (xs : List Asked) (x : Asked) → AreTrees ts xs → IsAmong xs x → (t : Text) × IsAmong ts t × ReadsAs t x.tree
text_for ts [] x h a = absurd a
text_for [] (y ∷ xs) x h a = absurd h
text_for (t ∷ ts) (y ∷ xs) x h (inl e) = (t, inl refl, subst (λ (z : Asked). ReadsAs t z.tree) e h.0)
text_for (t ∷ ts) (y ∷ xs) x h (inr a) = let r = text_for ts xs x h.1 a in (r.0, inr r.1, r.2)

conditions : (ts : List Text) (es : List Expression) → AreRead ts es → AreTrees ts (map condition es)
conditions _ _ AreRead.none = tt
conditions _ _ (AreRead.read t e ts es r h) = (r, conditions ts es h)

state_trees : (m : Model) (ts : Entries Text) (es : Entries Expression) → AreStatesRead m ts es → AreTrees (value_texts m ts) (state_values m es)
state_trees m _ _ AreStatesRead.none = tt
state_trees m _ _ (AreStatesRead.state n t e ts es h rest) = by e h (state_trees m ts es rest) where
  chosen : (b : Bool) (e : Expression) → is_memory_named m n ≡ b → (b ≡ false → ReadsAs t e) → AreTrees (value_texts m ts) (state_values m es)
      → AreTrees (cond b (value_texts m ts) (t ∷ value_texts m ts)) (cond b (state_values m es) (valued (state_sort m n) e ∷ state_values m es))
  chosen true e g r k = k
  chosen false e g r k = (r refl, k)

  by : (e : Expression) → IsStateRead m n t e → AreTrees (value_texts m ts) (state_values m es) → AreTrees (value_texts m ((n, t) ∷ ts)) (state_values m ((n, e) ∷ es))
  by _ (IsStateRead.a_value e g r) k = chosen (is_memory_named m n) e refl (λ _. r) k
  by _ (IsStateRead.a_memory g) k = chosen (is_memory_named m n) (name t whole) refl (λ f. absurd (true≢false (sym g ∙ f))) k

input_trees : (m : Model) (ts : Entries Text) (es : Entries Expression) → AreInputsRead ts es → AreTrees (map (λ e. e.1) ts) (input_values m es)
input_trees m _ _ AreInputsRead.none = tt
input_trees m _ _ (AreInputsRead.an_input n t e ts es r h) = (r, input_trees m ts es h)

commit_trees : (is : List InstructionEntry) (js : List InstructionMap) → AreInstructionsRead is js
    → AreTrees (map (λ i. i.commit) is) (map (λ (i : InstructionMap). condition i.commit) js)
commit_trees _ _ AreInstructionsRead.none = tt
commit_trees _ _ (AreInstructionsRead.instruction n t b e is js r h) = (r, commit_trees is js h)

all_trees : (c : MapCase) (p : Map) → StandsForMap c.model c.written p → AreTrees (expression_texts c) (asked_in c.model p)
all_trees c p h =
    trees_joined c.written.assume _ (map condition p.assume) _ (conditions c.written.assume p.assume h.assume)
    (trees_joined c.written.invariants _ (map condition p.invariants) _ (conditions c.written.invariants p.invariants h.invariants) (
      h.start,
      trees_joined (value_texts c.model c.written.states) _ (state_values c.model p.states) _ (state_trees c.model c.written.states p.states h.states)
          (trees_joined (map (λ e. e.1) c.written.inputs) _ (input_values c.model p.inputs) _ (input_trees c.model c.written.inputs p.inputs h.inputs)
          (commit_trees c.written.instructions p.instructions h.instructions)),
    ))

-- ---- bad expressions

no_flaw : (d : Design) (e : Expression) → HasNoFlaw d e → IsTrue (is_some (refusal_of (design_scope d) e)) → ⊥
no_flaw d e h t = false≢true (sym (ap is_some h.breaks_none) ∙ t)

pub flaws_told : TextsAreReadOnce → FlawsAreBadExpressions
flaws_told once c p o stands told = (there o told, back o told) where
  found : (t : Text) → Contains (expression_texts c) t → (x : Asked) × IsAmong (asked_in c.model p) x × ReadsAs t x.tree
  found t h = tree_for (expression_texts c) (asked_in c.model p) t (all_trees c p stands) (among_contains (expression_texts c) t h)

  sound : IsFirstFlaw (case_design c) (asked_in c.model p) None → (t : Text) → Contains (expression_texts c) t → IsBadExpression (case_design c) t → ⊥
  sound h t k bad =
      let f = found t k in
      let at = among_get (asked_in c.model p) f.0 f.1 in
      let good : HasNoFlaw (case_design c) f.0.tree = h at.0 f.0 at.1 in
      by f.0.tree f.2 good bad
    where
      by : (e : Expression) → ReadsAs t e → HasNoFlaw (case_design c) e → IsBadExpression (case_design c) t → ⊥
      by e r good (IsBadExpression.no_expression none) = none e r
      by e r good (IsBadExpression.breaks_rule f s broken) =
          no_flaw (case_design c) e good (subst (λ g. IsTrue (is_some (refusal_of (design_scope (case_design c)) g))) (once t f e s r) broken)
      by e r good (IsBadExpression.names_clock f s clock) = good.names_none (subst (NamesClock (case_design c)) (once t f e s r) clock)

  there : (o : Option FirstFlaw) → IsFirstFlaw (case_design c) (asked_in c.model p) o → HasBadExpression c
      → IsTrue (is_some o) ⊎ IsTrue (not (is_reset (case_design c) c.written.reset.signal))
  there (Some f) h bad = inl refl
  there None h (HasBadExpression.an_expression t k bad) = absurd (sound h t k bad)
  there None h (HasBadExpression.the_reset r) = inr r

  bad_tree : (t : Text) (e : Expression) (f : Flaw) → ReadsAs t e → HasFlaw (case_design c) e f → IsBadExpression (case_design c) t
  bad_tree t e flaws.BreaksRule r h = IsBadExpression.breaks_rule e r h
  bad_tree t e flaws.NamesClock r h = IsBadExpression.names_clock e r h.1

  back : (o : Option FirstFlaw) → IsFirstFlaw (case_design c) (asked_in c.model p) o
      → IsTrue (is_some o) ⊎ IsTrue (not (is_reset (case_design c) c.written.reset.signal)) → HasBadExpression c
  back None h (inl t) = absurd (false≢true t)
  back o h (inr r) = HasBadExpression.the_reset r
  back (Some f) h (inl t) =
      let a = get_among (asked_in c.model p) f.index h.0.0 h.0.1 in
      let r = text_for (expression_texts c) (asked_in c.model p) h.0.0 (all_trees c p stands) a in
      HasBadExpression.an_expression r.0 (contains_among (expression_texts c) r.0 r.1) (bad_tree r.0 h.0.0.tree f.flaw r.2 h.0.2)

-- ---- widths

-- of a memory no width is wanted
no_width : (o : Option StateDeclaration) → is_memory_state o ≡ true → wanted_width (sort_of_state o) ≡ None
no_width None h = refl
no_width (Some s) h = by s.sort h where
  by : (k : Sort) → is_memory_state (Some (record s { sort = k })) ≡ true → wanted_width (Some k) ≡ None
  by truth g = absurd (false≢true g)
  by (word w) g = absurd (false≢true g)
  by (memory a w) g = refl

memory_wants_none : (m : Model) (n : Name) (w : ℕ) → is_memory_named m n ≡ true → wanted_width (state_sort m n) ≡ Some w → ⊥
memory_wants_none m n w h e = let none : None ≡ Some w = sym (no_width (state_named (states_of m.top) n) h) ∙ e in cc

-- among these trees is one that the text is read as, of which this width is wanted
abbrev Wanted : Text → ℕ → List Asked → Type 0
Wanted t w xs = (x : Asked) × IsAmong xs x × ReadsAs t x.tree × (x.wanted ≡ Some w)

-- one of these texts is read as the tree, and stands for what has such a width
abbrev Stands : (Name → Option Sort) → Asked → Entries Text → Type 0
Stands sort x us = (n : Name) × (t : Text) × IsAmong us (n, t) × ReadsAs t x.tree × (wanted_width (sort n) ≡ x.wanted)

-- the tree of a state that has a width
state_valued : (m : Model) (ts : Entries Text) (es : Entries Expression) (n : Name) (t : Text) (w : ℕ) → AreStatesRead m ts es → IsAmong ts (n, t)
    → wanted_width (state_sort m n) ≡ Some w → Wanted t w (state_values m es)
state_valued m _ _ n t w AreStatesRead.none a g = absurd a
state_valued m _ _ n t w (AreStatesRead.state k u e ts es h rest) a g = by e h a (λ b. state_valued m ts es n t w rest b g) where
  value : (e : Expression) → is_memory_named m k ≡ false → ReadsAs u e → IsAmong ((k, u) ∷ ts) (n, t) → (IsAmong ts (n, t) → Wanted t w (state_values m es))
      → Wanted t w (valued (state_sort m k) e ∷ state_values m es)
  value e f r (inl same) next =
      (valued (state_sort m k) e, inl refl, subst (λ (y : Name × Text). ReadsAs y.1 e) same r, ap (λ (y : Name × Text). wanted_width (state_sort m y.0)) same ∙ g)
  value e f r (inr b) next = let x = next b in (x.0, inr x.1, x.2, x.3)

  path : is_memory_named m k ≡ true → IsAmong ((k, u) ∷ ts) (n, t) → (IsAmong ts (n, t) → Wanted t w (state_values m es)) → Wanted t w (state_values m es)
  path f (inl same) next =
      absurd (memory_wants_none m n w (subst (λ (y : Name × Text). is_memory_named m y.0 ≡ true) same f) g)
  path f (inr b) next = next b

  by : (e : Expression) → IsStateRead m k u e → IsAmong ((k, u) ∷ ts) (n, t) → (IsAmong ts (n, t) → Wanted t w (state_values m es)) → Wanted t w (state_values m ((k, e) ∷ es))
  by _ (IsStateRead.a_value e f r) b next = subst (λ c. Wanted t w (cond c (state_values m es) (valued (state_sort m k) e ∷ state_values m es))) (sym f) (value e f r b next)
  by _ (IsStateRead.a_memory f) b next =
      subst (λ c. Wanted t w (cond c (state_values m es) (valued (state_sort m k) (name u whole) ∷ state_values m es))) (sym f) (path f b next)

-- and the state that a tree stands for
state_from : (m : Model) (ts : Entries Text) (es : Entries Expression) (x : Asked) → AreStatesRead m ts es → IsAmong (state_values m es) x
    → Stands (state_sort m) x ts
state_from m _ _ x AreStatesRead.none a = absurd a
state_from m _ _ x (AreStatesRead.state k u e ts es h rest) a = by e h a (λ b. state_from m ts es x rest b) where
  later : Stands (state_sort m) x ts → Stands (state_sort m) x ((k, u) ∷ ts)
  later s = (s.0, s.1, inr s.2, s.3, s.4)

  value : (e : Expression) → ReadsAs u e → IsAmong (valued (state_sort m k) e ∷ state_values m es) x → (IsAmong (state_values m es) x → Stands (state_sort m) x ts) → Stands (state_sort m) x ((k, u) ∷ ts)
  value e r (inl same) next = (k, u, inl refl, subst (λ (y : Asked). ReadsAs u y.tree) same r, ap (λ (y : Asked). y.wanted) same)
  value e r (inr b) next = later (next b)

  by : (e : Expression) → IsStateRead m k u e → IsAmong (state_values m ((k, e) ∷ es)) x → (IsAmong (state_values m es) x → Stands (state_sort m) x ts) → Stands (state_sort m) x ((k, u) ∷ ts)
  by _ (IsStateRead.a_value e f r) b next =
      value e r (subst (λ c. IsAmong (cond c (state_values m es) (valued (state_sort m k) e ∷ state_values m es)) x) f b) next
  by _ (IsStateRead.a_memory f) b next =
      later (next (subst (λ c. IsAmong (cond c (state_values m es) (valued (state_sort m k) (name u whole) ∷ state_values m es)) x) f b))

input_valued : (m : Model) (ts : Entries Text) (es : Entries Expression) (n : Name) (t : Text) (w : ℕ) → AreInputsRead ts es → IsAmong ts (n, t)
    → wanted_width (input_sort m n) ≡ Some w → Wanted t w (input_values m es)
input_valued m _ _ n t w AreInputsRead.none a g = absurd a
input_valued m _ _ n t w (AreInputsRead.an_input k u e ts es r rest) (inl same) g =
    (valued (input_sort m k) e, inl refl, subst (λ (y : Name × Text). ReadsAs y.1 e) same r, ap (λ (y : Name × Text). wanted_width (input_sort m y.0)) same ∙ g)
input_valued m _ _ n t w (AreInputsRead.an_input k u e ts es r rest) (inr b) g =
    let x = input_valued m ts es n t w rest b g in (x.0, inr x.1, x.2, x.3)

input_from : (m : Model) (ts : Entries Text) (es : Entries Expression) (x : Asked) → AreInputsRead ts es → IsAmong (input_values m es) x
    → Stands (input_sort m) x ts
input_from m _ _ x AreInputsRead.none a = absurd a
input_from m _ _ x (AreInputsRead.an_input k u e ts es r rest) (inl same) =
    (k, u, inl refl, subst (λ (y : Asked). ReadsAs u y.tree) same r, ap (λ (y : Asked). y.wanted) same)
input_from m _ _ x (AreInputsRead.an_input k u e ts es r rest) (inr b) =
    let s = input_from m ts es x rest b in (s.0, s.1, inr s.2, s.3, s.4)

-- a text of which this width is wanted is read as the tree
abbrev StandsForOne : MapCase → Asked → ℕ → Type 0
StandsForOne c x w = (t : Text) × WantsWidth c t w × ReadsAs t x.tree

-- of a condition none is wanted
condition_wants_none : (es : List Expression) (x : Asked) → IsAmong (map condition es) x → x.wanted ≡ None
condition_wants_none [] x a = absurd a
condition_wants_none (e ∷ es) x (inl same) = ap (λ (y : Asked). y.wanted) (sym same)
condition_wants_none (e ∷ es) x (inr a) = condition_wants_none es x a

commit_wants_none : (is : List InstructionMap) (x : Asked) → IsAmong (map (λ (i : InstructionMap). condition i.commit) is) x → x.wanted ≡ None
commit_wants_none [] x a = absurd a
commit_wants_none (i ∷ is) x (inl same) = ap (λ (y : Asked). y.wanted) (sym same)
commit_wants_none (i ∷ is) x (inr a) = commit_wants_none is x a

pub mismatches_told : TextsAreReadOnce → MismatchesAreWidthMismatches
mismatches_told once c p o stands told = (there o told, back o told) where
  -- the values are among all expressions
  by_values : (x : Asked) → IsAmong (state_values c.model p.states ++ (input_values c.model p.inputs ++ map (λ (i : InstructionMap). condition i.commit) p.instructions)) x
      → IsAmong (asked_in c.model p) x
  by_values x a = among_right (map condition p.assume) _ x (among_right (map condition p.invariants) _ x (inr a))

  wanted : (t : Text) (w : ℕ) → WantsWidth c t w → Wanted t w (asked_in c.model p)
  wanted t w (WantsWidth.of_state n k e) =
      let x = state_valued c.model c.written.states p.states n t w stands.states (among_contains c.written.states (n, t) k) e in
      (x.0, by_values x.0 (among_left (state_values c.model p.states) _ x.0 x.1), x.2, x.3)
  wanted t w (WantsWidth.of_input n k e) =
      let x = input_valued c.model c.written.inputs p.inputs n t w stands.inputs (among_contains c.written.inputs (n, t) k) e in
      (x.0, by_values x.0 (among_right (state_values c.model p.states) _ x.0 (among_left (input_values c.model p.inputs) _ x.0 x.1)), x.2, x.3)

  there : (o : Option ℕ) → IsFirstMismatch (case_design c) (asked_in c.model p) o → HasWidthMismatch c → IsTrue (is_some o)
  there (Some i) h m = refl
  there None h m =
      let x = wanted m.text m.width m.wants in
      let at = among_get (asked_in c.model p) x.0 x.1 in
      let same : m.tree ≡ x.0.tree = once m.text m.tree x.0.tree m.is_read x.2 in
      absurd (h at.0 x.0 at.1 (record {
        width = m.width;
        is_wanted = x.3;
        has_one = subst (λ e. IsTrue (has_width (design_scope (case_design c)) e)) same m.has_one;
        differs = subst (λ e. width_of (design_scope (case_design c)) e ≢ m.width) same m.differs;
      }))

  -- what has a width stands for a state or an input
  stands_for : (x : Asked) (w : ℕ) → x.wanted ≡ Some w → IsAmong (asked_in c.model p) x → StandsForOne c x w
  stands_for x w e a = first (among_either (map condition p.assume) _ x a) where
    nothing : x.wanted ≡ None → StandsForOne c x w
    nothing g = let none : None ≡ Some w = sym g ∙ e in cc

    of_input : IsAmong (input_values c.model p.inputs) x → StandsForOne c x w
    of_input b =
        let s = input_from c.model c.written.inputs p.inputs x stands.inputs b in
        (s.1, WantsWidth.of_input s.0 (contains_among c.written.inputs (s.0, s.1) s.2) (s.4 ∙ e), s.3)

    fifth : IsAmong (input_values c.model p.inputs) x ⊎ IsAmong (map (λ (i : InstructionMap). condition i.commit) p.instructions) x → StandsForOne c x w
    fifth (inl b) = of_input b
    fifth (inr b) = nothing (commit_wants_none p.instructions x b)

    fourth : IsAmong (state_values c.model p.states) x ⊎ IsAmong (input_values c.model p.inputs ++ map (λ (i : InstructionMap). condition i.commit) p.instructions) x → StandsForOne c x w
    fourth (inl b) =
        let s = state_from c.model c.written.states p.states x stands.states b in
        (s.1, WantsWidth.of_state s.0 (contains_among c.written.states (s.0, s.1) s.2) (s.4 ∙ e), s.3)
    fourth (inr b) = fifth (among_either (input_values c.model p.inputs) _ x b)

    third : IsAmong (condition p.start ∷ (state_values c.model p.states ++ (input_values c.model p.inputs ++ map (λ (i : InstructionMap). condition i.commit) p.instructions))) x → StandsForOne c x w
    third (inl same) = nothing (ap (λ (y : Asked). y.wanted) (sym same))
    third (inr b) = fourth (among_either (state_values c.model p.states) _ x b)

    second : IsAmong (map condition p.invariants) x ⊎ IsAmong (condition p.start ∷ (state_values c.model p.states ++ (input_values c.model p.inputs ++ map (λ (i : InstructionMap). condition i.commit) p.instructions))) x → StandsForOne c x w
    second (inl b) = nothing (condition_wants_none p.invariants x b)
    second (inr b) = third b

    first : IsAmong (map condition p.assume) x ⊎ IsAmong (map condition p.invariants ++ condition p.start ∷ (state_values c.model p.states ++ (input_values c.model p.inputs ++ map (λ (i : InstructionMap). condition i.commit) p.instructions))) x → StandsForOne c x w
    first (inl b) = nothing (condition_wants_none p.assume x b)
    first (inr b) = second (among_either (map condition p.invariants) _ x b)

  back : (o : Option ℕ) → IsFirstMismatch (case_design c) (asked_in c.model p) o → IsTrue (is_some o) → HasWidthMismatch c
  back None h t = absurd (false≢true t)
  back (Some i) h t =
      let m = h.0.2 in
      let r = stands_for h.0.0 m.width m.is_wanted (get_among (asked_in c.model p) i h.0.0 h.0.1) in
      record { text = r.0; tree = h.0.0.tree; width = m.width; wants = r.1; is_read = r.2; has_one = m.has_one; differs = m.differs }
