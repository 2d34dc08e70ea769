-- What is asked of a map whose expressions are brought to terms holds of an accepted map.
use Rattle.std.proofs.Common.{◌≡◌, ◌∙◌, ℕ, suc, Bool, true, false, cond, not, List, [], ◌∷◌, ◌++◌, map, slice_get, inl, inr, Option, Some, None, is_some, refl, sym, ap, subst, arith}
use Rattle.std.specs.Prelude.{IsTrue, ◌||◌, ◌&&◌, ◌==◌, ◌≢◌}
use Rattle.std.proofs.lemmas.Bool.{false≢true}
use Rattle.std.proofs.lemmas.Bool.Decides.{nat_tests}
use Rattle.wb_values.specs.Value.{Name, same_name, Sort, truth, word, memory, Entries, entry_of}
use Rattle.wb_values.specs.Choice.{some_if}
use Rattle.model_meaning.specs.Term.{is_sort, is_memory_sort}
use Rattle.model_meaning.specs.Among.{is_name_in, has_twice}
use Rattle.model_meaning.specs.Model.{Model, Machine, machine, StateDeclaration, InputDeclaration, states_of, state_named}
use Rattle.model_meaning.specs.Invariant.{gathered, all_machines, program_machines, state_names, is_memory_state, own_instruction_names}
use Rattle.verilog_trees.specs.Syntax.{Expression, name, whole}
use Rattle.verilog_meaning.specs.Expression.{Scope, width_of}
use Rattle.verilog_meaning.specs.Settled.{Design}
use Rattle.verilog_rules.specs.Expression.{Kind, Broken, anywhere, broken, is_unbroken, first_broken, refusal_of, has_width}
use Rattle.verilog_designs.specs.Names.{names_in}
use Rattle.verilog_unique.proofs.Options.{same_is, is_same}
use Rattle.verilog_unique.proofs.Descent.{IsAmong, among_left, among_right, contains_among, among_contains}
use Rattle.verilog_exists.proofs.Scopes.{SameIn, same_in}
use Rattle.refinement.specs.Map.{Setting, Map, InstructionMap, design_of, map_scope, sort_of_state, sort_of_input, instruction_map}
use Rattle.map_files.specs.Written.{Text, InstructionEntry, WrittenMap}
use Rattle.map_files.specs.Meaning.{StateUnmapped, InputUnmapped, BadExpression, WidthMismatch, MemoryMismatch, BoundMissing}
use Rattle.map_rules.specs.Case.{MapCase, case_design, is_memory_named, value_texts, expression_texts, entry_names, called_names, state_sort, input_names}
use Rattle.map_rules.specs.Expressions.{ReadsAs, design_scope, breaks_rule, an_expression, the_reset, is_reset}
use Rattle.map_rules.specs.Mapped.{wanted_width, WantsWidth, of_state, of_input, IsMemoryPath}
use Rattle.map_rules.specs.Accepted.{case_of, AreRead, IsStateRead, a_value, a_memory, AreStatesRead, AreInputsRead, AreInstructionsRead}
use Rattle.ila_child.specs.State.{sorts_of_states, sorts_of_inputs}
use Rattle.v_size.proofs.Unbroken.{unbroken-holds}
use Rattle.input_free.specs.Free.{IsInputFree, ValuesAreInputFree}
use Rattle.input_free.specs.Still.{IsStillFor, IsStillMap}
use Rattle.accepted_maps.specs.Still.{AcceptedMapsAreStill}
use Rattle.v_design.specs.Parts.{Parts}
use Rattle.path_terms.specs.Cycles.{IsScopeOf}
use Rattle.path_terms.specs.Mapped.{IsFit, Gives}
use Rattle.map_terms.specs.Ready.{AgreeOn, IsReadable, AreReadable, HasReadableEntry, HaveReadableEntries, HasEnd, HaveEnds, IsStill, IsOfRegisters, of_invariant, of_state as of_a_state}
use Rattle.ready_maps.specs.Names.{names_in_list, names_in_entries, names_in_commits, names_in_map, Knows}
use Rattle.ready_maps.specs.Accepted.{IsSoundModel, HasAcceptedMap, TextsAreShapely, AcceptedMapsAreReady}
use Rattle.ready_maps.proofs.Lists.{once_left, once_right, all_found, among_map, among_at, state_found, input_found}
use Rattle.ready_maps.proofs.Memories.{has_shape, path_shape, IsOfMemorySort, of_memory_sort}

none_is : {A : Type 0} (o : Option A) → ¬ IsTrue (is_some o) → o ≡ None
none_is None h = refl
none_is (Some x) h = absurd (h refl)

some_same : {A : Type 0} {x y : A} → Some x ≡ Some y → x ≡ y
some_same e = cc

not_not : (b : Bool) → ¬ IsTrue (not b) → b ≡ true
not_not true h = refl
not_not false h = absurd (h refl)

-- ---- an expression that breaks no rule has a width

not_chosen : (c : Bool) (k : Kind) (r : Option Kind) → cond c (Some k) r ≡ None → (not c ≡ true) × (r ≡ None)
not_chosen false k r e = (refl, e)
not_chosen true k r e = absurd (false≢true (sym (ap is_some e)))

not_last : (c : Bool) (k : Kind) → some_if c k ≡ None → not c ≡ true
not_last false k e = refl
not_last true k e = absurd (false≢true (sym (ap is_some e)))

and_both : (a b : Bool) → a ≡ true → b ≡ true → a && b ≡ true
and_both a b i j = ap (λ z. z && b) i ∙ j

none_broken : (b : Broken) → b.misshapen ≡ false → first_broken b ≡ None → is_unbroken b ≡ true
none_broken b m e =
    let a1 = not_chosen b.undeclared _ _ e in
    let a2 = not_chosen b.has_xz _ _ a1.1 in
    let a3 = not_chosen b.bad_constant _ _ a2.1 in
    let a4 = not_chosen b.width_over_128 _ _ a3.1 in
    let a5 = not_chosen b.bad_select _ _ a4.1 in
    let a6 = not_last b.memory_use _ a5.1 in
    and_both _ _ a1.0 (and_both _ _ a2.0 (and_both _ _ a3.0 (and_both _ _ a4.0 (and_both _ _ a5.0 (and_both _ _ a6 (ap not m))))))

-- ---- entries of a written map and of the map that it stands for

read_at : (ts : List Text) (es : List Expression) → AreRead ts es → (e : Expression) → IsAmong es e → (t : Text) × IsAmong ts t × ReadsAs t e
read_at _ _ AreRead.none e h = absurd h
read_at _ _ (AreRead.read t f ts es r rest) e (inl q) = (t, inl refl, subst (ReadsAs t) q r)
read_at _ _ (AreRead.read t f ts es r rest) e (inr h) = let x = read_at ts es rest e h in (x.0, inr x.1, x.2)

record StateEntry (m : Model) (ts : Entries Text) (es : Entries Expression) (n : Name) : Type 0 where
  text : Text
  expression : Expression
  is_entry : entry_of es n ≡ Some expression
  stands : IsAmong ts (n, text)
  among : IsAmong es (n, expression)
  is_read : IsStateRead m n text expression

state_entry : (m : Model) (ts : Entries Text) (es : Entries Expression) → AreStatesRead m ts es → (n : Name) → is_name_in n (entry_names ts) ≡ true
    → StateEntry m ts es n
state_entry m _ _ AreStatesRead.none n h = absurd (false≢true h)
state_entry m _ _ (AreStatesRead.state c t f ts es r rest) n h = by (same_name c n) refl (state_entry m ts es rest n)
  where
    by : (b : Bool) → same_name c n ≡ b → (is_name_in n (entry_names ts) ≡ true → StateEntry m ts es n) → StateEntry m ((c, t) ∷ ts) ((c, f) ∷ es) n
    by true e further_on =
        let same : c ≡ n = same_is c n e in
        record {
          text = t;
          expression = f;
          is_entry = ap (λ b. cond b (Some f) (entry_of es n)) e;
          stands = inl (ap (λ z. (z, t)) same);
          among = inl (ap (λ z. (z, f)) same);
          is_read = subst (λ z. IsStateRead m z t f) same r;
        }
    by false e further_on =
        let later : StateEntry m ts es n = further_on (further (same_name n c) refl h) in
        record {
          text = later.text;
          expression = later.expression;
          is_entry = ap (λ b. cond b (Some f) (entry_of es n)) e ∙ later.is_entry;
          stands = inr later.stands;
          among = inr later.among;
          is_read = later.is_read;
        }
      where
        further : (b : Bool) → same_name n c ≡ b → (b || is_name_in n (entry_names ts)) ≡ true → is_name_in n (entry_names ts) ≡ true
        further true g k = absurd (false≢true (sym e ∙ ap (λ z. same_name z n) (sym (same_is n c g)) ∙ is_same n))
        further false g k = k

record InputEntry (ts : Entries Text) (es : Entries Expression) (n : Name) : Type 0 where
  text : Text
  expression : Expression
  is_entry : entry_of es n ≡ Some expression
  stands : IsAmong ts (n, text)
  among : IsAmong es (n, expression)
  is_read : ReadsAs text expression

input_entry : (ts : Entries Text) (es : Entries Expression) → AreInputsRead ts es → (n : Name) → is_name_in n (entry_names ts) ≡ true → InputEntry ts es n
input_entry _ _ AreInputsRead.none n h = absurd (false≢true h)
input_entry _ _ (AreInputsRead.an_input c t f ts es r rest) n h = by (same_name c n) refl (input_entry ts es rest n)
  where
    by : (b : Bool) → same_name c n ≡ b → (is_name_in n (entry_names ts) ≡ true → InputEntry ts es n) → InputEntry ((c, t) ∷ ts) ((c, f) ∷ es) n
    by true e further_on =
        let same : c ≡ n = same_is c n e in
        record {
          text = t;
          expression = f;
          is_entry = ap (λ b. cond b (Some f) (entry_of es n)) e;
          stands = inl (ap (λ z. (z, t)) same);
          among = inl (ap (λ z. (z, f)) same);
          is_read = r;
        }
    by false e further_on =
        let later : InputEntry ts es n = further_on (further (same_name n c) refl h) in
        record {
          text = later.text;
          expression = later.expression;
          is_entry = ap (λ b. cond b (Some f) (entry_of es n)) e ∙ later.is_entry;
          stands = inr later.stands;
          among = inr later.among;
          is_read = later.is_read;
        }
      where
        further : (b : Bool) → same_name n c ≡ b → (b || is_name_in n (entry_names ts)) ≡ true → is_name_in n (entry_names ts) ≡ true
        further true g k = absurd (false≢true (sym e ∙ ap (λ z. same_name z n) (sym (same_is n c g)) ∙ is_same n))
        further false g k = k

record CommitEntry (ts : List InstructionEntry) (is : List InstructionMap) (n : Name) : Type 0 where
  text : Text
  entry : InstructionMap
  is_entry : instruction_map is n ≡ Some entry
  stands : IsAmong (map (λ i. i.commit) ts) text
  among : IsAmong is entry
  is_read : ReadsAs text entry.commit

commit_entry : (ts : List InstructionEntry) (is : List InstructionMap) → AreInstructionsRead ts is → (n : Name)
    → is_name_in n (map (λ i. i.called) ts) ≡ true → CommitEntry ts is n
commit_entry _ _ AreInstructionsRead.none n h = absurd (false≢true h)
commit_entry _ _ (AreInstructionsRead.instruction c t b e ts is r rest) n h = by (same_name c n) refl (commit_entry ts is rest n)
  where
    here : InstructionMap
    here = record { called = c; commit = e; bound = b }

    there : InstructionEntry
    there = record { called = c; commit = t; bound = b }

    by : (b : Bool) → same_name c n ≡ b → (is_name_in n (map (λ (i : InstructionEntry). i.called) ts) ≡ true → CommitEntry ts is n) → CommitEntry (there ∷ ts) (here ∷ is) n
    by true g further_on =
        record {
          text = t;
          entry = here;
          is_entry = ap (λ b. cond b (Some here) (instruction_map is n)) g;
          stands = inl refl;
          among = inl refl;
          is_read = r;
        }
    by false g further_on =
        let later : CommitEntry ts is n = further_on (further (same_name n c) refl h) in
        record {
          text = later.text;
          entry = later.entry;
          is_entry = ap (λ b. cond b (Some here) (instruction_map is n)) g ∙ later.is_entry;
          stands = inr later.stands;
          among = inr later.among;
          is_read = later.is_read;
        }
      where
        further : (b : Bool) → same_name n c ≡ b → (b || is_name_in n (map (λ (i : InstructionEntry). i.called) ts)) ≡ true
            → is_name_in n (map (λ (i : InstructionEntry). i.called) ts) ≡ true
        further true f k = absurd (false≢true (sym g ∙ ap (λ z. same_name z n) (sym (same_is n c f)) ∙ is_same n))
        further false f k = k

-- ---- names of a map

in_list : (es : List Expression) (e : Expression) → IsAmong es e → (n : Name) → IsAmong (names_in e) n → IsAmong (names_in_list es) n
in_list [] e h n a = absurd h
in_list (x ∷ es) e (inl q) n a = among_left (names_in x) (names_in_list es) n (subst (λ z. IsAmong (names_in z) n) (sym q) a)
in_list (x ∷ es) e (inr h) n a = among_right (names_in x) (names_in_list es) n (in_list es e h n a)

in_entries : (es : Entries Expression) (c : Name) (e : Expression) → IsAmong es (c, e) → (n : Name) → IsAmong (names_in e) n → IsAmong (names_in_entries es) n
in_entries [] c e h n a = absurd h
in_entries (x ∷ es) c e (inl q) n a =
    among_left (names_in x.1) (names_in_entries es) n (subst (λ (z : Name × Expression). IsAmong (names_in z.1) n) (sym q) a)
in_entries (x ∷ es) c e (inr h) n a = among_right (names_in x.1) (names_in_entries es) n (in_entries es c e h n a)

in_commits : (is : List InstructionMap) (i : InstructionMap) → IsAmong is i → (n : Name) → IsAmong (names_in i.commit) n → IsAmong (names_in_commits is) n
in_commits [] i h n a = absurd h
in_commits (x ∷ is) i (inl q) n a =
    among_left (names_in x.commit) (names_in_commits is) n (subst (λ (z : InstructionMap). IsAmong (names_in z.commit) n) (sym q) a)
in_commits (x ∷ is) i (inr h) n a = among_right (names_in x.commit) (names_in_commits is) n (in_commits is i h n a)

-- the texts of states that are no memories
value_there : (m : Model) (n : Name) (t : Text) (es : Entries Text) → IsAmong es (n, t) → is_memory_named m n ≡ false → IsAmong (value_texts m es) t
value_there m n t [] h f = absurd h
value_there m n t (e ∷ es) (inl q) f =
    subst (λ (x : Name × Text). IsAmong (cond (is_memory_named m x.0) (value_texts m es) (x.1 ∷ value_texts m es)) t) (sym q)
    (subst (λ b. IsAmong (cond b (value_texts m es) (t ∷ value_texts m es)) t) (sym f) (inl refl))
value_there m n t (e ∷ es) (inr h) f = by (is_memory_named m e.0) (value_there m n t es h f)
  where
    by : (b : Bool) → IsAmong (value_texts m es) t → IsAmong (cond b (value_texts m es) (e.1 ∷ value_texts m es)) t
    by true g = g
    by false g = inr g

same_width : (u w : ℕ) → ¬ (u ≢ w) → u ≡ w
same_width u w h = by (u == w) refl
  where
    by : (b : Bool) → (u == w) ≡ b → u ≡ w
    by true e = grind (arith, nat_tests, e)
    by false e = absurd (h (λ q. false≢true (sym e ∙ grind (arith, nat_tests, q))))

-- the names of a model's own states, and those of its inputs, stand once
own_names : (m : Machine) → (ns : List Name) → has_twice (ns ++ gathered state_names (all_machines m)) ≡ false → has_twice (map (λ s. s.state_name) (states_of m)) ≡ false
own_names (machine ss v is) ns h =
    once_left (map (λ (s : StateDeclaration). s.state_name) ss) (gathered state_names (program_machines is)) (once_right ns _ h)

module _
    (s : Setting) (w : WrittenMap) (scope : Scope) (e : Parts) (model : IsSoundModel s.model) (map_is : HasAcceptedMap s w) (is_scope : IsScopeOf (design_of s) scope)
    (knows : Knows scope (design_of s) (names_in_map s.map)) (shapely : TextsAreShapely)
  where
    abbrev d : Design
    d = design_of s

    abbrev c : MapCase
    c = case_of w s.model s.source

    abbrev p : Map
    p = s.map

    same : case_design c ≡ d
    same = let t = sym map_is.stands_for.top in let k = sym map_is.stands_for.clock in λ i. record { source = s.source; top = t i; clock = k i }

    -- ---- an expression

    -- each of its names is one of the map's
    IsKnown : Expression → Type 0
    IsKnown x = (n : Name) → IsAmong (names_in x) n → IsAmong (names_in_map p) n

    record IsRight (x : Expression) : Type 0 where
      fit : IsFit scope x
      agrees : AgreeOn scope (map_scope s) x
      alike : SameIn scope (design_scope d) x
      has : has_width (design_scope d) x ≡ true

    right : (t : Text) (x : Expression) → ReadsAs t x → IsAmong (expression_texts c) t → ((n : Name) → IsAmong (names_in x) n → IsAmong (names_in_map p) n) → IsRight x
    right t x r stands known =
        let agree : (n : Name) → IsAmong (names_in x) n → scope n ≡ design_scope d n = λ n a. knows n (contains_among (names_in_map p) n (known n a)) in
        let alike : SameIn scope (design_scope d) x = same_in scope (design_scope d) x agree in
        let unbroken : refusal_of (design_scope (case_design c)) x ≡ None =
        none_is (refusal_of (design_scope (case_design c)) x)
        (λ some. map_is.judged BadExpression (an_expression t (contains_among (expression_texts c) t stands) (breaks_rule x r some))) in
        let here : refusal_of scope x ≡ None =
        ap first_broken (alike.rules anywhere) ∙ subst (λ z. refusal_of (design_scope z) x ≡ None) same unbroken in
        let shape : (broken scope anywhere x).misshapen ≡ false = shapely t x scope r in
        record {
          fit = record { of_text = shape; unbroken = here };
          agrees = λ n a. agree n (among_contains (names_in x) n a);
          alike = alike;
          has = sym alike.has ∙ (unbroken-holds scope is_scope.narrow anywhere x (none_broken (broken scope anywhere x) shape here)).0;
        }

    readable : (x : Expression) → IsRight x → IsReadable scope (map_scope s) x
    readable x r = record { fit = r.fit; agrees = r.agrees }

    all_readable : (xs : List Expression) → ((x : Expression) → IsAmong xs x → IsRight x) → AreReadable scope (map_scope s) xs
    all_readable [] h = tt
    all_readable (x ∷ xs) h = (readable x (h x (inl refl)), all_readable xs (λ y a. h y (inr a)))

    -- ---- where its texts stand

    abbrev texts : List Text
    texts = value_texts s.model w.states

    abbrev more : List Text
    more = map (λ x. x.1) w.inputs ++ map (λ i. i.commit) w.instructions

    in_assume : (t : Text) → IsAmong w.assume t → IsAmong (expression_texts c) t
    in_assume t h = among_left w.assume (w.invariants ++ w.start ∷ (texts ++ more)) t h

    after_assume : (t : Text) → IsAmong (w.invariants ++ w.start ∷ (texts ++ more)) t → IsAmong (expression_texts c) t
    after_assume t h = among_right w.assume (w.invariants ++ w.start ∷ (texts ++ more)) t h

    in_invariants : (t : Text) → IsAmong w.invariants t → IsAmong (expression_texts c) t
    in_invariants t h = after_assume t (among_left w.invariants (w.start ∷ (texts ++ more)) t h)

    after_invariants : (t : Text) → IsAmong (w.start ∷ (texts ++ more)) t → IsAmong (expression_texts c) t
    after_invariants t h = after_assume t (among_right w.invariants (w.start ∷ (texts ++ more)) t h)

    in_states : (t : Text) → IsAmong texts t → IsAmong (expression_texts c) t
    in_states t h = after_invariants t (inr (among_left texts more t h))

    in_inputs : (t : Text) → IsAmong (map (λ x. x.1) w.inputs) t → IsAmong (expression_texts c) t
    in_inputs t h = after_invariants t (inr (among_right texts more t (among_left (map (λ x. x.1) w.inputs) (map (λ i. i.commit) w.instructions) t h)))

    in_ends : (t : Text) → IsAmong (map (λ i. i.commit) w.instructions) t → IsAmong (expression_texts c) t
    in_ends t h = after_invariants t (inr (among_right texts more t (among_right (map (λ x. x.1) w.inputs) (map (λ i. i.commit) w.instructions) t h)))

    -- ---- where its names stand

    abbrev names_4 : List Name
    names_4 = names_in_entries p.inputs ++ names_in_commits p.instructions

    abbrev names_3 : List Name
    names_3 = names_in_entries p.states ++ names_4

    abbrev names_2 : List Name
    names_2 = names_in p.start ++ names_3

    abbrev names_1 : List Name
    names_1 = names_in_list p.invariants ++ names_2

    of_assume : (n : Name) → IsAmong (names_in_list p.assume) n → IsAmong (names_in_map p) n
    of_assume n h = among_left (names_in_list p.assume) names_1 n h

    of_invariants : (n : Name) → IsAmong (names_in_list p.invariants) n → IsAmong (names_in_map p) n
    of_invariants n h = among_right (names_in_list p.assume) names_1 n (among_left (names_in_list p.invariants) names_2 n h)

    from_start : (n : Name) → IsAmong names_2 n → IsAmong (names_in_map p) n
    from_start n h = among_right (names_in_list p.assume) names_1 n (among_right (names_in_list p.invariants) names_2 n h)

    of_start : (n : Name) → IsAmong (names_in p.start) n → IsAmong (names_in_map p) n
    of_start n h = from_start n (among_left (names_in p.start) names_3 n h)

    from_states : (n : Name) → IsAmong names_3 n → IsAmong (names_in_map p) n
    from_states n h = from_start n (among_right (names_in p.start) names_3 n h)

    of_states : (n : Name) → IsAmong (names_in_entries p.states) n → IsAmong (names_in_map p) n
    of_states n h = from_states n (among_left (names_in_entries p.states) names_4 n h)

    of_inputs : (n : Name) → IsAmong (names_in_entries p.inputs) n → IsAmong (names_in_map p) n
    of_inputs n h = from_states n (among_right (names_in_entries p.states) names_4 n (among_left (names_in_entries p.inputs) (names_in_commits p.instructions) n h))

    of_ends : (n : Name) → IsAmong (names_in_commits p.instructions) n → IsAmong (names_in_map p) n
    of_ends n h = from_states n (among_right (names_in_entries p.states) names_4 n (among_right (names_in_entries p.inputs) (names_in_commits p.instructions) n h))

    -- ---- conditions

    assumptions : AreReadable scope (map_scope s) p.assume
    assumptions =
        all_readable p.assume
        (λ x a. let r = read_at w.assume p.assume map_is.stands_for.assume x a in right r.0 x r.2 (in_assume r.0 r.1) (λ n k. of_assume n (in_list p.assume x a n k)))

    all_invariants : AreReadable scope (map_scope s) p.invariants
    all_invariants =
        all_readable p.invariants
        (λ x a. let r = read_at w.invariants p.invariants map_is.stands_for.invariants x a in
        right r.0 x r.2 (in_invariants r.0 r.1) (λ n k. of_invariants n (in_list p.invariants x a n k)))

    the_start : IsReadable scope (map_scope s) p.start
    the_start = readable p.start (right w.start p.start map_is.stands_for.start (after_invariants w.start (inl refl)) (λ n k. of_start n k))

    -- ---- widths

    wanted : (t : Text) (x : Expression) (u : ℕ) → WantsWidth c t u → ReadsAs t x → IsRight x → width_of scope x ≡ u
    wanted t x u want r is =
        is.alike.width
        ∙ same_width (width_of (design_scope d) x) u
        (λ differs. map_is.judged WidthMismatch
        (record {
          text = t;
          tree = x;
          width = u;
          wants = want;
          is_read = r;
          has_one = subst (λ z. has_width (design_scope z) x ≡ true) (sym same) is.has;
          differs = subst (λ z. width_of (design_scope z) x ≢ u) (sym same) differs;
        }))

    -- ---- states

    states_once : has_twice (map (λ (q : StateDeclaration). q.state_name) (states_of s.model.top)) ≡ false
    states_once = own_names s.model.top (map (λ (i : InputDeclaration). i.input_name) s.model.inputs) model.kept.distinct_names

    inputs_once : has_twice (map (λ (i : InputDeclaration). i.input_name) s.model.inputs) ≡ false
    inputs_once = once_left (map (λ (i : InputDeclaration). i.input_name) s.model.inputs) (gathered state_names (all_machines s.model.top)) model.kept.distinct_names

    module _ (n : Name) (q : StateDeclaration) (is : state_named (states_of s.model.top) n ≡ Some q) (there : IsAmong (states_of s.model.top) q) where
      sort_there : (o : Sort) → q.sort ≡ o → state_sort s.model n ≡ Some o
      sort_there o h = ap sort_of_state is ∙ ap Some h

      memory_kind : (o : Sort) → q.sort ≡ o → is_memory_named s.model n ≡ is_memory_sort o
      memory_kind o h = ap is_memory_state is ∙ ap is_memory_sort h

      legal : (o : Sort) → q.sort ≡ o → is_sort o ≡ true
      legal o h = let at = among_at (states_of s.model.top) q there in ap is_sort (sym h) ∙ model.sorts at.0 q at.1

      record HasPath (a u : ℕ) (t : Text) : Type 0 where
        shape : has_shape a u (design_scope d t) ≡ true

      path_there : (a u : ℕ) (t : Text) → q.sort ≡ memory a u → IsAmong w.states (n, t) → has_shape a u (design_scope d t) ≡ true
      path_there a u t h stands = by (has_shape a u (design_scope d t)) refl
        where
          by : (b : Bool) → has_shape a u (design_scope d t) ≡ b → has_shape a u (design_scope d t) ≡ true
          by true k = k
          by false k =
              absurd
              (map_is.judged MemoryMismatch
              (record {
                state = n;
                text = t;
                address_width = a;
                width = u;
                stands = contains_among w.states (n, t) stands;
                is_memory = sort_there (memory a u) h;
                no_path = λ m. false≢true (sym k ∙ path_shape d t a u map_is.of_text.no_dots (subst (λ z. IsMemoryPath z t a u) same m));
              }))

      value_right : (t : Text) (x : Expression) → IsAmong w.states (n, t) → IsAmong p.states (n, x) → is_memory_named s.model n ≡ false → ReadsAs t x → IsRight x
      value_right t x stands among f r =
          right t x r (in_states t (value_there s.model n t w.states stands f)) (λ m k. of_states m (in_entries p.states n x among m k))

      given : (o : Sort) (t : Text) (x : Expression) → q.sort ≡ o → IsAmong w.states (n, t) → IsAmong p.states (n, x) → IsStateRead s.model n t x
          → Gives scope o x × AgreeOn scope (map_scope s) x
      given truth t _ h stands among (a_value x f r) = let is_right = value_right t x stands among f r in (is_right.fit, is_right.agrees)
      given truth t _ h stands among (a_memory f) = absurd (false≢true (sym (memory_kind truth h) ∙ f))
      given (word u) t _ h stands among (a_value x f r) =
          let is_right = value_right t x stands among f r in (
            (
              is_right.fit,
              wanted t x u (of_state n (contains_among w.states (n, t) stands) (ap wanted_width (sort_there (word u) h))) r is_right,
            ),
            is_right.agrees,
          )
      given (word u) t _ h stands among (a_memory f) = absurd (false≢true (sym (memory_kind (word u) h) ∙ f))
      given (memory a u) t _ h stands among (a_value x f r) = absurd (false≢true (sym f ∙ memory_kind (memory a u) h))
      given (memory a u) t _ h stands among (a_memory f) =
          let means : scope t ≡ design_scope d t =
          knows t (contains_among (names_in_map p) t (of_states t (in_entries p.states n (name t whole) among t (inl refl)))) in
          let sort : IsOfMemorySort (scope t) a u =
          of_memory_sort (scope t) a u (legal (memory a u) h) (ap (has_shape a u) means ∙ path_there a u t h stands) in (
            record { called = t; is_name = refl; of_sort = sort.of_sort; known = sort.known },
            λ m k. alone m (among_contains (names_in (name t whole)) m k) means,
          )
        where
          alone : (m : Name) → IsAmong (names_in (name t whole)) m → scope t ≡ design_scope d t → scope m ≡ design_scope d m
          alone m (inl g) means = subst (λ z. scope z ≡ design_scope d z) g means
          alone m (inr g) means = absurd g

    state_known : (n : Name) → IsAmong (state_names s.model.top) n → is_name_in n (entry_names w.states) ≡ true
    state_known n a = all_found (state_names s.model.top) (entry_names w.states) (not_not _ (λ h. map_is.judged StateUnmapped h)) n a

    state_readable : (n : Name) (t : Sort) → IsAmong (sorts_of_states (states_of s.model.top)) (n, t) → HasReadableEntry scope (map_scope s) p.states (n, t)
    state_readable n t a =
        let f = state_found (states_of s.model.top) states_once n t a in
        let known = state_known n (subst (IsAmong (state_names s.model.top)) f.4 (among_map (λ (q : StateDeclaration). q.state_name) (states_of s.model.top) f.0 f.3)) in
        let x = state_entry s.model w.states p.states map_is.stands_for.states n known in
        let g = given n f.0 f.1 f.3 t x.text x.expression f.2 x.stands x.among x.is_read in
        record { expression = x.expression; is_entry = x.is_entry; gives = g.0; agrees = g.1 }

    -- ---- inputs

    input_known : (n : Name) → IsAmong (input_names s.model) n → is_name_in n (entry_names w.inputs) ≡ true
    input_known n a = all_found (input_names s.model) (entry_names w.inputs) (not_not _ (λ h. map_is.judged InputUnmapped h)) n a

    input_readable : (n : Name) (t : Sort) → is_memory_sort t ≡ false → IsAmong (sorts_of_inputs s.model.inputs) (n, t) → HasReadableEntry scope (map_scope s) p.inputs (n, t)
    input_readable n t plain a =
        let f = input_found s.model.inputs inputs_once n t a in
        let x = input_entry w.inputs p.inputs map_is.stands_for.inputs n (input_known n f.1) in
        let is_right : IsRight x.expression =
        right x.text x.expression x.is_read (in_inputs x.text (among_map (λ (z : Name × Text). z.1) w.inputs (n, x.text) x.stands))
        (λ m k. of_inputs m (in_entries p.inputs n x.expression x.among m k)) in
        record { expression = x.expression; is_entry = x.is_entry; gives = gives_of t plain f.0 x.text x.expression x.stands x.is_read is_right; agrees = is_right.agrees }
      where
        gives_of : (o : Sort) → is_memory_sort o ≡ false → sort_of_input s.model.inputs n ≡ Some o → (u : Text) (x : Expression) → IsAmong w.inputs (n, u) → ReadsAs u x → IsRight x
            → Gives scope o x
        gives_of truth q h u x stands r is = is.fit
        gives_of (word v) q h u x stands r is = (is.fit, wanted u x v (of_input n (contains_among w.inputs (n, u) stands) (ap wanted_width h)) r is)
        gives_of (memory b v) q h u x stands r is = absurd (false≢true (sym q))

    -- ---- ends

    commit_known : (n : Name) → IsAmong (own_instruction_names s.model.top) n → is_name_in n (called_names w) ≡ true
    commit_known n a = all_found (own_instruction_names s.model.top) (called_names w) (not_not _ (λ h. map_is.judged BoundMissing h)) n a

    has_end : (n : Name) → IsAmong (own_instruction_names s.model.top) n → HasEnd scope (map_scope s) p.instructions n
    has_end n a =
        let x = commit_entry w.instructions p.instructions map_is.stands_for.instructions n (commit_known n a) in
        record {
          entry = x.entry;
          is_entry = x.is_entry;
          commit = readable x.entry.commit (right x.text x.entry.commit x.is_read (in_ends x.text x.stands) (λ m k. of_ends m (in_commits p.instructions x.entry x.among m k)));
        }

entries_readable : (s m : Scope) (es : Entries Expression) (ns : Entries Sort) → ((n : Name) (t : Sort) → IsAmong ns (n, t) → HasReadableEntry s m es (n, t))
    → HaveReadableEntries s m es ns
entries_readable s m es [] h = tt
entries_readable s m es (n ∷ ns) h = (h n.0 n.1 (inl refl), entries_readable s m es ns (λ k t a. h k t (inr a)))

have_ends : (s m : Scope) (is : List InstructionMap) (ns : List Name) → ((n : Name) → IsAmong ns n → HasEnd s m is n) → HaveEnds s m is ns
have_ends s m is [] h = tt
have_ends s m is (n ∷ ns) h = (h n (inl refl), have_ends s m is ns (λ k a. h k (inr a)))

-- ---- the whole

pub accepted_ready : TextsAreShapely → AcceptedMapsAreStill → ValuesAreInputFree → AcceptedMapsAreReady
accepted_ready shapely still_maps free s w scope e model map_is is_scope knows design =
    let states = sorts_of_states (states_of s.model.top) in
    let inputs = sorts_of_inputs s.model.inputs in
    let names = own_instruction_names s.model.top in
    let c : MapCase = case_of w s.model s.source in
    record {
      design = design;
      accepted = map_is.accepted;
      of_text = map_is.of_text;
      is_scope = is_scope;
      reset = is_reset_signal;
      start = the_start s w scope e model map_is is_scope knows shapely;
      assume = assumptions s w scope e model map_is is_scope knows shapely;
      invariants = all_invariants s w scope e model map_is is_scope knows shapely;
      states = entries_readable scope (map_scope s) s.map.states states (state_readable s w scope e model map_is is_scope knows shapely);
      inputs = entries_readable scope (map_scope s) s.map.inputs inputs
          (λ n t a. input_readable s w scope e model map_is is_scope knows shapely n t (plain n t a) a);
      instructions = have_ends scope (map_scope s) s.map.instructions names (has_end s w scope e model map_is is_scope knows shapely);
      still = stands_still;
    }
  where
    same_case : case_design (case_of w s.model s.source) ≡ design_of s
    same_case = same s w scope e model map_is is_scope knows shapely

    is_reset_signal : IsTrue (is_reset (design_of s) s.map.reset_signal)
    is_reset_signal =
        let there : is_reset (case_design (case_of w s.model s.source)) w.reset.signal ≡ true =
        not_not (is_reset (case_design (case_of w s.model s.source)) w.reset.signal) (λ h. map_is.judged BadExpression (the_reset h)) in
        ap (λ z. is_reset (design_of s) z) map_is.stands_for.reset_signal ∙ (ap (λ z. is_reset z w.reset.signal) (sym same_case) ∙ there)

    plain_input : (is : List InputDeclaration) → ((k : ℕ) (i : InputDeclaration) → slice_get is k ≡ Some i → is_memory_sort i.sort ≡ false)
        → (n : Name) (t : Sort) → IsAmong {A = Name × Sort} (map (λ (i : InputDeclaration). (i.input_name, i.sort)) is) (n, t) → is_memory_sort t ≡ false
    plain_input [] h n t a = absurd a
    plain_input (i ∷ is) h n t (inl q) = ap (λ (x : Name × Sort). is_memory_sort x.1) (sym q) ∙ h 0 i refl
    plain_input (i ∷ is) h n t (inr a) = plain_input is (λ k j at_k. h (suc k) j at_k) n t a

    plain : (n : Name) (t : Sort) → IsAmong (sorts_of_inputs s.model.inputs) (n, t) → is_memory_sort t ≡ false
    plain = plain_input s.model.inputs model.inputs

    is_still : IsStillMap s
    is_still = still_maps s w map_is.accepted map_is.judged map_is.stands_for

    free_still : (x : Expression) → IsInputFree (design_of s) x → IsStill (design_of s) (map_scope s) x
    free_still x input_free registers inputs others v u first second =
        free (design_of s) v u x
        (record {
          accepted = map_is.accepted;
          of_text = map_is.of_text;
          registers = registers;
          inputs = inputs;
          others = others;
          first = first.is_settled;
          second = second.is_settled;
        })
        input_free

    by_sort : (o : Sort) (x : Expression) → is_memory_sort o ≡ false → IsStillFor (design_of s) o x → IsInputFree (design_of s) x
    by_sort truth x h f = f
    by_sort (word u) x h f = f
    by_sort (memory a u) x h f = absurd (false≢true (sym h))

    stands_still : (x : Expression) → IsOfRegisters s.model s.map x → IsStill (design_of s) (map_scope s) x
    stands_still _ (of_invariant x h) =
        let at = among_at s.map.invariants x (among_contains s.map.invariants x h) in free_still x (is_still.invariants at.0 x at.1)
    stands_still _ (of_a_state n t x h no_memory is_entry) =
        let f = state_found (states_of s.model.top) (states_once s w scope e model map_is is_scope knows shapely) n t
        (among_contains (sorts_of_states (states_of s.model.top)) (n, t) h) in
        free_still x (by_sort f.0.sort x (ap is_memory_sort f.2 ∙ no_memory) (is_still.states n f.0 x f.1 is_entry))
