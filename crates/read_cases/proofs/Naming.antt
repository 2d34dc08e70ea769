-- Lists to which the names in a map's expressions are added: a text, a list of texts, a map.
use Rattle.std.proofs.Common.{◌≡◌, ◌∙◌, ℕ, ◌+◌, ◌<◌, ◌≤◌, refl, sym, ap, subst, Bool, List, [], ◌∷◌, ◌++◌, length, get_or, take, Some, None, string_bytes}
use Rattle.std.specs.Borrow.{Bor}
use Rattle.std.proofs.lemmas.List.{take_more, take_all, append-nil, append_assoc}
use Rattle.wb_values.specs.Value.{Name, Entries}
use Rattle.model_meaning.specs.Model.{Model}
use Rattle.verilog_trees.specs.Syntax.{Expression}
use Rattle.verilog_designs.specs.Names.{names_in}
use Rattle.refinement.specs.Map.{Map, InstructionMap}
use Rattle.map_files.specs.Written.{Text, InstructionEntry, WrittenMap}
use Rattle.map_rules.specs.Case.{is_memory_named}
use Rattle.map_rules.specs.Accepted.{AreRead, IsStateRead, AreStatesRead, AreInputsRead, AreInstructionsRead, StandsForMap}
use Rattle.map_trees.specs.declared.tokens.TextTokens.{TextTokens}
use Rattle.map_trees.specs.declared.tokens.StateTokens.{StateTokens}
use Rattle.map_trees.specs.declared.tokens.EntryTokens.{EntryTokens}
use Rattle.map_trees.specs.declared.tokens.InstructionTokens.{InstructionTokens}
use Rattle.map_trees.specs.declared.tokens.MapTokens.{MapTokens}
use Rattle.map_trees.specs.Tokens.{IsStateTokens, AreTokens, AreStateTokens, AreEntryTokens, AreInstructionTokens, AreMapTokens}
use Rattle.ready_maps.specs.Names.{names_in_list, names_in_entries, names_in_commits, names_in_map}
use Rattle.read_cases.specs.Named.{names_of_texts, AreNamesInText, AreNamesInState, AreNamesInInput, AreNamesInCommit, AreNamesInAll, HasAdded}

-- ---- what is added

pub added_none : {AreSuch : List Name → Type 0} (xs : List (Bor (List ℕ))) → AreSuch [] → HasAdded AreSuch xs xs
added_none xs h = record { names = []; are_such = h; are_added = sym (append-nil (names_of_texts xs)) }

pub added_as : {AreSuch AreOther : List Name → Type 0} (xs ys : List (Bor (List ℕ))) → ((ns : List Name) → AreSuch ns → AreOther ns) → HasAdded AreSuch xs ys → HasAdded AreOther xs ys
added_as xs ys f h = record { names = h.names; are_such = f h.names h.are_such; are_added = h.are_added }

texts_with : (xs : List (Bor (List ℕ))) (x : Bor (List ℕ)) → names_of_texts (xs ++ x ∷ []) ≡ names_of_texts xs ++ x.now ∷ []
texts_with [] x = refl
texts_with (y ∷ xs) x = ap (λ z. y.now ∷ z) (texts_with xs x)

pub added_one : {AreSuch : List Name → Type 0} (xs ys : List (Bor (List ℕ))) (x : Bor (List ℕ)) → ys ≡ xs ++ x ∷ [] → AreSuch (x.now ∷ []) → HasAdded AreSuch xs ys
added_one xs ys x e h = record { names = x.now ∷ []; are_such = h; are_added = ap names_of_texts e ∙ texts_with xs x }

-- ---- loops over names

pub more_turn : (old mid new more : List (Bor (List ℕ))) (i : ℕ) (d : Bor (List ℕ)) → i < length more → new ≡ mid ++ get_or more i d ∷ []
    → names_of_texts mid ≡ names_of_texts old ++ names_of_texts (take i more) → names_of_texts new ≡ names_of_texts old ++ names_of_texts (take (i + 1) more)
more_turn old mid new more i d lt grown h =
    let x : Bor (List ℕ) = get_or more i d in
    let taken : names_of_texts (take (i + 1) more) ≡ names_of_texts (take i more) ++ x.now ∷ [] =
    ap names_of_texts (take_more more i d lt) ∙ texts_with (take i more) x in
    ap names_of_texts grown ∙ (texts_with mid x ∙ (ap (λ z. z ++ x.now ∷ []) h
    ∙ (append_assoc (names_of_texts old) (names_of_texts (take i more)) (x.now ∷ []) ∙ ap (λ z. names_of_texts old ++ z) (sym taken))))

pub more_end : (old new more : List (Bor (List ℕ))) (i : ℕ) → length more ≤ i → names_of_texts new ≡ names_of_texts old ++ names_of_texts (take i more)
    → HasAdded (λ own. own ≡ names_of_texts more) old new
more_end old new more i le h =
    record { names = names_of_texts more; are_such = refl; are_added = h ∙ ap (λ z. names_of_texts old ++ names_of_texts z) (take_all i more le) }

-- ---- loops over elements

module _ {A : Type 0} (AreNamesIn : A → List Name → Type 0) where
  all_with : (xs : List A) (x : A) (a b : List Name) → AreNamesInAll AreNamesIn xs a → AreNamesIn x b → AreNamesInAll AreNamesIn (xs ++ x ∷ []) (a ++ b)
  all_with [] x a b h g = (b, [], g, refl, ap (λ z. z ++ b) h ∙ sym (append-nil b))
  all_with (y ∷ xs) x a b h g = (h.0, h.1 ++ b, h.2, all_with xs x h.1 b h.3 g, ap (λ z. z ++ b) h.4 ∙ append_assoc h.0 h.1 b)

  pub added_turn : (old mid new : List (Bor (List ℕ))) (xs : List A) (i : ℕ) (x d : A) → i < length xs → x ≡ get_or xs i d
      → HasAdded (AreNamesInAll AreNamesIn (take i xs)) old mid → HasAdded (AreNamesIn x) mid new → HasAdded (AreNamesInAll AreNamesIn (take (i + 1) xs)) old new
  added_turn old mid new xs i x d lt is h g =
      record {
        names = h.names ++ g.names;
        are_such =
            subst (λ ys. AreNamesInAll AreNamesIn ys (h.names ++ g.names)) (ap (λ z. take i xs ++ z ∷ []) is ∙ sym (take_more xs i d lt))
            (all_with (take i xs) x h.names g.names h.are_such g.are_such);
        are_added = g.are_added ∙ (ap (λ z. z ++ g.names) h.are_added ∙ append_assoc (names_of_texts old) h.names g.names);
      }

  pub added_end : (old new : List (Bor (List ℕ))) (xs : List A) (i : ℕ) → length xs ≤ i → HasAdded (AreNamesInAll AreNamesIn (take i xs)) old new
      → HasAdded (AreNamesInAll AreNamesIn xs) old new
  added_end old new xs i le h = subst (λ ys. HasAdded (AreNamesInAll AreNamesIn ys) old new) (take_all i xs le) h

-- ---- texts and entries

pub text_named : (x y : TextTokens) → x ≡ y → (ns : List Name) → AreNamesInText y ns → AreNamesInText x ns
text_named x y is ns h = subst (λ z. AreNamesInText z ns) (sym is) h

pub value_named : (x : StateTokens) (y : TextTokens) → x.tokens ≡ Some y → (ns : List Name) → AreNamesInText y ns → AreNamesInState x ns
value_named x y is ns h =
    λ m entry e k r. read m entry (is_memory_named m entry.0) refl e (subst (λ o. IsStateTokens (is_memory_named m entry.0) o entry.1) is k.1) r
  where
    read : (m : Model) (entry : Name × Text) (b : Bool) → is_memory_named m entry.0 ≡ b → (e : Expression) → IsStateTokens (is_memory_named m entry.0) (Some y) entry.1
        → IsStateRead m entry.0 entry.1 e → ns ≡ names_in e
    read m entry b same _ t (IsStateRead.a_value e value r) = h entry.1 e (subst (λ z. IsStateTokens z (Some y) entry.1) value t) r
    read m entry b same _ t (IsStateRead.a_memory memory) = absurd (subst (λ z. IsStateTokens z (Some y) entry.1) memory t)

pub path_named : (x : StateTokens) → x.tokens ≡ None → AreNamesInState x (string_bytes x.entry.now.expression ∷ [])
path_named x is =
    λ m entry e k r. read m entry e (ap (λ (z : Name × Text). z.1 ∷ []) k.0) (subst (λ o. IsStateTokens (is_memory_named m entry.0) o entry.1) is k.1) r
  where
    read : (m : Model) (entry : Name × Text) (e : Expression) → string_bytes x.entry.now.expression ∷ [] ≡ entry.1 ∷ [] → IsStateTokens (is_memory_named m entry.0) None entry.1
        → IsStateRead m entry.0 entry.1 e → string_bytes x.entry.now.expression ∷ [] ≡ names_in e
    read m entry _ path t (IsStateRead.a_value e value r) = absurd (subst (λ z. IsStateTokens z None entry.1) value t)
    read m entry _ path t (IsStateRead.a_memory memory) = path

pub input_named : (x : EntryTokens) (ns : List Name) → AreNamesInText x.tokens ns → AreNamesInInput x ns
input_named x ns h = λ entry e k r. h entry.1 e k.1 r

pub commit_named : (x : InstructionTokens) (ns : List Name) → AreNamesInText x.tokens ns → AreNamesInCommit x ns
commit_named x ns h = λ entry e k r. h entry.commit e k.1 r

-- ---- the lists of a map

texts_named : (xs : List TextTokens) (ts : List Text) (es : List Expression) (ns : List Name) → AreNamesInAll AreNamesInText xs ns → AreTokens xs ts → AreRead ts es
    → ns ≡ names_in_list es
texts_named [] _ _ ns h k AreRead.none = h
texts_named [] _ _ ns h k (AreRead.read t e ts es r rs) = absurd k
texts_named (x ∷ xs) _ _ ns h k AreRead.none = absurd k
texts_named (x ∷ xs) _ _ ns h k (AreRead.read t e ts es r rs) =
    let own : h.0 ≡ names_in e = h.2 t e k.0 r in
    let rest : h.1 ≡ names_in_list es = texts_named xs ts es h.1 h.3 k.1 rs in
    h.4 ∙ (λ i. own i ++ rest i)

states_named : (m : Model) (xs : List StateTokens) (ts : Entries Text) (es : Entries Expression) (ns : List Name) → AreNamesInAll AreNamesInState xs ns
    → AreStateTokens (is_memory_named m) xs ts → AreStatesRead m ts es → ns ≡ names_in_entries es
states_named m [] _ _ ns h k AreStatesRead.none = h
states_named m [] _ _ ns h k (AreStatesRead.state n t e ts es r rs) = absurd k
states_named m (x ∷ xs) _ _ ns h k AreStatesRead.none = absurd k
states_named m (x ∷ xs) _ _ ns h k (AreStatesRead.state n t e ts es r rs) =
    let own : h.0 ≡ names_in e = h.2 m (n, t) e k.0 r in
    let rest : h.1 ≡ names_in_entries es = states_named m xs ts es h.1 h.3 k.1 rs in
    h.4 ∙ (λ i. own i ++ rest i)

inputs_named : (xs : List EntryTokens) (ts : Entries Text) (es : Entries Expression) (ns : List Name) → AreNamesInAll AreNamesInInput xs ns → AreEntryTokens xs ts
    → AreInputsRead ts es → ns ≡ names_in_entries es
inputs_named [] _ _ ns h k AreInputsRead.none = h
inputs_named [] _ _ ns h k (AreInputsRead.an_input n t e ts es r rs) = absurd k
inputs_named (x ∷ xs) _ _ ns h k AreInputsRead.none = absurd k
inputs_named (x ∷ xs) _ _ ns h k (AreInputsRead.an_input n t e ts es r rs) =
    let own : h.0 ≡ names_in e = h.2 (n, t) e k.0 r in
    let rest : h.1 ≡ names_in_entries es = inputs_named xs ts es h.1 h.3 k.1 rs in
    h.4 ∙ (λ i. own i ++ rest i)

commits_named : (xs : List InstructionTokens) (ts : List InstructionEntry) (es : List InstructionMap) (ns : List Name) → AreNamesInAll AreNamesInCommit xs ns
    → AreInstructionTokens xs ts → AreInstructionsRead ts es → ns ≡ names_in_commits es
commits_named [] _ _ ns h k AreInstructionsRead.none = h
commits_named [] _ _ ns h k (AreInstructionsRead.instruction n t b e ts es r rs) = absurd k
commits_named (x ∷ xs) _ _ ns h k AreInstructionsRead.none = absurd k
commits_named (x ∷ xs) _ _ ns h k (AreInstructionsRead.instruction n t b e ts es r rs) =
    let own : h.0 ≡ names_in e = h.2 (record { called = n; commit = t; bound = b }) e k.0 r in
    let rest : h.1 ≡ names_in_commits es = commits_named xs ts es h.1 h.3 k.1 rs in
    h.4 ∙ (λ i. own i ++ rest i)

-- ---- the map

-- what is added after others
onto : {AreSuch : List Name → Type 0} (xs ys : List (Bor (List ℕ))) (h : HasAdded AreSuch xs ys) (rest : List Name)
    → names_of_texts ys ++ rest ≡ names_of_texts xs ++ (h.names ++ rest)
onto xs ys h rest = ap (λ z. z ++ rest) h.are_added ∙ append_assoc (names_of_texts xs) h.names rest

pub map_named : (x : MapTokens) (none one two three four five six : List (Bor (List ℕ))) → none ≡ [] → HasAdded (AreNamesInAll AreNamesInText x.assume.items) none one
    → HasAdded (AreNamesInAll AreNamesInText x.invariants.items) one two → HasAdded (AreNamesInText x.start) two three
    → HasAdded (AreNamesInAll AreNamesInState x.states.items) three four → HasAdded (AreNamesInAll AreNamesInInput x.inputs.items) four five
    → HasAdded (AreNamesInAll AreNamesInCommit x.instructions.items) five six → (m : Model) (w : WrittenMap) (p : Map) → AreMapTokens m w x → StandsForMap m w p
    → names_of_texts six ≡ names_in_map p
map_named x none one two three four five six empty a b c d e f m w p k s =
    let assume : a.names ≡ names_in_list p.assume = texts_named x.assume.items w.assume p.assume a.names a.are_such k.assume s.assume in
    let invariants : b.names ≡ names_in_list p.invariants = texts_named x.invariants.items w.invariants p.invariants b.names b.are_such k.invariants s.invariants in
    let start : c.names ≡ names_in p.start = c.are_such w.start p.start k.start s.start in
    let states : d.names ≡ names_in_entries p.states = states_named m x.states.items w.states p.states d.names d.are_such k.states s.states in
    let inputs : e.names ≡ names_in_entries p.inputs = inputs_named x.inputs.items w.inputs p.inputs e.names e.are_such k.inputs s.inputs in
    let commits : f.names ≡ names_in_commits p.instructions =
    commits_named x.instructions.items w.instructions p.instructions f.names f.are_such k.instructions s.instructions in
    let all : names_of_texts six ≡ names_of_texts none ++ (a.names ++ (b.names ++ (c.names ++ (d.names ++ (e.names ++ f.names))))) =
    f.are_added ∙ (onto four five e f.names ∙ (onto three four d (e.names ++ f.names) ∙ (onto two three c (d.names ++ (e.names ++ f.names))
    ∙ (onto one two b (c.names ++ (d.names ++ (e.names ++ f.names))) ∙ onto none one a (b.names ++ (c.names ++ (d.names ++ (e.names ++ f.names)))))))) in
    all ∙ (λ i. names_of_texts (empty i) ++ (assume i ++ (invariants i ++ (start i ++ (states i ++ (inputs i ++ commits i))))))
