-- The first child that nests too deep, and the first with a bad limit, as the first of the parts that break these rules.
use Rattle.std.proofs.Common.{◌≡◌, ℕ, suc, ◌+◌, ◌-◌, max, Bool, true, false, cond, not, ◌||◌, ◌&&◌, ◌==◌, nat_le, nat_lt, List, [], ◌∷◌, ◌++◌, length, Option, Some, None, option_map, sym, refl, ap, ◌∙◌, codes, arith}
use Rattle.std.specs.Prelude.{is_some}
use Rattle.std.proofs.lemmas.Bool.Decides.{nat_tests}
use Rattle.wb_values.specs.Value.{Name, Sort, Value, Entries}
use Rattle.wb_values.specs.Choice.{first_of}
use Rattle.model_meaning.specs.Model.{StateDeclaration, InputDeclaration, state_named}
use Rattle.model_files.specs.Written.{WrittenTerm, WrittenMachine, machine, WrittenInstruction, instruction, WrittenInstructions, no_instructions, and_then, WrittenChild, no_child, child, WrittenModel}
use Rattle.model_files.specs.Scope.{Visible, MachineScope, PlacedTerm, of_definition, of_fetch, of_condition, of_update, placed, defined, with_states, with_fetch, scope_within, outermost}
use Rattle.model_files.specs.Rules.{depth_of, depth_below, depth_of_instruction, depth_of_child, has_step_limits, have_step_limits, instruction_has_step_limits, child_has_step_limits}
use Rattle.model_files.specs.Meaning.{TooDeepChild, BadSteps}
use Rattle.model_places.specs.Sites.{Way, into, Spot, Site, site_at, key_spot, item_spot, part_spot, instruction_spot, update_spot}
use Rattle.model_places.specs.Notes.{site_note, note_at}
use Rattle.model_places.specs.Parts.{Thing, data_name, instruction_name, declaration, term, step_limit, ModelPart, part_at, input_parts, state_parts, definition_parts, fetch_parts, update_parts, machine_parts, instructions_parts, instruction_parts, child_parts, parts_of_model}
use Rattle.model_places.specs.First.{is_deep_child, is_bad_limit, breaks, first_among, first_note}
use Rattle.ila_rules.specs.Limits.{deeper_note, first_deeper, instruction_deeper, child_deeper, limit_note, first_limit, instruction_limit, child_limit}

-- ---- the first part of which something is so

abbrev first_at : (Thing → Bool) → List ModelPart → Option Site
first_at q [] = None
first_at q (p ∷ ps) = cond (q p.thing) (Some p.site) (first_at q ps)

deep_at : (before : List Thing) (ps : List ModelPart) → first_among (breaks TooDeepChild) before ps ≡ first_at is_deep_child ps
deep_at before [] = refl
deep_at before (p ∷ ps) = ap (λ r. cond (is_deep_child p.thing) (Some p.site) r) (deep_at (p.thing ∷ before) ps)

bad_at : (before : List Thing) (ps : List ModelPart) → first_among (breaks BadSteps) before ps ≡ first_at is_bad_limit ps
bad_at before [] = refl
bad_at before (p ∷ ps) = ap (λ r. cond (is_bad_limit p.thing) (Some p.site) r) (bad_at (p.thing ∷ before) ps)

or_next : (b : Bool) (s : Site) (o r : Option Site) → cond b (Some s) (first_of o r) ≡ first_of (cond b (Some s) o) r
or_next true s o r = refl
or_next false s o r = refl

first_in_both : (q : Thing → Bool) (ps qs : List ModelPart) → first_at q (ps ++ qs) ≡ first_of (first_at q ps) (first_at q qs)
first_in_both q [] qs = refl
first_in_both q (p ∷ ps) qs =
    ap (λ r. cond (q p.thing) (Some p.site) r) (first_in_both q ps qs) ∙ or_next (q p.thing) p.site (first_at q ps) (first_at q qs)

noted_both : (o r : Option Site) → option_map site_note (first_of o r) ≡ first_of (option_map site_note o) (option_map site_note r)
noted_both None r = refl
noted_both (Some s) r = refl

-- ---- lists without children; the test is of children alone

abbrev Test : Type 0
Test = Thing → Bool

record OfChildren (q : Test) : Type 0 where
  data_names : (n : Name) → q (data_name n) ≡ false
  instruction_names : (n : Name) → q (instruction_name n) ≡ false
  declarations : (s : Sort) (x : Option Value) → q (declaration s x) ≡ false
  terms : (p : PlacedTerm) → q (term p) ≡ false

passed : (q : Test) (w : Way) (s : Spot) (t : Thing) (ps : List ModelPart) → q t ≡ false → first_at q (part_at w s t ∷ ps) ≡ first_at q ps
passed q w s t ps h = ap (λ c. cond c (Some (site_at w s)) (first_at q ps)) h

-- two things at one spot
passed_both : (q : Test) (w : Way) (s : Spot) (t u : Thing) (ps : List ModelPart) → q t ≡ false → q u ≡ false
    → first_at q (part_at w s t ∷ part_at w s u ∷ ps) ≡ first_at q ps
passed_both q w s t u ps h g = passed q w s t (part_at w s u ∷ ps) h ∙ passed q w s u ps g

after_none : (q : Test) (ps qs : List ModelPart) → first_at q ps ≡ None → first_at q (ps ++ qs) ≡ first_at q qs
after_none q ps qs h = first_in_both q ps qs ∙ ap (λ o. first_of o (first_at q qs)) h

no_inputs : (q : Test) → OfChildren q → (k : ℕ) (is : List InputDeclaration) → first_at q (input_parts k is) ≡ None
no_inputs q c k [] = refl
no_inputs q c k (x ∷ is) =
    passed_both q [] (item_spot (codes "inputs") k (Some x.input_name)) (data_name x.input_name) (declaration x.sort None) (input_parts (k + 1) is)
    (c.data_names x.input_name) (c.declarations x.sort None)
    ∙ no_inputs q c (k + 1) is

no_states : (q : Test) → OfChildren q → (w : Way) (k : ℕ) (ss : List StateDeclaration) → first_at q (state_parts w k ss) ≡ None
no_states q c w k [] = refl
no_states q c w k (s ∷ ss) =
    passed_both q w (item_spot (codes "states") k (Some s.state_name)) (data_name s.state_name) (declaration s.sort s.init) (state_parts w (k + 1) ss)
    (c.data_names s.state_name) (c.declarations s.sort s.init)
    ∙ no_states q c w (k + 1) ss

no_definitions : (q : Test) → OfChildren q → (w : Way) (names : Entries Visible) (k : ℕ) (ds : Entries WrittenTerm) → first_at q (definition_parts w names k ds) ≡ None
no_definitions q c w names k [] = refl
no_definitions q c w names k (d ∷ ds) =
    let more : Entries Visible = (d.0, defined names d.1) ∷ names in
    passed_both q w (item_spot (codes "define") k (Some d.0)) (data_name d.0) (term (placed names d.1 of_definition)) (definition_parts w more (k + 1) ds)
    (c.data_names d.0) (c.terms (placed names d.1 of_definition))
    ∙ no_definitions q c w more (k + 1) ds

no_fetch : (q : Test) → OfChildren q → (w : Way) (names : Entries Visible) (e : Option WrittenTerm) → first_at q (fetch_parts w names e) ≡ None
no_fetch q c w names None = refl
no_fetch q c w names (Some e) = passed q w (key_spot (codes "fetch")) (term (placed names e of_fetch)) [] (c.terms (placed names e of_fetch))

no_updates : (q : Test) → OfChildren q → (w : Way) (names : Entries Visible) (states : List StateDeclaration) (k : ℕ) (n : Name) (us : Entries WrittenTerm)
    → first_at q (update_parts w names states k n us) ≡ None
no_updates q c w names states k n [] = refl
no_updates q c w names states k n (u ∷ us) =
    let stands : PlacedTerm = placed names u.1 (of_update u.0 (state_named states u.0)) in
    passed q w (update_spot k n u.0) (term stands) (update_parts w names states k n us) (c.terms stands) ∙ no_updates q c w names states k n us

machine_rest : (q : Test) → OfChildren q → (w : Way) (around : MachineScope) (ss : List StateDeclaration) (ds : Entries WrittenTerm) (g : Option WrittenTerm) (v : WrittenTerm) (is : WrittenInstructions)
    → first_at q (machine_parts w around (machine ss ds g v is))
    ≡ first_at q (instructions_parts w (scope_within around ss ds) (with_fetch (scope_within around ss ds).names g) 0 is)
machine_rest q c w around ss ds g v is =
    let inner = scope_within around ss ds in
    let seen = with_fetch inner.names g in
    let below = instructions_parts w inner seen 0 is in
    let valid = part_at w (key_spot (codes "valid")) (term (placed seen v of_condition)) in
    let defs = definition_parts w (with_states around.names ss) 0 ds in
    let fetch = fetch_parts w inner.names g in
    after_none q (state_parts w 0 ss) (defs ++ (fetch ++ valid ∷ below)) (no_states q c w 0 ss)
    ∙ (after_none q defs (fetch ++ valid ∷ below) (no_definitions q c w (with_states around.names ss) 0 ds)
    ∙ (after_none q fetch (valid ∷ below) (no_fetch q c w inner.names g)
    ∙ passed q w (key_spot (codes "valid")) (term (placed seen v of_condition)) below (c.terms (placed seen v of_condition))))

instruction_rest : (q : Test) → OfChildren q → (w : Way) (inner : MachineScope) (names : Entries Visible) (k : ℕ) (called : Name) (decode : WrittenTerm) (us : Entries WrittenTerm) (p : WrittenChild)
    → first_at q (instruction_parts w inner names k (instruction called decode us p)) ≡ first_at q (child_parts w inner k called p)
instruction_rest q c w inner names k called decode us p =
    let spot = part_spot (instruction_spot k called) (codes "decode") in
    let decoded : Thing = term (placed names decode of_condition) in
    let updates = update_parts w names inner.states k called us in
    let below = child_parts w inner k called p in
    passed q w (instruction_spot k called) (instruction_name called) (part_at w spot decoded ∷ (updates ++ below)) (c.instruction_names called)
    ∙ (passed q w spot decoded (updates ++ below) (c.terms (placed names decode of_condition))
    ∙ after_none q updates below (no_updates q c w names inner.states k called us))

deep_test : OfChildren is_deep_child
deep_test = record { data_names = λ n. refl; instruction_names = λ n. refl; declarations = λ s x. refl; terms = λ p. refl }

limit_test : OfChildren is_bad_limit
limit_test = record { data_names = λ n. refl; instruction_names = λ n. refl; declarations = λ s x. refl; terms = λ p. refl }

-- ---- depth

longer : (w : Way) (k : ℕ) → length (into w k) ≡ suc (length w)
longer [] k = refl
longer (x ∷ w) k = ap suc (longer w k)

none_left : (n left : ℕ) → n + left ≡ 3 → (left == 0) ≡ nat_lt 3 (suc n)
none_left n left h = grind (arith, nat_tests)

one_more : (n m left : ℕ) → n + left ≡ 3 → (left == 0) ≡ false → m ≡ suc n → m + (left - 1) ≡ 3
one_more n m left h some e = grind (arith, nat_tests)

mutual
  deep_machine : (w : Way) (left : ℕ) (around : MachineScope) (m : WrittenMachine) → length w + left ≡ 3
      → deeper_note w left m ≡ option_map site_note (first_at is_deep_child (machine_parts w around m))
  deep_machine w left around (machine ss ds g v is) h =
      let inner = scope_within around ss ds in
      deep_below w left inner (with_fetch inner.names g) 0 is h ∙ ap (option_map site_note) (sym (machine_rest is_deep_child deep_test w around ss ds g v is))

  deep_below : (w : Way) (left : ℕ) (inner : MachineScope) (names : Entries Visible) (k : ℕ) (is : WrittenInstructions) → length w + left ≡ 3
      → first_deeper w left k is ≡ option_map site_note (first_at is_deep_child (instructions_parts w inner names k is))
  deep_below w left inner names k no_instructions h = refl
  deep_below w left inner names k (and_then i is) h =
      let here = instruction_parts w inner names k i in
      let rest = instructions_parts w inner names (k + 1) is in
      ap (λ o. first_of o (first_deeper w left (k + 1) is)) (deep_instruction w left inner names k i h)
      ∙ (ap (λ o. first_of (option_map site_note (first_at is_deep_child here)) o) (deep_below w left inner names (k + 1) is h)
      ∙ sym (ap (option_map site_note) (first_in_both is_deep_child here rest) ∙ noted_both (first_at is_deep_child here) (first_at is_deep_child rest)))

  deep_instruction : (w : Way) (left : ℕ) (inner : MachineScope) (names : Entries Visible) (k : ℕ) (i : WrittenInstruction) → length w + left ≡ 3
      → instruction_deeper w left k i ≡ option_map site_note (first_at is_deep_child (instruction_parts w inner names k i))
  deep_instruction w left inner names k (instruction called decode us p) h =
      deep_child w left inner k called p h ∙ ap (option_map site_note) (sym (instruction_rest is_deep_child deep_test w inner names k called decode us p))

  deep_child : (w : Way) (left : ℕ) (inner : MachineScope) (k : ℕ) (n : Name) (c : WrittenChild) → length w + left ≡ 3
      → child_deeper w left k n c ≡ option_map site_note (first_at is_deep_child (child_parts w inner k n c))
  deep_child w left inner k n no_child h = refl
  deep_child w left inner k n (child steps below) h =
      by_test (left == 0) (nat_lt 3 (suc (length w))) (none_left (length w) left h)
      (λ some. deep_machine (into w k) (left - 1) inner below (one_more (length w) (length (into w k)) left h some (longer w k))) where
        by_test : (b d : Bool) → b ≡ d
            → (b ≡ false → deeper_note (into w k) (left - 1) below ≡ option_map site_note (first_at is_deep_child (machine_parts (into w k) inner below)))
            → cond b (Some (note_at w (part_spot (instruction_spot k n) (codes "child")))) (deeper_note (into w k) (left - 1) below)
            ≡ option_map site_note (cond d (Some (site_at w (part_spot (instruction_spot k n) (codes "child")))) (first_at is_deep_child (machine_parts (into w k) inner below)))
        by_test true true e f = refl
        by_test false false e f = f refl
        by_test true false e f = cc
        by_test false true e f = cc

-- ---- limits

noted_if : (b : Bool) (s : Site) (o : Option (List ℕ)) (r : Option Site) → o ≡ option_map site_note r
    → cond b (Some (site_note s)) o ≡ option_map site_note (cond b (Some s) r)
noted_if true s o r e = refl
noted_if false s o r e = e

mutual
  limit_machine : (w : Way) (around : MachineScope) (m : WrittenMachine) → limit_note w m ≡ option_map site_note (first_at is_bad_limit (machine_parts w around m))
  limit_machine w around (machine ss ds g v is) =
      let inner = scope_within around ss ds in
      limit_below w inner (with_fetch inner.names g) 0 is ∙ ap (option_map site_note) (sym (machine_rest is_bad_limit limit_test w around ss ds g v is))

  limit_below : (w : Way) (inner : MachineScope) (names : Entries Visible) (k : ℕ) (is : WrittenInstructions)
      → first_limit w k is ≡ option_map site_note (first_at is_bad_limit (instructions_parts w inner names k is))
  limit_below w inner names k no_instructions = refl
  limit_below w inner names k (and_then i is) =
      let here = instruction_parts w inner names k i in
      let rest = instructions_parts w inner names (k + 1) is in
      ap (λ o. first_of o (first_limit w (k + 1) is)) (limit_instruction w inner names k i)
      ∙ (ap (λ o. first_of (option_map site_note (first_at is_bad_limit here)) o) (limit_below w inner names (k + 1) is)
      ∙ sym (ap (option_map site_note) (first_in_both is_bad_limit here rest) ∙ noted_both (first_at is_bad_limit here) (first_at is_bad_limit rest)))

  limit_instruction : (w : Way) (inner : MachineScope) (names : Entries Visible) (k : ℕ) (i : WrittenInstruction)
      → instruction_limit w k i ≡ option_map site_note (first_at is_bad_limit (instruction_parts w inner names k i))
  limit_instruction w inner names k (instruction called decode us p) =
      limit_child w inner k called p ∙ ap (option_map site_note) (sym (instruction_rest is_bad_limit limit_test w inner names k called decode us p))

  limit_child : (w : Way) (inner : MachineScope) (k : ℕ) (n : Name) (c : WrittenChild)
      → child_limit w k c ≡ option_map site_note (first_at is_bad_limit (child_parts w inner k n c))
  limit_child w inner k n no_child = refl
  limit_child w inner k n (child steps below) =
      noted_if (is_bad_limit (step_limit steps)) (site_at (into w k) (key_spot (codes "steps"))) (limit_note (into w k) below) (first_at is_bad_limit (machine_parts (into w k) inner below))
      (limit_machine (into w k) inner below)

-- ---- the whole file

abbrev top_parts : WrittenModel → List ModelPart
top_parts m = machine_parts [] (outermost m) m.top

pub first_deep : (m : WrittenModel) → deeper_note [] 3 m.top ≡ first_note TooDeepChild m
first_deep m =
    deep_machine [] 3 (outermost m) m.top refl
    ∙ ap (option_map site_note) (sym (deep_at [] (parts_of_model m) ∙ after_none is_deep_child (input_parts 0 m.inputs) (top_parts m) (no_inputs is_deep_child deep_test 0 m.inputs)))

pub first_bad_limit : (m : WrittenModel) → limit_note [] m.top ≡ first_note BadSteps m
first_bad_limit m =
    limit_machine [] (outermost m) m.top
    ∙ ap (option_map site_note) (sym (bad_at [] (parts_of_model m) ∙ after_none is_bad_limit (input_parts 0 m.inputs) (top_parts m) (no_inputs is_bad_limit limit_test 0 m.inputs)))

-- ---- whether there is one

some_first : (a b : Option (List ℕ)) → is_some (first_of a b) ≡ (is_some a || is_some b)
some_first None b = refl
some_first (Some x) b = refl

some_cond : (b : Bool) (x : List ℕ) (o : Option (List ℕ)) → is_some (cond b (Some x) o) ≡ (b || is_some o)
some_cond true x o = refl
some_cond false x o = refl

below_none : (left : ℕ) → false ≡ nat_lt left 0
below_none left = grind (arith, nat_tests)

either : (left a b : ℕ) → (nat_lt left a || nat_lt left b) ≡ nat_lt left (max a b)
either left a b = grind (arith, nat_tests)

one_less : (left d : ℕ) → (left == 0 || nat_lt (left - 1) d) ≡ nat_lt left (suc d)
one_less left d = grind (arith, nat_tests)

mutual
  pub deeper_same : (w : Way) (left : ℕ) (m : WrittenMachine) → is_some (deeper_note w left m) ≡ nat_lt left (depth_of m)
  deeper_same w left (machine ss ds f v is) = some_same w left 0 is

  some_same : (w : Way) (left k : ℕ) (is : WrittenInstructions) → is_some (first_deeper w left k is) ≡ nat_lt left (depth_below is)
  some_same w left k no_instructions = below_none left
  some_same w left k (and_then i is) =
      some_first (instruction_deeper w left k i) (first_deeper w left (k + 1) is)
      ∙ (ap (λ b. b || is_some (first_deeper w left (k + 1) is)) (instruction_same w left k i)
      ∙ (ap (λ b. nat_lt left (depth_of_instruction i) || b) (some_same w left (k + 1) is) ∙ either left (depth_of_instruction i) (depth_below is)))

  instruction_same : (w : Way) (left k : ℕ) (i : WrittenInstruction) → is_some (instruction_deeper w left k i) ≡ nat_lt left (depth_of_instruction i)
  instruction_same w left k (instruction n d u p) = child_same w left k n p

  child_same : (w : Way) (left k : ℕ) (n : Name) (c : WrittenChild) → is_some (child_deeper w left k n c) ≡ nat_lt left (depth_of_child c)
  child_same w left k n no_child = below_none left
  child_same w left k n (child steps p) =
      some_cond (left == 0) (note_at w (part_spot (instruction_spot k n) (codes "child"))) (deeper_note (into w k) (left - 1) p)
      ∙ (ap (λ b. left == 0 || b) (deeper_same (into w k) (left - 1) p) ∙ one_less left (depth_of p))

not_both : (a b : Bool) → (not a || not b) ≡ not (a && b)
not_both true b = refl
not_both false b = refl

and_and : (a b c : Bool) → ((a && b) && c) ≡ (a && (b && c))
and_and true b c = refl
and_and false b c = refl

mutual
  pub limits_same : (w : Way) (m : WrittenMachine) → is_some (limit_note w m) ≡ not (has_step_limits m)
  limits_same w (machine ss ds f v is) = some_limit_same w 0 is

  some_limit_same : (w : Way) (k : ℕ) (is : WrittenInstructions) → is_some (first_limit w k is) ≡ not (have_step_limits is)
  some_limit_same w k no_instructions = refl
  some_limit_same w k (and_then i is) =
      some_first (instruction_limit w k i) (first_limit w (k + 1) is)
      ∙ (ap (λ b. b || is_some (first_limit w (k + 1) is)) (instruction_limit_same w k i)
      ∙ (ap (λ b. not (instruction_has_step_limits i) || b) (some_limit_same w (k + 1) is) ∙ not_both (instruction_has_step_limits i) (have_step_limits is)))

  instruction_limit_same : (w : Way) (k : ℕ) (i : WrittenInstruction) → is_some (instruction_limit w k i) ≡ not (instruction_has_step_limits i)
  instruction_limit_same w k (instruction n d u p) = child_limit_same w k p

  child_limit_same : (w : Way) (k : ℕ) (c : WrittenChild) → is_some (child_limit w k c) ≡ not (child_has_step_limits c)
  child_limit_same w k no_child = refl
  child_limit_same w k (child steps p) =
      some_cond (is_bad_limit (step_limit steps)) (note_at (into w k) (key_spot (codes "steps"))) (limit_note (into w k) p)
      ∙ (ap (λ b. is_bad_limit (step_limit steps) || b) (limits_same (into w k) p)
      ∙ (not_both (nat_le 1 steps && nat_le steps 4096) (has_step_limits p) ∙ ap not (and_and (nat_le 1 steps) (nat_le steps 4096) (has_step_limits p))))
