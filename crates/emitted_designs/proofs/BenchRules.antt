-- The models of `bench` keep the rules on models.
use Rattle.std.proofs.Common.{◌≡◌, ℕ, zero, suc, ◌+◌, ◌%◌, ◌≤◌, Bool, true, false, cond, not, ◌||◌, ◌&&◌, arith, List, [], ◌∷◌, ◌++◌, map, Some, refl, sym, ◌∙◌, ap}
use Rattle.std.specs.Prelude.{codes, decimal}
use Rattle.std.specs.List.{list_all}
use Rattle.std.specs.Fmt.{digits}
use Rattle.std.proofs.lemmas.Bool.{or_parts}
use Rattle.std.proofs.lemmas.List.{append-nil}
use Rattle.wb_values.specs.Value.{Name, same_name}
use Rattle.wb_values.specs.Names.{is_model_name}
use Rattle.wb_values.specs.ReservedWords.{is_reserved}
use Rattle.model_meaning.specs.Term as term
use Rattle.model_meaning.specs.Term.{Term}
use Rattle.model_meaning.specs.Among.{is_name_in, has_twice}
use Rattle.model_meaning.specs.Model.{StateDeclaration, instruction_name, instruction_list, states_of, state_named}
use Rattle.model_meaning.specs.Invariant.{program_machines, gathered, state_names, own_instruction_names, valued_names, instruction_names_of, is_no_memory, has_initial_value, is_memory_with_stores, is_memory_state, keeps_memory, keeps_memories, own_updates}
use Rattle.emitted_designs.specs.Bench.{state_name_of, state_term, x_term, bench_state, bench_states, bench_instructions, bench_model}
use Rattle.emitted_designs.specs.Laws.{BenchModelsKeepTheRules}

-- ---- names with numbers

abbrev numbered_from : (text : Name) → (i k : ℕ) → List Name
numbered_from text i zero = []
numbered_from text i (suc k) = (text ++ decimal i) ∷ numbered_from text (suc i) k

-- fewer names are the front of more
front_of : (text : Name) (i k t : ℕ) → k ≤ t → (rest : List Name) × (numbered_from text i t ≡ numbered_from text i k ++ rest)
front_of text i zero t le = (numbered_from text i t, refl)
front_of text i (suc k) zero le = absurd (omega (arith, le))
front_of text i (suc k) (suc t) le =
    let more : (rest : List Name) × (numbered_from text (suc i) t ≡ numbered_from text (suc i) k ++ rest) =
    front_of text (suc i) k t (omega (arith, le)) in
    (more.0, ap (λ ns. (text ++ decimal i) ∷ ns) more.1)

all_in_front : (p : Name → Bool) (xs ys : List Name) → list_all p (xs ++ ys) ≡ true → list_all p xs ≡ true
all_in_front p [] ys e = refl
all_in_front p (x ∷ xs) ys e = by_test (p x) (λ f. all_in_front p xs ys f) e
  where
    by_test : (b : Bool) → (list_all p (xs ++ ys) ≡ true → list_all p xs ≡ true) → (b && list_all p (xs ++ ys)) ≡ true → (b && list_all p xs) ≡ true
    by_test true more f = more f
    by_test false more f = f

not_in_front : (n : Name) (xs ys : List Name) → is_name_in n (xs ++ ys) ≡ false → is_name_in n xs ≡ false
not_in_front n [] ys e = refl
not_in_front n (x ∷ xs) ys e = by_test (same_name n x) (λ f. not_in_front n xs ys f) e
  where
    by_test : (b : Bool) → (is_name_in n (xs ++ ys) ≡ false → is_name_in n xs ≡ false) → (b || is_name_in n (xs ++ ys)) ≡ false
        → (b || is_name_in n xs) ≡ false
    by_test true more f = f
    by_test false more f = more f

once_in_front : (xs ys : List Name) → has_twice (xs ++ ys) ≡ false → has_twice xs ≡ false
once_in_front [] ys e = refl
once_in_front (x ∷ xs) ys e =
    let parts : (is_name_in x (xs ++ ys) ≡ false) × (has_twice (xs ++ ys) ≡ false) = or_parts (is_name_in x (xs ++ ys)) (has_twice (xs ++ ys)) e in
    ap (λ b. b || has_twice xs) (not_in_front x xs ys parts.0) ∙ once_in_front xs ys parts.1

-- ---- the names of such a model

state_names_are : (i k : ℕ) → map (λ s. s.state_name) (bench_states i k) ≡ numbered_from (codes "s") i k
state_names_are i zero = refl
state_names_are i (suc k) = ap (λ ns. (codes "s" ++ decimal i) ∷ ns) (state_names_are (suc i) k)

instruction_names_are : (n i k : ℕ) → map instruction_name (instruction_list (bench_instructions n i k)) ≡ numbered_from (codes "I") i k
instruction_names_are n i zero = refl
instruction_names_are n i (suc k) = ap (λ ns. (codes "I" ++ decimal i) ∷ ns) (instruction_names_are n (suc i) k)

no_machines : (n i k : ℕ) → program_machines (bench_instructions n i k) ≡ []
no_machines n i zero = refl
no_machines n i (suc k) = no_machines n (suc i) k

abbrev names_with : List Name → List Name
names_with ns = codes "op" ∷ codes "x" ∷ ns

valued_are : (n : ℕ) → valued_names (bench_model n) ≡ names_with (numbered_from (codes "s") 0 n)
valued_are n =
    ap (λ ms. names_with (map (λ s. s.state_name) (bench_states 0 n) ++ gathered state_names ms)) (no_machines n 0 n)
    ∙ ap names_with (append-nil (map (λ s. s.state_name) (bench_states 0 n)) ∙ state_names_are 0 n)

instructions_are : (n : ℕ) → instruction_names_of (bench_model n) ≡ numbered_from (codes "I") 0 n
instructions_are n =
    ap (λ ms. map instruction_name (instruction_list (bench_instructions n 0 n)) ++ gathered own_instruction_names ms) (no_machines n 0 n)
    ∙ (append-nil (map instruction_name (instruction_list (bench_instructions n 0 n))) ∙ instruction_names_are n 0 n)

-- ---- all 64 names

all_legal : list_all is_model_name (names_with (numbered_from (codes "s") 0 64)) ≡ true
unfolding digits is_reserved
all_legal = refl

all_once : has_twice (names_with (numbered_from (codes "s") 0 64)) ≡ false
unfolding digits is_reserved
all_once = refl

instructions_legal : list_all is_model_name (numbered_from (codes "I") 0 64) ≡ true
unfolding digits is_reserved
instructions_legal = refl

instructions_once : has_twice (numbered_from (codes "I") 0 64) ≡ false
unfolding digits is_reserved
instructions_once = refl

-- ---- memories

no_memory : (i k : ℕ) (n : Name) → is_memory_state (state_named (bench_states i k) n) ≡ false
no_memory i zero n = refl
no_memory i (suc k) n = by_test (same_name (bench_state i).state_name n) (no_memory (suc i) k n)
  where
    by_test : (b : Bool) → is_memory_state (state_named (bench_states (suc i) k) n) ≡ false
        → is_memory_state (cond b (Some (bench_state i)) (state_named (bench_states (suc i) k) n)) ≡ false
    by_test true e = refl
    by_test false e = e

keeps_one : (ss : List StateDeclaration) → ((n : Name) → is_memory_state (state_named ss n) ≡ false) → (u : Name × Term) → keeps_memory ss u ≡ true
keeps_one ss none u = ap (λ b. not b || is_memory_with_stores u.0 u.1) (none u.0)

all_keep : (ss : List StateDeclaration) → ((n : Name) → is_memory_state (state_named ss n) ≡ false) → (n i k : ℕ)
    → list_all (λ x. list_all (keeps_memory ss) (own_updates x)) (instruction_list (bench_instructions n i k)) ≡ true
all_keep ss none n i zero = refl
all_keep ss none n i (suc k) =
    ap (λ b. b && true && list_all (λ x. list_all (keeps_memory ss) (own_updates x)) (instruction_list (bench_instructions n (suc i) k)))
    (keeps_one ss none (state_name_of i, term.add (state_term i) (term.xor (state_term ((i + 1) % n)) x_term)))
    ∙ all_keep ss none n (suc i) k

bench_name : is_model_name (codes "bench") ≡ true
unfolding is_reserved
bench_name = refl

pub bench_rules : BenchModelsKeepTheRules
bench_rules n most = record {
  legal_name = bench_name;
  legal_names =
      ap (list_all is_model_name) (valued_are n)
      ∙ all_in_front is_model_name (names_with (numbered_from (codes "s") 0 n)) states.0
      (sym (ap (λ ns. list_all is_model_name (names_with ns)) states.1) ∙ all_legal);
  distinct_names =
      ap has_twice (valued_are n)
      ∙ once_in_front (names_with (numbered_from (codes "s") 0 n)) states.0 (sym (ap (λ ns. has_twice (names_with ns)) states.1) ∙ all_once);
  legal_instruction_names =
      ap (list_all is_model_name) (instructions_are n)
      ∙ all_in_front is_model_name (numbered_from (codes "I") 0 n) instructions.0
      (sym (ap (list_all is_model_name) instructions.1) ∙ instructions_legal);
  distinct_instruction_names =
      ap has_twice (instructions_are n)
      ∙ once_in_front (numbered_from (codes "I") 0 n) instructions.0 (sym (ap has_twice instructions.1) ∙ instructions_once);
  no_private_memory = ap (λ ms. list_all is_no_memory (gathered states_of ms)) (no_machines n 0 n);
  private_states_begin = ap (λ ms. list_all has_initial_value (gathered states_of ms)) (no_machines n 0 n);
  no_copied_memory =
      ap (λ ms. keeps_memories (bench_states 0 n) (bench_model n).top && list_all (keeps_memories (bench_states 0 n)) ms) (no_machines n 0 n)
      ∙ ap (λ b. b && true) (all_keep (bench_states 0 n) (no_memory 0 n) n 0 n);
}
  where
    states : (rest : List Name) × (numbered_from (codes "s") 0 64 ≡ numbered_from (codes "s") 0 n ++ rest)
    states = front_of (codes "s") 0 n 64 most

    instructions : (rest : List Name) × (numbered_from (codes "I") 0 64 ≡ numbered_from (codes "I") 0 n ++ rest)
    instructions = front_of (codes "I") 0 n 64 most
