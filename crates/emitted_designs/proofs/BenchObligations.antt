-- How many obligations the models of `bench` have under their emitted maps.
use Rattle.std.proofs.Common.{◌≡◌, ℕ, zero, suc, ◌+◌, ◌*◌, Bool, true, false, cond, nat_lt, arith, List, [], ◌∷◌, ◌++◌, map, length, Option, Some, refl, ◌∙◌, ap, subst}
use Rattle.std.specs.Prelude.{slice_get, codes, decimal}
use Rattle.std.proofs.lemmas.List.{length-append}
use Rattle.wb_values.specs.Value.{Name, same_name}
use Rattle.model_meaning.specs.Model.{StateDeclaration, Instruction, instruction_name, instruction_list}
use Rattle.verilog_trees.specs.Syntax.{Expression}
use Rattle.refinement.specs.Map.{Map, InstructionMap, instruction_map}
use Rattle.refinement.specs.Obligation.{Fact, reset_active, reset_inactive, no_start, initial, same, result_of, Obligation, for_each, ended_at, commit_obligations, state_obligations, with_initial_values, reset_obligations, idle_obligations, decode_obligation, bound_in, bound_named, instruction_obligations, all_instruction_obligations, obligations}
use Rattle.emitted_designs.specs.Map.{entry_for, emitted_map, rest_expression}
use Rattle.emitted_designs.specs.Bench.{bench_state, bench_states, bench_instruction, bench_instructions, bench_model}
use Rattle.emitted_designs.specs.Laws.{BenchModelsHaveTheirObligations}
use Rattle.emitted_designs.proofs.Named.{same_of}
use Rattle.emitted_designs.proofs.BenchModels.{no_children, states_counted}

-- a claim for each state
claims_counted : (text : Name) (cycles : ℕ) (hypotheses : List Fact) (claim : Name → Fact) (ds : List StateDeclaration)
    → length (state_obligations text cycles hypotheses claim ds) ≡ length ds
claims_counted text cycles hypotheses claim [] = refl
claims_counted text cycles hypotheses claim (d ∷ ds) = ap suc (claims_counted text cycles hypotheses claim ds)

-- each state of such a model has an initial value
all_initial : (i k : ℕ) → with_initial_values (bench_states i k) ≡ bench_states i k
all_initial i zero = refl
all_initial i (suc k) = ap (λ ds. bench_state i ∷ ds) (all_initial (suc i) k)

-- the emitted map with these invariants
abbrev map_with : ℕ → List Expression → Map
map_with n es = record (emitted_map (bench_model n)) { invariants = es }

-- such a model's map has none
no_invariants : (n : ℕ) → emitted_map (bench_model n) ≡ map_with n []
no_invariants n = ap (λ k. map_with n (cond (nat_lt 0 k) (rest_expression ∷ []) [])) (no_children n)

-- instructions of the model with n states: k of them, from number i on
abbrev those : (n i k : ℕ) → List Instruction
those n i k = instruction_list (bench_instructions n i k)

-- what the map of these instructions says of a name
abbrev entry_under : List Instruction → Name → Option InstructionMap
entry_under is name = instruction_map (map entry_for is) name

abbrev bound_for : List Instruction → Name → ℕ
bound_for is name = bound_in (entry_under is name)

-- the bound of an instruction of such a model is one cycle
bound_under : (n i k j : ℕ) (x : Instruction) → slice_get (those n i k) j ≡ Some x
    → bound_for (those n i k) (instruction_name x) ≡ 1
bound_under n i zero j x e = cc
bound_under n i (suc k) zero x e =
    let same : bench_instruction n i ≡ x = cc in
    subst (λ y. bound_for (those n i (suc k)) (instruction_name y) ≡ 1) same
    (ap (λ b. bound_in (cond b (Some (entry_for (bench_instruction n i))) (entry_under (those n (suc i) k) (instruction_name (bench_instruction n i)))))
    (same_of (instruction_name (bench_instruction n i)) (instruction_name (bench_instruction n i)) refl))
bound_under n i (suc k) (suc j) x e =
    by_test (bound_under n (suc i) k j x e) (same_name (instruction_name (bench_instruction n i)) (instruction_name x))
  where
    by_test : bound_for (those n (suc i) k) (instruction_name x) ≡ 1 → (b : Bool)
        → bound_in (cond b (Some (entry_for (bench_instruction n i))) (entry_under (those n (suc i) k) (instruction_name x))) ≡ 1
    by_test more true = refl
    by_test more false = more

alone : (xs : List Obligation) (k : ℕ) → length xs ≡ k → length (xs ++ []) ≡ k
alone xs k e = let whole : length (xs ++ []) ≡ length xs + 0 = length-append xs [] in omega (arith, whole, e)

-- an instruction with a bound of one cycle has an obligation for it, and one for each state
one_counted : (n j i : ℕ) → bound_named (map_with n []) (instruction_name (bench_instruction n i)) ≡ 1
    → length (instruction_obligations (bench_model n) (map_with n []) j (bench_instruction n i)) ≡ suc n
one_counted n j i e =
    ap (λ b. suc (length (for_each (commit_obligations (bench_model n) (map_with n []) j (instruction_name (bench_instruction n i))) 0 b))) e
    ∙ ap suc
    (alone (state_obligations (text ++ codes ".state.") 1 (ended_at (map_with n []) j 0) (λ q. result_of j q 1) (bench_states 0 n)) n
    (claims_counted (text ++ codes ".state.") 1 (ended_at (map_with n []) j 0) (λ q. result_of j q 1) (bench_states 0 n) ∙ states_counted 0 n))
  where
    text : Name
    text = codes "commit." ++ instruction_name (bench_instruction n i) ++ codes "." ++ decimal 0

one_more : (k m : ℕ) → m + k * m ≡ suc k * m
one_more k m = grind arith

-- those from number i on, k of them
all_counted : (n i k : ℕ)
    → ((j : ℕ) (x : Instruction) → slice_get (those n i k) j ≡ Some x → bound_named (map_with n []) (instruction_name x) ≡ 1)
    → length (all_instruction_obligations (bench_model n) (map_with n []) i (those n i k)) ≡ k * suc n
all_counted n i zero one = omega arith
all_counted n i (suc k) one =
    let first : length (instruction_obligations (bench_model n) (map_with n []) i (bench_instruction n i)) ≡ suc n =
    one_counted n i i (one 0 (bench_instruction n i) refl) in
    let rest : length (all_instruction_obligations (bench_model n) (map_with n []) (suc i) (those n (suc i) k)) ≡ k * suc n =
    all_counted n (suc i) k (λ j x h. one (suc j) x h) in
    length-append (instruction_obligations (bench_model n) (map_with n []) i (bench_instruction n i)) _
    ∙ (ap (λ a. a + length (all_instruction_obligations (bench_model n) (map_with n []) (suc i) (those n (suc i) k))) first
    ∙ (ap (λ a. suc n + a) rest ∙ one_more k (suc n)))

resets : (n : ℕ) → length (reset_obligations (bench_model n) (map_with n [])) ≡ n
resets n =
    claims_counted (codes "reset.init.") 1 (reset_active 0 ∷ []) (λ q. initial q 1) (with_initial_values (bench_states 0 n))
    ∙ (ap length (all_initial 0 n) ∙ states_counted 0 n)

idles : (n : ℕ) → length (idle_obligations (bench_model n) (map_with n [])) ≡ n
idles n =
    claims_counted (codes "idle.state.") 1 (reset_inactive 0 ∷ no_start 0 ∷ []) same (bench_states 0 n) ∙ states_counted 0 n

total : (n a b c : ℕ) → a ≡ n → b ≡ n → c ≡ n * suc n → a + b + suc c ≡ n * n + 3 * n + 1
total n a b c e f g = grind (arith, e, f, g)

joined : (n : ℕ) (xs ys ws : List Obligation) (z : Obligation) → length xs ≡ n → length ys ≡ n → length ws ≡ n * suc n
    → length (xs ++ ys ++ z ∷ ws) ≡ n * n + 3 * n + 1
joined n xs ys ws z e f g =
    length-append (xs ++ ys) (z ∷ ws)
    ∙ (ap (λ a. a + suc (length ws)) (length-append xs ys) ∙ total n (length xs) (length ys) (length ws) e f g)

counted : (n : ℕ) → length (obligations (bench_model n) (map_with n [])) ≡ n * n + 3 * n + 1
counted n =
    joined n (reset_obligations (bench_model n) (map_with n [])) (idle_obligations (bench_model n) (map_with n []))
    (all_instruction_obligations (bench_model n) (map_with n []) 0 (those n 0 n))
    (decode_obligation (map_with n [])) (resets n) (idles n) (all_counted n 0 n (λ j x h. bound_under n 0 n j x h))

pub obligations_counted : BenchModelsHaveTheirObligations
obligations_counted n = ap (λ p. length (obligations (bench_model n) p)) (no_invariants n) ∙ counted n
