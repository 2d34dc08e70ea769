-- A map that no rule refuses has an entry with a bound for each instruction.
use Rattle.std.proofs.Common.{◌≡◌, ◌∙◌, ℕ, zero, suc, ◌≤◌, Bool, true, false, cond, not, ◌&&◌, nat_le, List, [], ◌∷◌, map, slice_get, ◌⊎◌, inl, inr, Some, None, refl, sym, subst, arith}
use Rattle.std.specs.List.{list_all}
use Rattle.std.proofs.lemmas.Bool.{and_parts, or_cases, false≢true}
use Rattle.std.proofs.lemmas.Bool.Decides.{nat_tests}
use Rattle.wb_values.specs.Value.{Name, same_name}
use Rattle.model_meaning.specs.Among.{is_name_in}
use Rattle.model_meaning.specs.Model.{Instruction, instruction_name, instructions_in}
use Rattle.model_meaning.specs.Invariant.{own_instruction_names}
use Rattle.refinement.specs.Map.{InstructionMap, instruction_map}
use Rattle.verilog_unique.proofs.Options.{same_is, is_same}
use Rattle.map_files.specs.Written.{InstructionEntry}
use Rattle.map_files.specs.Meaning.{BoundMissing, BadBound}
use Rattle.map_rules.specs.Case.{called_names}
use Rattle.map_rules.specs.Names.{are_among, is_from_1_to}
use Rattle.map_rules.specs.Accepted.{AreInstructionsRead, case_of}
use Rattle.accepted_maps.specs.Complete.{AcceptedMapsAreComplete}

-- a test whose denial is refuted
holds : (b : Bool) → ¬ (not b ≡ true) → b ≡ true
holds true h = refl
holds false h = absurd (h refl)

some_same : {A : Type 0} {x y : A} → Some x ≡ Some y → x ≡ y
some_same e = cc

at_least_one : (n : ℕ) → nat_le 1 n ≡ true → 1 ≤ n
at_least_one n h = grind (arith, nat_tests)

-- each name of a list is one of another
named_there : (xs : List Instruction) (ns : List Name) → are_among (map instruction_name xs) ns ≡ true → (j : ℕ) (i : Instruction) → slice_get xs j ≡ Some i
    → is_name_in (instruction_name i) ns ≡ true
named_there [] ns h j i e = absurd (let c : None ≡ Some i = e in cc)
named_there (x ∷ xs) ns h zero i e =
    subst (λ k. is_name_in (instruction_name k) ns ≡ true) (some_same e) (and_parts (is_name_in (instruction_name x) ns) (are_among (map instruction_name xs) ns) h).0
named_there (x ∷ xs) ns h (suc j) i e = named_there xs ns (and_parts (is_name_in (instruction_name x) ns) (are_among (map instruction_name xs) ns) h).1 j i e

-- a name that is called has an entry, with a bound
entry_there : (is : List InstructionEntry) (js : List InstructionMap) → AreInstructionsRead is js → (n : Name) → is_name_in n (map (λ i. i.called) is) ≡ true
    → list_all (λ i. is_from_1_to 256 i.bound) is ≡ true → (e : InstructionMap) × (instruction_map js n ≡ Some e) × (1 ≤ e.bound)
entry_there _ _ AreInstructionsRead.none n h g = absurd (false≢true h)
entry_there _ _ (AreInstructionsRead.instruction c t b e is js r rest) n h g =
    let p = and_parts (is_from_1_to 256 b) (list_all (λ i. is_from_1_to 256 i.bound) is) g in
    let small : 1 ≤ b = at_least_one b (and_parts (nat_le 1 b) (nat_le b 256) p.0).0 in
    by (same_name c n) refl small (or_cases (same_name n c) (is_name_in n (map (λ i. i.called) is)) h) (λ k. entry_there is js rest n k p.1)
  where
    by : (d : Bool) → same_name c n ≡ d → 1 ≤ b → (same_name n c ≡ true) ⊎ (is_name_in n (map (λ i. i.called) is) ≡ true)
        → (is_name_in n (map (λ i. i.called) is) ≡ true → (e : InstructionMap) × (instruction_map js n ≡ Some e) × (1 ≤ e.bound))
        → (y : InstructionMap) × (cond d (Some (record { called = c; commit = e; bound = b })) (instruction_map js n) ≡ Some y) × (1 ≤ y.bound)
    by true q small either later = (record { called = c; commit = e; bound = b }, refl, small)
    by false q small (inl k) later = absurd (false≢true (sym q ∙ subst (λ m. same_name c m ≡ true) (sym (same_is n c k)) (is_same c)))
    by false q small (inr k) later = later k

pub accepted_complete : AcceptedMapsAreComplete
accepted_complete s w accepted stands j i is_j =
    let c = case_of w s.model s.source in
    let all = holds (are_among (own_instruction_names s.model.top) (called_names w)) (λ t. accepted BoundMissing t) in
    let bounds = holds (is_from_1_to 16 w.reset.cycles && list_all (λ i. is_from_1_to 256 i.bound) w.instructions) (λ t. accepted BadBound t) in
    entry_there w.instructions s.map.instructions stands.instructions (instruction_name i)
    (named_there (instructions_in s.model.top) (called_names w) all j i is_j)
    (and_parts (is_from_1_to 16 w.reset.cycles) (list_all (λ i. is_from_1_to 256 i.bound) w.instructions) bounds).1
