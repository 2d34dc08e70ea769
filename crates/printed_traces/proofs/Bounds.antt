-- The bounds of an accepted map are at most 256.
use Rattle.std.proofs.Common.{◌≡◌, ℕ, ◌≤◌, Bool, true, false, cond, not, ◌&&◌, nat_le, List, Some, refl, arith}
use Rattle.std.specs.List.{list_all}
use Rattle.std.proofs.lemmas.Bool.{and_parts}
use Rattle.std.proofs.lemmas.Bool.Decides.{nat_tests}
use Rattle.wb_values.specs.Value.{Name, same_name}
use Rattle.model_meaning.specs.Model.{Model}
use Rattle.verilog_trees.specs.Syntax.{Source}
use Rattle.refinement.specs.Map.{Map, InstructionMap, instruction_map}
use Rattle.refinement.specs.Obligation.{bound_in, bound_named}
use Rattle.map_files.specs.Written.{InstructionEntry}
use Rattle.map_files.specs.Meaning.{BadBound}
use Rattle.map_rules.specs.Names.{is_from_1_to}
use Rattle.map_rules.specs.Accepted.{AreInstructionsRead, MapOf}

-- a test whose denial is refuted
holds : (b : Bool) → ¬ (not b ≡ true) → b ≡ true
holds true h = refl
holds false h = absurd (h refl)

at_most : (n : ℕ) → nat_le n 256 ≡ true → n ≤ 256
at_most n h = grind (arith, nat_tests)

bounds_read : (is : List InstructionEntry) (js : List InstructionMap) → AreInstructionsRead is js → list_all (λ i. is_from_1_to 256 i.bound) is ≡ true → (n : Name)
    → bound_in (instruction_map js n) ≤ 256
bounds_read _ _ AreInstructionsRead.none h n = omega arith
bounds_read _ _ (AreInstructionsRead.instruction c t b e is js r rest) h n =
    let p = and_parts (is_from_1_to 256 b) (list_all (λ i. is_from_1_to 256 i.bound) is) h in
    by (same_name c n) (at_most b (and_parts (nat_le 1 b) (nat_le b 256) p.0).1) (bounds_read is js rest p.1 n)
  where
    by : (d : Bool) → b ≤ 256 → bound_in (instruction_map js n) ≤ 256
        → bound_in (cond d (Some (record { called = c; commit = e; bound = b })) (instruction_map js n)) ≤ 256
    by true small later = small
    by false small later = later

pub bounds_small : (bytes : List ℕ) (m : Model) (source : Source) (p : Map) → MapOf bytes m source p → (n : Name) → bound_named p n ≤ 256
bounds_small bytes m source p of n =
    let w = of.written in
    let within = holds (is_from_1_to 16 w.reset.cycles && list_all (λ i. is_from_1_to 256 i.bound) w.instructions) (λ t. of.is_accepted BadBound t) in
    bounds_read w.instructions p.instructions of.stands_for.instructions (and_parts (is_from_1_to 16 w.reset.cycles) (list_all (λ i. is_from_1_to 256 i.bound) w.instructions) within).1 n
