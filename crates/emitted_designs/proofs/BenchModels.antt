-- The models of `bench`: they keep the rules on models, and have a size and a number of obligations.
use Rattle.std.proofs.Common.{◌≡◌, ℕ, zero, suc, ◌+◌, ◌*◌, max, arith, length, refl, ap}
use Rattle.emitted_designs.specs.Bounds.{nesting_among}
use Rattle.emitted_designs.specs.Size.{instructions_size, model_size}
use Rattle.emitted_designs.specs.Bench.{bench_states, bench_instructions, bench_model}
use Rattle.emitted_designs.specs.Laws.{SmallModelsHaveShortTexts, BenchModelsHaveNoChildren, BenchModelsHaveTheirSize, BenchTextsAreShort}

none_among : (n i k : ℕ) → nesting_among (bench_instructions n i k) ≡ 0
none_among n i zero = refl
none_among n i (suc k) = let rest : nesting_among (bench_instructions n (suc i) k) ≡ 0 = none_among n (suc i) k in ap (max 0) rest

pub no_children : BenchModelsHaveNoChildren
no_children n = none_among n 0 n

-- ---- size

pub states_counted : (i k : ℕ) → length (bench_states i k) ≡ k
states_counted i zero = refl
states_counted i (suc k) = ap suc (states_counted (suc i) k)

instructions_counted : (n i k : ℕ) → instructions_size (bench_instructions n i k) ≡ 10 * k
instructions_counted n i zero = refl
instructions_counted n i (suc k) =
    let rest : instructions_size (bench_instructions n (suc i) k) ≡ 10 * k = instructions_counted n (suc i) k in omega (arith, rest)

pub bench_size : BenchModelsHaveTheirSize
bench_size n =
    let states : length (bench_states 0 n) ≡ n = states_counted 0 n in
    let instructions : instructions_size (bench_instructions n 0 n) ≡ 10 * n = instructions_counted n 0 n in
    omega (arith, states, instructions)

pub small_models : SmallModelsHaveShortTexts
small_models m h = omega (arith, h)

pub bench_texts : BenchTextsAreShort
bench_texts n h = let size : model_size (bench_model n) ≡ 11 * n + 5 = bench_size n in omega (arith, size, h)
