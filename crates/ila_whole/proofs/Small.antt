-- The store of a whole file has no more terms than the file has names, constants, operators and declarations.
use Rattle.std.proofs.Common.{◌≡◌, ℕ, ◌+◌, ◌≤◌, length, refl, arith}
use Rattle.model_files.specs.Written.{WrittenMachine, machine, WrittenModel, states_in, machines_in}
use Rattle.ila_build.specs.Building.{own_instructions}
use Rattle.ila_build.specs.Sizes.{own_size, machine_sizes, size_below, file_size}

pub small_top : (empty a b s i states inputs : ℕ) → empty ≡ 0 → a ≤ empty + s → b ≤ a + i → s ≡ states → i ≡ inputs → b ≤ states + inputs
small_top empty a b s i states inputs e p q x y = omega (arith, e, p, q, x, y)

parts_of : (t : WrittenMachine) → machine_sizes (machines_in t) ≡ length (states_in t) + own_size t + size_below (own_instructions t)
parts_of (machine ss ds f v is) = refl

pub small_whole : (a b c : ℕ) (m : WrittenModel) → a ≤ length (states_in m.top) + length m.inputs → b ≤ a + own_size m.top → c ≤ b + size_below (own_instructions m.top) → c ≤ file_size m
small_whole a b c m p q r = let e = parts_of m.top in omega (arith, e, p, q, r)
