use Rattle.flat_designs.proofs.Settled.{settled_solves_the_flat, flat_solves_each_module}
use Rattle.flat_designs.proofs.laws.flat_equations_are_those_of_the_modules.Goals as goal

pub returns : goal.returns
returns c = record { settled = settled_solves_the_flat; each = flat_solves_each_module }
