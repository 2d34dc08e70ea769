-- A design unrolled over the cycles of a run: which terms stand for what it is worth at each cycle.
use Rattle.std.specs.Prelude.{◌≡◌, ℕ, ◌+◌, length, slice_get, Some}
use Rattle.wb_terms.specs.declared.nodes.TermId.{TermId}
use Rattle.std.specs.Global.{Global}
use Rattle.std.specs.declared.vec.Vec.{Vec}
use Rattle.v_design.specs.Parts.{Parts, registers_of}
use Rattle.mapped_designs.specs.Runs.{worth_at, worth_of_registers_at}
use Rattle.run_terms.specs.declared.unrolling.RunTerms.{RunTerms}
use Rattle.run_terms.specs.Names.{names_of_run, values_of_run}
use Rattle.run_terms.specs.Worth.{AreWorth, AreWorthAll}

-- The names of the store are those of the run. The first registers have terms. At each cycle of the run there is for each term of the
-- design a term that is worth what it is at this cycle; and at each of these cycles and the one after them one that is worth what it is
-- with inputs that are 0.
pub record IsUnrolled (d : Parts) (cycles : ℕ) (r : RunTerms) : Type 0 where
  pub names : r.terms.names ≡ names_of_run d cycles
  pub registers : AreWorth r.terms (registers_of d) r.registers.items (λ v. (values_of_run d cycles v).first)
  pub each_cycle : length r.read.items ≡ cycles
  pub read : (t : ℕ) (ids : Vec TermId Global) → slice_get r.read.items t ≡ Some ids
      → AreWorthAll r.terms d.graph ids.items (λ v k. worth_at d (values_of_run d cycles v) t k)
  pub one_more : length r.shown.items ≡ cycles + 1
  pub shown : (t : ℕ) (ids : Vec TermId Global) → slice_get r.shown.items t ≡ Some ids
      → AreWorthAll r.terms d.graph ids.items (λ v k. worth_of_registers_at d (values_of_run d cycles v) t k)
