-- What a checked refutation holds.
use Rattle.std.specs.Prelude.{List}
use Rattle.sat_base.specs.declared.logs.Lemma.{Lemma}
use Rattle.sat_base.specs.Formula.{Formula}

-- a formula, and a log that refutes it
pub record Refutation : Type 0 where
  pub formula : Formula
  pub log : List Lemma
