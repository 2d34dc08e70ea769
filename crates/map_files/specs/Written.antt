-- What a refinement map's file says before its expressions are read: its parts as they are written.
use Rattle.std.specs.Prelude.{ℕ, List}
use Rattle.wb_values.specs.Value.{Name, Entries}

-- An expression as it is written: its text, by the bytes of UTF-8.
abbrev pub Text : Type 0
Text = List ℕ

-- How the reset is applied: its signal, the value at which it is active, and for how many cycles.
pub record WrittenReset : Type 0 where
  pub signal : Name
  pub active : ℕ
  pub cycles : ℕ

-- How an instruction of the model ends: the condition of its commit, and the number of cycles within which it comes.
pub record InstructionEntry : Type 0 where
  pub called : Name
  pub commit : Text
  pub bound : ℕ

-- A map file. The entries of states and inputs stand by the bytes of their names; the lists stand as they are written.
pub record WrittenMap : Type 0 where
  pub top : Name
  pub clock : Name
  pub reset : WrittenReset
  pub assume : List Text
  pub invariants : List Text
  pub start : Text
  pub states : Entries Text
  pub inputs : Entries Text
  pub instructions : List InstructionEntry
