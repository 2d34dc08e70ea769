-- The instruction that starts, in the parts of the model and in the model.
use Rattle.std.proofs.Common.{◌≡◌, ℕ, zero, suc, ◌≤◌, Bool, true, false, ◌&&◌, List, [], ◌∷◌, Option, Some, refl, sym, ◌∙◌, ap, subst}
use Rattle.std.specs.Prelude.{slice_get}
use Rattle.std.proofs.lemmas.Bool.{false≢true}
use Rattle.wb_values.specs.Value.{Name}
use Rattle.model_meaning.specs.Model as pure
use Rattle.model_meaning.specs.Model.{instruction_list, decode_of, holds}
use Rattle.wb_terms.specs.Graph.{Graph}
use Rattle.ila_model.specs.declared.parts.ChildId.{ChildId}
use Rattle.ila_model.specs.declared.parts.Instruction.{Instruction}
use Rattle.ila_model.specs.declared.parts.Parts.{Parts}
use Rattle.ila_model.specs.Scope.{nesting}
use Rattle.ila_model.specs.Meaning.{instruction_of, instructions_of, program_of}
use Rattle.refinement.specs.Run.{Run, IsRun}
use Rattle.refinement.specs.Refinement.{IsCommandOf}
use Rattle.emitted_designs.specs.Map.{setting_of}
use Rattle.emitted_modules.specs.Kept.{IsKept}
use Rattle.emitted_modules.specs.Module.{emitted_module}
use Rattle.emitted_modules.specs.Laws.{IsFlatModel}
use Rattle.emitted_modules.proofs.Decoding.{one_of, IsOnly, only_from, from_only}
use Rattle.emitted_modules.proofs.Facts.{model}
use Rattle.emitted_modules.proofs.Values.{setting, point}
use Rattle.emitted_modules.proofs.Starts.{condition, decoded}

module _ (g : Graph) (inner : Option ChildId → pure.Child) where
  pub code_got : (is : List Instruction) (j : ℕ) (i : pure.Instruction) → slice_get (instruction_list (instructions_of g inner is)) j ≡ Some i
      → (c : Instruction) × (slice_get is j ≡ Some c) × (instruction_of g inner c ≡ i)
  code_got [] j i e = cc
  code_got (c ∷ is) zero i e = let same : instruction_of g inner c ≡ i = cc in (c, refl, same)
  code_got (c ∷ is) (suc j) i e = code_got is j i e

  pub got_code : (is : List Instruction) (j : ℕ) (c : Instruction) → slice_get is j ≡ Some c
      → slice_get (instruction_list (instructions_of g inner is)) j ≡ Some (instruction_of g inner c)
  got_code [] j c e = cc
  got_code (x ∷ is) zero c e = let same : x ≡ c = cc in ap (λ (y : Instruction). Some (instruction_of g inner y)) same
  got_code (x ∷ is) (suc j) c e = got_code is j c e

is_false : (b : Bool) → ¬ (b ≡ true) → b ≡ false
is_false true h = absurd (h refl)
is_false false h = refl

pub true_there : (a b : Bool) → a ≡ true → b ≡ true → (a && b) ≡ true
true_there a b e f = ap (λ c. c && b) e ∙ f

module _ (name : Name) (p : Parts) (keep : ℕ → Bool) (h : IsFlatModel name p) (kept : IsKept p keep)
    (run : Run) (cycles : ℕ) (is_run : IsRun (setting_of (model name p keep h) (emitted_module name p keep)) run cycles) (t : ℕ) (le : t ≤ cycles) where
  abbrev pub inner : Option ChildId → pure.Child
  inner = program_of p.terms p.children.items nesting

  -- the decode condition of an instruction
  abbrev pub decodes : Instruction → Bool
  decodes c = condition name p keep h kept run cycles is_run t le c.decode.0

  abbrev is_valid : Bool
  is_valid = condition name p keep h kept run cycles is_run t le p.valid.0

  command_by : (j : ℕ) (c : Instruction) → is_valid ≡ true → IsOnly decodes p.instructions.items j c
      → IsCommandOf (setting name p keep h kept run cycles is_run t le) run t j
  command_by j c valid only = record {
    valid = valid;
    alone = record {
      i = instruction_of p.terms inner c;
      is_j = got_code p.terms inner p.instructions.items j c only.is_there;
      decoded = only.holds;
      no_other = λ k o e apart d.
          let x = code_got p.terms inner p.instructions.items k o e in
          false≢true
          (sym (only.no_other k x.0 x.1 apart)
          ∙ subst (λ (y : pure.Instruction). holds (decode_of y) (point name p keep h kept run cycles is_run t le) ≡ true) (sym x.2) d);
    };
  }

  -- the instruction of a command, in the parts
  pub command_of : (j : ℕ) → IsCommandOf (setting name p keep h kept run cycles is_run t le) run t j
      → (c : Instruction) × IsOnly decodes p.instructions.items j c × (is_valid ≡ true)
  command_of j command =
      let x = code_got p.terms inner p.instructions.items j command.alone.i command.alone.is_j in (
        x.0,
        record {
          is_there = x.1;
          holds = subst (λ (y : pure.Instruction). holds (decode_of y) (point name p keep h kept run cycles is_run t le) ≡ true) (sym x.2) command.alone.decoded;
          no_other = λ k c e apart.
              is_false (decodes c)
              (λ d. command.alone.no_other k (instruction_of p.terms inner c) (got_code p.terms inner p.instructions.items k c e) apart d);
        },
        command.valid,
      )

  -- Exactly one decodes where there is a command.
  pub command_there : is_valid ≡ true → one_of (decoded name p keep h kept run cycles is_run t le p.instructions.items) ≡ true
      → (j : ℕ) × IsCommandOf (setting name p keep h kept run cycles is_run t le) run t j
  command_there valid one = let x = only_from decodes p.instructions.items one in (x.0, command_by x.0 x.1 valid x.2)

  pub there_by_command : (j : ℕ) → IsCommandOf (setting name p keep h kept run cycles is_run t le) run t j
      → (is_valid && one_of (decoded name p keep h kept run cycles is_run t le p.instructions.items)) ≡ true
  there_by_command j command =
      let x = command_of j command in
      true_there is_valid (one_of (decoded name p keep h kept run cycles is_run t le p.instructions.items)) x.2 (from_only decodes p.instructions.items j x.0 x.1)
