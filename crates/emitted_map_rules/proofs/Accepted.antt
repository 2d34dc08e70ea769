-- The map of a model without child programs is accepted for the model and its module.
use Rattle.std.proofs.Common.{◌≡◌, ℕ, ◌≤◌, max, [], ◌∷◌, refl, arith}
use Rattle.model_meaning.specs.Model.{Model, Machine, machine, Instruction, instruction, Instructions, no_instructions, and_then, no_child, child}
use Rattle.map_files.specs.Meaning.{BadJson, BadShape, UnknownKey, UnknownState, StateUnmapped, UnknownInput, InputUnmapped, BadExpression, WidthMismatch, MapUsesInput, MemoryMismatch, UnknownInstruction, BoundMissing, BadBound}
use Rattle.map_rules.specs.Case.{MapCase}
use Rattle.map_rules.specs.Accepted.{IsMapAccepted}
use Rattle.ila_model.specs.Meaning.{model_from}
use Rattle.emitted_designs.specs.Bounds.{nesting_of, nesting_among, nesting_of_instruction, instruction_bound, bound_among, machine_bound, greatest_bound, most_cycles}
use Rattle.emitted_designs.specs.Map.{written_map}
use Rattle.map_texts.specs.Readable.{EmittedMapsAreRead}
use Rattle.map_texts.specs.Standing.{EmittedMapsStand}
use Rattle.map_texts.specs.Unbroken.{BreaksNone, rules_on_names, EmittedMapsNameAll}
use Rattle.emitted_modules.specs.Module.{emitted_module}
use Rattle.emitted_modules.specs.Laws.{FlatModelsAreEmitted}
use Rattle.emitted_map_rules.specs.Rules.{rules_on_expressions, case_over, EmittedWidthsMatch, EmittedMemoriesMatch, EmittedExpressionsAreGood, FlatMapsUseNoInput, FlatMapsBreakNone, FlatMapsAreAccepted}
use Rattle.emitted_map_rules.proofs.Sorts.{sorts_in_range}

pub none_broken : FlatModelsAreEmitted → EmittedWidthsMatch → EmittedMemoriesMatch → EmittedExpressionsAreGood → FlatMapsUseNoInput → FlatMapsBreakNone
none_broken emitted widths memories expressions inputs name p keep h kept =
    let is_emitted = emitted name p keep h kept in (
      expressions (model_from name p) (emitted_module name p keep) h.is_model (sorts_in_range name p h) is_emitted,
      (
        widths (model_from name p) (emitted_module name p keep) h.is_model is_emitted,
        (
          inputs name p keep h,
          (
            memories (model_from name p) (emitted_module name p keep) h.is_model is_emitted,
            tt,
          ),
        ),
      ),
    )

-- ---- bounds

one_cycle : (i : Instruction) → nesting_of_instruction i ≡ 0 → instruction_bound i ≡ 1
one_cycle (instruction called decode update no_child) e = refl
one_cycle (instruction called decode update (child steps program)) e = absurd (omega (arith, e))

all_one_cycle : (is : Instructions) → nesting_among is ≡ 0 → bound_among is ≡ 1
all_one_cycle no_instructions e = refl
all_one_cycle (and_then i is) e =
    greatest (instruction_bound i) (bound_among is) (one_cycle i (left (nesting_of_instruction i) (nesting_among is) e))
    (all_one_cycle is (right (nesting_of_instruction i) (nesting_among is) e))
  where
    left : (a b : ℕ) → max a b ≡ 0 → a ≡ 0
    left a b f = omega (arith, f)

    right : (a b : ℕ) → max a b ≡ 0 → b ≡ 0
    right a b f = omega (arith, f)

    greatest : (a b : ℕ) → a ≡ 1 → b ≡ 1 → max a b ≡ 1
    greatest a b f g = omega (arith, f, g)

top_one_cycle : (t : Machine) → nesting_of t ≡ 0 → machine_bound t ≡ 1
top_one_cycle (machine states valid is) e = all_one_cycle is e

small : (m : Model) → nesting_of m.top ≡ 0 → greatest_bound m ≤ most_cycles
small m e = low (machine_bound m.top) (top_one_cycle m.top e)
  where
    low : (n : ℕ) → n ≡ 1 → n ≤ 256
    low n f = omega (arith, f)

-- ---- all rules

all_kept : (c : MapCase) → BreaksNone c rules_on_names → BreaksNone c rules_on_expressions → IsMapAccepted c
all_kept c names rest BadJson h = h
all_kept c names rest BadShape h = h
all_kept c names rest UnknownKey h = h
all_kept c names rest UnknownState h = names.0 h
all_kept c names rest StateUnmapped h = names.1.0 h
all_kept c names rest UnknownInput h = names.1.1.0 h
all_kept c names rest InputUnmapped h = names.1.1.1.0 h
all_kept c names rest BadExpression h = rest.0 h
all_kept c names rest WidthMismatch h = rest.1.0 h
all_kept c names rest MapUsesInput h = rest.1.1.0 h
all_kept c names rest MemoryMismatch h = rest.1.1.1.0 h
all_kept c names rest UnknownInstruction h = names.1.1.1.1.0 h
all_kept c names rest BoundMissing h = names.1.1.1.1.1.0 h
all_kept c names rest BadBound h = names.1.1.1.1.1.1.0 h

pub maps_are_accepted : FlatMapsBreakNone → EmittedMapsAreRead → EmittedMapsNameAll → EmittedMapsStand → FlatMapsAreAccepted
maps_are_accepted none read names stand name p keep h kept =
    let m = model_from name p in
    let low = small m h.childless in
    record {
      written = written_map m;
      says = read m h.is_model low;
      is_accepted = all_kept (case_over m (emitted_module name p keep)) (names m (emitted_module name p keep ∷ []) h.is_model low) (none name p keep h kept);
      stands_for = stand m h.is_model;
    }
