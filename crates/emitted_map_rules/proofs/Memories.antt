-- Each memory is mapped to a memory of its shape.
use Rattle.std.proofs.Common.{◌≡◌, ℕ, ◌+◌, true, nat_lt, inl, refl, sym, subst, Option, Some, None, arith}
use Rattle.std.proofs.lemmas.Bool.{and_from}
use Rattle.std.proofs.lemmas.Bool.Decides.{nat_tests}
use Rattle.wb_values.specs.Value.{Name, memory}
use Rattle.model_meaning.specs.Model.{Model}
use Rattle.verilog_trees.specs.Syntax.{Module}
use Rattle.verilog_meaning.specs.Expression.{Object, distance, object_width}
use Rattle.verilog_meaning.specs.Register.{words_between, word_count, is_bit_of}
use Rattle.map_rules.specs.Mapped.{IsMemoryPath, HasMemoryMismatch}
use Rattle.verilog_unique.proofs.Descent.{contains_among}
use Rattle.emitted_designs.specs.Module.{top_of, object_of, IsRegisterOf, all_states}
use Rattle.emitted_designs.specs.Emits.{IsEmittedModule}
use Rattle.emitted_map_rules.specs.Rules.{case_over, EmittedMemoriesMatch}
use Rattle.emitted_map_rules.proofs.Members.{state_of_sort, among_all, state_entry_at}
use Rattle.emitted_map_rules.proofs.Scope.{design_over, placed}

positive : (n : ℕ) → nat_lt 0 (n + 1) ≡ true
positive n = grind (arith, nat_tests)

some_words : (a : Option (ℕ × ℕ)) → nat_lt 0 (words_between a) ≡ true
some_words None = refl
some_words (Some a) = positive (distance a.0 a.1)

-- an object has a bit
has_a_bit : (o : Object) → is_bit_of o 0 0 ≡ true
has_a_bit o = and_from (nat_lt 0 (word_count o)) (nat_lt 0 (object_width o)) (some_words o.addresses) (positive (distance o.left o.right))

module _ (m : Model) (x : Module) (emitted : IsEmittedModule m x) where
  is_path : (n : Name) (a w : ℕ) → IsRegisterOf x n (memory a w) → IsMemoryPath (design_over m x) n a w
  is_path n a w r = record {
    within = top_of x;
    memory_name = n;
    is_placed = placed m x emitted.ports.named;
    is_path = refl;
    indexes = inl r.object.1;
    word_width = r.object.0;
    index = 0;
    place = 0;
    is_assigned = r.counted 0 0 (has_a_bit (object_of x n));
  }

  memories : ¬ HasMemoryMismatch (case_over m x)
  memories h =
      let at = state_entry_at m h.state h.text h.stands in
      let d = state_of_sort m h.state (memory h.address_width h.width) h.is_memory in
      h.no_path
      (subst (λ k. IsMemoryPath (design_over m x) k h.address_width h.width) (sym at.1)
      (is_path h.state h.address_width h.width
      (subst (λ t. IsRegisterOf x h.state t) d.2
      (subst (λ k. IsRegisterOf x k d.0.sort) d.1.named
      (emitted.registers.states d.0 (contains_among (all_states m) d.0 (among_all m h.state d.0 d.1)))))))

pub memories_match : EmittedMemoriesMatch
memories_match m x is_model emitted = memories m x emitted
