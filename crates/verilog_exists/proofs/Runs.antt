-- Registers after an edge of the clock, and runs.
use Rattle.std.proofs.Common.{◌≡◌, ℕ, zero, suc, ◌<◌, Bool, true, false, cond, ◌⊎◌, inl, inr, refl, sym, ap, ◌∙◌, subst, arith}
use Rattle.std.specs.Prelude.{slice_index}
use Rattle.std.proofs.lemmas.Bool.{cases_lt, cases_Bool, cond-true, cond-false, and_parts, false≢true}
use Rattle.std.proofs.lemmas.Bool.Decides.{nat_tests}
use Rattle.wb_values.specs.Value.{Name, Value, truth_value, number as a_number, words, Valuation}
use Rattle.verilog_meaning.specs.Expression.{Object, object_width}
use Rattle.verilog_meaning.specs.Register.{clocked_blocks, value_bit, is_set, is_bit_of, word_count, after_edge}
use Rattle.verilog_meaning.specs.Hierarchy.{Placed, placed_scope}
use Rattle.verilog_meaning.specs.Settled.{Design, IsPlacedIn, inside, IsDeclared, IsValueOf, is_counted, IsSettled}
use Rattle.verilog_meaning.specs.Next.{IsNext}
use Rattle.refinement.specs.Map.{design_of}
use Rattle.verilog_designs.specs.Accepted.{bad_hierarchy}
use Rattle.verilog_settled.proofs.Bits.{unset_past}
use Rattle.verilog_settled.proofs.Names.{some_word as one_word}
use Rattle.verilog_exists.specs.Runs.{NextRegistersExist, RunExists}
use Rattle.verilog_exists.proofs.Build.{built, built_fits, built_bit}
use Rattle.verilog_exists.proofs.Spots.{SeesItsOwn, sees_its_own, spread}
use Rattle.verilog_exists.proofs.Exists.{settled_exists}

-- out of range a value of an object has no bit that is set
unset_outside : (o : Object) (x : Value) (k b : ℕ) → IsValueOf o x → is_bit_of o k b ≡ false → value_bit x k b ≡ false
unset_outside o (truth_value t) k b h e = refl
unset_outside o (a_number x) (suc k) b h e = refl
unset_outside o (a_number x) zero b h e =
    elim (cases_lt b (object_width o)) as (λ _. is_set x b ≡ false) [
      | inl l ↦ absurd (false≢true (sym e ∙ within 0 b (some_word o) l))
      | inr l ↦ unset_past (object_width o) x b h.1 l
    ]
  where
    some_word : (p : Object) → 0 < word_count p
    some_word p = one_word p.addresses

    within : (i j : ℕ) → i < word_count o → j < object_width o → is_bit_of o i j ≡ true
    within i j l m = grind (arith, nat_tests, l, m)
unset_outside o (words xs) k b h e =
    elim (cases_lt b (object_width o)) as (λ _. is_set (slice_index xs k) b ≡ false) [
      | inl l ↦ elim (cases_lt k (word_count o)) as (λ _. is_set (slice_index xs k) b ≡ false) [
        | inl m ↦ absurd (false≢true (sym e ∙ within k b m l))
        | inr m ↦ ap (λ y. is_set y b) (h.1.past k m) ∙ unset_past 0 0 b (omega arith) (omega arith)
      ]
      | inr l ↦ unset_past (object_width o) (slice_index xs k) b (h.1.narrow k) l
    ]
  where
    within : (i j : ℕ) → i < word_count o → j < object_width o → is_bit_of o i j ≡ true
    within i j l m = grind (arith, nat_tests, l, m)

-- ---- the next registers

abbrev next_bit : Valuation → Placed → Name → ℕ → ℕ → Bool
next_bit v p n k b =
    cond (is_counted p n k b) (value_bit (after_edge (placed_scope p) (clocked_blocks p.of_module.items) (inside v p) n) k b) false

abbrev next_value : Valuation → Placed → Name → Value
next_value v p n = built (placed_scope p n) (next_bit v p n)

module _ (d : Design) (own : SeesItsOwn d) (v : Valuation) where
  next_fits : (p : Placed) (n : Name) → IsPlacedIn d p → IsDeclared p n → IsValueOf (placed_scope p n) (inside (spread own.spots (next_value v)) p n)
  next_fits p n at t =
      subst (IsValueOf (placed_scope p n)) (sym (own.sees (next_value v) p n at t)) (built_fits (placed_scope p n) (next_bit v p n))

  next_has : (p : Placed) (n : Name) (k b : ℕ) → IsPlacedIn d p → IsDeclared p n → is_bit_of (placed_scope p n) k b ≡ true
      → value_bit (inside (spread own.spots (next_value v)) p n) k b ≡ next_bit v p n k b
  next_has p n k b at t is_bit =
      ap (λ x. value_bit x k b) (own.sees (next_value v) p n at t) ∙ built_bit (placed_scope p n) (next_bit v p n) k b is_bit

  is_next : IsNext d v (spread own.spots (next_value v))
  is_next =
      record {
        registers = record { fits = next_fits; rest_zero = rest_zero };
        assigned = λ p n k b at t counted.
            next_has p n k b at t (and_parts (is_bit_of (placed_scope p n) k b) _ counted).0
            ∙ cond-true (is_counted p n k b) (value_bit (after_edge (placed_scope p) (clocked_blocks p.of_module.items) (inside v p) n) k b) false counted;
      }
    where
      rest_zero : (p : Placed) (n : Name) (k b : ℕ) → IsPlacedIn d p → IsDeclared p n → is_counted p n k b ≡ false
          → value_bit (inside (spread own.spots (next_value v)) p n) k b ≡ false
      rest_zero p n k b at t e = by_range (cases_Bool (is_bit_of (placed_scope p n) k b))
        where
          by_range : (is_bit_of (placed_scope p n) k b ≡ true) ⊎ (is_bit_of (placed_scope p n) k b ≡ false)
              → value_bit (inside (spread own.spots (next_value v)) p n) k b ≡ false
          by_range (inl f) =
              next_has p n k b at t f
              ∙ cond-false (is_counted p n k b) (value_bit (after_edge (placed_scope p) (clocked_blocks p.of_module.items) (inside v p) n) k b) false e
          by_range (inr f) = unset_outside (placed_scope p n) (inside (spread own.spots (next_value v)) p n) k b (next_fits p n at t) f

pub next_exists : NextRegistersExist
next_exists d v accepted dotless =
    let own : SeesItsOwn d = sees_its_own d dotless (accepted bad_hierarchy) in
    (spread own.spots (next_value v), is_next d own v)

-- ---- runs

-- the registers of each cycle, for a way to settle and a way to go on
abbrev registers_at : (settle : Valuation → ℕ → Valuation) → (after : Valuation → Valuation) → Valuation → ℕ → Valuation
registers_at settle after first zero = first
registers_at settle after first (suc t) = after (settle (registers_at settle after first t) t)

pub run_exists : RunExists
run_exists s first inputs accepted text are_registers are_inputs = (
  record {
    registers = registers_at settle after first;
    inputs = inputs;
    valuations = λ t. settle (registers_at settle after first t) t;
  },
  refl,
  refl,
  λ cycles. record {
    first = are_registers;
    inputs = λ t l. are_inputs t;
    settled = λ t l. is_settled (registers_at settle after first t) t;
    next = λ t l. goes_on (settle (registers_at settle after first t) t);
  },
)
  where
    settle : Valuation → ℕ → Valuation
    settle registers t = (settled_exists (design_of s) registers (inputs t) accepted text (are_inputs t)).0

    is_settled : (registers : Valuation) (t : ℕ) → IsSettled (design_of s) registers (inputs t) (settle registers t)
    is_settled registers t = (settled_exists (design_of s) registers (inputs t) accepted text (are_inputs t)).1

    after : Valuation → Valuation
    after v = (next_exists (design_of s) v accepted text.no_dots).0

    goes_on : (v : Valuation) → IsNext (design_of s) v (after v)
    goes_on v = (next_exists (design_of s) v accepted text.no_dots).1
