-- The trace of a run fits the design, is full for its obligation, and its numbers have at most 128 bits.
use Rattle.std.proofs.Common.{◌≡◌, ◌∙◌, ℕ, zero, suc, ◌^◌, ◌<◌, ◌≤◌, true, false, List, [], ◌∷◌, length, take, Some, refl, sym, ap, subst, arith, pow_mono, ltb-true, lt-ltb}
use Rattle.std.specs.Prelude.{nat_lt, is_some, slice_get, slice_index, slice_index_or, Contains}
use Rattle.std.proofs.lemmas.Bool.{and_parts, and_from, not-true}
use Rattle.wb_values.specs.Value.{Name, Value, truth_value, number, words, all_below, Entries}
use Rattle.verilog_trees.specs.Syntax.{input}
use Rattle.verilog_meaning.specs.Expression.{Object, object_width, is_memory}
use Rattle.verilog_meaning.specs.Register.{word_count, is_set, value_bit}
use Rattle.verilog_meaning.specs.Hierarchy.{Placed, placed_scope, dotted}
use Rattle.verilog_meaning.specs.Settled.{Design, at_path, IsPlacedIn, IsDeclared, IsValueOf, HasPort, names_of}
use Rattle.refinement.specs.Map.{Setting, design_of, map_scope}
use Rattle.refinement.specs.Run.{Run, IsRun}
use Rattle.refinement.specs.Obligation.{Obligation}
use Rattle.verilog_designs.specs.Accepted as accepted
use Rattle.verilog_designs.specs.Accepted.{IsAccepted}
use Rattle.verilog_settled.proofs.Bits.{unset_past}
use Rattle.verilog_unique.proofs.Paths.{stands_at, placed_in}
use Rattle.verilog_unique.proofs.Ports.{port_is_declared}
use Rattle.verilog_exists.specs.Exists.{IsShapely, NamesHaveNoDots}
use Rattle.flat_rules.specs.Sound.{HasSoundModules}
use Rattle.flat_rules.proofs.Placed.{objects_are_in_bounds}
use Rattle.reports.specs.Report.{Trace, IsInput, StandsFor, AreEntriesOf, IsTraceOf, is_in_order}
use Rattle.trace_files.specs.Meaning.{FitsObject, IsRegisterValue, IsInputValue, IsFittingTrace, IsFullFor}
use Rattle.printed_traces.proofs.Order.{entry_found}
use Rattle.printed_traces.proofs.Shapes.{AllSmall, IsSmall, AreSmall, CyclesAreSmall, CyclesInOrder}
use Rattle.printed_traces.proofs.Dots.{means_there}

-- ---- what stands for a value

length_taken : (n : ℕ) (ys : List ℕ) → n ≤ length ys → length (take n ys) ≡ n
length_taken zero ys h = refl
length_taken (suc n) [] h = absurd (omega (arith, h))
length_taken (suc n) (y ∷ ys) h = ap suc (length_taken n ys (omega (arith, h)))

all_taken : (w n : ℕ) (ys : List ℕ) → ((k : ℕ) → slice_index ys k < 2 ^ w) → all_below w (take n ys) ≡ true
all_taken w zero ys h = refl
all_taken w (suc n) [] h = refl
all_taken w (suc n) (y ∷ ys) h =
    and_from (nat_lt y (2 ^ w)) (all_below w (take n ys)) (lt-ltb y (2 ^ w) (h 0)) (all_taken w n ys (λ k. h (suc k)))

bit_taken : (n k b : ℕ) (ys : List ℕ) → is_set (slice_index ys k) b ≡ false → is_set (slice_index (take n ys) k) b ≡ false
bit_taken zero k b ys h = unset_past 0 0 b (omega arith) (omega arith)
bit_taken (suc n) k b [] h = h
bit_taken (suc n) zero b (y ∷ ys) h = h
bit_taken (suc n) (suc k) b (y ∷ ys) h = bit_taken n k b ys h

-- It fits what the value is one of.
fits_stands : (o : Object) (n : ℕ) (x y : Value) → StandsFor n x y → n ≡ word_count o → IsValueOf o y → FitsObject o x
fits_stands o n (truth_value b) (truth_value c) h e v = absurd h
fits_stands o n (truth_value b) (number y) h e v = absurd h
fits_stands o n (truth_value b) (words ys) h e v = absurd h
fits_stands o n (number x) (truth_value c) h e v = absurd h
fits_stands o n (number x) (number y) h e v = (not-true (is_memory o) v.0, subst (λ z. z < 2 ^ object_width o) (sym h) v.1)
fits_stands o n (number x) (words ys) h e v = absurd h
fits_stands o n (words xs) (truth_value c) h e v = absurd h
fits_stands o n (words xs) (number y) h e v = absurd h
fits_stands o n (words xs) (words ys) h e v =
    let enough : n ≤ length ys = omega (arith, e, v.1.is_address_width.enough, v.1.all) in (
      v.0,
      ap length h ∙ (length_taken n ys enough ∙ e),
      ap (all_below (object_width o)) h ∙ all_taken (object_width o) n ys v.1.narrow,
    )

-- It has no bit that the value has not.
bit_stands : (n : ℕ) (x y : Value) (k b : ℕ) → StandsFor n x y → value_bit y k b ≡ false → value_bit x k b ≡ false
bit_stands n (truth_value t) (truth_value u) k b h e = absurd h
bit_stands n (truth_value t) (number y) k b h e = absurd h
bit_stands n (truth_value t) (words ys) k b h e = absurd h
bit_stands n (number x) (truth_value u) k b h e = absurd h
bit_stands n (number x) (number y) k b h e = ap (λ z. value_bit (number z) k b) h ∙ e
bit_stands n (number x) (words ys) k b h e = absurd h
bit_stands n (words xs) (truth_value u) k b h e = absurd h
bit_stands n (words xs) (number y) k b h e = absurd h
bit_stands n (words xs) (words ys) k b h e = ap (λ zs. value_bit (words zs) k b) h ∙ bit_taken n k b ys e

-- ---- small values

all_small : (w : ℕ) (xs : List ℕ) → w ≤ 128 → all_below w xs ≡ true → AllSmall xs
all_small w [] l h = tt
all_small w (x ∷ xs) l h =
    let p = and_parts (nat_lt x (2 ^ w)) (all_below w xs) h in
    let most : 2 ^ w ≤ 2 ^ 128 = pow_mono l in
    let below : x < 2 ^ w = ltb-true x (2 ^ w) p.0 in
    (omega (arith, most, below), all_small w xs l p.1)

fits_small : (o : Object) (x : Value) → object_width o ≤ 128 → FitsObject o x → IsSmall x
fits_small o (truth_value b) l h = absurd h
fits_small o (number x) l h = let most : 2 ^ object_width o ≤ 2 ^ 128 = pow_mono l in omega (arith, most, h.1)
fits_small o (words xs) l h = all_small (object_width o) xs l h.2

small_entries : (es : Entries Value) → ((n : Name) (x : Value) → Contains es (n, x) → IsSmall x) → AreSmall es
small_entries [] h = tt
small_entries (e ∷ es) h = (h e.0 e.1 (0, omega arith, refl), small_entries es (λ n x c. h n x (suc c.0, omega (arith, c.1), c.2)))

small_cycles : (cycles : List (Entries Value)) → ((es : Entries Value) → Contains cycles es → AreSmall es) → CyclesAreSmall cycles
small_cycles [] h = tt
small_cycles (es ∷ cycles) h = (h es (0, omega arith, refl), small_cycles cycles (λ fs c. h fs (suc c.0, omega (arith, c.1), c.2)))

ordered_cycles : (cycles : List (Entries Value)) → ((es : Entries Value) → Contains cycles es → is_in_order (names_of es) ≡ true) → CyclesInOrder cycles
ordered_cycles [] h = tt
ordered_cycles (es ∷ cycles) h = (h es (0, omega arith, refl), ordered_cycles cycles (λ fs c. h fs (suc c.0, omega (arith, c.1), c.2)))

-- ---- designs

pub sound_modules : (d : Design) → IsAccepted d → IsShapely d → HasSoundModules d
sound_modules d accepts shapely =
    record {
      names_declared = accepts accepted.undeclared;
      names_once = accepts accepted.duplicate_name;
      digits = accepts accepted.has_xz;
      constants = accepts accepted.bad_constant;
      widths = accepts accepted.width_over_128;
      selects = accepts accepted.bad_select;
      memories = accepts accepted.memory_use;
      shapely = shapely;
    }

pub got : {A : Type 0} (xs : List A) (k : ℕ) (x : A) → k < length xs → slice_index_or xs k x ≡ x → slice_get xs k ≡ Some x
got [] k x l e = absurd (omega (arith, l))
got (y ∷ xs) zero x l e = ap Some e
got (y ∷ xs) (suc k) x l e = got xs k x (omega (arith, l)) e

one_place : (d : Design) (p q : Placed) → at_path d [] ≡ Some p → at_path d [] ≡ Some q → p ≡ q
one_place d p q e f = same (sym e ∙ f)
  where
    same : Some p ≡ Some q → p ≡ q
    same g = cc

-- ---- the trace of a run

module _ (s : Setting) (o : Obligation) (run : Run) (t : Trace) where
  module _ (dotless : NamesHaveNoDots s.source) (is_run : IsRun s run o.cycles) (is_trace : IsTraceOf s o run t) where
    words_there : (p : Placed) (own n : Name) → IsPlacedIn (design_of s) p → IsDeclared p own → n ≡ dotted p.path own
        → word_count (map_scope s n) ≡ word_count (placed_scope p own)
    words_there p own n at declared named = ap (λ m. word_count (map_scope s m)) named ∙ ap word_count (means_there (design_of s) p own dotless at declared)

    register_fits : (n : Name) (x : Value) → Contains t.registers (n, x) → IsRegisterValue (design_of s) n x
    register_fits n x c =
        let e = entry_found t.registers n x is_trace.registers.in_order c in
        let stands = is_trace.registers.values n x e in
        record {
          is_register = (is_trace.registers.wanted n).0 (ap is_some e);
          fits = λ p own at declared named.
              fits_stands (placed_scope p own) (word_count (map_scope s n)) x (run.registers 0 n) stands (words_there p own n at declared named)
              (subst (λ m. IsValueOf (placed_scope p own) (run.registers 0 m)) (sym named) (is_run.first.fits p own at declared));
          rest = λ p own k b at declared named none.
              bit_stands (word_count (map_scope s n)) x (run.registers 0 n) k b stands
              (ap (λ m. value_bit (run.registers 0 m) k b) named ∙ is_run.first.rest_zero p own k b at declared none);
        }

    -- the entries of a cycle are those of the run's inputs
    cycle_there : (es : Entries Value) → Contains t.inputs es → (k : ℕ) × (k < o.cycles) × AreEntriesOf s (IsInput (design_of s)) es (run.inputs k)
    cycle_there es c = (c.0, omega (arith, c.1, is_trace.cycles), is_trace.inputs c.0 es (got t.inputs c.0 es c.1 c.2))

    input_fits : (es : Entries Value) (n : Name) (x : Value) → Contains t.inputs es → Contains es (n, x) → IsInputValue (design_of s) n x
    input_fits es n x in_trace c =
        let cycle = cycle_there es in_trace in
        let e = entry_found es n x cycle.2.in_order c in
        let is : IsInput (design_of s) n = (cycle.2.wanted n).0 (ap is_some e) in
        record {
          is_input = is;
          fits = λ p at.
              let port : HasPort p.of_module n input = subst (λ (q : Placed). HasPort q.of_module n input) (one_place (design_of s) is.place p is.is_place at) is.is_port in
              let named : n ≡ dotted p.path n = ap (λ path. dotted path n) (sym (stands_at (design_of s) [] p at)) in
              fits_stands (placed_scope p n) (word_count (map_scope s n)) x (run.inputs cycle.0 n) (cycle.2.values n x e)
              (words_there p n n (placed_in (design_of s) [] p at) (port_is_declared p n input port) named)
              (is_run.inputs cycle.0 (omega (arith, cycle.1)) p n at port is.other);
        }

    pub trace_fits : IsFittingTrace (design_of s) t
    trace_fits = record { registers = register_fits; inputs = input_fits }

    pub trace_full : IsFullFor s o t
    trace_full =
        record {
          registers = λ n is. (is_trace.registers.wanted n).1 is;
          cycles = is_trace.cycles;
          inputs = λ es n c is. ((cycle_there es c).2.wanted n).1 is;
        }

    pub inputs_in_order : CyclesInOrder t.inputs
    inputs_in_order = ordered_cycles t.inputs (λ es c. (cycle_there es c).2.in_order)

    module _ (sound : HasSoundModules (design_of s)) where
      narrow : (p : Placed) (n : Name) → IsPlacedIn (design_of s) p → object_width (placed_scope p n) ≤ 128
      narrow p n at = (objects_are_in_bounds (design_of s) p n sound at).narrow.0

      pub registers_small : AreSmall t.registers
      registers_small =
          small_entries t.registers
          (λ n x c.
          let v = register_fits n x c in
          let r = v.is_register in
          fits_small (placed_scope r.place r.own) x (narrow r.place r.own r.is_place) (v.fits r.place r.own r.is_place r.is_declared r.is_name))

      pub inputs_small : CyclesAreSmall t.inputs
      inputs_small =
          small_cycles t.inputs
          (λ es in_trace.
          small_entries es
          (λ n x c.
          let v = input_fits es n x in_trace c in
          let r = v.is_input in
          fits_small (placed_scope r.place n) x (narrow r.place n (placed_in (design_of s) [] r.place r.is_place)) (v.fits r.place r.is_place)))
