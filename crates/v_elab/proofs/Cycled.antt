-- What a cycle makes of what was elaborated.
use Rattle.std.proofs.Common.{◌≡◌, ◌∙◌, ℕ, ◌<◌, zero, suc, refl, ap, sym, Bool, true, false, ◌&&◌, map, drop, slice_index, List, [], ◌∷◌, ◌⊎◌, inl, inr, Option, Some, arith}
use Rattle.std.specs.Prelude.{IsTrue}
use Rattle.std.proofs.lemmas.Bool.{cases_Bool, cases_lt, false≢true, true≢false}
use Rattle.std.proofs.lemmas.Bool.Decides.{nat_tests}
use Rattle.wb_values.specs.Value.{Name, Sort, Value, truth_value, number as a_number, words, Entries, entry_of, Valuation, value_or_zero}
use Rattle.model_meaning.specs.Term.{val}
use Rattle.verilog_trees.specs.Syntax.{Statement}
use Rattle.verilog_meaning.specs.Expression.{Object, Scope, object_width, is_memory}
use Rattle.verilog_meaning.specs.Statement.{with_updates}
use Rattle.verilog_meaning.specs.Register.{value_bit, is_set, is_bit_of, word_count, counts, one_may_assign, after_edge, updates_of_blocks, clocked_blocks}
use Rattle.verilog_meaning.specs.Settled.{IsValueOf, names_of}
use Rattle.wb_terms.specs.Environment.{values_by_name}
use Rattle.verilog_settled.specs.Locality.{HasNoConstantMemory}
use Rattle.verilog_settled.proofs.Bits.{unset_past}
use Rattle.verilog_settled.proofs.Names.{some_word}
use Rattle.verilog_settled.proofs.Values.{Alike, alike_values}
use Rattle.verilog_settled.proofs.Cells.{never_spoiled}
use Rattle.verilog_unique.proofs.Descent.{IsAmong}
use Rattle.v_operators.proofs.Growing.{tree_kept}
use Rattle.v_lower.specs.Lowered.{Images, StandsFor}
use Rattle.v_design.specs.Registers.{CountedBits}
use Rattle.v_design.specs.Parts.{Parts, registers_of, inputs_of, under_names, value_in, registers_after}
use Rattle.v_design.specs.Design.{values_under, FitRegisters, after_cycle}
use Rattle.v_registers.specs.Registers.{IsRegister, Counted}
use Rattle.v_elab.specs.Elaborated.{Body, IsElaborated, register_names, bits_of}
use Rattle.v_elab.specs.Cycles.{HasSettled, IsCycled}
use Rattle.v_elab.proofs.Environment.{found}
use Rattle.v_elab.proofs.Entries.{an_entry, is_named, names_are}
use Rattle.v_elab.proofs.Once.{test_among, among_test, a_register}
use Rattle.v_elab.proofs.Updates.{Same, Unset, same_updates, unset_updates, blocks_fit, blocks_apart}
use Rattle.v_elab.proofs.Given.{an_image, first_part, env, first_of, given_valuation, first_valuation, given_stands, first_stands, first_bit, is_settled_from}

-- ---- bits out of range

in_range : (o : Object) (k b : ℕ) → k < word_count o → b < object_width o → is_bit_of o k b ≡ true
in_range o k b l m = grind (arith, nat_tests, l, m)

-- out of range a value of an object has no bit that is set (this stands in `verilog_exists` too, where it is private)
unset_outside : (o : Object) (x : Value) (k b : ℕ) → IsValueOf o x → is_bit_of o k b ≡ false → value_bit x k b ≡ false
unset_outside o (truth_value t) k b h e = refl
unset_outside o (a_number x) (suc k) b h e = refl
unset_outside o (a_number x) zero b h e =
    elim (cases_lt b (object_width o)) as (λ _. is_set x b ≡ false) [
      | inl l ↦ absurd (false≢true (sym e ∙ in_range o 0 b (some_word o.addresses) l))
      | inr l ↦ unset_past (object_width o) x b h.1 l
    ]
unset_outside o (words xs) k b h e =
    elim (cases_lt b (object_width o)) as (λ _. is_set (slice_index xs k) b ≡ false) [
      | inl l ↦ elim (cases_lt k (word_count o)) as (λ _. is_set (slice_index xs k) b ≡ false) [
        | inl m ↦ absurd (false≢true (sym e ∙ in_range o k b m l))
        | inr m ↦ ap (λ y. is_set y b) (h.1.past k m) ∙ unset_past 0 0 b (omega arith) (omega arith)
      ]
      | inr l ↦ unset_past (object_width o) (slice_index xs k) b (h.1.narrow k) l
    ]

-- ---- lists in step

-- the masks that stand under a register's name
pub masks_under : (s : Scope) (cs : List Counted) (es : Entries Sort) (n : Name) (c : CountedBits) → names_of es ≡ register_names cs
    → IsAmong (under_names es (map (bits_of s) cs)) (n, c) → (k : Counted) × IsAmong cs k × (k.of_name ≡ n) × (bits_of s k ≡ c)
masks_under s [] [] n c e h = absurd h
masks_under s [] (x ∷ es) n c e h = absurd h
masks_under s (k ∷ cs) [] n c e h = absurd h
masks_under s (k ∷ cs) (x ∷ es) n c e (inl i) =
    (k, inl refl, sym (ap (first_name x.0) e) ∙ ap (λ (y : Name × CountedBits). y.0) i, ap (λ (y : Name × CountedBits). y.1) i)
  where
    first_name : Name → List Name → Name
    first_name d [] = d
    first_name d (m ∷ ms) = m
masks_under s (k ∷ cs) (x ∷ es) n c e (inr i) = let r = masks_under s cs es n c (ap (drop 1) e) i in (r.0, inr r.1, r.2, r.3)

-- values of next terms, in the order of the registers
next_values : (F : ℕ → Value) (W : Valuation) (images : Images) (ns : List Name) (ids : List ℕ) → map (λ id. Some id) ids ≡ map images ns
    → ((n : Name) (id : ℕ) → images n ≡ Some id → F id ≡ W n) → map F ids ≡ map W ns
next_values F W images [] [] e h = refl
next_values F W images [] (id ∷ ids) e h = absurd (true≢false (ap some_list e))
  where
    some_list : List (Option ℕ) → Bool
    some_list [] = false
    some_list (x ∷ xs) = true
next_values F W images (n ∷ ns) [] e h = absurd (false≢true (ap some_list e))
  where
    some_list : List (Option ℕ) → Bool
    some_list [] = false
    some_list (x ∷ xs) = true
next_values F W images (n ∷ ns) (id ∷ ids) e h =
    ap (λ y. y ∷ map F ids) (h n id (sym (ap (first_option (Some id)) e)))
    ∙ ap (λ ys. W n ∷ ys) (next_values F W images ns ids (ap (drop 1) e) h)
  where
    first_option : Option ℕ → List (Option ℕ) → Option ℕ
    first_option d [] = d
    first_option d (x ∷ xs) = x

names_map : (W : Valuation) (es : Entries Sort) → map W (names_of es) ≡ map (λ x. W x.0) es
names_map W [] = refl
names_map W (x ∷ es) = ap (λ ys. W x.0 ∷ ys) (names_map W es)

-- ---- a cycle

module _ (b : Body) (f : Name → Bool) (os : List Name) (e : Parts) (x : IsElaborated b f os e)
    (apart : (n : Name) → f n ≡ true → ¬ IsRegister b.scope (clocked_blocks b.items) n) (among : (n : Name) → f n ≡ true → IsAmong b.declared n) where
  abbrev s : Scope
  s = b.scope

  abbrev ck : List Statement
  ck = clocked_blocks b.items

  abbrev ds : List Name
  ds = b.declared

  abbrev rn : List Name
  rn = register_names x.registers

  pub a_declared : (n : Name) → IsAmong ds n → IsRegister s ck n → IsAmong rn n
  a_declared n h r = a_register s ck ds x.registers x.others n x.split h r

  pub names_of_registers : names_of (registers_of e) ≡ rn
  names_of_registers = names_are s rn (registers_of e) (first_part b f os e x apart among)

  -- the term of a net or variable
  pub settled_term : (n : Name) → IsAmong ds n → is_memory (s n) ≡ false → (id : ℕ) × (e.settled n ≡ Some id) × (x.after n ≡ Some id)
  settled_term n h plain =
      let g = an_image (x.after n) (x.updated.names n ∙ x.evaluated.names n ∙ x.all_given n ∙ test_among ds n h) in
      (g.0, x.settled n ∙ g.1, g.1)

  module _ (no_memory : HasNoConstantMemory b.scope) (registers inputs v : Valuation) (fit : FitRegisters e registers)
      (fit_inputs : (n : Name) → f n ≡ true → IsValueOf (b.scope n) (inputs n)) (settled : HasSettled b f registers inputs v) where
    abbrev p : Valuation
    p = env b f os e x apart among registers inputs

    abbrev u : Valuation
    u = first_valuation b f os e x apart among registers inputs fit fit_inputs v

    -- the nets have settled
    stands_settled : StandsFor s x.nets x.middle p v
    stands_settled =
        x.evaluated.stands p (given_valuation b f os e x apart among registers inputs fit fit_inputs v) v
        (given_stands b f os e x apart among registers inputs fit fit_inputs v)
        (is_settled_from b f os e x apart among registers inputs fit fit_inputs v settled)

    stands_first : StandsFor s x.first x.middle p u
    stands_first =
        let st = first_stands b f os e x apart among registers inputs fit fit_inputs v in
        record {
          fits = st.fits;
          same = λ n id k. ap (λ t. val t p) (tree_kept id x.grows (x.is_start.next_image n id k).0.of_sort.below) ∙ st.same n id k;
        }

    stands_after : StandsFor s x.after e.graph p v
    stands_after = x.updated.stands p v u stands_settled stands_first

    abbrev w : Valuation
    w = with_updates s u (updates_of_blocks s v ck)

    stands_next : StandsFor s x.next e.graph p w
    stands_next = x.updated.stands_next p v u stands_settled stands_first

    -- the registers after the edge
    next_of : (n : Name) → IsAmong ds n → (id : ℕ) × (x.next n ≡ Some id)
    next_of n h = an_image (x.next n) (x.updated.names_next n ∙ x.all_first n ∙ test_among ds n h)

    fits_next : (n : Name) → IsAmong ds n → IsValueOf (s n) (w n)
    fits_next n h = let g = next_of n h in stands_next.fits n g.0 g.1

    after_is : (n : Name) → IsAmong rn n → after_cycle e registers inputs n ≡ w n
    after_is n h =
        let t = an_entry s rn (registers_of e) n (first_part b f os e x apart among) h in
        let values : registers_after e (values_under (registers_of e) registers) (values_under (inputs_of e) inputs) ≡ map (λ y. w y.0) (registers_of e) =
        next_values (value_in e (values_under (registers_of e) registers) (values_under (inputs_of e) inputs)) w x.next rn e.next x.next_terms stands_next.same
        ∙ ap (map w) (sym names_of_registers) ∙ names_map w (registers_of e) in
        ap (λ ys. value_or_zero (entry_of (values_by_name (registers_of e) ys) n)) values
        ∙ ap value_or_zero (found (registers_of e) w n (is_named (registers_of e) n t.0 t.1))

    first_fits : (n : Name) → IsAmong ds n → IsValueOf (s n) (u n)
    first_fits n h = let g = first_of b f os e x apart among registers inputs fit fit_inputs n h in stands_first.fits n g.0 g.1

    and_true : (a t : Bool) → t ≡ true → (a && t) ≡ a
    and_true true t h = h
    and_true false t h = refl

    and_no : (a t : Bool) → t ≡ false → (a && t) ≡ false
    and_no true t h = h
    and_no false t h = refl

    stepped : (n : Name) (k c : ℕ) → IsAmong ds n → IsTrue (counts s ck n k c) → value_bit (after_cycle e registers inputs n) k c ≡ value_bit (after_edge s ck v n) k c
    stepped n k c h t =
        ap (λ y. value_bit y k c) (after_is n (a_declared n h (inl (record { word = k; bit = c; counts = t }))))
        ∙ by (same_updates s n k c u v (updates_of_blocks s v ck) (blocks_fit s v ck) (inl (alike, same_bit)))
      where
        alike : Alike (s n) (u n) (v n)
        alike = alike_values (s n) (u n) (v n) (first_fits n h) (settled.fits n (test_among ds n h))

        same_bit : value_bit (u n) k c ≡ value_bit (v n) k c
        same_bit =
            first_bit b f os e x apart among registers inputs fit fit_inputs v n k c h ∙ and_true (value_bit (registers n) k c) (counts s ck n k c) t
            ∙ sym (settled.held n k c (test_among ds n h) t)

        by : Same (s n) k c (w n) (after_edge s ck v n) → value_bit (w n) k c ≡ value_bit (after_edge s ck v n) k c
        by (inl g) = g.1
        by (inr g) = absurd (never_spoiled (s n) (w n) (w n) (alike_values (s n) (w n) (w n) (fits_next n h) (fits_next n h)) g)

    rested : (n : Name) (k c : ℕ) → IsRegister s ck n → IsAmong ds n → counts s ck n k c ≡ false
        → value_bit (after_cycle e registers inputs n) k c ≡ false
    rested n k c r h z = ap (λ y. value_bit y k c) (after_is n (a_declared n h r)) ∙ by (cases_Bool (is_bit_of (s n) k c))
      where
        bit_free : (a t : Bool) → a ≡ true → (a && t) ≡ false → t ≡ false
        bit_free true t q g = g
        bit_free false t q g = absurd (false≢true q)

        start : value_bit (u n) k c ≡ false
        start =
            first_bit b f os e x apart among registers inputs fit fit_inputs v n k c h ∙ and_no (value_bit (registers n) k c) (counts s ck n k c) z

        at_end : Unset (s n) k c (w n) → value_bit (w n) k c ≡ false
        at_end (inl g) = g.1
        at_end (inr g) = absurd (never_spoiled (s n) (w n) (w n) (alike_values (s n) (w n) (w n) (fits_next n h) (fits_next n h)) g)

        by : (is_bit_of (s n) k c ≡ true) ⊎ (is_bit_of (s n) k c ≡ false) → value_bit (w n) k c ≡ false
        by (inr q) = unset_outside (s n) (w n) k c (fits_next n h) q
        by (inl q) =
            at_end (unset_updates s n k c u (updates_of_blocks s v ck) (blocks_fit s v ck)
            (blocks_apart s no_memory n k c v ck (bit_free (is_bit_of (s n) k c) (one_may_assign s ck n k c) q z))
            (inl (alike_values (s n) (u n) (u n) (first_fits n h) (first_fits n h), start)))

    pub is_cycled : IsCycled b e registers inputs v
    is_cycled =
        record {
          settles = λ n h plain. let g = settled_term n (among_test ds n h) plain in (g.0, g.1, stands_after.same n g.0 g.2);
          steps = λ n k c h t. stepped n k c (among_test ds n h) t;
          rests = λ n k c r h z. rested n k c r (among_test ds n h) z;
        }
