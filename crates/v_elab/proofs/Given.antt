-- What the tables at the start stand for, where registers and inputs have some values.
use Rattle.std.proofs.Common.{◌≡◌, ◌∙◌, ℕ, refl, ap, sym, subst, Bool, true, false, cond, ◌&&◌, take, drop, length, List, [], ◌∷◌, ◌++◌, ◌⊎◌, inl, inr, Option, Some, None, is_some, Contains}
use Rattle.std.specs.Prelude.{IsTrue}
use Rattle.std.proofs.lemmas.Bool.{cases_Bool, false≢true, true≢false}
use Rattle.std.proofs.lemmas.List.{take-append-drop, length-map}
use Rattle.wb_values.specs.Value.{Name, Sort, Value, Entries, entry_of, Valuation, value_or_zero, HasSort}
use Rattle.model_meaning.specs.Term.{val}
use Rattle.verilog_trees.specs.Syntax.{Statement, Item}
use Rattle.verilog_meaning.specs.Expression.{Scope}
use Rattle.verilog_meaning.specs.Register.{value_bit, is_bit_of, counts, clocked_blocks}
use Rattle.verilog_meaning.specs.Settled.{IsValueOf}
use Rattle.verilog_designs.specs.Names.{is_among}
use Rattle.wb_terms.specs.Graph.{Graph, tree}
use Rattle.wb_terms.specs.Environment.{values_by_name}
use Rattle.verilog_unique.proofs.Descent.{IsAmong, among_either, among_contains}
use Rattle.v_lower.specs.Lowered.{StandsFor}
use Rattle.v_settle.specs.OneModule.{is_driven, IsSettledFrom}
use Rattle.v_design.specs.Parts.{Parts, registers_of, inputs_of, at_cycle}
use Rattle.v_design.specs.Design.{values_under, FitRegisters}
use Rattle.v_registers.specs.Registers.{IsRegister}
use Rattle.v_elab.specs.Kept.{FitsNames, IsKept, IsGiven, IsWorth}
use Rattle.v_elab.specs.Names.{AreEntriesOf, chosen}
use Rattle.v_elab.specs.Elaborated.{Body, IsElaborated, register_names}
use Rattle.v_elab.specs.Cycles.{HasSettled}
use Rattle.v_elab.proofs.Environment.{found_first, found_second, sorted_at}
use Rattle.v_elab.proofs.Entries.{first_entries, last_entries, of_entry, an_entry, is_named, not_named}
use Rattle.v_elab.proofs.Once.{test_among, among_test, told, Found, found, from_other, a_register}
use Rattle.v_elab.proofs.Sorts.{of_value}

-- ---- names that are chosen

pub chosen_among : (f : Name → Bool) (ns : List Name) (n : Name) → IsAmong (chosen f ns) n → IsAmong ns n × (f n ≡ true)
chosen_among f [] n h = absurd h
chosen_among f (m ∷ ns) n h = by (f m) refl h (chosen_among f ns n)
  where
    by : (t : Bool) → f m ≡ t → IsAmong (cond t (m ∷ chosen f ns) (chosen f ns)) n → (IsAmong (chosen f ns) n → IsAmong ns n × (f n ≡ true))
        → ((m ≡ n) ⊎ IsAmong ns n) × (f n ≡ true)
    by true e (inl i) g = (inl i, ap f (sym i) ∙ e)
    by true e (inr k) g = let r = g k in (inr r.0, r.1)
    by false e k g = let r = g k in (inr r.0, r.1)

pub among_chosen : (f : Name → Bool) (ns : List Name) (n : Name) → IsAmong ns n → f n ≡ true → IsAmong (chosen f ns) n
among_chosen f [] n h e = h
among_chosen f (m ∷ ns) n h e = by (f m) refl h (λ k. among_chosen f ns n k e)
  where
    by : (t : Bool) → f m ≡ t → (m ≡ n) ⊎ IsAmong ns n → (IsAmong ns n → IsAmong (chosen f ns) n) → IsAmong (cond t (m ∷ chosen f ns) (chosen f ns)) n
    by true q (inl i) g = inl i
    by true q (inr k) g = inr (g k)
    by false q (inl i) g = absurd (false≢true (sym q ∙ ap f i ∙ e))
    by false q (inr k) g = g k

pub image_value : Graph → Valuation → Option ℕ → Value → Value
image_value g p None y = y
image_value g p (Some id) y = val (tree g id) p

no_image : (o : Option ℕ) → is_some o ≡ false → o ≡ None
no_image None h = refl
no_image (Some id) h = absurd (true≢false h)

pub an_image : (o : Option ℕ) → is_some o ≡ true → (id : ℕ) × (o ≡ Some id)
an_image None h = absurd (false≢true h)
an_image (Some id) h = (id, refl)

pub worth_fits : (s : Scope) (q : List Statement) (g : Graph) (b : Bool) (n : Name) (id : ℕ) (p : Valuation) → IsWorth s q g b n id → FitsNames g p → IsValueOf (s n) (val (tree g id) p)
worth_fits s q g true n id p h k = h.fits p k
worth_fits s q g false n id p h k = h.fits p k

module _ (b : Body) (f : Name → Bool) (os : List Name) (e : Parts) (x : IsElaborated b f os e)
    (apart : (n : Name) → f n ≡ true → ¬ IsRegister b.scope (clocked_blocks b.items) n) (among : (n : Name) → f n ≡ true → IsAmong b.declared n) where
  abbrev s : Scope
  s = b.scope

  abbrev ck : List Statement
  ck = clocked_blocks b.items

  abbrev ds : List Name
  ds = b.declared

  abbrev items : List Item
  items = b.items

  -- ---- names

  so_many : e.register_count ≡ length (register_names x.registers)
  so_many = x.counted ∙ sym (length-map x.registers (λ c. c.of_name))

  pub first_part : AreEntriesOf s (register_names x.registers) (registers_of e)
  first_part =
      subst (λ k. AreEntriesOf s (register_names x.registers) (take k e.graph.names)) (sym so_many)
      (first_entries s (register_names x.registers) (chosen f x.others) e.graph.names x.entries)

  pub last_part : AreEntriesOf s (chosen f x.others) (inputs_of e)
  last_part =
      subst (λ k. AreEntriesOf s (chosen f x.others) (drop k e.graph.names)) (sym so_many)
      (last_entries s (register_names x.registers) (chosen f x.others) e.graph.names x.entries)

  both_parts : registers_of e ++ inputs_of e ≡ e.graph.names
  both_parts = take-append-drop e.register_count e.graph.names

  pub of_register : (n : Name) → IsAmong (register_names x.registers) n → Found s ck ds x.registers n
  of_register n h = found s ck ds x.registers x.others n x.split h

  pub of_input : (n : Name) → IsAmong (chosen f x.others) n → IsAmong ds n × (f n ≡ true) × ¬ IsRegister s ck n
  of_input n h =
      let c = chosen_among f x.others n h in
      let o = from_other s ck ds x.registers x.others n x.split c.0 in
      (o.0, c.1, o.1)

  pub an_input : (n : Name) → f n ≡ true → IsAmong (chosen f x.others) n
  an_input n t =
      elim (told s ck ds x.registers x.others n x.split (among n t)) as (λ _. IsAmong (chosen f x.others) n) [
        | inl k ↦ absurd (apart n t (of_register n k).is.is_register)
        | inr k ↦ among_chosen f x.others n k t
      ]

  no_register_input : (n : Name) → IsAmong (chosen f x.others) n → ¬ IsAmong (register_names x.registers) n
  no_register_input n h k = (of_input n h).2 (of_register n k).is.is_register

  module _ (registers inputs : Valuation) where
    -- ---- the environment

    abbrev pub env : Valuation
    env = at_cycle e (values_under (registers_of e) registers) (values_under (inputs_of e) inputs)

    by_both : (n : Name) → env n ≡ value_or_zero (entry_of (values_by_name (registers_of e ++ inputs_of e) (values_under (registers_of e) registers ++ values_under (inputs_of e) inputs)) n)
    by_both n = ap (λ ns. value_or_zero (entry_of (values_by_name ns (values_under (registers_of e) registers ++ values_under (inputs_of e) inputs)) n)) (sym both_parts)

    pub at_register : (n : Name) → IsAmong (register_names x.registers) n → env n ≡ registers n
    at_register n h =
        let t = an_entry s (register_names x.registers) (registers_of e) n first_part h in
        by_both n ∙ ap value_or_zero (found_first (registers_of e) (inputs_of e) registers inputs n (is_named (registers_of e) n t.0 t.1))

    pub at_input : (n : Name) → IsAmong (chosen f x.others) n → env n ≡ inputs n
    at_input n h =
        let t = an_entry s (chosen f x.others) (inputs_of e) n last_part h in
        by_both n
        ∙ ap value_or_zero
        (found_second (registers_of e) (inputs_of e) registers inputs n (not_named s (register_names x.registers) (registers_of e) n first_part (no_register_input n h))
        (is_named (inputs_of e) n t.0 t.1))

    module _ (fit : FitRegisters e registers) (fit_inputs : (n : Name) → f n ≡ true → IsValueOf (s n) (inputs n)) where
      input_value : (n : Name) → IsAmong (chosen f x.others) n → IsValueOf (s n) (inputs n)
      input_value n h = fit_inputs n (of_input n h).1

      pub fits_names : FitsNames e.graph env
      fits_names n t h = by (among_either (registers_of e) (inputs_of e) (n, t) (subst (λ es. IsAmong es (n, t)) (sym both_parts) (among_contains e.graph.names (n, t) h)))
        where
          by : IsAmong (registers_of e) (n, t) ⊎ IsAmong (inputs_of e) (n, t) → HasSort (env n) t
          by (inl k) =
              let o = of_entry s (register_names x.registers) (registers_of e) n t first_part k in
              subst (λ y. HasSort y t) (sym (at_register n o.0)) (sorted_at (registers_of e) registers n t fit k)
          by (inr k) =
              let o = of_entry s (chosen f x.others) (inputs_of e) n t last_part k in
              subst (λ y. HasSort y t) (sym (at_input n o.0)) (of_value (s n) t (inputs n) o.1 (input_value n o.0))

      pub fits_start : FitsNames x.start env
      fits_start n t h = fits_names n t (subst (λ (es : Entries Sort). Contains es (n, t)) x.start_names h)

      -- ---- the tables

      pub image_of : (n : Name) → IsAmong ds n → (id : ℕ) × (x.given n ≡ Some id)
      image_of n h = an_image (x.given n) (x.all_given n ∙ test_among ds n h)

      pub first_of : (n : Name) → IsAmong ds n → (id : ℕ) × (x.first n ≡ Some id)
      first_of n h = an_image (x.first n) (x.all_first n ∙ test_among ds n h)

      pub given_valuation : Valuation → Valuation
      given_valuation v n = image_value x.start env (x.given n) (v n)

      pub first_valuation : Valuation → Valuation
      first_valuation v n = image_value x.start env (x.first n) (v n)

      pub given_stands : (v : Valuation) → StandsFor s x.given x.start env (given_valuation v)
      unfolding given_valuation image_value
      given_stands v =
          record {
            fits = λ n id k. subst (λ o. IsValueOf (s n) (image_value x.start env o (v n))) (sym k)
                (worth_fits s ck x.start (f n) n id env (x.is_start.image n id k).1 fits_start);
            same = λ n id k. ap (λ o. image_value x.start env o (v n)) (sym k);
          }

      pub first_stands : (v : Valuation) → StandsFor s x.first x.start env (first_valuation v)
      unfolding first_valuation image_value
      first_stands v =
          record {
            fits = λ n id k. subst (λ o. IsValueOf (s n) (image_value x.start env o (v n))) (sym k) ((x.is_start.next_image n id k).1.fits env fits_start);
            same = λ n id k. ap (λ o. image_value x.start env o (v n)) (sym k);
          }

      -- what counts of a name's own value is what counts of the register
      own_bit : (n : Name) (k b : ℕ) → IsAmong ds n → (value_bit (env n) k b && counts s ck n k b) ≡ (value_bit (registers n) k b && counts s ck n k b)
      own_bit n k b h = by (counts s ck n k b) refl
        where
          and_false : (a c : Bool) → (a && false) ≡ (c && false)
          and_false true true = refl
          and_false true false = refl
          and_false false true = refl
          and_false false false = refl

          by : (t : Bool) → counts s ck n k b ≡ t → (value_bit (env n) k b && t) ≡ (value_bit (registers n) k b && t)
          by false q = and_false (value_bit (env n) k b) (value_bit (registers n) k b)
          by true q =
              ap (λ y. value_bit y k b && true)
              (at_register n (a_register s ck ds x.registers x.others n x.split h (inl (record { word = k; bit = b; counts = q }))))

      pub first_bit : (v : Valuation) (n : Name) (k b : ℕ) → IsAmong ds n
          → value_bit (first_valuation v n) k b ≡ (value_bit (registers n) k b && counts s ck n k b)
      unfolding first_valuation image_value
      first_bit v n k b h =
          let i = first_of n h in
          ap (λ o. value_bit (image_value x.start env o (v n)) k b) i.1
          ∙ (x.is_start.next_image n i.0 i.1).1.bits env k b fits_start ∙ own_bit n k b h

      -- the same of the first table, but for inputs
      kept_bit : (v : Valuation) (n : Name) (k b : ℕ) → IsAmong ds n → f n ≡ false
          → value_bit (given_valuation v n) k b ≡ (value_bit (registers n) k b && counts s ck n k b)
      unfolding given_valuation image_value
      kept_bit v n k b h q =
          let i = image_of n h in
          let w : IsKept s ck x.start n i.0 = subst (λ t. IsWorth s ck x.start t n i.0) q (x.is_start.image n i.0 i.1).1 in
          ap (λ o. value_bit (image_value x.start env o (v n)) k b) i.1 ∙ w.bits env k b fits_start ∙ own_bit n k b h

      given_value : (v : Valuation) (n : Name) → IsAmong ds n → f n ≡ true → given_valuation v n ≡ inputs n
      unfolding given_valuation image_value
      given_value v n h q =
          let i = image_of n h in
          let w : IsGiven s x.start n i.0 = subst (λ t. IsWorth s ck x.start t n i.0) q (x.is_start.image n i.0 i.1).1 in
          ap (λ o. image_value x.start env o (v n)) i.1 ∙ w.same env ∙ at_input n (an_input n q)

      and_true : (a t : Bool) → t ≡ true → (a && t) ≡ a
      and_true true t h = h
      and_true false t h = refl

      and_no : (a t : Bool) → t ≡ false → (a && t) ≡ false
      and_no true t h = h
      and_no false t h = refl

      none_given : (v : Valuation) (n : Name) → x.given n ≡ None → given_valuation v n ≡ v n
      unfolding given_valuation image_value
      none_given v n z = ap (λ o. image_value x.start env o (v n)) z

      -- what has settled has settled from what is given
      pub is_settled_from : (v : Valuation) → HasSettled b f registers inputs v → IsSettledFrom s items x.given (given_valuation v) v
      is_settled_from v settled =
          record {
            fits = λ n id k. settled.fits n (sym (x.all_given n) ∙ ap is_some k);
            assigned = settled.assigned;
            combinational = settled.combinational;
            given = λ n k c there free. by n k c there free (cases_Bool (is_among ds n));
          }
        where
          among_so : (n : Name) (k c : ℕ) → IsTrue (is_bit_of (s n) k c) → is_driven s items n k c ≡ false → is_among ds n ≡ true
              → (f n ≡ true) ⊎ (f n ≡ false) → value_bit (v n) k c ≡ value_bit (given_valuation v n) k c
          among_so n k c there free t (inl g) =
              settled.inputs_held n k c t g ∙ ap (λ y. value_bit y k c) (sym (given_value v n (among_test ds n t) g))
          among_so n k c there free t (inr g) = counted (cases_Bool (counts s ck n k c))
            where
              counted : (counts s ck n k c ≡ true) ⊎ (counts s ck n k c ≡ false) → value_bit (v n) k c ≡ value_bit (given_valuation v n) k c
              counted (inl z) = settled.held n k c t z ∙ sym (kept_bit v n k c (among_test ds n t) g ∙ and_true (value_bit (registers n) k c) (counts s ck n k c) z)
              counted (inr z) = settled.unset n k c t there free z g ∙ sym (kept_bit v n k c (among_test ds n t) g ∙ and_no (value_bit (registers n) k c) (counts s ck n k c) z)

          by : (n : Name) (k c : ℕ) → IsTrue (is_bit_of (s n) k c) → is_driven s items n k c ≡ false → (is_among ds n ≡ true) ⊎ (is_among ds n ≡ false)
              → value_bit (v n) k c ≡ value_bit (given_valuation v n) k c
          by n k c there free (inl t) = among_so n k c there free t (cases_Bool (f n))
          by n k c there free (inr t) = ap (λ y. value_bit y k c) (sym (none_given v n (no_image (x.given n) (x.all_given n ∙ t))))
