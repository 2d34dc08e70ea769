-- What the map of an emitted module reads of it.
use Rattle.std.proofs.Common.{◌≡◌, ℕ, ◌<◌, ◌≤◌, ◌^◌, Bool, true, false, cond, ◌==◌, inl, inr, List, [], ◌∷◌, map, Some, None, refl, sym, ◌∙◌, ap, subst, arith}
use Rattle.std.specs.Prelude.{option_map}
use Rattle.std.specs.List.{list_all}
use Rattle.std.proofs.lemmas.Bool.{and_parts}
use Rattle.std.proofs.lemmas.Bool.Decides.{nat_tests}
use Rattle.wb_values.specs.Value.{Name, same_name, Sort, truth, word, memory, Value, truth_value, number, Valuation, entry_of}
use Rattle.wb_values.specs.Names.{is_name_byte}
use Rattle.model_meaning.specs.Model.{Model, StateDeclaration, InputDeclaration, states_of, state_named, is_input_name}
use Rattle.verilog_meaning.specs.Expression.{Object, object_width, self_value, is_nonzero}
use Rattle.verilog_meaning.specs.Hierarchy.{constants_of, no_overrides}
use Rattle.verilog_meaning.specs.Settled.{at_path, whole_name}
use Rattle.term_expressions.specs.Laws.{IsPlainNet}
use Rattle.term_expressions.proofs.Names.{name_is_its_value}
use Rattle.term_expressions.proofs.Shifts.{by_itself}
use Rattle.refinement.specs.Map.{Setting, design_of, map_scope, dotted_parts, with_character, object_at, object_in, mapped_value, mapped_or_zero, sort_of_state, sort_of_input}
use Rattle.refinement.specs.Run.{Run, IsRun}
use Rattle.refinement.specs.Refinement.{state_at, inputs_at}
use Rattle.emitted_designs.specs.Map.{setting_of, emitted_map, in_byte_order, by_their_names}
use Rattle.emitted_designs.specs.Module.{top_of}
use Rattle.emitted_designs.specs.Cycles.{held_value, held_point}
use Rattle.emitted_designs.proofs.Named.{same_of, same_if, state_entry, found_among_all}
use Rattle.emitted_modules.specs.Rtl.{Rtl, bits_of_sort, module_of}
use Rattle.emitted_modules.proofs.Names.{Among, AreDistinct, differs_in, among_map}
use Rattle.emitted_modules.proofs.Declared.{scope_in}
use Rattle.emitted_modules.proofs.Nets.{IsPlain}
use Rattle.emitted_modules.proofs.NetWidths.{IsBitsSort}
use Rattle.emitted_modules.proofs.Settled.{IsSettledFor}

-- ---- names without dots

no_dot : (c : ℕ) → is_name_byte c ≡ true → (c == 46) ≡ false
no_dot c h = grind (arith, nat_tests, h)

pub one_part : (n : Name) → list_all is_name_byte n ≡ true → dotted_parts n ≡ n ∷ []
one_part [] h = refl
one_part (c ∷ cs) h =
    let parts : (is_name_byte c ≡ true) × (list_all is_name_byte cs ≡ true) = and_parts (is_name_byte c) (list_all is_name_byte cs) h in
    ap (λ b. cond b ([] ∷ dotted_parts cs) (with_character c (dotted_parts cs))) (no_dot c parts.0)
    ∙ ap (with_character c) (one_part cs parts.1)

-- ---- values of sorts

abbrev pub sort_value : Sort → ℕ → Value
sort_value truth x = truth_value (is_nonzero x)
sort_value (word w) x = number x
sort_value (memory a d) x = number 0

module _ (m : Model) (r : Rtl) (named : r.called ≡ m.model_name) where
  abbrev pub setting : Setting
  setting = setting_of m (module_of r)

  pub placed : at_path (design_of setting) [] ≡ Some (top_of (module_of r))
  placed =
      ap
      (λ b. option_map (λ k. record { path = []; of_module = k; constants = constants_of k no_overrides }) (cond b (Some (module_of r)) None))
      (same_of r.called m.model_name named)

  pub settled_at : (run : Run) (cycles t : ℕ) → IsRun setting run cycles → t ≤ cycles → IsSettledFor r (run.valuations t)
  settled_at run cycles t is_run le =
      let h = (is_run.settled t le).modules (top_of (module_of r)) placed in
      record { fits = h.fits; assigned = h.assigned }

  read_object : (n : Name) → list_all is_name_byte n ≡ true → map_scope setting n ≡ scope_in r n
  read_object n h = ap (object_at (design_of setting) []) (one_part n h) ∙ ap (λ o. object_in o n) placed

  read_net : (n : Name) (t : Sort) → list_all is_name_byte n ≡ true → IsPlain r n t → IsPlainNet (map_scope setting) n (bits_of_sort t)
  read_net n t h plain = record {
    width = ap object_width (read_object n h) ∙ plain.width;
    unsigned = ap (λ (o : Object). o.signed) (read_object n h) ∙ plain.unsigned;
    no_memory = ap (λ (o : Object). o.addresses) (read_object n h) ∙ plain.no_memory;
    no_parameter = ap (λ (o : Object). o.constant) (read_object n h) ∙ plain.no_parameter;
  }

  pub read_number : (v : Valuation) (n : Name) (t : Sort) (x : ℕ) → list_all is_name_byte n ≡ true → IsPlain r n t → v n ≡ number x
      → x < 2 ^ bits_of_sort t → self_value (map_scope setting) v (whole_name n) ≡ x
  read_number v n t x h plain e low =
      by_itself (map_scope setting) v (whole_name n) (bits_of_sort t) x
      (name_is_its_value (map_scope setting) v n (bits_of_sort t) x (read_net n t h plain) e low)

  pub read_value : (v : Valuation) (n : Name) (t : Sort) (x : ℕ) → list_all is_name_byte n ≡ true → IsBitsSort t → IsPlain r n t → v n ≡ number x
      → x < 2 ^ bits_of_sort t → mapped_value setting v t (whole_name n) ≡ sort_value t x
  read_value v n truth x h bits plain e low = ap (λ y. truth_value (is_nonzero y)) (read_number v n truth x h plain e low)
  read_value v n (word w) x h bits plain e low = ap number (read_number v n (word w) x h plain e low)
  read_value v n (memory a d) x h bits plain e low = absurd bits

  -- ---- states

  pub state_read : (run : Run) (t : ℕ) (n : Name) (d : StateDeclaration) → state_named (states_of m.top) n ≡ Some d
      → state_at setting run t n ≡ mapped_value setting (run.valuations t) d.sort (whole_name n)
  state_read run t n d e =
      ap (λ o. mapped_or_zero setting (run.valuations t) (sort_of_state o) (entry_of (emitted_map m).states n)) e
      ∙ ap (λ o. mapped_or_zero setting (run.valuations t) (Some d.sort) o) (state_entry (states_of m.top) n d e)

  pub held_read : (run : Run) (t : ℕ) (n : Name) (d : StateDeclaration) → state_named (states_of m.top) n ≡ Some d
      → held_point setting run t n ≡ mapped_value setting (run.valuations t) d.sort (whole_name n)
  held_read run t n d e = ap (λ o. held_value setting (run.valuations t) o n) (found_among_all m n d e)

-- ---- names of states and inputs

pub named_state : (ss : List StateDeclaration) (n : Name) (d : StateDeclaration) → state_named ss n ≡ Some d → Among d ss × (d.state_name ≡ n)
named_state [] n d e = cc
named_state (s ∷ ss) n d e = by_test (same_name s.state_name n) refl e (λ f. named_state ss n d f)
  where
    by_test : (b : Bool) → same_name s.state_name n ≡ b → cond b (Some s) (state_named ss n) ≡ Some d
        → (state_named ss n ≡ Some d → Among d ss × (d.state_name ≡ n)) → Among d (s ∷ ss) × (d.state_name ≡ n)
    by_test true same f more = let alike : s ≡ d = cc in (inl alike, ap (λ (x : StateDeclaration). x.state_name) (sym alike) ∙ same_if s.state_name n same)
    by_test false other f more = let k = more f in (inr k.0, k.1)

pub state_is_named : (ss : List StateDeclaration) (d : StateDeclaration) → AreDistinct (map (λ s. s.state_name) ss) → Among d ss
    → state_named ss d.state_name ≡ Some d
state_is_named [] d a h = absurd h
state_is_named (s ∷ ss) d a (inl e) =
    ap (λ b. cond b (Some s) (state_named ss d.state_name)) (same_of s.state_name d.state_name (ap (λ (x : StateDeclaration). x.state_name) e)) ∙ ap Some e
state_is_named (s ∷ ss) d a (inr h) =
    ap (λ b. cond b (Some s) (state_named ss d.state_name))
    (differs_in s.state_name d.state_name (map (λ x. x.state_name) ss) a.0 (among_map (λ (x : StateDeclaration). x.state_name) d ss h))
    ∙ state_is_named ss d a.1 h

pub sort_is : (is : List InputDeclaration) (i : InputDeclaration) → AreDistinct (map (λ x. x.input_name) is) → Among i is
    → (is_input_name is i.input_name ≡ true) × (sort_of_input is i.input_name ≡ Some i.sort)
sort_is [] i a h = absurd h
sort_is (x ∷ is) i a (inl e) =
    let same : same_name x.input_name i.input_name ≡ true = same_of x.input_name i.input_name (ap (λ (y : InputDeclaration). y.input_name) e) in (
      ap (λ b. cond b true (is_input_name is i.input_name)) same,
      ap (λ b. cond b (Some x.sort) (sort_of_input is i.input_name)) same ∙ ap (λ (y : InputDeclaration). Some y.sort) e,
    )
sort_is (x ∷ is) i a (inr h) =
    let other : same_name x.input_name i.input_name ≡ false =
    differs_in x.input_name i.input_name (map (λ y. y.input_name) is) a.0 (among_map (λ (y : InputDeclaration). y.input_name) i is h) in
    let more = sort_is is i a.1 h in (
      ap (λ b. cond b true (is_input_name is i.input_name)) other ∙ more.0,
      ap (λ b. cond b (Some x.sort) (sort_of_input is i.input_name)) other ∙ more.1,
    )

-- an input stands in the map under its name, as a state would
abbrev as_state : InputDeclaration → StateDeclaration
as_state i = record { state_name = i.input_name; sort = i.sort; init = None }

same_names : (is : List InputDeclaration) → map (λ s. s.state_name) (map as_state is) ≡ map (λ i. i.input_name) is
same_names [] = refl
same_names (i ∷ is) = ap (λ ns. i.input_name ∷ ns) (same_names is)

pub input_entry : (is : List InputDeclaration) (i : InputDeclaration) → AreDistinct (map (λ x. x.input_name) is) → Among i is
    → entry_of (by_their_names (in_byte_order (map (λ x. x.input_name) is))) i.input_name ≡ Some (whole_name i.input_name)
input_entry is i a h =
    ap (λ ns. entry_of (by_their_names (in_byte_order ns)) i.input_name) (sym (same_names is))
    ∙ state_entry (map as_state is) i.input_name (as_state i)
    (state_is_named (map as_state is) (as_state i) (subst AreDistinct (sym (same_names is)) a) (among_map as_state i is h))

pub input_read : (m : Model) (r : Rtl) (named : r.called ≡ m.model_name) (run : Run) (t : ℕ) (i : InputDeclaration)
    → AreDistinct (map (λ x. x.input_name) m.inputs) → Among i m.inputs
    → inputs_at (setting m r named) run t i.input_name ≡ mapped_value (setting m r named) (run.valuations t) i.sort (whole_name i.input_name)
input_read m r named run t i a h =
    ap (λ o. mapped_or_zero (setting m r named) (run.valuations t) o (entry_of (emitted_map m).inputs i.input_name)) (sort_is m.inputs i a h).1
    ∙ ap (λ o. mapped_or_zero (setting m r named) (run.valuations t) (Some i.sort) o) (input_entry m.inputs i a h)
