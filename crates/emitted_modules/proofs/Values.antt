-- In a settled valuation each kept wire has the value of its term at the point where an instruction would start.
use Rattle.std.proofs.Common.{◌≡◌, ℕ, ◌+◌, ◌-◌, ◌<◌, ◌≤◌, ◌^◌, Bool, true, false, cond, not, ◌&&◌, ◌==◌, ◌⊎◌, inl, inr, [], ◌∷◌, ◌++◌, map, length, Option, Some, None, refl, sym, ◌∙◌, ap, subst, arith}
use Rattle.std.specs.Prelude.{IsTrue}
use Rattle.std.proofs.lemmas.Bool.{cases_lt, eq-eqb}
use Rattle.wb_values.specs.Value.{Name, Sort, truth, word, memory, Value, truth_value, number, words, as_words, Valuation}
use Rattle.wb_values.specs.Choice.{some_if}
use Rattle.model_meaning.specs.Term.{is_sort, is_memory_sort, sort_of, load_sort}
use Rattle.model_meaning.specs.Model.{StateDeclaration, InputDeclaration, state_named}
use Rattle.verilog_meaning.specs.Expression.{bit, is_nonzero}
use Rattle.verilog_meaning.specs.Settled.{whole_name, IsDeclared}
use Rattle.term_expressions.specs.Expressions.{IsWorth, IsAssigned, bits_of}
use Rattle.term_expressions.proofs.Names.{name_is_its_value}
use Rattle.term_expressions.proofs.Shifts.{standing_is_assigned}
use Rattle.wb_terms.specs.declared.nodes.TermId.{TermId}
use Rattle.wb_terms.specs.declared.nodes.Node.{Node}
use Rattle.wb_terms.specs.declared.nodes.Node.TheVariants.{Load}
use Rattle.wb_terms.specs.Graph.{tree, tree_of_node, names_of, AllBelow}
use Rattle.wb_terms.proofs.InRange.{is_sort-sort_of}
use Rattle.ila_model.specs.declared.parts.Parts.{Parts}
use Rattle.ila_model.specs.Scope.{tops}
use Rattle.ila_model.specs.Sorted.{name_at, sort_at}
use Rattle.ila_model.proofs.Declarations.{declared_states-at, declared_inputs-at}
use Rattle.refinement.specs.Map.{Setting}
use Rattle.refinement.specs.Run.{Run, IsRun}
use Rattle.refinement.specs.Refinement.{state_at, inputs_at}
use Rattle.emitted_designs.specs.Map.{setting_of}
use Rattle.emitted_designs.specs.Module.{top_of}
use Rattle.emitted_designs.specs.Cycles.{start_point}
use Rattle.emitted_designs.proofs.Named.{no_input}
use Rattle.emitted_modules.specs.Rtl.{Wire, Rtl, bits_of_sort, module_of}
use Rattle.emitted_modules.specs.Nodes.{node_at, operand, expression_of, is_leaf, wire_name_of, sort_or_truth, wire_for, has_wire, word_wire, word_wires, words_for, node_wires}
use Rattle.emitted_modules.specs.Kept.{IsKept}
use Rattle.emitted_modules.specs.Module.{decodes_of, decode_wires, all_ways, memories_from, emitted_module}
use Rattle.emitted_modules.specs.Laws.{IsFlatModel}
use Rattle.emitted_modules.proofs.Names.{Among, among_left, among_right, among_map}
use Rattle.emitted_modules.proofs.Declared.{scope_in, given_net, register_net, wire_net}
use Rattle.emitted_modules.proofs.Nets.{IsPlain, plain_net, input_plain, register_plain, register_memory, wire_plain, is_declared}
use Rattle.emitted_modules.proofs.NetWidths.{IsBitsSort}
use Rattle.emitted_modules.proofs.Settled.{IsSettledFor, HasNumber, HasWords, net_number, net_words, wire_has}
use Rattle.emitted_modules.proofs.Computed.{Worth}
use Rattle.emitted_modules.proofs.Joined.{Given, SlicedBy}
use Rattle.emitted_modules.proofs.Formed.{IsDone}
use Rattle.emitted_modules.proofs.Trees.{tree_is}
use Rattle.emitted_modules.proofs.Loaded.{WordsAreRead}
use Rattle.emitted_modules.proofs.Nodes.{NamesAreRead, WiresAreRead, done}
use Rattle.emitted_modules.proofs.WireNames.{wires_of, wire_kept, word_wire_there}
use Rattle.emitted_modules.proofs.Reading.{sort_value, settled_at, read_value, state_read, input_read, state_is_named, sort_is}
use Rattle.emitted_modules.proofs.Points.{IsHeldAs, IsMemoryHeld, IsNameHeld, net_worth, net_sliced, net_read}
use Rattle.emitted_modules.proofs.Next.{some_address}
use Rattle.term_expressions.specs.Laws.{IsMemory}
use Rattle.refinement.specs.Map.{mapped_value}
use Rattle.emitted_modules.proofs.Model.{among_got}
use Rattle.emitted_modules.proofs.Facts.{model, rtl, sorted_parts, state_sorts, state_bits, input_bits, inputs_distinct, states_distinct, state_bytes, input_bytes, own}

pub no_memory : (u : Sort) → IsBitsSort u → is_memory_sort u ≡ false
no_memory truth h = refl
no_memory (word w) h = refl
no_memory (memory a d) h = absurd h

pub nonzero_bit : (b : Bool) → is_nonzero (bit b) ≡ b
nonzero_bit true = refl
nonzero_bit false = refl

module _ (name : Name) (p : Parts) (keep : ℕ → Bool) (h : IsFlatModel name p) (kept : IsKept p keep)
    (run : Run) (cycles : ℕ) (is_run : IsRun (setting_of (model name p keep h) (emitted_module name p keep)) run cycles) (t : ℕ) (le : t ≤ cycles) where
  abbrev pub setting : Setting
  setting = setting_of (model name p keep h) (emitted_module name p keep)

  abbrev pub r : Rtl
  r = rtl name p keep h

  abbrev pub v : Valuation
  v = run.valuations t

  abbrev pub point : Valuation
  point = start_point setting run t

  pub settled : IsSettledFor r v
  settled = settled_at (model name p keep h) r refl run cycles t is_run le

  -- ---- states and inputs

  register_there : (e : StateDeclaration) → Among e r.registers → IsDeclared (top_of (module_of r)) e.state_name
  register_there e k =
      is_declared r (register_net e)
      (inr (inr (inr (among_right (register_net e) _ (map register_net r.registers ++ map wire_net r.wires)
      (among_left (register_net e) (map register_net r.registers) (map wire_net r.wires) (among_map register_net e r.registers k))))))

  -- what a state means at the point
  state_means : (d : StateDeclaration) → Among d r.registers → point d.state_name ≡ mapped_value setting v d.sort (whole_name d.state_name)
  state_means d at =
      let found : state_named r.registers d.state_name ≡ Some d = state_is_named r.registers d (states_distinct name p keep h) at in
      ap (λ b. cond b (inputs_at setting run t d.state_name) (state_at setting run t d.state_name))
      (no_input (model name p keep h) d.state_name d h.is_model found)
      ∙ state_read (model name p keep h) r refl run t d.state_name d found

  pub state_held : (d : StateDeclaration) → Among d r.registers → IsBitsSort d.sort → IsHeldAs r v d.state_name d.sort (point d.state_name)
  state_held d at bits =
      let plain : IsPlain r d.state_name d.sort = register_plain r (own name p keep h) d at bits in
      let x : HasNumber v d.state_name (bits_of_sort d.sort) = net_number r (own name p keep h) v settled d.state_name d.sort plain (register_there d at) in
      record {
        bits = bits;
        plain = plain;
        held = x.0;
        has = x.1;
        fits = x.2;
        means =
            state_means d at
            ∙ read_value (model name p keep h) r refl v d.state_name d.sort x.0 (state_bytes name p keep h d at) bits plain x.1 x.2;
      }

  pub memory_held : (d : StateDeclaration) (a w : ℕ) → Among d r.registers → d.sort ≡ memory a w → IsMemoryHeld r v d.state_name a w (point d.state_name)
  memory_held d a w at e =
      let sorted : is_sort (memory a w) ≡ true = ap is_sort (sym e) ∙ state_sorts name p keep h d at in
      let mem : IsMemory (scope_in r) d.state_name a w = register_memory r (own name p keep h) d a w at e (state_sorts name p keep h d at) in
      let x : HasWords v d.state_name a w = net_words r (own name p keep h) v settled d.state_name a w mem (some_address a w sorted) (register_there d at) in
      record {
        is_memory = mem;
        held = x.0;
        has = x.1;
        fits = x.2;
        means =
            state_means d at
            ∙ (ap (λ t2. mapped_value setting v t2 (whole_name d.state_name)) e ∙ ap (λ y. words (as_words y)) x.1);
      }

  -- by its sort
  state_held_by : (d : StateDeclaration) → Among d r.registers → IsNameHeld r v d.state_name d.sort (point d.state_name)
  state_held_by d at = by_sort d.sort refl
    where
      by_sort : (u : Sort) → d.sort ≡ u → IsNameHeld r v d.state_name u (point d.state_name)
      by_sort truth e =
          subst (λ u. IsHeldAs r v d.state_name u (point d.state_name)) e (state_held d at (state_bits name p keep h d at (ap is_memory_sort e)))
      by_sort (word w) e =
          subst (λ u. IsHeldAs r v d.state_name u (point d.state_name)) e (state_held d at (state_bits name p keep h d at (ap is_memory_sort e)))
      by_sort (memory a w) e = memory_held d a w at e

  pub input_held : (i : InputDeclaration) → Among i r.inputs → IsHeldAs r v i.input_name i.sort (point i.input_name)
  input_held i at =
      let plain : IsPlain r i.input_name i.sort = input_plain r (own name p keep h) i at (input_bits name p keep h i at) in
      let x : HasNumber v i.input_name (bits_of_sort i.sort) = net_number r (own name p keep h) v settled i.input_name i.sort plain (input_there i at) in
      record {
        bits = input_bits name p keep h i at;
        plain = plain;
        held = x.0;
        has = x.1;
        fits = x.2;
        means =
            ap (λ b. cond b (inputs_at setting run t i.input_name) (state_at setting run t i.input_name))
            (sort_is r.inputs i (inputs_distinct name p keep h) at).0
            ∙ (input_read (model name p keep h) r refl run t i (inputs_distinct name p keep h) at
            ∙ read_value (model name p keep h) r refl v i.input_name i.sort x.0 (input_bytes name p keep h i at) (input_bits name p keep h i at) plain x.1 x.2);
      }
    where
      input_there : (j : InputDeclaration) → Among j r.inputs → IsDeclared (top_of (module_of r)) j.input_name
      input_there j k =
          is_declared r (given_net j)
          (inr (inr (inr (among_left (given_net j) _ (map register_net r.registers ++ map wire_net r.wires)
          (among_left (given_net j) (map given_net r.inputs) _ (among_map given_net j r.inputs k))))))

  input_held_by : (i : InputDeclaration) → Among i r.inputs → IsNameHeld r v i.input_name i.sort (point i.input_name)
  input_held_by i at = by_sort i.sort (input_held i at)
    where
      by_sort : (u : Sort) → IsHeldAs r v i.input_name u (point i.input_name) → IsNameHeld r v i.input_name u (point i.input_name)
      by_sort truth g = g
      by_sort (word w) g = g
      by_sort (memory a w) g = absurd g.bits

  -- the name at a place of the table, of a state or an input
  name_held : (j : ℕ) → j < tops p → IsNameHeld r v (name_at p.terms.names j) (sort_at p.terms.names j) (point (name_at p.terms.names j))
  name_held j low = by_place (cases_lt j (length p.initial_values.items))
    where
      by_place : (j < length p.initial_values.items) ⊎ (length p.initial_values.items ≤ j)
          → IsNameHeld r v (name_at p.terms.names j) (sort_at p.terms.names j) (point (name_at p.terms.names j))
      by_place (inl less) =
          state_held_by _
          (among_got r.registers j _
          (declared_states-at p.terms.names p.initial_values.items j None less (sorted_parts name p keep h).declared.states_within))
      by_place (inr more) =
          let back : length p.initial_values.items + (j - length p.initial_values.items) ≡ j = omega (arith, more) in
          subst (λ i. IsNameHeld r v (name_at p.terms.names i) (sort_at p.terms.names i) (point (name_at p.terms.names i))) back
          (input_held_by _
          (among_got r.inputs (j - length p.initial_values.items) _
          (declared_inputs-at p.inputs (length p.initial_values.items) p.terms.names (j - length p.initial_values.items) (omega (arith, low, more))
          (sorted_parts name p keep h).declared.within)))

  names_read : NamesAreRead (scope_in r) v p.terms point keep
  names_read k n low is_kept e =
      let below : AllBelow (tops p) (n.0 ∷ []) = subst (λ (m : Node). AllBelow (tops p) (names_of m)) e (kept.names k low is_kept) in
      net_read r v (name_at p.terms.names n.0) (sort_at p.terms.names n.0) (point (name_at p.terms.names n.0)) (name_held n.0 below.0)

  -- ---- wires

  abbrev HasGiven : ℕ → Sort → Value → Type 0
  HasGiven k u y =
      (x : ℕ) × IsAssigned (scope_in r) v (expression_of p.terms k (node_at p.terms k)) (bits_of_sort u) x × (x < 2 ^ bits_of_sort u) × (y ≡ sort_value u x)

  number_given : (k : ℕ) (u : Sort) (y : Value) → IsBitsSort u → Given (scope_in r) v (expression_of p.terms k (node_at p.terms k)) (Some u) y → HasGiven k u y
  number_given k truth y bits (b, e, g) = (bit b, g.0, g.1, e ∙ ap truth_value (sym (nonzero_bit b)))
  number_given k (word w) y bits (x, e, g) = (x, g.0, g.1, e)
  number_given k (memory a d) y bits g = absurd bits

  -- a wire that is given a number of its sort has it
  pub wire_number : (w : Wire) (u : Sort) (x : ℕ) → Among w r.wires → w.sort ≡ u → IsBitsSort u
      → IsAssigned (scope_in r) v w.expression (bits_of_sort u) x → x < 2 ^ bits_of_sort u → IsPlain r w.wire_name u × (v w.wire_name ≡ number x)
  wire_number w u x at same bits given low =
      let wire_bits : IsBitsSort w.sort = subst IsBitsSort (sym same) bits in (
        subst (IsPlain r w.wire_name) same (wire_plain r (own name p keep h) w at wire_bits),
        wire_has r (own name p keep h) v settled w x at wire_bits
            (subst (λ z. IsAssigned (scope_in r) v w.expression (bits_of_sort z) x) (sym same) given)
            (subst (λ z. x < 2 ^ bits_of_sort z) (sym same) low),
      )

  pub wire_worth : (w : Wire) (u : Sort) (x : ℕ) → Among w r.wires → w.sort ≡ u → IsBitsSort u → IsWorth (scope_in r) v w.expression (bits_of_sort u) x
      → IsWorth (scope_in r) v (whole_name w.wire_name) (bits_of_sort u) x
  wire_worth w u x at same bits worth =
      let z = wire_number w u x at same bits (standing_is_assigned (scope_in r) v w.expression (bits_of_sort u) x worth) worth.fits in
      name_is_its_value (scope_in r) v w.wire_name (bits_of_sort u) x (plain_net r w.wire_name u z.0) z.1 worth.fits

  -- the wires of a node that is kept
  node_wire_there : (k : ℕ) (w : Wire) → k < length p.terms.nodes → keep k ≡ true → has_wire p.terms k (node_at p.terms k) ≡ true
      → Among w (wires_of p.terms k (node_at p.terms k)) → Among w r.wires
  node_wire_there k w low is_kept wired at =
      among_left w (node_wires p.terms keep 0 p.terms.nodes)
      (decode_wires (decodes_of p.terms p.instructions.items) ++ all_ways p.terms (memories_from p.terms 0 p.instructions.items))
      (wire_kept p.terms keep p.terms.nodes 0 k w low (subst (λ i. keep i ≡ true) (sym (from_start k)) is_kept)
      (subst (λ i. has_wire p.terms i (node_at p.terms k) ≡ true) (sym (from_start k)) wired)
      (subst (λ i. Among w (wires_of p.terms i (node_at p.terms k))) (sym (from_start k)) at))
    where
      from_start : (i : ℕ) → 0 + i ≡ i
      from_start i = omega arith

  bits_wired : (k : ℕ) (u : Sort) → is_leaf (node_at p.terms k) ≡ false → IsBitsSort u → sort_of (tree p.terms k) ≡ Some u
      → has_wire p.terms k (node_at p.terms k) ≡ true
  bits_wired k u no_leaf bits e =
      ap (λ b. not b && not (is_memory_sort (sort_or_truth (sort_of (tree p.terms k))))) no_leaf
      ∙ ap (λ o. not (is_memory_sort (sort_or_truth o))) e ∙ ap not (no_memory u bits)

  wire_held : (k : ℕ) (u : Sort) (y : Value) → k < length p.terms.nodes → keep k ≡ true → is_leaf (node_at p.terms k) ≡ false
      → IsBitsSort u → sort_of (tree p.terms k) ≡ Some u → Given (scope_in r) v (expression_of p.terms k (node_at p.terms k)) (Some u) y → IsHeldAs r v (wire_name_of k) u y
  wire_held k u y low is_kept no_leaf bits e g =
      let w : Wire = wire_for p.terms k (node_at p.terms k) in
      let at : Among w r.wires =
      node_wire_there k w low is_kept (bits_wired k u no_leaf bits e)
      (among_right w (words_for p.terms k (node_at p.terms k)) (w ∷ []) (inl refl)) in
      let x : HasGiven k u y = number_given k u y bits g in
      let z = wire_number w u x.0 at (ap sort_or_truth e) bits x.1 x.2 in
      record { bits = bits; plain = z.0; held = x.0; has = z.1; fits = x.2; means = x.3 }

  wires_read : WiresAreRead (scope_in r) v p.terms point keep
  wires_read k y low is_kept no_leaf given = by_sort (sort_of (tree p.terms k)) refl given
    where
      by_sort : (o : Option Sort) → sort_of (tree p.terms k) ≡ o → Given (scope_in r) v (expression_of p.terms k (node_at p.terms k)) o y
          → Worth (scope_in r) v (whole_name (wire_name_of k)) o y × SlicedBy (scope_in r) v (bits_of (wire_name_of k)) o y
      by_sort None e g = (tt, tt)
      by_sort (Some truth) e g =
          let held : IsHeldAs r v (wire_name_of k) truth y = wire_held k truth y low is_kept no_leaf tt e g in
          (net_worth r v (wire_name_of k) truth y held, net_sliced r v (wire_name_of k) truth y held)
      by_sort (Some (word w)) e g =
          let held : IsHeldAs r v (wire_name_of k) (word w) y =
          wire_held k (word w) y low is_kept no_leaf (is_sort-sort_of (tree p.terms k) (word w) e) e g in
          (net_worth r v (wire_name_of k) (word w) y held, net_sliced r v (wire_name_of k) (word w) y held)
      by_sort (Some (memory a d)) e g = (g, tt)

  -- ---- words of memories

  same_width : (n : ℕ) → (n == n) ≡ true
  same_width n = eq-eqb n n refl

  -- the sort of a load
  load_sorted : (l : ℕ) (m i : TermId) (a d : ℕ) → l < length p.terms.nodes → node_at p.terms l ≡ Load m i → sort_of (tree p.terms m.0) ≡ Some (memory a d)
      → sort_of (tree p.terms i.0) ≡ Some (word a) → sort_of (tree p.terms l) ≡ Some (word d)
  load_sorted l m i a d low e of_memory of_address =
      ap sort_of (tree_is p.terms l h.stored.ordered low ∙ ap (tree_of_node p.terms) e)
      ∙ (ap (λ o. load_sort o (sort_of (tree p.terms i.0))) of_memory
      ∙ (ap (λ o. load_sort (Some (memory a d)) o) of_address ∙ ap (λ b. some_if b (word d)) (same_width a)))

  words_read : WordsAreRead (scope_in r) v p.terms point keep
  words_read l m i a d k x low is_kept e of_memory of_address before part worth =
      let sorted : sort_of (tree p.terms l) ≡ Some (word d) = load_sorted l m i a d low e of_memory of_address in
      let bits : IsBitsSort (word d) = is_sort-sort_of (tree p.terms l) (word d) sorted in
      let w : Wire = word_wire p.terms l (operand p.terms i.0) k in
      let among : Among w (wires_of p.terms l (Load m i)) =
      among_left w (word_wires p.terms l (operand p.terms i.0) m.0 l) (wire_for p.terms l (Load m i) ∷ [])
      (word_wire_there p.terms l (operand p.terms i.0) m.0 l k before part) in
      wire_worth w (word d) x
      (node_wire_there l w low is_kept (bits_wired l (word d) (ap is_leaf e) bits sorted) (subst (λ n. Among w (wires_of p.terms l n)) (sym e) among))
      (ap sort_or_truth sorted) bits worth

  pub node_done : (k : ℕ) → k < length p.terms.nodes → IsTrue (keep k) → IsDone (scope_in r) v p.terms point k
  node_done =
      done (scope_in r) v p.terms point keep
      (record { ordered = h.stored.ordered; named = names_read; wired = wires_read; words = words_read; closed = kept.operands })
