-- The emitted module of a model can be printed.
use Rattle.std.proofs.Common.{◌≡◌, ℕ, zero, suc, ◌+◌, ◌<◌, ◌≤◌, ◌^◌, Bool, true, false, cond, ◌&&◌, List, [], ◌∷◌, ◌++◌, map, length, drop, codes, Option, Some, None, option_map, IsTrue, refl, subst, arith}
use Rattle.std.specs.Prelude.{nat_le}
use Rattle.std.proofs.lemmas.Bool.{false≢true, and_parts}
use Rattle.std.proofs.lemmas.Bool.Decides.{nat_tests}
use Rattle.std.proofs.lemmas.List.{length-map}
use Rattle.wb_values.specs.Value.{Name, Sort, truth, word, memory, Entries}
use Rattle.wb_values.specs.Names.{is_model_name}
use Rattle.model_meaning.specs.Term.{is_sort, sort_of}
use Rattle.model_meaning.specs.Model.{InputDeclaration}
use Rattle.verilog_trees.specs.Syntax.{Expression, Direction, input, output, Statement, if_then}
use Rattle.verilog_meaning.specs.Settled.{whole_name}
use Rattle.term_expressions.specs.Expressions.{sized}
use Rattle.wb_terms.specs.declared.values.Value.{Value}
use Rattle.wb_terms.specs.declared.values.Value.TheVariants.{Truth as TruthValue, Number, Words}
use Rattle.wb_terms.specs.declared.nodes.Node.{Node}
use Rattle.wb_terms.specs.declared.nodes.Node.TheVariants.{Truth}
use Rattle.wb_terms.specs.Graph.{AllBelow, operands_of, tree}
use Rattle.wb_terms.specs.Environment.{as_value}
use Rattle.ila_model.specs.declared.parts.Update.{Update}
use Rattle.ila_model.specs.declared.parts.Instruction.{Instruction}
use Rattle.ila_model.specs.declared.parts.Parts.{Parts}
use Rattle.ila_model.specs.Meaning.{declared_states, declared_inputs}
use Rattle.ila_model.specs.Sorted.{sort_at, are_distinct, are_declarations, are_states, is_top_initial}
use Rattle.emitted_designs.specs.Names.{start_name, commit_name}
use Rattle.emitted_modules.specs.Rtl.{Wire, port_of, input_port, port_list, register_item, wire_item, in_order, takes, first_value, first_take, first_takes, kept_word, kept_words, writes, guarded_statements, all_guarded}
use Rattle.emitted_modules.specs.Nodes.{node_at, called_at, operand, sort_or_truth, has_wire, words_for, wire_for, node_wires}
use Rattle.emitted_modules.specs.Stores.{MemoryUpdate, via_wires, stores_of}
use Rattle.emitted_modules.specs.Module.{none_wire, one_wire, decode_wires, decodes_of, update_for, is_of_memory, updates_for, memory_update, memory_updates, all_stores, all_ways, memories_for, guarded_for, guarded_from, memories_from, emitted_module}
use Rattle.emitted_names.specs.Within.{AreUpdatesWithin, IsWithin, AreWithin}
use Rattle.emitted_names.proofs.Bounds.{bounds}
use Rattle.emitted_names.proofs.Looked.{below_more}
use Rattle.emitted_names.proofs.Turns.{head_at, tail_at}
use Rattle.v_print.specs.Printable.{IsPrintable, IsPrintableName, IsPrintableStatement, ArePrintableStatements, Each, EachOfSome, IsPrintablePort, IsPrintableItem, IsPrintableModule}
use Rattle.emitted_texts.specs.Fitting.{IsFitting, IsPrintedModel}
use Rattle.emitted_texts.proofs.Stored.{in_range}
use Rattle.emitted_texts.proofs.Pieces.{each_joined, each_mapped, each_when, each_if, model_bytes, at_most, sized_printed, model_printed, control_printed, term_name_printed, none_name_printed, one_name_printed, range_printed, addresses_printed}
use Rattle.emitted_texts.proofs.Forms.{IsWirePrinted, IsStorePrinted, IsUpdatePrinted, operand_printed, expression_printed, words_printed, vias_printed, stores_printed}

-- ---- declarations

-- each name of the table is legal, and has a sort in range
abbrev AreDeclared : Entries Sort → Type 0
AreDeclared ns = (k : ℕ) → k < length ns → (is_model_name (called_at ns k) ≡ true) × IsTrue (is_sort (sort_at ns k))

declared_later : (n : Name × Sort) (ns : Entries Sort) → AreDeclared (n ∷ ns) → AreDeclared ns
declared_later n ns h = λ k low. h (suc k) (omega (arith, low))

declared_behind : (d : ℕ) (ns : Entries Sort) → AreDeclared ns → AreDeclared (drop d ns)
declared_behind zero ns h = h
declared_behind (suc d) [] h = h
declared_behind (suc d) (n ∷ ns) h = declared_behind d ns (declared_later n ns h)

declared_name : (n : Name × Sort) (ns : Entries Sort) → AreDeclared (n ∷ ns) → IsPrintableName n.0
declared_name n ns h = model_printed n.0 (h 0 (omega arith)).0

declared_sort : (n : Name × Sort) (ns : Entries Sort) → AreDeclared (n ∷ ns) → IsTrue (is_sort n.1)
declared_sort n ns h = (h 0 (omega arith)).1

port_printed : (d : Direction) (n : Name) (t : Sort) → IsPrintableName n → IsTrue (is_sort t) → IsPrintablePort (port_of d n t)
port_printed d n t name sort = (range_printed t sort, (name, tt))

inputs_printed : (m : ℕ) (ns : Entries Sort) → AreDeclared ns → Each IsPrintablePort (map input_port (declared_inputs m ns))
inputs_printed zero ns h = tt
inputs_printed (suc m) [] h = tt
inputs_printed (suc m) (n ∷ ns) h =
    (port_printed input n.0 n.1 (declared_name n ns h) (declared_sort n ns h), inputs_printed m ns (declared_later n ns h))

ports_printed : (is : List InputDeclaration) → Each IsPrintablePort (map input_port is) → EachOfSome IsPrintablePort (port_list is)
ports_printed is h = (
  port_printed input (codes "wb_clk") truth (control_printed (codes "clk") refl) refl,
  (
    port_printed input (codes "wb_rst") truth (control_printed (codes "rst") refl) refl,
    (
      port_printed input (codes "wb_go") truth (control_printed (codes "go") refl) refl,
      each_joined IsPrintablePort (map input_port is) (port_of output start_name truth ∷ port_of output commit_name truth ∷ []) h (
        port_printed output (codes "wb_start") truth (control_printed (codes "start") refl) refl,
        (port_printed output (codes "wb_commit") truth (control_printed (codes "commit") refl) refl, tt),
      ),
    ),
  ),
)

registers_printed : (ns : Entries Sort) (is : List (Option Value)) → AreDeclared ns → Each IsPrintableItem (map register_item (declared_states ns is))
registers_printed [] is h = tt
registers_printed (n ∷ ns) [] h = tt
registers_printed (n ∷ ns) (i ∷ is) h = (
  (range_printed n.1 (declared_sort n ns h), ((declared_name n ns h, addresses_printed n.1 (declared_sort n ns h)), tt)),
  registers_printed ns is (declared_later n ns h),
)

-- ---- what registers take in reset

bit_fits : (b : Bool) → IsPrintable (sized 1 (cond b 1 0))
bit_fits true = sized_printed 1 1 (omega arith) (omega arith) (omega arith)
bit_fits false = sized_printed 1 0 (omega arith) (omega arith) (omega arith)

first_printed : (n : Name) (t : Sort) (i : Option Value) → IsPrintableName n → IsTrue (is_sort t) → is_top_initial t i ≡ true
    → IsPrintable (first_value n t (option_map as_value i))
first_printed n t None name r h = (name, tt)
first_printed n truth (Some (TruthValue b)) name r h = bit_fits b
first_printed n truth (Some (Number x)) name r h = absurd (false≢true h)
first_printed n truth (Some (Words xs)) name r h = absurd (false≢true h)
first_printed n (word w) (Some (TruthValue b)) name r h = absurd (false≢true h)
first_printed n (word w) (Some (Number x)) name r h =
    let p = and_parts (nat_le 1 w) (nat_le w 128) r in
    sized_printed w x (at_most 1 w p.0) (at_most w 128 p.1) (grind (arith, nat_tests, h))
first_printed n (word w) (Some (Words xs)) name r h = absurd (false≢true h)
first_printed n (memory a d) (Some x) name r h = absurd (false≢true h)

reset_index : IsPrintable (whole_name (codes "wb_rst"))
reset_index = (control_printed (codes "rst") refl, tt)

first_take_printed : (n : Name) (t : Sort) (i : Option Value) → IsPrintableName n → IsTrue (is_sort t) → is_top_initial t i ≡ true
    → Each IsPrintableStatement (map takes (first_take n t (option_map as_value i)))
first_take_printed n truth i name r h = (((name, tt), first_printed n truth i name r h), tt)
first_take_printed n (word w) i name r h = (((name, tt), first_printed n (word w) i name r h), tt)
first_take_printed n (memory a d) i name r h = tt

mapped_joined : {A : Type 0} (f : A → Statement) (xs ys : List A) → Each IsPrintableStatement (map f xs) → Each IsPrintableStatement (map f ys)
    → Each IsPrintableStatement (map f (xs ++ ys))
mapped_joined f [] ys h k = k
mapped_joined f (x ∷ xs) ys h k = (h.0, mapped_joined f xs ys h.1 k)

first_takes_printed : (ns : Entries Sort) (is : List (Option Value)) → AreDeclared ns → are_states false ns is ≡ true
    → Each IsPrintableStatement (map takes (first_takes (declared_states ns is)))
first_takes_printed [] is h s = tt
first_takes_printed (n ∷ ns) [] h s = tt
first_takes_printed (n ∷ ns) (i ∷ is) h s =
    let p = and_parts (is_top_initial n.1 i) (are_states false ns is) s in
    mapped_joined takes (first_take n.0 n.1 (option_map as_value i)) (first_takes (declared_states ns is))
    (first_take_printed n.0 n.1 i (declared_name n ns h) (declared_sort n ns h) p.0) (first_takes_printed ns is (declared_later n ns h) p.1)

kept_word_printed : (n : Name) (t : Sort) → IsPrintableName n → Each IsPrintableStatement (map writes (kept_word n t))
kept_word_printed n truth name = tt
kept_word_printed n (word w) name = tt
kept_word_printed n (memory a d) name = (((name, reset_index), (name, reset_index)), tt)

kept_words_printed : (ns : Entries Sort) (is : List (Option Value)) → AreDeclared ns → Each IsPrintableStatement (map writes (kept_words (declared_states ns is)))
kept_words_printed [] is h = tt
kept_words_printed (n ∷ ns) [] h = tt
kept_words_printed (n ∷ ns) (i ∷ is) h =
    mapped_joined writes (kept_word n.0 n.1) (kept_words (declared_states ns is)) (kept_word_printed n.0 n.1 (declared_name n ns h)) (kept_words_printed ns is (declared_later n ns h))

block_printed : (xs : List Statement) → Each IsPrintableStatement xs → ArePrintableStatements (in_order xs)
block_printed [] h = tt
block_printed (x ∷ xs) h = (h.0, block_printed xs h.1)

-- ---- wires

wires_printed : (ws : List Wire) → Each IsWirePrinted ws → Each IsPrintableItem (map wire_item ws)
wires_printed ws h = each_mapped IsPrintableItem wire_item ws h

no_more : {A : Type 0} (y : A) (ys : List A) → [] ≡ y ∷ ys → ⊥
no_more y ys e = cc

left_there : {A : Type 0} (xs : List A) (k : ℕ) (y : A) (ys : List A) → drop k xs ≡ y ∷ ys → k < length xs
left_there [] zero y ys e = absurd (no_more y ys e)
left_there [] (suc k) y ys e = absurd (no_more y ys e)
left_there (x ∷ xs) zero y ys e = omega arith
left_there (x ∷ xs) (suc k) y ys e = omega (arith, left_there xs k y ys e)

next : (k n : ℕ) → k < n → suc k ≤ n
next k n h = omega (arith, h)

module _ (name : Name) (p : Parts) (keep : ℕ → Bool) (h : IsPrintedModel name p) where
  few_terms : length p.terms.nodes < 2 ^ 64
  few_terms = h.stored.few

  inside : (k : ℕ) → k < length p.terms.nodes → AllBelow (length p.terms.nodes) (operands_of (node_at p.terms k))
  inside k low = below_more k (length p.terms.nodes) (operands_of (node_at p.terms k)) (omega (arith, low)) (h.stored.ordered k low)

  op : (k : ℕ) → k < length p.terms.nodes → IsPrintable (operand p.terms k)
  op k low = operand_printed p.terms few_terms h.fitting inside k low

  are_declared : AreDeclared p.terms.names
  are_declared = λ k low. (h.legal k low, h.stored.in_range k low)

  node_printed : (k : ℕ) (n : Node) → k < length p.terms.nodes → node_at p.terms k ≡ n → IsWirePrinted (wire_for p.terms k n)
  node_printed k n low e = (
    range_printed (sort_or_truth (sort_of (tree p.terms k))) (in_range (tree p.terms k)),
    (
      (
        term_name_printed k (omega (arith, low, few_terms)),
        expression_printed p.terms few_terms h.fitting inside k n low (subst (λ m. AllBelow (length p.terms.nodes) (operands_of m)) e (inside k low))
            (subst (IsFitting p.terms) e (h.fitting k low)),
      ),
      tt,
    ),
  )

  nodes_printed : (k : ℕ) (ns : List Node) → drop k p.terms.nodes ≡ ns → Each IsWirePrinted (node_wires p.terms keep k ns)
  nodes_printed k [] e = tt
  nodes_printed k (n ∷ ns) e =
      let low = left_there p.terms.nodes k n ns e in
      let is = head_at p.terms.nodes k n ns (Truth false) e in
      let below = subst (λ m. AllBelow (length p.terms.nodes) (operands_of m)) is (inside k low) in
      each_joined IsWirePrinted (cond (keep k && has_wire p.terms k n) (words_for p.terms k n ++ wire_for p.terms k n ∷ []) []) (node_wires p.terms keep (suc k) ns)
      (each_when IsWirePrinted (keep k && has_wire p.terms k n) (words_for p.terms k n ++ wire_for p.terms k n ∷ [])
      (each_joined IsWirePrinted (words_for p.terms k n) (wire_for p.terms k n ∷ []) (words_printed p.terms few_terms h.fitting inside k n low below)
      (node_printed k n low is, tt)))
      (nodes_printed (suc k) ns (tail_at p.terms.nodes k n ns e))

  decodes_printed : (ds : List Expression) → length ds < 2 ^ 64 → Each IsPrintable ds → Each IsWirePrinted (decode_wires ds)
  decodes_printed [] few e =
      ((tt, ((none_name_printed 0 (omega arith), bit_fits true), tt)), ((tt, ((one_name_printed 0 (omega arith), bit_fits false), tt)), tt))
  decodes_printed (d ∷ ds) few e =
      each_joined IsWirePrinted (decode_wires ds) (none_wire d (length ds) ∷ one_wire d (length ds) ∷ []) (decodes_printed ds (omega (arith, few)) e.1) (
        (tt, ((none_name_printed (suc (length ds)) (omega (arith, few)), (e.0, (none_name_printed (length ds) (omega (arith, few)), tt))), tt)),
        (
          (
            tt,
            (
              (
                one_name_printed (suc (length ds)) (omega (arith, few)),
                (e.0, (none_name_printed (length ds) (omega (arith, few)), tt), (one_name_printed (length ds) (omega (arith, few)), tt)),
              ),
              tt,
            ),
          ),
          tt,
        ),
      )

  conditions_printed : (is : List Instruction) → AreWithin p.terms is → Each IsPrintable (decodes_of p.terms is)
  conditions_printed [] w = tt
  conditions_printed (i ∷ is) w = (op i.decode.0 w.0.condition, conditions_printed is w.1)

  -- ---- what instructions do

  takes_printed : (d : Expression) (us : List Update) → IsPrintable d → AreUpdatesWithin p.terms us → Each IsPrintableStatement (map (λ u. if_then d (takes u)) (updates_for p.terms us))
  takes_printed d [] q w = tt
  takes_printed d (u ∷ us) q w = by_test (is_of_memory p.terms u) (takes_printed d us q w.2)
    where
      by_test : (b : Bool) → Each IsPrintableStatement (map (λ u. if_then d (takes u)) (updates_for p.terms us))
          → Each IsPrintableStatement (map (λ u. if_then d (takes u)) (cond b (updates_for p.terms us) (update_for p.terms u ∷ updates_for p.terms us)))
      by_test true rest = rest
      by_test false rest = ((q, ((model_printed _ (h.legal u.state.0 w.0), tt), op u.term.0 w.1)), rest)

  -- ---- memories

  update_printed : (j : ℕ) (d : Expression) (u : Update) → j < 2 ^ 64 → IsPrintable d → (u.state.0 < length p.terms.names) × (u.term.0 < length p.terms.nodes)
      → IsUpdatePrinted p.terms (memory_update p.terms j d u)
  update_printed j d u few q w =
      let name = h.legal u.state.0 w.0 in
      record {
        few = few;
        decode_printed = q;
        name_printed = model_printed (called_at p.terms.names u.state.0) name;
        bytes = model_bytes (called_at p.terms.names u.state.0) name;
        within = w.1;
      }

  updates_printed : (j : ℕ) (d : Expression) (us : List Update) → j < 2 ^ 64 → IsPrintable d → AreUpdatesWithin p.terms us
      → Each (IsUpdatePrinted p.terms) (memory_updates p.terms j d us)
  updates_printed j d [] few q w = tt
  updates_printed j d (u ∷ us) few q w =
      each_joined (IsUpdatePrinted p.terms) (cond (is_of_memory p.terms u) (memory_update p.terms j d u ∷ []) []) (memory_updates p.terms j d us)
      (each_if (IsUpdatePrinted p.terms) (is_of_memory p.terms u) (memory_update p.terms j d u) (update_printed j d u few q (w.0, w.1)))
      (updates_printed j d us few q w.2)

  all_printed : (us : List MemoryUpdate) → Each (IsUpdatePrinted p.terms) us → Each IsStorePrinted (all_stores p.terms us)
  all_printed [] e = tt
  all_printed (u ∷ us) e =
      each_joined IsStorePrinted (stores_of p.terms u (suc u.term)) (all_stores p.terms us)
      (stores_printed p.terms few_terms h.fitting inside u e.0 (suc u.term) (next u.term (length p.terms.nodes) e.0.within)) (all_printed us e.1)

  ways_printed : (us : List MemoryUpdate) → Each (IsUpdatePrinted p.terms) us → Each IsWirePrinted (all_ways p.terms us)
  ways_printed [] e = tt
  ways_printed (u ∷ us) e =
      each_joined IsWirePrinted (via_wires p.terms u (suc u.term)) (all_ways p.terms us)
      (vias_printed p.terms few_terms h.fitting inside u e.0 (suc u.term) (next u.term (length p.terms.nodes) e.0.within)) (ways_printed us e.1)

  memories_printed : (j : ℕ) (i : Instruction) → j < 2 ^ 64 → IsWithin p.terms i → Each (IsUpdatePrinted p.terms) (memories_for p.terms j i)
  memories_printed j i few w = updates_printed j (operand p.terms i.decode.0) i.updates.items few (op i.decode.0 w.condition) w.updated

  all_memories_printed : (j : ℕ) (is : List Instruction) → j + length is < 2 ^ 64 → AreWithin p.terms is → Each (IsUpdatePrinted p.terms) (memories_from p.terms j is)
  all_memories_printed j [] few w = tt
  all_memories_printed j (i ∷ is) few w =
      each_joined (IsUpdatePrinted p.terms) (memories_for p.terms j i) (memories_from p.terms (suc j) is) (memories_printed j i (omega (arith, few)) w.0)
      (all_memories_printed (suc j) is (omega (arith, few)) w.1)

  instructions_printed : (j : ℕ) (is : List Instruction) → j + length is < 2 ^ 64 → AreWithin p.terms is
      → Each IsPrintableStatement (all_guarded (guarded_from p.terms j is))
  instructions_printed j [] few w = tt
  instructions_printed j (i ∷ is) few w =
      each_joined IsPrintableStatement (guarded_statements (guarded_for p.terms j i)) (all_guarded (guarded_from p.terms (suc j) is))
      (each_joined IsPrintableStatement (map (λ u. if_then (operand p.terms i.decode.0) (takes u)) (updates_for p.terms i.updates.items))
      (map writes (all_stores p.terms (memories_for p.terms j i)))
      (takes_printed (operand p.terms i.decode.0) i.updates.items (op i.decode.0 w.0.condition) w.0.updated)
      (each_mapped IsPrintableStatement writes (all_stores p.terms (memories_for p.terms j i))
      (all_printed (memories_for p.terms j i) (memories_printed j i (omega (arith, few)) w.0))))
      (instructions_printed (suc j) is (omega (arith, few)) w.1)

  states_stated : are_states false p.terms.names p.initial_values.items ≡ true
  states_stated =
      let a = and_parts (are_distinct p.terms.names) _ h.sorted in
      let b = and_parts (are_declarations p) _ a.1 in (and_parts (are_states false p.terms.names p.initial_values.items) _ b.0).0

  -- ---- the module

  pub module_printed : IsPrintableModule (emitted_module name p keep)
  module_printed =
      let b = bounds p h.sorted in
      let is = p.instructions.items in
      let count : length (decodes_of p.terms is) ≡ length is = length-map is (λ (i : Instruction). operand p.terms i.decode.0) in (
        model_printed name h.named,
        tt,
        ports_printed _ (inputs_printed p.inputs (drop (length p.initial_values.items) p.terms.names) (declared_behind (length p.initial_values.items) p.terms.names are_declared)),
        each_joined IsPrintableItem (map register_item (declared_states p.terms.names p.initial_values.items)) _ (registers_printed p.terms.names p.initial_values.items are_declared)
            (each_joined IsPrintableItem
            (map wire_item (node_wires p.terms keep 0 p.terms.nodes ++ (decode_wires (decodes_of p.terms is) ++ all_ways p.terms (memories_from p.terms 0 is)))) _
            (wires_printed (node_wires p.terms keep 0 p.terms.nodes ++ (decode_wires (decodes_of p.terms is) ++ all_ways p.terms (memories_from p.terms 0 is)))
            (each_joined IsWirePrinted (node_wires p.terms keep 0 p.terms.nodes) (decode_wires (decodes_of p.terms is) ++ all_ways p.terms (memories_from p.terms 0 is))
            (nodes_printed 0 p.terms.nodes refl)
            (each_joined IsWirePrinted (decode_wires (decodes_of p.terms is)) (all_ways p.terms (memories_from p.terms 0 is))
            (decodes_printed (decodes_of p.terms is) (omega (arith, count, h.few)) (conditions_printed is b.instructed))
            (ways_printed (memories_from p.terms 0 is) (all_memories_printed 0 is (omega (arith, h.few)) b.instructed))))) (
              (
                (
                  (control_printed (codes "start") refl, tt),
                  ((control_printed (codes "go") refl, tt), (op p.valid.0 b.condition, (one_name_printed (length is) (omega (arith, h.few)), tt))),
                ),
                tt,
              ),
              (
                (((control_printed (codes "commit") refl, tt), (control_printed (codes "start") refl, tt)), tt),
                (
                  (
                    (control_printed (codes "clk") refl, tt),
                    (
                      (control_printed (codes "rst") refl, tt),
                      (
                        tt,
                        block_printed _ (each_joined IsPrintableStatement (map takes (first_takes (declared_states p.terms.names p.initial_values.items))) _
                            (first_takes_printed p.terms.names p.initial_values.items are_declared states_stated) (kept_words_printed p.terms.names p.initial_values.items are_declared)),
                      ),
                      ((control_printed (codes "start") refl, tt), (tt, block_printed _ (instructions_printed 0 is (omega (arith, h.few)) b.instructed))),
                      refl,
                    ),
                  ),
                  tt,
                ),
              ),
            )),
      )
