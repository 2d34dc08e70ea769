-- What a design in one scope is elaborated to is the design, when its names are told by their dotted names.
use Rattle.std.proofs.Common.{◌≡◌, ◌≢◌, ◌∙◌, ◌<◌, ℕ, suc, refl, ap, sym, subst, Bool, true, false, List, [], ◌∷◌, ◌++◌, map, take, drop, length, ◌⊎◌, inl, inr, Some, Contains}
use Rattle.std.specs.Prelude.{IsTrue, option_map, min}
use Rattle.std.proofs.lemmas.Bool.{or_parts, false≢true}
use Rattle.std.proofs.lemmas.List.{take-append-drop, length-map}
use Rattle.wb_values.specs.Value.{Name, Sort, truth, word, memory, Entries, Valuation, HasSort, valuation_of}
use Rattle.wb_terms.specs.Renamed.{renamed}
use Rattle.wb_terms.specs.Environment.{AreOfSorts, values_by_name}
use Rattle.verilog_trees.specs.Syntax.{input, Expression, Target, Statement, Item}
use Rattle.verilog_meaning.specs.Expression.{Object, Scope, is_memory}
use Rattle.verilog_meaning.specs.Register.{value_bit, is_bit_of, counts, one_may_assign, clocked_blocks, combinational_blocks, word_count}
use Rattle.verilog_meaning.specs.Hierarchy.{Placed, placed_scope, dotted}
use Rattle.verilog_meaning.specs.Settled.{Design, at_path, IsPlacedIn, IsDeclared, IsValueOf, HasPort, names_of, is_counted, inside, assignments, one_may_reach, IsDriven, IsSettledIn, IsSettled}
use Rattle.verilog_meaning.specs.Next.{AreRegisters, AreInputs, IsNext}
use Rattle.verilog_registers.specs.Registers as design
use Rattle.verilog_registers.specs.Order.{AreInOrder, AreRegisterNames, members_in}
use Rattle.verilog_designs.specs.Accepted.{HasUndeclared}
use Rattle.verilog_settled.specs.Locality.{HasNoConstantMemory}
use Rattle.verilog_unique.proofs.Descent.{IsAmong, contains_among, among_contains, among_either}
use Rattle.verilog_unique.proofs.Ports.{port_is_declared}
use Rattle.verilog_unique.proofs.Paths.{stands_at, placed_in}
use Rattle.flat_designs.specs.Flat.{Naming, IsNaming, IsSeenAs, IsFlat}
use Rattle.flat_designs.specs.Laws.{IsInputOfTop, IsDrivenTheSame}
use Rattle.flat_designs.proofs.Settled.{settled_solves_the_flat}
use Rattle.flat_designs.proofs.Driven.{bits_are_driven_the_same}
use Rattle.flat_designs.proofs.Edge.{edge_leaves_the_same}
use Rattle.v_lower.specs.Lowered.{IsSortOf, IsImage}
use Rattle.v_settle.specs.OneModule.{is_driven}
use Rattle.v_design.specs.Registers.{CountedBits, AreBitsOf}
use Rattle.v_design.specs.Parts.{Parts, registers_of, inputs_of, under_names, bits_by_name, value_in, registers_after}
use Rattle.v_design.specs.Design as whole
use Rattle.v_design.specs.Design.{IsDataInput, outputs_of, values_under, FitRegisters, worth, after_cycle, IsTermOfObject, IsNet, IsSettledBy, IsDesignOf}
use Rattle.v_registers.specs.Registers.{IsRegister}
use Rattle.v_elab.specs.Names.{chosen}
use Rattle.v_elab.specs.Elaborated.{Body, body_in, IsElaborated, register_names}
use Rattle.v_elab.specs.Cycles.{IsDeclaredIn, HasSettled, IsCycled}
use Rattle.v_elab.specs.Flat.{IsFlatBody}
use Rattle.v_elab.specs.Told.{AreToldBy, AreCalledNets, IsTold}
use Rattle.v_elab.proofs.Environment.{all_sorted}
use Rattle.v_elab.proofs.Entries.{of_entry, an_entry, names_are}
use Rattle.v_elab.proofs.Once.{test_among, among_test, a_register, counted_is}
use Rattle.v_elab.proofs.Sorts.{of_value, same_sorts}
use Rattle.v_elab.proofs.Given.{first_part, last_part, of_register, of_input, an_input}
use Rattle.v_elab.proofs.Cycled.{masks_under, is_cycled}
use Rattle.v_elab.proofs.FlatMembers.{net_is_declared}
use Rattle.v_elab.proofs.FlatNames.{IsNetOf, all_named, each_named, registers_in_order}
use Rattle.v_elab.proofs.FlatTold.{take_renamed, drop_renamed, names_renamed, sorts_renamed, told_length, take_told, drop_told, from_renamed, to_renamed, bits_renamed, called_nets, values_told, value_told}

-- ---- sorts

to_whole : (o : Object) (t : Sort) → IsSortOf o t → whole.IsSortOf o t
to_whole o truth h = absurd h
to_whole o (word w) h = h
to_whole o (memory a w) h = h

from_whole : (o : Object) (t : Sort) → whole.IsSortOf o t → IsSortOf o t
from_whole o truth h = absurd h
from_whole o (word w) h = h
from_whole o (memory a w) h = h

-- ---- the design

-- The inputs of a design's top but its clock, by what they are called, none of which is a register in the one scope.
pub record AreInputsOfTop (d : Design) (called : Naming) (top : Placed) (s : Scope) (items : List Item) (f : Name → Bool) : Type 0 where
  pub is_port : (n : Name) → f n ≡ true → (m : Name) × (n ≡ called [] m) × HasPort top.of_module m input × (m ≢ d.clock)
  pub is_given : (m : Name) → HasPort top.of_module m input → m ≢ d.clock → f (called [] m) ≡ true
  pub no_register : (n : Name) → f n ≡ true → ¬ IsRegister s (clocked_blocks items) n

module _ (d : Design) (called : Naming) (top : Placed) (s : Scope) (items : List Item) (ns : List Name) (good : ¬ HasUndeclared d) (naming : IsNaming d called)
    (flat : IsFlatBody d called top s items ns) where
  abbrev ck : List Statement
  ck = clocked_blocks items

  abbrev links : List (Target × Expression)
  links = assignments items

  abbrev blocks : List Statement
  blocks = combinational_blocks items

  abbrev drivers : IsFlat d called s links blocks ck
  drivers = flat.flat.flat

  -- what stands under what a net or variable is called
  pub says : (p : Placed) (n : Name) → IsPlacedIn d p → IsDeclared p n → s (called p.path n) ≡ placed_scope p n
  says p n at h = drivers.says_the_same p n at (inl h)

  pub driven : (p : Placed) (n : Name) (k b : ℕ) → IsPlacedIn d p → IsDeclared p n → IsDrivenTheSame d called s links blocks ck p n k b
  driven p n k b at h = bits_are_driven_the_same d called s links blocks ck p n k b good naming drivers at h

  pub to_design : (p : Placed) (n : Name) → IsPlacedIn d p → IsDeclared p n → IsRegister s ck (called p.path n) → design.IsRegister d p n
  to_design p n at h (inl c) =
      record {
        is_placed = at;
        is_declared = h;
        keeps = inl (record { word = c.word; bit = c.bit; counts = sym (driven p n c.word c.bit at h).counted ∙ c.counts });
      }
  to_design p n at h (inr e) = record { is_placed = at; is_declared = h; keeps = inr (ap is_memory (sym (says p n at h)) ∙ e) }

  pub from_design : (p : Placed) (n : Name) → design.IsRegister d p n → IsRegister s ck (called p.path n)
  from_design p n r = by r.keeps
    where
      by : design.HasCounted p n ⊎ IsTrue (is_memory (placed_scope p n)) → IsRegister s ck (called p.path n)
      by (inl c) = inl (record { word = c.word; bit = c.bit; counts = (driven p n c.word c.bit r.is_placed r.is_declared).counted ∙ c.counts })
      by (inr e) = inr (ap is_memory (says p n r.is_placed r.is_declared) ∙ e)

  -- names in the list are those of nets and variables
  net_of : (name : Name) → IsAmong ns name → IsNetOf d called name
  net_of name h = each_named d called top ns flat.is_top flat.in_order name h

  named : (p : Placed) (n : Name) → IsPlacedIn d p → IsDeclared p n → IsAmong ns (called p.path n)
  named p n at h = all_named d called top ns flat.is_top flat.in_order p n at h

  at_top : top.path ≡ []
  at_top = stands_at d [] top flat.is_top

  top_placed : IsPlacedIn d top
  top_placed = placed_in d [] top flat.is_top

  -- what a name of the top is called
  top_name : (n : Name) → called top.path n ≡ called [] n
  top_name n = ap (λ path. called path n) at_top

  -- a name of the top is its own dotted name
  own_name : (n : Name) → dotted top.path n ≡ n
  own_name n = ap (λ path. dotted path n) at_top

  the_top : (p : Placed) → at_path d [] ≡ Some p → top ≡ p
  the_top p at = some_same (sym flat.is_top ∙ at)
    where
      some_same : Some top ≡ Some p → top ≡ p
      some_same e = cc

  says_of_top : (n : Name) → IsDeclared top n → s (called [] n) ≡ placed_scope top n
  says_of_top n h = ap s (sym (top_name n)) ∙ says top n top_placed h

  module _ (f : Name → Bool) (no_memory : HasNoConstantMemory s) (ports : AreInputsOfTop d called top s items f) (e : Parts)
      (x : IsElaborated (body_in s items ns) f (outputs_of top.of_module) e) where
    abbrev body : Body
    body = body_in s items ns

    abbrev rn : List Name
    rn = register_names x.registers

    among : (n : Name) → f n ≡ true → IsAmong ns n
    among n h =
        let p = ports.is_port n h in
        subst (IsAmong ns) (top_name p.0 ∙ sym p.1) (named top p.0 top_placed (port_is_declared top p.0 input p.2))

    -- ---- registers

    -- a register of the store, and the net of the design that it is
    pub record StoredRegister (n : Name) (t : Sort) : Type 0 where
      pub net : IsNetOf d called n
      pub is_register : design.IsRegister d net.place net.of_name
      pub of_sort : whole.IsSortOf (placed_scope net.place net.of_name) t

    stored : (n : Name) (t : Sort) → IsAmong (registers_of e) (n, t) → StoredRegister n t
    stored n t h =
        let o = of_entry s rn (registers_of e) n t (first_part body f (outputs_of top.of_module) e x ports.no_register among) h in
        let r = of_register body f (outputs_of top.of_module) e x ports.no_register among n o.0 in
        let g = net_of n r.name in
        record {
          net = g;
          is_register = to_design g.place g.of_name g.is_placed g.is_declared (subst (IsRegister s ck) (sym g.same) r.is.is_register);
          of_sort = subst (λ (z : Object). whole.IsSortOf z t) (ap s (sym g.same) ∙ says g.place g.of_name g.is_placed g.is_declared) (to_whole (s n) t o.1);
        }

    a_stored : (p : Placed) (n : Name) → design.IsRegister d p n → (t : Sort) × IsAmong (registers_of e) (called p.path n, t)
    a_stored p n r =
        let h = a_register s ck ns x.registers x.others (called p.path n) x.split (named p n r.is_placed r.is_declared) (from_design p n r) in
        an_entry s rn (registers_of e) (called p.path n) (first_part body f (outputs_of top.of_module) e x ports.no_register among) h

    names_of_registers : names_of (registers_of e) ≡ rn
    names_of_registers = names_are s rn (registers_of e) (first_part body f (outputs_of top.of_module) e x ports.no_register among)

    counted_bits : (p : Placed) (n : Name) (c : CountedBits) → design.IsRegister d p n → IsAmong (bits_by_name e) (called p.path n, c) → AreBitsOf p n c
    counted_bits p n c i h =
        let r = masks_under s x.registers (registers_of e) (called p.path n) c names_of_registers
        (subst (λ bs. IsAmong (under_names (registers_of e) bs) (called p.path n, c)) x.bits h) in
        let a = (counted_is s ck ns x.registers x.others r.0 x.split r.1).masks in
        let z : s r.0.of_name ≡ placed_scope p n = ap s r.2 ∙ says p n i.is_placed i.is_declared in
        subst (AreBitsOf p n) r.3
        (record {
          addressed = ap (λ (o : Object). option_map (λ y. min y.0 y.1) o.addresses) z;
          each_word = a.each_word ∙ ap word_count z;
          counted = λ k b. a.counted k b ∙ ap (λ m. counts s ck m k b) r.2 ∙ (driven p n k b i.is_placed i.is_declared).counted;
        })

    -- ---- inputs

    input_entry : (n : Name) (t : Sort) → IsAmong (inputs_of e) (n, t) → (m : Name) × (n ≡ called [] m) × IsDataInput d m t
    input_entry n t h =
        let o = of_entry s (chosen f x.others) (inputs_of e) n t (last_part body f (outputs_of top.of_module) e x ports.no_register among) h in
        let q = ports.is_port n (of_input body f (outputs_of top.of_module) e x ports.no_register among n o.0).1 in (
          q.0,
          q.1,
          record {
            top = top;
            is_top = flat.is_top;
            is_input = q.2;
            no_clock = q.3;
            of_sort = subst (λ (z : Object). whole.IsSortOf z t) (ap s q.1 ∙ says_of_top q.0 (port_is_declared top q.0 input q.2)) (to_whole (s n) t o.1);
          },
        )

    an_input_entry : (m : Name) (t : Sort) → IsDataInput d m t → IsAmong (inputs_of e) (called [] m, t)
    an_input_entry m t h =
        let port : HasPort top.of_module m input = subst (λ (p : Placed). HasPort p.of_module m input) (sym (the_top h.top h.is_top)) h.is_input in
        let r = an_entry s (chosen f x.others) (inputs_of e) (called [] m) (last_part body f (outputs_of top.of_module) e x ports.no_register among)
        (an_input body f (outputs_of top.of_module) e x ports.no_register among (called [] m) (ports.is_given m port h.no_clock)) in
        let o = of_entry s (chosen f x.others) (inputs_of e) (called [] m) r.0 (last_part body f (outputs_of top.of_module) e x ports.no_register among) r.1 in
        let k : whole.IsSortOf (s (called [] m)) t =
        subst (λ (z : Object). whole.IsSortOf z t) (sym (says_of_top m (port_is_declared top m input port)))
        (subst (λ (p : Placed). whole.IsSortOf (placed_scope p m) t) (sym (the_top h.top h.is_top)) h.of_sort) in
        subst (λ k. IsAmong (inputs_of e) (called [] m, k)) (same_sorts (s (called [] m)) r.0 t o.1 (from_whole (s (called [] m)) t k)) r.1

    input_net : (n : Name) (t : Sort) → IsAmong (inputs_of e) (n, t) → IsNetOf d called n
    input_net n t h =
        let q = input_entry n t h in
        record {
          place = top;
          of_name = q.0;
          is_placed = top_placed;
          is_declared = port_is_declared top q.0 input (subst (λ (p : Placed). HasPort p.of_module q.0 input) (sym (the_top q.2.top q.2.is_top)) q.2.is_input);
          same = top_name q.0 ∙ sym q.1;
        }

    register_net : (n : Name) (t : Sort) → IsAmong (registers_of e) (n, t) → IsNetOf d called n
    register_net n t g = (stored n t g).net

    -- each name of the store is what a net or variable is called
    pub stored_nets : AreCalledNets d called e.graph.names
    stored_nets =
        called_nets d called e.graph.names
        (λ n t g.
        elim (among_either (registers_of e) (inputs_of e) (n, t)
        (subst (λ es. IsAmong es (n, t)) (sym (take-append-drop e.register_count e.graph.names)) g)) as (λ _. IsNetOf d called n)
        [ inl k ↦ register_net n t k | inr k ↦ input_net n t k ])

    -- ---- settled terms

    -- a term of the store for a net of the design
    pub record SettledTerm (p : Placed) (n : Name) (id : ℕ) : Type 0 where
      pub below : id < length e.graph.nodes
      pub is_term : IsTermOfObject e (placed_scope p n) id

    settled_term : (p : Placed) (n : Name) (id : ℕ) → IsNet d p n → e.settled (called p.path n) ≡ Some id → SettledTerm p n id
    settled_term p n id net h =
        let i : IsImage s e.graph (called p.path n) id = x.updated.known.image (called p.path n) id (sym (x.settled (called p.path n)) ∙ h) in
        record {
          below = i.of_sort.below;
          is_term = subst (λ (o : Object). IsTermOfObject e o id) (says p n net.is_placed net.is_declared)
              (record { sort = i.sort; of_object = to_whole (s (called p.path n)) i.sort i.of_name; of_sort = i.of_sort.sort });
        }

    -- ---- cycles

    module _ (registers inputs v r i w : Valuation) (seen_registers : IsSeenAs d called registers r) (seen_inputs : IsSeenAs d called inputs i)
        (seen : IsSeenAs d called v w) (settled : IsSettled d registers inputs v) where
      within : (p : Placed) → IsPlacedIn d p → IsSettledIn d registers v p
      within p at = settled.modules p at

      here_fits : (n : Name) → IsNetOf d called n → IsValueOf (s n) (w n)
      here_fits n k =
          subst (λ m. IsValueOf (s m) (w m)) k.same
          (subst (λ (o : Object). IsValueOf o (w (called k.place.path k.of_name))) (sym (says k.place k.of_name k.is_placed k.is_declared))
          (subst (IsValueOf (placed_scope k.place k.of_name)) (sym (seen k.place k.of_name k.is_placed)) ((within k.place k.is_placed).fits k.of_name k.is_declared)))

      here_held : (n : Name) (k c : ℕ) → IsNetOf d called n → IsTrue (counts s ck n k c) → value_bit (w n) k c ≡ value_bit (r n) k c
      here_held n k c z t =
          subst (λ m. IsTrue (counts s ck m k c) → value_bit (w m) k c ≡ value_bit (r m) k c) z.same
          (λ j.
          ap (λ y. value_bit y k c) (seen z.place z.of_name z.is_placed)
          ∙ (within z.place z.is_placed).held z.of_name k c z.is_declared (sym (driven z.place z.of_name k c z.is_placed z.is_declared).counted ∙ j)
          ∙ ap (λ y. value_bit y k c) (sym (seen_registers z.place z.of_name z.is_placed))) t

      here_unset : (n : Name) (k c : ℕ) → IsNetOf d called n → IsTrue (is_bit_of (s n) k c) → is_driven s items n k c ≡ false → counts s ck n k c ≡ false
          → f n ≡ false → value_bit (w n) k c ≡ false
      here_unset n k c z there free out outside =
          ap (λ m. value_bit (w m) k c) (sym z.same)
          ∙ ap (λ y. value_bit y k c) (seen z.place z.of_name z.is_placed)
          ∙ (within z.place z.is_placed).undriven z.of_name k c z.is_declared
          (ap (λ (o : Object). is_bit_of o k c) (sym (says z.place z.of_name z.is_placed z.is_declared)) ∙ ap (λ m. is_bit_of (s m) k c) z.same ∙ there)
          not_driven
        where
          parts : (one_may_reach s links n k c ≡ false) × (one_may_assign s blocks n k c ≡ false)
          parts = or_parts (one_may_reach s links n k c) (one_may_assign s blocks n k c) free

          an_input : IsInputOfTop d z.place z.of_name → ⊥
          an_input j = false≢true (sym outside ∙ ap f (sym z.same ∙ ap (λ path. called path z.of_name) j.at_top) ∙ ports.is_given z.of_name port j.no_clock)
            where
              port : HasPort top.of_module z.of_name input
              port =
                  subst (λ (p : Placed). HasPort p.of_module z.of_name input)
                  (sym (the_top z.place (subst (λ path. at_path d path ≡ Some z.place) j.at_top z.is_placed))) j.is_port

          not_driven : ¬ IsDriven d z.place z.of_name k c
          not_driven h = by ((driven z.place z.of_name k c z.is_placed z.is_declared).driven.0 h)
            where
              by : IsTrue (counts s ck (called z.place.path z.of_name) k c)
                  ⊎ (IsTrue (one_may_assign s blocks (called z.place.path z.of_name) k c)
                  ⊎ (IsTrue (one_may_reach s links (called z.place.path z.of_name) k c) ⊎ IsInputOfTop d z.place z.of_name)) → ⊥
              by (inl t) = false≢true (sym out ∙ ap (λ m. counts s ck m k c) (sym z.same) ∙ t)
              by (inr (inl t)) = false≢true (sym parts.1 ∙ ap (λ m. one_may_assign s blocks m k c) (sym z.same) ∙ t)
              by (inr (inr (inl t))) = false≢true (sym parts.0 ∙ ap (λ m. one_may_reach s links m k c) (sym z.same) ∙ t)
              by (inr (inr (inr j))) = an_input j

      here_given : (n : Name) (k c : ℕ) → f n ≡ true → value_bit (w n) k c ≡ value_bit (i n) k c
      here_given n k c t =
          let p = ports.is_port n t in
          let name : called top.path p.0 ≡ n = top_name p.0 ∙ sym p.1 in
          ap (λ y. value_bit y k c)
          (ap w (sym name) ∙ seen top p.0 top_placed ∙ ap v (own_name p.0) ∙ settled.inputs_held top p.0 flat.is_top p.2 p.3
          ∙ sym (ap inputs (own_name p.0)) ∙ sym (seen_inputs top p.0 top_placed) ∙ ap i name)

      -- where the design has settled, the flat drivers have
      has_settled : HasSettled body f r i w
      has_settled =
          let g = settled_solves_the_flat d called s links blocks ck registers inputs v w good naming.apart drivers seen settled in
          record {
            fits = λ n h. here_fits n (net_of n (among_test ns n h));
            assigned = g.0;
            combinational = g.1;
            held = λ n k c h t. here_held n k c (net_of n (among_test ns n h)) t;
            inputs_held = λ n k c h t. here_given n k c t;
            unset = λ n k c h there free out outside. here_unset n k c (net_of n (among_test ns n h)) there free out outside;
          }

      module _ (fit : FitRegisters e r) (fit_inputs : AreInputs d inputs) where
        inputs_fit : (n : Name) → f n ≡ true → IsValueOf (s n) (i n)
        inputs_fit n h =
            let p = ports.is_port n h in
            let name : called top.path p.0 ≡ n = top_name p.0 ∙ sym p.1 in
            subst (λ m. IsValueOf (s m) (i m)) name
            (subst (λ (o : Object). IsValueOf o (i (called top.path p.0))) (sym (says top p.0 top_placed (port_is_declared top p.0 input p.2)))
            (subst (IsValueOf (placed_scope top p.0)) (sym (seen_inputs top p.0 top_placed ∙ ap inputs (own_name p.0))) (fit_inputs top p.0 flat.is_top p.2 p.3)))

        cycle : IsCycled body e r i w
        cycle = is_cycled body f (outputs_of top.of_module) e x ports.no_register among no_memory r i w fit inputs_fit has_settled

        tested : (p : Placed) (n : Name) → IsPlacedIn d p → IsDeclared p n → IsDeclaredIn body (called p.path n)
        tested p n at h = test_among ns (called p.path n) (named p n at h)

        here_settled : (p : Placed) (n : Name) → IsNet d p n → (id : ℕ) × (e.settled (called p.path n) ≡ Some id) × (worth e r i id ≡ inside v p n)
        here_settled p n net =
            let g = cycle.settles (called p.path n) (tested p n net.is_placed net.is_declared)
            (ap is_memory (says p n net.is_placed net.is_declared) ∙ net.no_memory) in
            (g.0, g.1, g.2 ∙ seen p n net.is_placed)

        here_stepped : (next : Valuation) (p : Placed) (n : Name) (k b : ℕ) → IsNext d v next → IsPlacedIn d p → IsDeclared p n → IsTrue (is_counted p n k b)
            → value_bit (after_cycle e r i (called p.path n)) k b ≡ value_bit (inside next p n) k b
        here_stepped next p n k b is_next at h c =
            cycle.steps (called p.path n) k b (tested p n at h) ((driven p n k b at h).counted ∙ c)
            ∙ ap (λ y. value_bit y k b) (edge_leaves_the_same d called s links blocks ck v w p n good naming drivers seen flat.flat.in_order at h)
            ∙ sym (is_next.assigned p n k b at h c)

        here_rested : (p : Placed) (n : Name) (k b : ℕ) → design.IsRegister d p n → is_counted p n k b ≡ false
            → value_bit (after_cycle e r i (called p.path n)) k b ≡ false
        here_rested p n k b g c =
            cycle.rests (called p.path n) k b (from_design p n g) (tested p n g.is_placed g.is_declared) ((driven p n k b g.is_placed g.is_declared).counted ∙ c)

    -- ---- the same parts under dotted names

    module _ (dots : IsNaming d dotted) (seeing : (v : Valuation) → (w : Valuation) × IsSeenAs d called v w) (h : Parts) (t : IsTold d called e h) where
      abbrev rc : ℕ
      rc = e.register_count

      registers_told : AreToldBy d called (names_of (registers_of e)) (take rc t.names)
      registers_told = take_told d called rc e.graph.names t.names t.are_told

      inputs_told : AreToldBy d called (names_of (inputs_of e)) (drop rc t.names)
      inputs_told = drop_told d called rc e.graph.names t.names t.are_told

      registers_are : registers_of h ≡ renamed (take rc t.names) (registers_of e)
      registers_are =
          (λ j. take (t.is_renamed.register_count j) (t.is_renamed.names_are j)) ∙ take_renamed rc t.names e.graph.names t.is_renamed.as_many

      inputs_are : inputs_of h ≡ renamed (drop rc t.names) (inputs_of e)
      inputs_are =
          (λ j. drop (t.is_renamed.register_count j) (t.is_renamed.names_are j)) ∙ drop_renamed rc t.names e.graph.names t.is_renamed.as_many

      many_registers : length (take rc t.names) ≡ length (registers_of e)
      many_registers = told_length d called (names_of (registers_of e)) (take rc t.names) registers_told ∙ names_length (registers_of e)
        where
          names_length : (es : Entries Sort) → length (names_of es) ≡ length es
          names_length [] = refl
          names_length (a ∷ es) = ap suc (names_length es)

      -- ---- names

      register_told : (n : Name) (k : Sort) → Contains (registers_of h) (n, k)
          → (p : Placed) × (m : Name) × (n ≡ dotted p.path m) × design.IsRegister d p m × whole.IsSortOf (placed_scope p m) k
      register_told n k g =
          let r = from_renamed d called (take rc t.names) (registers_of e) registers_told n k
          (subst (λ es. IsAmong es (n, k)) registers_are (among_contains (registers_of h) (n, k) g)) in
          let z = stored r.0 k r.1 in
          (z.net.place, z.net.of_name, r.2 z.net.place z.net.of_name z.net.is_placed z.net.is_declared z.net.same, z.is_register, z.of_sort)

      a_register_told : (p : Placed) (m : Name) → design.IsRegister d p m → (k : Sort) × Contains (registers_of h) (dotted p.path m, k)
      a_register_told p m g =
          let z = a_stored p m g in
          let r = to_renamed d called (take rc t.names) (registers_of e) registers_told (called p.path m) z.0 z.1 in (
            z.0,
            contains_among (registers_of h) (dotted p.path m, z.0)
                (subst (λ es. IsAmong es (dotted p.path m, z.0)) (sym registers_are)
                (subst (λ n. IsAmong (renamed (take rc t.names) (registers_of e)) (n, z.0)) (r.2 p m g.is_placed g.is_declared refl) r.1)),
          )

      ordered : AreRegisterNames d (names_of (registers_of h))
      ordered q at =
          subst (λ (p : Placed). AreInOrder d p (members_in p.of_module) (names_of (registers_of h))) (the_top q at)
          (subst (AreInOrder d top (members_in top.of_module)) (sym (ap names_of registers_are ∙ names_renamed (take rc t.names) (registers_of e) many_registers))
          (registers_in_order d called s ck to_design from_design top (members_in top.of_module) ns x.registers x.others (take rc t.names) top_placed
          (λ n g. net_is_declared top.of_module n g) flat.in_order x.split (subst (λ ms. AreToldBy d called ms (take rc t.names)) names_of_registers registers_told)))

      bits_told : (p : Placed) (m : Name) (c : CountedBits) → design.IsRegister d p m → Contains (bits_by_name h) (dotted p.path m, c) → AreBitsOf p m c
      bits_told p m c g k =
          let r = bits_renamed d called (take rc t.names) (registers_of e) e.bits registers_told (dotted p.path m) c
          (subst (λ bs. IsAmong bs (dotted p.path m, c)) (λ j. under_names (registers_are j) (t.is_renamed.bits j)) (among_contains (bits_by_name h) (dotted p.path m, c) k)) in
          let z = (stored r.0 r.1 r.2).net in
          let one = dots.tells p z.place m z.of_name g.is_placed z.is_placed (inl g.is_declared) (inl z.is_declared) (r.4 z.place z.of_name z.is_placed z.is_declared z.same) in
          let name : r.0 ≡ called p.path m = sym z.same ∙ (λ j. called (sym one.0 j) (sym one.1 j)) in
          counted_bits p m c g (subst (λ n. IsAmong (bits_by_name e) (n, c)) name r.3)

      input_told : (n : Name) (k : Sort) → Contains (inputs_of h) (n, k) → IsDataInput d n k
      input_told n k g =
          let r = from_renamed d called (drop rc t.names) (inputs_of e) inputs_told n k
          (subst (λ es. IsAmong es (n, k)) inputs_are (among_contains (inputs_of h) (n, k) g)) in
          let z = input_entry r.0 k r.1 in
          let declared : IsDeclared top z.0 =
          port_is_declared top z.0 input (subst (λ (p : Placed). HasPort p.of_module z.0 input) (sym (the_top z.2.top z.2.is_top)) z.2.is_input) in
          let name : n ≡ z.0 = r.2 top z.0 top_placed declared (top_name z.0 ∙ sym z.1) ∙ own_name z.0 in
          subst (λ m. IsDataInput d m k) (sym name) z.2

      an_input_told : (n : Name) (k : Sort) → IsDataInput d n k → Contains (inputs_of h) (n, k)
      an_input_told n k g =
          let r = to_renamed d called (drop rc t.names) (inputs_of e) inputs_told (called [] n) k (an_input_entry n k g) in
          let declared : IsDeclared top n =
          port_is_declared top n input (subst (λ (p : Placed). HasPort p.of_module n input) (sym (the_top g.top g.is_top)) g.is_input) in
          let name : r.0 ≡ n = r.2 top n top_placed declared (top_name n) ∙ own_name n in
          contains_among (inputs_of h) (n, k)
          (subst (λ es. IsAmong es (n, k)) (sym inputs_are) (subst (λ m. IsAmong (renamed (drop rc t.names) (inputs_of e)) (m, k)) name r.1))

      -- ---- terms

      term_told : (o : Object) (id : ℕ) → id < length e.graph.nodes → IsTermOfObject e o id → IsTermOfObject h o id
      term_told o id low g = record { sort = g.sort; of_object = g.of_object; of_sort = t.is_renamed.sorts id low ∙ g.of_sort }

      term_there : (n : Name) (id : ℕ) → h.settled n ≡ Some id
          → (p : Placed) × (m : Name) × (n ≡ dotted p.path m) × IsNet d p m × IsTermOfObject h (placed_scope p m) id
      term_there n id g =
          let r = t.no_others n id g in
          let z = settled_term r.0 r.1 id r.2 r.4 in
          (r.0, r.1, r.3, r.2, term_told (placed_scope r.0 r.1) id z.below z.is_term)

      -- ---- values

      module _ (registers inputs : Valuation) where
        abbrev r : Valuation
        r = (seeing registers).0

        abbrev i : Valuation
        i = (seeing inputs).0

        register_values : values_under (registers_of h) registers ≡ values_under (registers_of e) r
        register_values =
            ap (λ es. values_under es registers) registers_are
            ∙ values_told d called registers r (seeing registers).1 (take rc t.names) (registers_of e) registers_told register_net

        input_values : values_under (inputs_of h) inputs ≡ values_under (inputs_of e) i
        input_values =
            ap (λ es. values_under es inputs) inputs_are
            ∙ values_told d called inputs i (seeing inputs).1 (drop rc t.names) (inputs_of e) inputs_told input_net

        so_many : length (values_under (registers_of e) r ++ values_under (inputs_of e) i) ≡ length e.graph.names
        so_many =
            both (registers_of e) (inputs_of e)
            ∙ ap length (take-append-drop rc e.graph.names)
          where
            both : (as' bs : Entries Sort) → length (values_under as' r ++ values_under bs i) ≡ length (as' ++ bs)
            both [] bs = length-map bs (λ (z : Name × Sort). i z.0)
            both (a ∷ as') bs = ap suc (both as' bs)

        value_there : (id : ℕ) → id < length e.graph.nodes → worth h registers inputs id ≡ worth e r i id
        value_there id low =
            (λ j. value_in h (register_values j) (input_values j) id)
            ∙ t.is_renamed.values (values_under (registers_of e) r ++ values_under (inputs_of e) i) so_many id low

        registers_fit_there : FitRegisters h registers → FitRegisters e r
        registers_fit_there g =
            sorts_renamed (take rc t.names) (registers_of e) (values_under (registers_of e) r) many_registers
            (subst (λ es. AreOfSorts es (values_under (registers_of e) r)) registers_are (subst (AreOfSorts (registers_of h)) register_values g))

        next_below : (k : List ℕ) (as' : List Name) → map (λ id. Some id) k ≡ map x.next as' → (id : ℕ) → IsAmong k id → id < length e.graph.nodes
        next_below [] as' q id g = absurd g
        next_below (j ∷ k) [] q id g = cc
        next_below (j ∷ k) (a ∷ as') q id (inl z) =
            let first : Some j ≡ x.next a = cc in
            let im : IsImage s e.graph a j = x.updated.known_next.image a j (sym first) in
            subst (λ y. y < length e.graph.nodes) z im.of_sort.below
        next_below (j ∷ k) (a ∷ as') q id (inr g) = next_below k as' (tails q) id g
          where
            tails : map (λ id. Some id) (j ∷ k) ≡ map x.next (a ∷ as') → map (λ id. Some id) k ≡ map x.next as'
            tails z = cc

        next_values : registers_after h (values_under (registers_of h) registers) (values_under (inputs_of h) inputs)
            ≡ registers_after e (values_under (registers_of e) r) (values_under (inputs_of e) i)
        next_values =
            ap (map (worth h registers inputs)) t.is_renamed.next
            ∙ each e.next (next_below e.next (register_names x.registers) x.next_terms)
          where
            each : (k : List ℕ) → ((id : ℕ) → IsAmong k id → id < length e.graph.nodes) → map (worth h registers inputs) k ≡ map (worth e r i) k
            each [] low = refl
            each (j ∷ k) low =
                let first = value_there j (low j (inl refl)) in
                let rest = each k (λ id g. low id (inr g)) in
                λ z. first z ∷ rest z

        after_there : (p : Placed) (n : Name) → IsPlacedIn d p → IsDeclared p n → inside (after_cycle h registers inputs) p n ≡ after_cycle e r i (called p.path n)
        after_there p n at is =
            (λ j. valuation_of (values_by_name (registers_are j) (next_values j)) (dotted p.path n))
            ∙ value_told d called naming dots (take rc t.names) (registers_of e)
            (registers_after e (values_under (registers_of e) r) (values_under (inputs_of e) i)) registers_told register_net p n at is

      settles_there : (registers inputs v : Valuation) (p : Placed) (n : Name) → FitRegisters h registers → AreInputs d inputs → IsSettled d registers inputs v
          → IsNet d p n → IsSettledBy h registers inputs v p n
      settles_there registers inputs v p n fit fit_inputs settled net =
          let g = here_settled registers inputs v (seeing registers).0 (seeing inputs).0 (seeing v).0 (seeing registers).1 (seeing inputs).1 (seeing v).1 settled
          (registers_fit_there registers inputs fit) fit_inputs p n net in
          record {
            id = g.0;
            is_term = t.settled p n net ∙ g.1;
            is_worth = value_there registers inputs g.0 (settled_term p n g.0 net g.1).below ∙ g.2;
          }

      steps_there : (registers inputs v next : Valuation) (p : Placed) (n : Name) (k b : ℕ) → FitRegisters h registers → AreInputs d inputs
          → IsSettled d registers inputs v → IsNext d v next → IsPlacedIn d p → IsDeclared p n → IsTrue (is_counted p n k b)
          → value_bit (inside (after_cycle h registers inputs) p n) k b ≡ value_bit (inside next p n) k b
      steps_there registers inputs v next p n k b fit fit_inputs settled is_next at is c =
          ap (λ y. value_bit y k b) (after_there registers inputs p n at is)
          ∙ here_stepped registers inputs v (seeing registers).0 (seeing inputs).0 (seeing v).0 (seeing registers).1 (seeing inputs).1 (seeing v).1 settled
          (registers_fit_there registers inputs fit) fit_inputs next p n k b is_next at is c

      -- registers of the design fit
      registers_fit : (registers : Valuation) → AreRegisters d registers → FitRegisters e (seeing registers).0
      registers_fit registers are = all_sorted (registers_of e) (seeing registers).0 fits
        where
          fits : (n : Name) (k : Sort) → IsAmong (registers_of e) (n, k) → HasSort ((seeing registers).0 n) k
          fits n k g =
              let z = stored n k g in
              let y : HasSort (registers (dotted z.net.place.path z.net.of_name)) k =
              of_value (placed_scope z.net.place z.net.of_name) k (registers (dotted z.net.place.path z.net.of_name))
              (from_whole (placed_scope z.net.place z.net.of_name) k z.of_sort) (are.fits z.net.place z.net.of_name z.net.is_placed z.net.is_declared) in
              subst (λ m. HasSort ((seeing registers).0 m) k) z.net.same
              (subst (λ q. HasSort q k) (sym ((seeing registers).1 z.net.place z.net.of_name z.net.is_placed)) y)

      rests_there : (registers inputs v : Valuation) (p : Placed) (n : Name) (k b : ℕ) → AreRegisters d registers → AreInputs d inputs → IsSettled d registers inputs v
          → design.IsRegister d p n → is_counted p n k b ≡ false → value_bit (inside (after_cycle h registers inputs) p n) k b ≡ false
      rests_there registers inputs v p n k b are fit_inputs settled g c =
          ap (λ y. value_bit y k b) (after_there registers inputs p n g.is_placed g.is_declared)
          ∙ here_rested registers inputs v (seeing registers).0 (seeing inputs).0 (seeing v).0 (seeing registers).1 (seeing inputs).1 (seeing v).1 settled
          (registers_fit registers are) fit_inputs p n k b g c

      pub is_design : IsDesignOf d h
      is_design =
          record {
            distinct = t.is_renamed.distinct;
            registers_are = register_told;
            all_registers = a_register_told;
            in_order = ordered;
            bits_are = bits_told;
            inputs_are = input_told;
            all_inputs = an_input_told;
            outputs_are = λ q at. t.is_renamed.outputs ∙ x.outputs_are ∙ ap (λ (p : Placed). outputs_of p.of_module) (the_top q at);
            terms_are = term_there;
            settles = settles_there;
            steps = steps_there;
            rests = rests_there;
          }
