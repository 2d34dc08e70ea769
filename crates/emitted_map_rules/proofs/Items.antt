-- The items of an emitted module: its assignments are to names that begin with wb_, and its input ports are those of the model and wb_ ones.
use Rattle.std.proofs.Common.{◌≡◌, ℕ, zero, suc, Bool, true, false, cond, ◌&&◌, List, [], ◌∷◌, ◌++◌, map, length, ◌⊎◌, inl, inr, refl, sym, ◌∙◌, ap, subst, Some}
use Rattle.wb_values.specs.Value.{Name, same_name, truth, Entries, entry_of}
use Rattle.wb_values.specs.Names.{begins_with_wb}
use Rattle.model_meaning.specs.Model.{StateDeclaration, InputDeclaration}
use Rattle.verilog_trees.specs.Syntax.{Direction, Expression, Target, output, Item}
use Rattle.verilog_meaning.specs.Register.{combinational_blocks}
use Rattle.verilog_meaning.specs.Settled.{HasPort, declared_ports, item_ports, names_of, assignments, whole_of, whole_name, port_connections}
use Rattle.wb_terms.specs.declared.nodes.Node.{Node}
use Rattle.wb_terms.specs.declared.nodes.Node.TheVariants.{Load}
use Rattle.wb_terms.specs.Graph.{Graph}
use Rattle.ila_model.specs.declared.parts.Parts.{Parts}
use Rattle.verilog_unique.proofs.Options.{same_is}
use Rattle.verilog_unique.proofs.Descent.{IsAmong, among_either}
use Rattle.emitted_designs.specs.Names.{start_name, commit_name}
use Rattle.emitted_designs.specs.Module.{control_outputs}
use Rattle.emitted_modules.specs.Rtl.{Wire, Rtl, port_of, input_port, port_list, register_item, wire_item, module_items, module_of}
use Rattle.emitted_modules.specs.Nodes.{operand, has_part, wire_for, has_wire, word_wire, word_wires, words_for, node_wires}
use Rattle.emitted_modules.specs.Stores.{MemoryUpdate, via_wire, via_wires}
use Rattle.emitted_modules.specs.Module.{none_wire, one_wire, decode_wires, decodes_of, all_ways, memories_from, rtl_of}
use Rattle.emitted_map_rules.proofs.Lists.{mapped_from}
use Rattle.emitted_map_rules.proofs.Registers.{AssignsOnly}

abbrev pub IsOwn : Name → Type 0
IsOwn n = begins_with_wb n ≡ true

-- ---- what items have: registers and wires have nothing of these

registers_assign_none : (ss : List StateDeclaration) (rest : List Item) → assignments (map register_item ss ++ rest) ≡ assignments rest
registers_assign_none [] rest = refl
registers_assign_none (s ∷ ss) rest = registers_assign_none ss rest

abbrev wire_pair : Wire → Target × Expression
wire_pair w = (whole_of w.wire_name, w.expression)

abbrev outputs_assigned : Rtl → List (Target × Expression)
outputs_assigned r = (whole_of start_name, r.ready) ∷ (whole_of commit_name, whole_name start_name) ∷ []

wires_assigned : (ws : List Wire) (rest : List Item) (ps : List (Target × Expression)) → assignments rest ≡ ps
    → assignments (map wire_item ws ++ rest) ≡ map wire_pair ws ++ ps
wires_assigned [] rest ps e = e
wires_assigned (w ∷ ws) rest ps e = ap (λ qs. wire_pair w ∷ qs) (wires_assigned ws rest ps e)

are_assigned : (r : Rtl) → assignments (module_items r) ≡ map wire_pair r.wires ++ outputs_assigned r
are_assigned r = registers_assign_none r.registers _ ∙ wires_assigned r.wires _ (outputs_assigned r) refl

no_block_of_registers : (ss : List StateDeclaration) (rest : List Item) → combinational_blocks (map register_item ss ++ rest) ≡ combinational_blocks rest
no_block_of_registers [] rest = refl
no_block_of_registers (s ∷ ss) rest = no_block_of_registers ss rest

no_block_of_wires : (ws : List Wire) (rest : List Item) → combinational_blocks (map wire_item ws ++ rest) ≡ combinational_blocks rest
no_block_of_wires [] rest = refl
no_block_of_wires (w ∷ ws) rest = no_block_of_wires ws rest

no_instance_of_registers : (ss : List StateDeclaration) (rest : List Item) → port_connections (map register_item ss ++ rest) ≡ port_connections rest
no_instance_of_registers [] rest = refl
no_instance_of_registers (s ∷ ss) rest = no_instance_of_registers ss rest

no_instance_of_wires : (ws : List Wire) (rest : List Item) → port_connections (map wire_item ws ++ rest) ≡ port_connections rest
no_instance_of_wires [] rest = refl
no_instance_of_wires (w ∷ ws) rest = no_instance_of_wires ws rest

no_port_of_registers : (ss : List StateDeclaration) (rest : List Item) → item_ports (map register_item ss ++ rest) ≡ item_ports rest
no_port_of_registers [] rest = refl
no_port_of_registers (s ∷ ss) rest = no_port_of_registers ss rest

no_port_of_wires : (ws : List Wire) (rest : List Item) → item_ports (map wire_item ws ++ rest) ≡ item_ports rest
no_port_of_wires [] rest = refl
no_port_of_wires (w ∷ ws) rest = no_port_of_wires ws rest

-- ---- the assignments

abbrev AreOwn : List Wire → Type 0
AreOwn ws = (w : Wire) → IsAmong ws w → IsOwn w.wire_name

abbrev IsToOwn : Target × Expression → Type 0
IsToOwn a = (k : Name) × (a.0 ≡ whole_of k) × IsOwn k

own_target : (r : Rtl) → AreOwn r.wires → (a : Target × Expression) → IsAmong (map wire_pair r.wires) a ⊎ IsAmong (outputs_assigned r) a → IsToOwn a
own_target r own a (inl h) =
    let w = mapped_from wire_pair r.wires a h in
    (w.0.wire_name, ap (λ (b : Target × Expression). b.0) (sym w.2), own w.0 w.1)
own_target r own a (inr (inl e)) = (start_name, ap (λ (b : Target × Expression). b.0) (sym e), refl)
own_target r own a (inr (inr (inl e))) = (commit_name, ap (λ (b : Target × Expression). b.0) (sym e), refl)
own_target r own a (inr (inr (inr h))) = absurd h

pub assigns_only : (r : Rtl) → AreOwn r.wires → AssignsOnly (module_of r) IsOwn
assigns_only r own = record {
  assigned = λ a h.
      own_target r own a
      (among_either (map wire_pair r.wires) (outputs_assigned r) a (subst (λ ps. IsAmong ps a) (are_assigned r) h));
  no_blocks = no_block_of_registers r.registers _ ∙ no_block_of_wires r.wires _;
  no_instances = no_instance_of_registers r.registers _ ∙ no_instance_of_wires r.wires _;
}

-- ---- wires have names of their own

joined_own : (xs ys : List Wire) → AreOwn xs → AreOwn ys → AreOwn (xs ++ ys)
joined_own xs ys first second w h = by_place (among_either xs ys w h)
  where
    by_place : IsAmong xs w ⊎ IsAmong ys w → IsOwn w.wire_name
    by_place (inl f) = first w f
    by_place (inr f) = second w f

one_own : (x : Wire) → IsOwn x.wire_name → AreOwn (x ∷ [])
one_own x own w (inl e) = subst (λ (y : Wire). IsOwn y.wire_name) e own
one_own x own w (inr h) = absurd h

two_own : (x y : Wire) → IsOwn x.wire_name → IsOwn y.wire_name → AreOwn (x ∷ y ∷ [])
two_own x y first second w (inl e) = subst (λ (z : Wire). IsOwn z.wire_name) e first
two_own x y first second w (inr (inl e)) = subst (λ (z : Wire). IsOwn z.wire_name) e second
two_own x y first second w (inr (inr h)) = absurd h

if_own : (b : Bool) (xs : List Wire) → AreOwn xs → AreOwn (cond b xs [])
if_own true xs own = own
if_own false xs own = λ w h. absurd h

word_wires_own : (g : Graph) (l : ℕ) (e : Expression) (m n : ℕ) → AreOwn (word_wires g l e m n)
word_wires_own g l e m zero = λ w h. absurd h
word_wires_own g l e m (suc k) =
    joined_own (word_wires g l e m k) (cond (has_part g m k) (word_wire g l e k ∷ []) []) (word_wires_own g l e m k)
    (if_own (has_part g m k) (word_wire g l e k ∷ []) (one_own (word_wire g l e k) refl))

words_own : (g : Graph) (k : ℕ) (n : Node) → AreOwn (words_for g k n)
words_own g k (Load m i) = word_wires_own g k (operand g i.0) m.0 k
words_own g k _ = λ w h. absurd h

node_wires_own : (g : Graph) (keep : ℕ → Bool) (k : ℕ) (ns : List Node) → AreOwn (node_wires g keep k ns)
node_wires_own g keep k [] = λ w h. absurd h
node_wires_own g keep k (n ∷ ns) =
    joined_own (cond (keep k && has_wire g k n) (words_for g k n ++ wire_for g k n ∷ []) []) (node_wires g keep (suc k) ns)
    (if_own (keep k && has_wire g k n) (words_for g k n ++ wire_for g k n ∷ [])
    (joined_own (words_for g k n) (wire_for g k n ∷ []) (words_own g k n) (one_own (wire_for g k n) refl)))
    (node_wires_own g keep (suc k) ns)

via_wires_own : (g : Graph) (u : MemoryUpdate) (n : ℕ) → AreOwn (via_wires g u n)
via_wires_own g u zero = λ w h. absurd h
via_wires_own g u (suc k) =
    joined_own (cond (has_part g u.term k) (via_wire g u k ∷ []) []) (via_wires g u k)
    (if_own (has_part g u.term k) (via_wire g u k ∷ []) (one_own (via_wire g u k) refl)) (via_wires_own g u k)

all_ways_own : (g : Graph) (us : List MemoryUpdate) → AreOwn (all_ways g us)
all_ways_own g [] = λ w h. absurd h
all_ways_own g (u ∷ us) = joined_own (via_wires g u (suc u.term)) (all_ways g us) (via_wires_own g u (suc u.term)) (all_ways_own g us)

decode_wires_own : (ds : List Expression) → AreOwn (decode_wires ds)
decode_wires_own [] = two_own _ _ refl refl
decode_wires_own (d ∷ ds) =
    joined_own (decode_wires ds) (none_wire d (length ds) ∷ one_wire d (length ds) ∷ []) (decode_wires_own ds)
    (two_own (none_wire d (length ds)) (one_wire d (length ds)) refl refl)

pub wires_own : (name : Name) (p : Parts) (keep : ℕ → Bool) → AreOwn (rtl_of name p keep).wires
wires_own name p keep =
    joined_own (node_wires p.terms keep 0 p.terms.nodes)
    (decode_wires (decodes_of p.terms p.instructions.items) ++ all_ways p.terms (memories_from p.terms 0 p.instructions.items))
    (node_wires_own p.terms keep 0 p.terms.nodes)
    (joined_own (decode_wires (decodes_of p.terms p.instructions.items)) (all_ways p.terms (memories_from p.terms 0 p.instructions.items))
    (decode_wires_own (decodes_of p.terms p.instructions.items)) (all_ways_own p.terms (memories_from p.terms 0 p.instructions.items)))

-- ---- ports

listed_names : (is : List InputDeclaration)
    → names_of (declared_ports (map input_port is ++ port_of output start_name truth ∷ port_of output commit_name truth ∷ []))
    ≡ map (λ i. i.input_name) is ++ control_outputs
listed_names [] = refl
listed_names (i ∷ is) = ap (λ ns. i.input_name ∷ ns) (listed_names is)

entry_named : (es : Entries Direction) (n : Name) (d : Direction) → entry_of es n ≡ Some d → IsAmong (names_of es) n
entry_named [] n d e = cc
entry_named (x ∷ es) n d e = by_test (same_name x.0 n) refl e (entry_named es n d)
  where
    by_test : (b : Bool) → same_name x.0 n ≡ b → cond b (Some x.1) (entry_of es n) ≡ Some d → (entry_of es n ≡ Some d → IsAmong (names_of es) n)
        → (x.0 ≡ n) ⊎ IsAmong (names_of es) n
    by_test true same f more = inl (same_is x.0 n same)
    by_test false other f more = inr (more f)

append_none : (es : Entries Direction) → es ++ [] ≡ es
append_none [] = refl
append_none (e ∷ es) = ap (λ fs. e ∷ fs) (append_none es)

-- A port is an input of the model, or has a name of the module's own.
pub port_named : (r : Rtl) (n : Name) (d : Direction) → HasPort (module_of r) n d → IsAmong (map (λ i. i.input_name) r.inputs) n ⊎ IsOwn n
port_named r n d h = by_place (entry_named (declared_ports (port_list r.inputs)) n d (sym (ap (λ es. entry_of es n) ports_are) ∙ h))
  where
    ports_are : declared_ports (port_list r.inputs) ++ item_ports (module_items r) ≡ declared_ports (port_list r.inputs)
    ports_are =
        ap (λ es. declared_ports (port_list r.inputs) ++ es) (no_port_of_registers r.registers _ ∙ no_port_of_wires r.wires _)
        ∙ append_none (declared_ports (port_list r.inputs))

    of_outputs : IsAmong control_outputs n → IsAmong (map (λ i. i.input_name) r.inputs) n ⊎ IsOwn n
    of_outputs (inl e) = inr (ap begins_with_wb (sym e))
    of_outputs (inr (inl e)) = inr (ap begins_with_wb (sym e))
    of_outputs (inr (inr k)) = absurd k

    in_rest : IsAmong (map (λ i. i.input_name) r.inputs) n ⊎ IsAmong control_outputs n → IsAmong (map (λ i. i.input_name) r.inputs) n ⊎ IsOwn n
    in_rest (inl k) = inl k
    in_rest (inr k) = of_outputs k

    by_place : IsAmong (names_of (declared_ports (port_list r.inputs))) n → IsAmong (map (λ i. i.input_name) r.inputs) n ⊎ IsOwn n
    by_place (inl e) = inr (ap begins_with_wb (sym e))
    by_place (inr (inl e)) = inr (ap begins_with_wb (sym e))
    by_place (inr (inr (inl e))) = inr (ap begins_with_wb (sym e))
    by_place (inr (inr (inr k))) =
        in_rest (among_either (map (λ i. i.input_name) r.inputs) control_outputs n (subst (λ ns. IsAmong ns n) (listed_names r.inputs) k))
