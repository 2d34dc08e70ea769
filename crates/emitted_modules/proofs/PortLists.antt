-- The ports of such a module.
use Rattle.std.proofs.Common.{◌≡◌, zero, suc, inl, inr, List, [], ◌∷◌, ◌++◌, map, refl, sym, ◌∙◌, ap, subst, arith}
use Rattle.std.specs.Prelude.{Contains}
use Rattle.std.proofs.lemmas.List.{map-append}
use Rattle.wb_values.specs.Value.{Name, truth, Entries, entry_of}
use Rattle.model_meaning.specs.Model.{Model, StateDeclaration, InputDeclaration}
use Rattle.verilog_trees.specs.Syntax.{Direction, input, output, Item}
use Rattle.verilog_meaning.specs.Hierarchy.{Declaration}
use Rattle.verilog_meaning.specs.Settled.{HasPort, port_directions, declared_ports, item_ports, names_of}
use Rattle.emitted_designs.specs.Names.{clock_name, reset_name, go_name, start_name, commit_name}
use Rattle.emitted_designs.specs.Module.{object_of, HoldsSort, control_inputs, control_outputs, HasPortsOf}
use Rattle.emitted_modules.specs.Rtl.{Wire, Rtl, port_of, input_port, port_list, register_item, wire_item, module_of}
use Rattle.emitted_modules.proofs.Names.{Among, among_left, among_right, among_map, mapped_from, AreDistinct, distinct_parts, entry_is}
use Rattle.emitted_modules.proofs.Declared.{output_net, given_net, register_net, wire_net, HasOwnNames}
use Rattle.emitted_modules.proofs.Nets.{holds_sort, clock_plain, reset_plain, go_plain, start_plain, commit_plain, input_plain}
use Rattle.emitted_modules.proofs.NetWidths.{IsBitsSort}

pub among_of : {A : Type 0} (xs : List A) (x : A) → Contains xs x → Among x xs
among_of [] x h = absurd (omega (arith, h.1))
among_of (y ∷ xs) x (zero, low, e) = inl e
among_of (y ∷ xs) x (suc k, low, e) = inr (among_of xs x (k, omega (arith, low), e))

-- ---- ports

abbrev pub outputs : Entries Direction
outputs = (start_name, output) ∷ (commit_name, output) ∷ []

abbrev pub given_port : InputDeclaration → Name × Direction
given_port i = (i.input_name, input)

abbrev pub all_ports : List InputDeclaration → Entries Direction
all_ports is = (clock_name, input) ∷ (reset_name, input) ∷ (go_name, input) ∷ (map given_port is ++ outputs)

pub listed_ports : (is : List InputDeclaration)
    → declared_ports (map input_port is ++ port_of output start_name truth ∷ port_of output commit_name truth ∷ []) ≡ map given_port is ++ outputs
listed_ports [] = refl
listed_ports (i ∷ is) = ap (λ es. given_port i ∷ es) (listed_ports is)

pub no_wire_ports : (ws : List Wire) (rest : List Item) → item_ports (map wire_item ws ++ rest) ≡ item_ports rest
no_wire_ports [] rest = refl
no_wire_ports (w ∷ ws) rest = no_wire_ports ws rest

pub no_item_ports : (ss : List StateDeclaration) (rest : List Item) → item_ports (map register_item ss ++ rest) ≡ item_ports rest
no_item_ports [] rest = refl
no_item_ports (s ∷ ss) rest = no_item_ports ss rest

pub append_none : (es : Entries Direction) → es ++ [] ≡ es
append_none [] = refl
append_none (e ∷ es) = ap (λ fs. e ∷ fs) (append_none es)

pub ports_are : (r : Rtl) → port_directions (module_of r) ≡ all_ports r.inputs
ports_are r =
    ap (λ es. declared_ports (port_list r.inputs) ++ es) (no_item_ports r.registers _ ∙ no_wire_ports r.wires _)
    ∙ (append_none (declared_ports (port_list r.inputs))
    ∙ ap (λ es. (clock_name, input) ∷ (reset_name, input) ∷ (go_name, input) ∷ es) (listed_ports r.inputs))

pub port_names : (is : List InputDeclaration) → map (λ (e : Name × Direction). e.0) (map given_port is ++ outputs)
    ≡ map (λ (d : Declaration). d.of_name) (map given_net is ++ output_net start_name ∷ output_net commit_name ∷ [])
port_names [] = refl
port_names (i ∷ is) = ap (λ ns. i.input_name ∷ ns) (port_names is)

module _ (r : Rtl) (own : HasOwnNames r) where
  pub ports_distinct : AreDistinct (map (λ (e : Name × Direction). e.0) (all_ports r.inputs))
  ports_distinct =
      subst (λ ns. AreDistinct (clock_name ∷ reset_name ∷ go_name ∷ ns)) (sym (port_names r.inputs))
      (distinct_parts
      (clock_name ∷ reset_name ∷ go_name
      ∷ map (λ (d : Declaration). d.of_name) (map given_net r.inputs ++ output_net start_name ∷ output_net commit_name ∷ []))
      (map (λ (d : Declaration). d.of_name) (map register_net r.registers ++ map wire_net r.wires))
      (subst (λ ns. AreDistinct (clock_name ∷ reset_name ∷ go_name ∷ ns))
      (map-append (λ (d : Declaration). d.of_name) (map given_net r.inputs ++ output_net start_name ∷ output_net commit_name ∷ [])
      (map register_net r.registers ++ map wire_net r.wires))
      own)).0

  pub has_port : (n : Name) (d : Direction) → Among (n, d) (all_ports r.inputs) → HasPort (module_of r) n d
  has_port n d at = ap (λ es. entry_of es n) (ports_are r) ∙ entry_is (all_ports r.inputs) (n, d) ports_distinct at

  pub input_at : (n : Name) → Among n (control_inputs ++ map (λ i. i.input_name) r.inputs) → Among (n, input) (all_ports r.inputs)
  input_at n (inl e) = inl (ap (λ k. (k, input)) e)
  input_at n (inr (inl e)) = inr (inl (ap (λ k. (k, input)) e))
  input_at n (inr (inr (inl e))) = inr (inr (inl (ap (λ k. (k, input)) e)))
  input_at n (inr (inr (inr h))) =
      let i = mapped_from (λ (x : InputDeclaration). x.input_name) n r.inputs h in
      inr (inr (inr (among_left (n, input) (map given_port r.inputs) outputs
      (subst (λ k. Among (k, input) (map given_port r.inputs)) i.2 (among_map given_port i.0 r.inputs i.1)))))

  pub output_at : (n : Name) → Among n control_outputs → Among (n, output) (all_ports r.inputs)
  output_at n (inl e) =
      inr (inr (inr (among_right (n, output) (map given_port r.inputs) outputs (inl (ap (λ k. (k, output)) e)))))
  output_at n (inr (inl e)) =
      inr (inr (inr (among_right (n, output) (map given_port r.inputs) outputs (inr (inl (ap (λ k. (k, output)) e))))))
  output_at n (inr (inr h)) = absurd h

  pub control_bit : (n : Name) → Among n (control_inputs ++ control_outputs) → HoldsSort truth (object_of (module_of r) n)
  control_bit n (inl e) = subst (λ k. HoldsSort truth (object_of (module_of r) k)) e (holds_sort r clock_name truth tt (clock_plain r own))
  control_bit n (inr (inl e)) = subst (λ k. HoldsSort truth (object_of (module_of r) k)) e (holds_sort r reset_name truth tt (reset_plain r own))
  control_bit n (inr (inr (inl e))) = subst (λ k. HoldsSort truth (object_of (module_of r) k)) e (holds_sort r go_name truth tt (go_plain r own))
  control_bit n (inr (inr (inr (inl e)))) =
      subst (λ k. HoldsSort truth (object_of (module_of r) k)) e (holds_sort r start_name truth tt (start_plain r own))
  control_bit n (inr (inr (inr (inr (inl e))))) =
      subst (λ k. HoldsSort truth (object_of (module_of r) k)) e (holds_sort r commit_name truth tt (commit_plain r own))
  control_bit n (inr (inr (inr (inr (inr h))))) = absurd h

pub listed_names : (is : List InputDeclaration)
    → names_of (declared_ports (map input_port is ++ port_of output start_name truth ∷ port_of output commit_name truth ∷ []))
    ≡ map (λ i. i.input_name) is ++ control_outputs
listed_names [] = refl
listed_names (i ∷ is) = ap (λ ns. i.input_name ∷ ns) (listed_names is)

pub has_ports : (m : Model) (r : Rtl) → HasOwnNames r → r.called ≡ m.model_name → r.inputs ≡ m.inputs
    → ((i : InputDeclaration) → Among i r.inputs → IsBitsSort i.sort) → HasPortsOf m (module_of r)
has_ports m r own named same bits =
    subst (λ is. HasPortsOf (record m { inputs = is }) (module_of r)) same
    (record {
      named = named;
      order = ap (λ ns. clock_name ∷ reset_name ∷ go_name ∷ ns) (listed_names r.inputs);
      inputs = λ n h. has_port r own n input (input_at r own n (among_of (control_inputs ++ map (λ i. i.input_name) r.inputs) n h));
      outputs = λ n h. has_port r own n output (output_at r own n (among_of control_outputs n h));
      control_bits = λ n h. control_bit r own n (among_of (control_inputs ++ control_outputs) n h);
      input_bits = λ i h.
          let at : Among i r.inputs = among_of r.inputs i h in
          holds_sort r i.input_name i.sort (bits i at) (input_plain r own i at (bits i at));
    })
