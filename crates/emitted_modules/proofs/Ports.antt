-- The ports and registers of such a module.
use Rattle.std.proofs.Common.{◌≡◌, Bool, true, false, ◌||◌, ◌⊎◌, inl, inr, List, [], ◌∷◌, ◌++◌, map, refl, sym, ◌∙◌, ap, subst}
use Rattle.std.specs.Prelude.{Contains, is_some}
use Rattle.std.proofs.lemmas.Bool.{false≢true}
use Rattle.wb_values.specs.Value.{Name, Sort, truth}
use Rattle.wb_values.specs.Names.{begins_with_wb}
use Rattle.model_meaning.specs.Among.{is_name_in}
use Rattle.model_meaning.specs.Model.{Model, StateDeclaration, InputDeclaration}
use Rattle.model_meaning.specs.Invariant.{valued_names}
use Rattle.verilog_meaning.specs.Expression.{is_memory}
use Rattle.verilog_meaning.specs.Hierarchy.{Declaration}
use Rattle.verilog_meaning.specs.Settled.{IsDeclared}
use Rattle.emitted_designs.specs.Names.{clock_name, reset_name, go_name, start_name, commit_name}
use Rattle.emitted_designs.specs.Bounds.{has_children}
use Rattle.emitted_designs.specs.Module.{top_of, object_of, IsRegisterOf, HasRegistersOf, all_states, all_state_names}
use Rattle.emitted_designs.proofs.Named.{in_either, in_front}
use Rattle.emitted_modules.specs.Rtl.{Wire, Rtl, module_of}
use Rattle.emitted_modules.proofs.Names.{Among, among_left, among_right, among_either, among_map, mapped_from, named_among}
use Rattle.emitted_modules.proofs.Declared.{output_net, given_net, register_net, wire_net, nets, HasOwnNames, object_is}
use Rattle.emitted_modules.proofs.Nets.{IsPlain, clock_plain, reset_plain, go_plain, start_plain, commit_plain, input_plain, register_holds, in_own, is_declared, declared_net}
use Rattle.emitted_modules.proofs.NetWidths.{IsBitsSort}
use Rattle.emitted_modules.proofs.Assigned.{AreSorts, register_counted}
use Rattle.emitted_modules.proofs.PortLists.{among_of}

-- ---- registers

pub is_register : (r : Rtl) → HasOwnNames r → AreSorts r.registers → (d : StateDeclaration) → Among d r.registers
    → IsRegisterOf (module_of r) d.state_name d.sort
is_register r own sorts d at = record {
  is_declared =
      is_declared r (register_net d)
      (in_own r own (register_net d)
      (among_left (register_net d) (map register_net r.registers) (map wire_net r.wires) (among_map register_net d r.registers at)));
  object = register_holds r own d at (sorts d at);
  counted = λ k b h. register_counted r own sorts d k b at h;
}

-- what is so of each kind of net is so of each name that is declared
each_net : (r : Rtl) (P : Name → Type 0) → P clock_name → P reset_name → P go_name → ((i : InputDeclaration) → Among i r.inputs → P i.input_name)
    → P start_name → P commit_name → ((d : StateDeclaration) → Among d r.registers → P d.state_name) → ((w : Wire) → Among w r.wires → P w.wire_name)
    → (n : Name) → IsDeclared (top_of (module_of r)) n → P n
each_net r P clock reset go inputs start commit registers wires n dec =
    let net = declared_net r n dec in subst P net.2 (by_place net.0 net.1)
  where
    in_own_nets : (d : Declaration) → Among d (map register_net r.registers) ⊎ Among d (map wire_net r.wires) → P d.of_name
    in_own_nets d (inl h) =
        let s = mapped_from register_net d r.registers h in subst P (ap (λ (x : Declaration). x.of_name) s.2) (registers s.0 s.1)
    in_own_nets d (inr h) = let w = mapped_from wire_net d r.wires h in subst P (ap (λ (x : Declaration). x.of_name) w.2) (wires w.0 w.1)

    in_front_nets : (d : Declaration) → Among d (map given_net r.inputs) ⊎ Among d (output_net start_name ∷ output_net commit_name ∷ []) → P d.of_name
    in_front_nets d (inl h) = let i = mapped_from given_net d r.inputs h in subst P (ap (λ (x : Declaration). x.of_name) i.2) (inputs i.0 i.1)
    in_front_nets d (inr (inl e)) = subst P (ap (λ (x : Declaration). x.of_name) e) start
    in_front_nets d (inr (inr (inl e))) = subst P (ap (λ (x : Declaration). x.of_name) e) commit
    in_front_nets d (inr (inr (inr h))) = absurd h

    in_rest : (d : Declaration)
        → Among d (map given_net r.inputs ++ output_net start_name ∷ output_net commit_name ∷ [])
        ⊎ Among d (map register_net r.registers ++ map wire_net r.wires) → P d.of_name
    in_rest d (inl h) = in_front_nets d (among_either d (map given_net r.inputs) (output_net start_name ∷ output_net commit_name ∷ []) h)
    in_rest d (inr h) = in_own_nets d (among_either d (map register_net r.registers) (map wire_net r.wires) h)

    by_place : (d : Declaration) → Among d (nets r) → P d.of_name
    by_place d (inl e) = subst P (ap (λ (x : Declaration). x.of_name) e) clock
    by_place d (inr (inl e)) = subst P (ap (λ (x : Declaration). x.of_name) e) reset
    by_place d (inr (inr (inl e))) = subst P (ap (λ (x : Declaration). x.of_name) e) go
    by_place d (inr (inr (inr h))) =
        in_rest d
        (among_either d (map given_net r.inputs ++ output_net start_name ∷ output_net commit_name ∷ [])
        (map register_net r.registers ++ map wire_net r.wires) h)

or_left : (a b : Bool) → a ≡ true → (a || b) ≡ true
or_left true b e = refl
or_left false b e = absurd (false≢true e)

or_right : (a b : Bool) → b ≡ true → (a || b) ≡ true
or_right true b e = refl
or_right false b e = e

-- Such a module has the registers of a model without child programs whose states and inputs are its registers and inputs.
pub has_registers : (m : Model) (r : Rtl) (rest : List Name) → HasOwnNames r → AreSorts r.registers
    → ((i : InputDeclaration) → Among i r.inputs → IsBitsSort i.sort)
    → valued_names m ≡ map (λ i. i.input_name) r.inputs ++ (map (λ s. s.state_name) r.registers ++ rest)
    → all_state_names m ≡ map (λ s. s.state_name) r.registers ++ rest → all_states m ≡ r.registers → has_children m ≡ false → ((w : Wire) → Among w r.wires → begins_with_wb w.wire_name ≡ true)
    → HasRegistersOf m (module_of r)
has_registers m r rest own sorts given valued state_valued all childless wires_own = record {
  states = λ d h. is_register r own sorts d (among_of r.registers d (subst (λ ss. Contains ss d) all h));
  busy = λ h. absurd (false≢true (sym childless ∙ h));
  kept_inputs = λ h. absurd (false≢true (sym childless ∙ h));
  others =
      each_net r (λ n. (is_name_in n (valued_names m) || begins_with_wb n) ≡ true) (own_name clock_name refl) (own_name reset_name refl)
      (own_name go_name refl)
      (λ i at. or_left (is_name_in i.input_name (valued_names m)) (begins_with_wb i.input_name)
      (ap (is_name_in i.input_name) valued
      ∙ in_front i.input_name (map (λ x. x.input_name) r.inputs) (map (λ s. s.state_name) r.registers ++ rest)
      (named_among i.input_name (map (λ x. x.input_name) r.inputs) (among_map (λ (x : InputDeclaration). x.input_name) i r.inputs at))))
      (own_name start_name refl) (own_name commit_name refl)
      (λ d at. or_left (is_name_in d.state_name (valued_names m)) (begins_with_wb d.state_name)
      (ap (is_name_in d.state_name) valued
      ∙ in_either d.state_name (map (λ x. x.input_name) r.inputs) (map (λ s. s.state_name) r.registers ++ rest)
      (in_front d.state_name (map (λ s. s.state_name) r.registers) rest
      (named_among d.state_name (map (λ s. s.state_name) r.registers) (among_map (λ (x : StateDeclaration). x.state_name) d r.registers at)))))
      (λ w at. own_name w.wire_name (wires_own w at));
  no_other_memory =
      each_net r (λ n. is_memory (object_of (module_of r) n) ≡ true → is_name_in n (all_state_names m) ≡ true) (no_memory clock_name truth (clock_plain r own))
      (no_memory reset_name truth (reset_plain r own)) (no_memory go_name truth (go_plain r own))
      (λ i at. no_memory i.input_name i.sort (input_plain r own i at (given i at))) (no_memory start_name truth (start_plain r own))
      (no_memory commit_name truth (commit_plain r own)) (λ d at h. ap (is_name_in d.state_name) state_valued
      ∙ in_front d.state_name (map (λ s. s.state_name) r.registers) rest
      (named_among d.state_name (map (λ s. s.state_name) r.registers) (among_map (λ (x : StateDeclaration). x.state_name) d r.registers at)))
      (λ w at h. absurd
      (false≢true
      (sym
      (ap is_memory
      (object_is r (wire_net w) own
      (in_own r own (wire_net w)
      (among_right (wire_net w) (map register_net r.registers) (map wire_net r.wires) (among_map wire_net w r.wires at)))))
      ∙ h)));
}
  where
    own_name : (n : Name) → begins_with_wb n ≡ true → (is_name_in n (valued_names m) || begins_with_wb n) ≡ true
    own_name n e = or_right (is_name_in n (valued_names m)) (begins_with_wb n) e

    no_memory : (n : Name) (t : Sort) → IsPlain r n t → is_memory (object_of (module_of r) n) ≡ true → is_name_in n (all_state_names m) ≡ true
    no_memory n t plain h = absurd (false≢true (sym (ap is_some plain.no_memory) ∙ h))
