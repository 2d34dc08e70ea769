-- The names that an emitted module declares are all different.
use Rattle.std.proofs.Common.{◌≡◌, ℕ, ◌+◌, ◌<◌, ◌^◌, Bool, true, false, not, ◌⊎◌, inl, inr, List, [], ◌∷◌, ◌++◌, map, length, refl, sym, ◌∙◌, ap, subst, arith}
use Rattle.std.specs.List.{list_all}
use Rattle.std.proofs.lemmas.Bool.{false≢true, or_parts, and_parts}
use Rattle.std.proofs.lemmas.List.{map-append}
use Rattle.wb_values.specs.Value.{Name, same_name}
use Rattle.wb_values.specs.Names.{begins_with_wb, is_name_byte, is_model_name, is_kept_word}
use Rattle.model_meaning.specs.Among.{is_name_in}
use Rattle.model_meaning.specs.Model.{Machine, machine, StateDeclaration, InputDeclaration, Model, states_of}
use Rattle.model_meaning.specs.Invariant.{all_machines, program_machines, gathered, state_names, valued_names}
use Rattle.verilog_trees.specs.Syntax.{Expression}
use Rattle.verilog_meaning.specs.Hierarchy.{Declaration}
use Rattle.wb_terms.specs.Graph.{Graph}
use Rattle.emitted_designs.specs.Names.{clock_name, reset_name, go_name, start_name, commit_name}
use Rattle.emitted_designs.specs.Module.{all_state_names}
use Rattle.emitted_designs.proofs.Named.{same_if}
use Rattle.emitted_modules.specs.Rtl.{Wire, Rtl}
use Rattle.emitted_modules.specs.Nodes.{wire_name_of, word_name, node_wires}
use Rattle.emitted_modules.specs.Stores.{MemoryUpdate, via_name}
use Rattle.emitted_modules.specs.Module.{none_name, one_name, decode_wires, all_ways}
use Rattle.emitted_modules.proofs.Names.{Among, among_either, AreDistinct, distinct_parts, distinct_joined, apart_in, none_in, not_in_both}
use Rattle.emitted_modules.proofs.Declared.{output_net, given_net, register_net, wire_net, nets, HasOwnNames}
use Rattle.emitted_modules.proofs.WireNames.{wire_names, name_either, wires_joined, IsNodeName, node_names, distinct_nodes, IsDecodeName, decode_names, distinct_decodes, AreAllOther, AreLow, IsWayName, all_way_names, distinct_ways, node_not_decode, node_not_way, decode_not_way}

-- ---- names of models

abbrev pub input_names : List InputDeclaration → List Name
input_names is = map (λ i. i.input_name) is

abbrev pub names_of_states : List StateDeclaration → List Name
names_of_states ss = map (λ s. s.state_name) ss

pub valued_by : (m : Model)
    → (rest : List Name) × (valued_names m ≡ input_names m.inputs ++ (names_of_states (states_of m.top) ++ rest))
    × (all_state_names m ≡ names_of_states (states_of m.top) ++ rest)
valued_by m = by_machine m.top
  where
    by_machine : (top : Machine)
        → (rest : List Name)
        × (input_names m.inputs ++ gathered state_names (all_machines top) ≡ input_names m.inputs ++ (names_of_states (states_of top) ++ rest))
        × (gathered state_names (all_machines top) ≡ names_of_states (states_of top) ++ rest)
    by_machine (machine states valid is) = (gathered state_names (program_machines is), refl, refl)

pub each_legal : (ns : List Name) (n : Name) → list_all is_model_name ns ≡ true → Among n ns → is_model_name n ≡ true
each_legal [] n e h = absurd h
each_legal (m ∷ ns) n e (inl f) = subst (λ k. is_model_name k ≡ true) f (and_parts (is_model_name m) (list_all is_model_name ns) e).0
each_legal (m ∷ ns) n e (inr h) = each_legal ns n (and_parts (is_model_name m) (list_all is_model_name ns) e).1 h

not_true : (b : Bool) → not b ≡ true → b ≡ false
not_true true e = sym e
not_true false e = refl

-- a legal name does not begin with wb_, and has no dots
pub not_own : (n : Name) → is_model_name n ≡ true → begins_with_wb n ≡ false
not_own n e = (or_parts _ (begins_with_wb n) (not_true (is_kept_word n) (and_parts _ (not (is_kept_word n)) e).1)).1

pub name_bytes : (n : Name) → is_model_name n ≡ true → list_all is_name_byte n ≡ true
name_bytes n e = (and_parts _ (list_all is_name_byte n) (and_parts _ _ (and_parts _ (not (is_kept_word n)) e).0).0).1

-- ---- names apart

-- what is so of one name and of none of the others
apart_by : (q : Name → Bool) (n : Name) (ns : List Name) → q n ≡ true → ((k : Name) → Among k ns → q k ≡ false) → is_name_in n ns ≡ false
apart_by q n ns e h = none_in n ns (λ k g. by_test k (same_name n k) refl (h k g))
  where
    by_test : (k : Name) (b : Bool) → same_name n k ≡ b → q k ≡ false → b ≡ false
    by_test k true same f = absurd (false≢true (sym f ∙ (ap q (sym (same_if n k same)) ∙ e)))
    by_test k false other f = refl

abbrev Controls : List Name
Controls = start_name ∷ commit_name ∷ []

-- the names that such a module declares
abbrev all_names : Rtl → List Name
all_names r =
    clock_name ∷ reset_name ∷ go_name ∷ ((input_names r.inputs ++ Controls) ++ (names_of_states r.registers ++ wire_names r.wires))

inputs_named : (is : List InputDeclaration) → map (λ d. d.of_name) (map given_net is ++ output_net start_name ∷ output_net commit_name ∷ [])
    ≡ input_names is ++ Controls
inputs_named [] = refl
inputs_named (i ∷ is) = ap (λ ns. i.input_name ∷ ns) (inputs_named is)

wires_named : (ws : List Wire) → map (λ d. d.of_name) (map wire_net ws) ≡ wire_names ws
wires_named [] = refl
wires_named (w ∷ ws) = ap (λ ns. w.wire_name ∷ ns) (wires_named ws)

own_named : (ss : List StateDeclaration) (ws : List Wire) → map (λ d. d.of_name) (map register_net ss ++ map wire_net ws) ≡ names_of_states ss ++ wire_names ws
own_named [] ws = wires_named ws
own_named (s ∷ ss) ws = ap (λ ns. s.state_name ∷ ns) (own_named ss ws)

names_are : (r : Rtl) → map (λ (d : Declaration). d.of_name) (nets r) ≡ all_names r
names_are r =
    ap (λ ns. clock_name ∷ reset_name ∷ go_name ∷ ns)
    (map-append (λ (d : Declaration). d.of_name) (map given_net r.inputs ++ output_net start_name ∷ output_net commit_name ∷ [])
    (map register_net r.registers ++ map wire_net r.wires)
    ∙ (ap (λ ns. ns ++ map (λ (d : Declaration). d.of_name) (map register_net r.registers ++ map wire_net r.wires)) (inputs_named r.inputs)
    ∙ ap (λ ns. (input_names r.inputs ++ Controls) ++ ns) (own_named r.registers r.wires)))

-- What is needed of the names of such a module.
pub record AreApart (r : Rtl) : Type 0 where
  pub valued : AreDistinct (input_names r.inputs ++ names_of_states r.registers)
  pub own_inputs : (n : Name) → Among n (input_names r.inputs) → begins_with_wb n ≡ false
  pub own_states : (n : Name) → Among n (names_of_states r.registers) → begins_with_wb n ≡ false
  pub wires : AreDistinct (wire_names r.wires)
  pub own_wires : (n : Name) → Among n (wire_names r.wires) → begins_with_wb n ≡ true
  pub no_controls : (n : Name) → Among n (wire_names r.wires) → is_name_in n (clock_name ∷ reset_name ∷ go_name ∷ Controls) ≡ false

module _ (r : Rtl) (h : AreApart r) where
  no_input : (n : Name) → begins_with_wb n ≡ true → is_name_in n (input_names r.inputs) ≡ false
  no_input n e = apart_by begins_with_wb n (input_names r.inputs) e h.own_inputs

  no_state : (n : Name) → begins_with_wb n ≡ true → is_name_in n (names_of_states r.registers) ≡ false
  no_state n e = apart_by begins_with_wb n (names_of_states r.registers) e h.own_states

  no_wire : (n : Name) → is_name_in n (clock_name ∷ reset_name ∷ go_name ∷ Controls) ≡ true → is_name_in n (wire_names r.wires) ≡ false
  no_wire n e = apart_by (λ k. is_name_in k (clock_name ∷ reset_name ∷ go_name ∷ Controls)) n (wire_names r.wires) e h.no_controls

  no_others : (n : Name) → begins_with_wb n ≡ true → is_name_in n Controls ≡ false → is_name_in n (clock_name ∷ reset_name ∷ go_name ∷ Controls) ≡ true
      → is_name_in n ((input_names r.inputs ++ Controls) ++ (names_of_states r.registers ++ wire_names r.wires)) ≡ false
  no_others n e f c =
      not_in_both n (input_names r.inputs ++ Controls) (names_of_states r.registers ++ wire_names r.wires)
      (not_in_both n (input_names r.inputs) Controls (no_input n e) f)
      (not_in_both n (names_of_states r.registers) (wire_names r.wires) (no_state n e) (no_wire n c))

  -- a name of a model is no control and no wire
  model_apart : (n : Name) (ns : List Name) → begins_with_wb n ≡ false → ((k : Name) → Among k ns → begins_with_wb k ≡ true) → is_name_in n ns ≡ false
  model_apart n ns e all = apart_by (λ k. not (begins_with_wb k)) n ns (ap not e) (λ k g. ap not (all k g))

  controls_own : (n : Name) → Among n Controls → begins_with_wb n ≡ true
  controls_own n (inl e) = ap begins_with_wb (sym e)
  controls_own n (inr (inl e)) = ap begins_with_wb (sym e)
  controls_own n (inr (inr k)) = absurd k

  front_apart : (n : Name) → Among n (input_names r.inputs ++ Controls) → is_name_in n (names_of_states r.registers ++ wire_names r.wires) ≡ false
  front_apart n at = by_place (among_either n (input_names r.inputs) Controls at)
    where
      by_place : Among n (input_names r.inputs) ⊎ Among n Controls → is_name_in n (names_of_states r.registers ++ wire_names r.wires) ≡ false
      by_place (inl k) =
          not_in_both n (names_of_states r.registers) (wire_names r.wires)
          (apart_in (input_names r.inputs) (names_of_states r.registers) n h.valued k)
          (model_apart n (wire_names r.wires) (h.own_inputs n k) h.own_wires)
      by_place (inr (inl e)) =
          subst (λ m. is_name_in m (names_of_states r.registers ++ wire_names r.wires) ≡ false) e
          (not_in_both start_name (names_of_states r.registers) (wire_names r.wires) (no_state start_name refl) (no_wire start_name refl))
      by_place (inr (inr (inl e))) =
          subst (λ m. is_name_in m (names_of_states r.registers ++ wire_names r.wires) ≡ false) e
          (not_in_both commit_name (names_of_states r.registers) (wire_names r.wires) (no_state commit_name refl) (no_wire commit_name refl))
      by_place (inr (inr (inr k))) = absurd k

  pub has_own_names : HasOwnNames r
  has_own_names =
      subst AreDistinct (sym (names_are r)) (
        no_others clock_name refl refl refl,
        (
          no_others reset_name refl refl refl,
          (
            no_others go_name refl refl refl,
            distinct_joined (input_names r.inputs ++ Controls) (names_of_states r.registers ++ wire_names r.wires)
                (distinct_joined (input_names r.inputs) Controls (distinct_parts (input_names r.inputs) (names_of_states r.registers) h.valued).0
                (refl, (refl, tt)) (λ n k. model_apart n Controls (h.own_inputs n k) controls_own))
                (distinct_joined (names_of_states r.registers) (wire_names r.wires)
                (distinct_parts (input_names r.inputs) (names_of_states r.registers) h.valued).1 h.wires
                (λ n k. model_apart n (wire_names r.wires) (h.own_states n k) h.own_wires))
                front_apart,
          ),
        ),
      )

-- ---- the wires of an emitted module

module _ (g : Graph) (keep : ℕ → Bool) (ds : List Expression) (us : List MemoryUpdate) (few : length g.nodes < 2 ^ 64) (few_decodes : length ds < 2 ^ 64)
    (other : AreAllOther us) (low : AreLow us) where
  abbrev pub emitted_wires : List Wire
  emitted_wires = node_wires g keep 0 g.nodes ++ (decode_wires ds ++ all_ways g us)

  pub distinct_wires : AreDistinct (wire_names emitted_wires)
  distinct_wires =
      wires_joined (node_wires g keep 0 g.nodes) (decode_wires ds ++ all_ways g us) (distinct_nodes g keep 0 g.nodes (omega (arith, few)))
      (wires_joined (decode_wires ds) (all_ways g us) (distinct_decodes ds few_decodes) (distinct_ways g us other low)
      (λ n k at there. decode_not_way us (length ds) n k (decode_names ds n at) (all_way_names g us k there)))
      (λ n k at there. by_place n k (node_names g keep 0 g.nodes n at) (name_either k (decode_wires ds) (all_ways g us) there))
    where
      by_place : (n k : Name) → IsNodeName 0 (0 + length g.nodes) n → Among k (wire_names (decode_wires ds)) ⊎ Among k (wire_names (all_ways g us))
          → same_name n k ≡ false
      by_place n k (j, above, below, e) (inl at) = node_not_decode j (length ds) n k e (decode_names ds k at)
      by_place n k (j, above, below, e) (inr at) = node_not_way us j n k e (all_way_names g us k at)

  -- what is so of each name of a wire
  each_wire : (P : Name → Type 0) → ((j : ℕ) → P (wire_name_of j)) → ((l k : ℕ) → P (word_name l k)) → ((j : ℕ) → P (none_name j)) → ((j : ℕ) → P (one_name j))
      → ((u : MemoryUpdate) (k : ℕ) → P (via_name u k)) → (n : Name) → Among n (wire_names emitted_wires) → P n
  each_wire P nodes words nones ones ways n at = by_place (name_either n (node_wires g keep 0 g.nodes) (decode_wires ds ++ all_ways g us) at)
    where
      by_node : IsNodeName 0 (0 + length g.nodes) n → P n
      by_node (j, above, below, inl e) = subst P e (nodes j)
      by_node (j, above, below, inr (k, less, e)) = subst P e (words j k)

      by_decode : IsDecodeName (length ds) n → P n
      by_decode (j, le, inl e) = subst P e (nones j)
      by_decode (j, le, inr e) = subst P e (ones j)

      by_way : IsWayName us n → P n
      by_way (u, there, (k, less, e)) = subst P e (ways u k)

      by_rest : Among n (wire_names (decode_wires ds)) ⊎ Among n (wire_names (all_ways g us)) → P n
      by_rest (inl k) = by_decode (decode_names ds n k)
      by_rest (inr k) = by_way (all_way_names g us n k)

      by_place : Among n (wire_names (node_wires g keep 0 g.nodes)) ⊎ Among n (wire_names (decode_wires ds ++ all_ways g us)) → P n
      by_place (inl k) = by_node (node_names g keep 0 g.nodes n k)
      by_place (inr k) = by_rest (name_either n (decode_wires ds) (all_ways g us) k)

  pub wires_own : (n : Name) → Among n (wire_names emitted_wires) → begins_with_wb n ≡ true
  wires_own = each_wire (λ n. begins_with_wb n ≡ true) (λ j. refl) (λ l k. refl) (λ j. refl) (λ j. refl) (λ u k. refl)

  pub wires_no_controls : (n : Name) → Among n (wire_names emitted_wires) → is_name_in n (clock_name ∷ reset_name ∷ go_name ∷ Controls) ≡ false
  wires_no_controls =
      each_wire (λ n. is_name_in n (clock_name ∷ reset_name ∷ go_name ∷ Controls) ≡ false) (λ j. refl) (λ l k. refl) (λ j. refl) (λ j. refl) (λ u k. refl)
