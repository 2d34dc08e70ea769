-- Widths of nets, and what a name that is declared is.
use Rattle.std.proofs.Common.{◌≡◌, ℕ, Bool, true, false, ◌||◌, inl, inr, List, [], ◌∷◌, ◌++◌, map, None, refl, sym, ◌∙◌, ap, subst}
use Rattle.std.proofs.lemmas.Bool.{false≢true}
use Rattle.wb_values.specs.Value.{Name, same_name, Sort, truth, word, memory}
use Rattle.model_meaning.specs.Term.{is_sort}
use Rattle.model_meaning.specs.Model.{StateDeclaration, InputDeclaration}
use Rattle.verilog_meaning.specs.Hierarchy.{Declaration, declared_object}
use Rattle.verilog_meaning.specs.Settled.{IsDeclared, is_declared_among}
use Rattle.term_expressions.specs.Laws.{IsPlainNet, IsMemory}
use Rattle.emitted_designs.specs.Names.{clock_name, reset_name, go_name, start_name, commit_name}
use Rattle.emitted_designs.specs.Module.{top_of, HoldsSort}
use Rattle.emitted_designs.proofs.Named.{same_of, same_if}
use Rattle.emitted_modules.specs.Rtl.{Wire, Rtl, bits_of_sort, module_of}
use Rattle.emitted_modules.proofs.Names.{Among, among_left, among_right, among_map}
use Rattle.emitted_modules.proofs.Declared.{input_net, output_net, given_net, register_net, wire_net, nets, are_declared, HasOwnNames, scope_in, nothing_known, object_is}
use Rattle.emitted_modules.proofs.NetWidths.{IsBitsSort, IsPlainObject, object_of_sort, plain_of_sort, register_object, memory_of_sort}

-- ---- nets of the module

-- a net that holds values of a sort
abbrev pub IsPlain : Rtl → Name → Sort → Type 0
IsPlain r n t = IsPlainObject (scope_in r n) (bits_of_sort t)

pub plain_net : (r : Rtl) (n : Name) (t : Sort) → IsPlain r n t → IsPlainNet (scope_in r) n (bits_of_sort t)
plain_net r n t h = record { width = h.width; unsigned = h.unsigned; no_memory = h.no_memory; no_parameter = h.no_parameter }

pub holds_sort : (r : Rtl) (n : Name) (t : Sort) → IsBitsSort t → IsPlain r n t → HoldsSort t (scope_in r n)
holds_sort r n truth k h = (h.width, h.no_memory)
holds_sort r n (word w) k h = (h.width, h.no_memory)
holds_sort r n (memory a d) k h = absurd k

module _ (r : Rtl) (own : HasOwnNames r) where
  plain_by : (d : Declaration) (t : Sort) → IsBitsSort t → Among d (nets r) → declared_object nothing_known d ≡ object_of_sort t → IsPlain r d.of_name t
  plain_by d t h at e = subst (λ o. IsPlainObject o (bits_of_sort t)) (sym (object_is r d own at ∙ e)) (plain_of_sort t h)

  pub clock_plain : IsPlain r clock_name truth
  clock_plain = plain_by (input_net clock_name truth) truth tt (inl refl) refl

  pub reset_plain : IsPlain r reset_name truth
  reset_plain = plain_by (input_net reset_name truth) truth tt (inr (inl refl)) refl

  pub go_plain : IsPlain r go_name truth
  go_plain = plain_by (input_net go_name truth) truth tt (inr (inr (inl refl))) refl

  pub in_ports : (d : Declaration) → Among d (map given_net r.inputs ++ output_net start_name ∷ output_net commit_name ∷ []) → Among d (nets r)
  in_ports d h =
      inr (inr (inr (among_left d (map given_net r.inputs ++ output_net start_name ∷ output_net commit_name ∷ [])
      (map register_net r.registers ++ map wire_net r.wires) h)))

  pub start_plain : IsPlain r start_name truth
  start_plain =
      plain_by (output_net start_name) truth tt
      (in_ports (output_net start_name)
      (among_right (output_net start_name) (map given_net r.inputs) (output_net start_name ∷ output_net commit_name ∷ []) (inl refl)))
      refl

  pub commit_plain : IsPlain r commit_name truth
  commit_plain =
      plain_by (output_net commit_name) truth tt
      (in_ports (output_net commit_name)
      (among_right (output_net commit_name) (map given_net r.inputs) (output_net start_name ∷ output_net commit_name ∷ []) (inr (inl refl))))
      refl

  pub input_plain : (i : InputDeclaration) → Among i r.inputs → IsBitsSort i.sort → IsPlain r i.input_name i.sort
  input_plain i at h =
      plain_by (given_net i) i.sort h
      (in_ports (given_net i)
      (among_left (given_net i) (map given_net r.inputs) (output_net start_name ∷ output_net commit_name ∷ []) (among_map given_net i r.inputs at)))
      refl

  pub in_own : (d : Declaration) → Among d (map register_net r.registers ++ map wire_net r.wires) → Among d (nets r)
  in_own d h =
      inr (inr (inr (among_right d (map given_net r.inputs ++ output_net start_name ∷ output_net commit_name ∷ [])
      (map register_net r.registers ++ map wire_net r.wires) h)))

  pub register_plain : (d : StateDeclaration) → Among d r.registers → IsBitsSort d.sort → IsPlain r d.state_name d.sort
  register_plain d at h =
      plain_by (register_net d) d.sort h
      (in_own (register_net d)
      (among_left (register_net d) (map register_net r.registers) (map wire_net r.wires) (among_map register_net d r.registers at)))
      (register_object d h)

  pub register_memory : (d : StateDeclaration) (a w : ℕ) → Among d r.registers → d.sort ≡ memory a w → is_sort d.sort ≡ true
      → IsMemory (scope_in r) d.state_name a w
  register_memory d a w at e h =
      memory_of_sort (scope_in r) d.state_name a w (ap is_sort (sym e) ∙ h)
      (object_is r (register_net d) own
      (in_own (register_net d)
      (among_left (register_net d) (map register_net r.registers) (map wire_net r.wires) (among_map register_net d r.registers at)))
      ∙ ap (λ t. declared_object nothing_known (register_net (record { state_name = d.state_name; sort = t; init = None }))) e)

  -- a register holds the values of its sort
  pub register_holds : (d : StateDeclaration) → Among d r.registers → is_sort d.sort ≡ true → HoldsSort d.sort (scope_in r d.state_name)
  register_holds d at h = by_sort d.sort refl
    where
      by_sort : (t : Sort) → d.sort ≡ t → HoldsSort t (scope_in r d.state_name)
      by_sort truth e =
          holds_sort r d.state_name truth tt
          (subst (IsPlain r d.state_name) e (register_plain d at (subst IsBitsSort (sym e) tt)))
      by_sort (word w) e =
          holds_sort r d.state_name (word w) (ap is_sort (sym e) ∙ h)
          (subst (IsPlain r d.state_name) e (register_plain d at (subst IsBitsSort (sym e) (ap is_sort (sym e) ∙ h))))
      by_sort (memory a w) e = let m = register_memory d a w at e h in (m.width, m.addresses)

  pub wire_plain : (w : Wire) → Among w r.wires → IsBitsSort w.sort → IsPlain r w.wire_name w.sort
  wire_plain w at h =
      plain_by (wire_net w) w.sort h
      (in_own (wire_net w)
      (among_right (wire_net w) (map register_net r.registers) (map wire_net r.wires) (among_map wire_net w r.wires at)))
      refl

-- ---- declared names

among_declared : (ds : List Declaration) (d : Declaration) → Among d ds → is_declared_among ds d.of_name ≡ true
among_declared [] d h = absurd h
among_declared (e ∷ ds) d (inl f) =
    ap (λ b. b || is_declared_among ds d.of_name) (same_of e.of_name d.of_name (ap (λ x. x.of_name) f))
among_declared (e ∷ ds) d (inr h) = or_more (same_name e.of_name d.of_name) (is_declared_among ds d.of_name) (among_declared ds d h)
  where
    or_more : (a b : Bool) → b ≡ true → (a || b) ≡ true
    or_more true b k = refl
    or_more false b k = k

pub is_declared : (r : Rtl) (d : Declaration) → Among d (nets r) → IsDeclared (top_of (module_of r)) d.of_name
is_declared r d h = ap (λ ds. is_declared_among ds d.of_name) (are_declared r) ∙ among_declared (nets r) d h

declared_among : (ds : List Declaration) (n : Name) → is_declared_among ds n ≡ true → (d : Declaration) × Among d ds × (d.of_name ≡ n)
declared_among [] n h = absurd (false≢true h)
declared_among (d ∷ ds) n h = by_test (same_name d.of_name n) refl h (λ k. declared_among ds n k)
  where
    by_test : (b : Bool) → same_name d.of_name n ≡ b → (b || is_declared_among ds n) ≡ true
        → (is_declared_among ds n ≡ true → (e : Declaration) × Among e ds × (e.of_name ≡ n)) → (e : Declaration) × Among e (d ∷ ds) × (e.of_name ≡ n)
    by_test true same k more = (d, inl refl, same_if d.of_name n same)
    by_test false other k more = let m = more k in (m.0, inr m.1, m.2)

pub declared_net : (r : Rtl) (n : Name) → IsDeclared (top_of (module_of r)) n → (d : Declaration) × Among d (nets r) × (d.of_name ≡ n)
declared_net r n h = declared_among (nets r) n (sym (ap (λ ds. is_declared_among ds n) (are_declared r)) ∙ h)
