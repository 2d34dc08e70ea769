-- The bits of the terms of a cone, one after another.
use Rattle.std.proofs.Common.{◌≡◌, ◌∙◌, ℕ, ◌+◌, ◌<◌, Bool, true, false, cond, List, [], ◌∷◌, length, get_or, Some, Option, Contains, eqb, arith, refl, sym, ap, subst, inl, inr}
use Rattle.std.specs.Prelude.{slice_get, IsSome, nat_eq, Vec}
use Rattle.std.specs.Global.{Global}
use Rattle.std.proofs.lemmas.Map.Views.{exact_unsigned_eq}
use Rattle.std.proofs.lemmas.Bool.{eq-eqb}
use Rattle.wb_terms.specs.declared.nodes.Node.{Node}
use Rattle.wb_terms.specs.Graph.{Graph, tree, trees_of, tree_of_node, operands_of, names_of, AllBelow, IsOver}
use Rattle.gate_base.specs.declared.bits.Bit.{Bit}
use Rattle.gate_base.specs.Circuit.{Circuit, Grows}
use Rattle.sat_gates.specs.Encodes.{Variables}
use Rattle.sat_gates.specs.Names.{names_in}
use Rattle.sat_gates.specs.Cone.{StandsOn, IsCone, AreParts}
use Rattle.sat_gates.specs.Used.{entry_at}
use Rattle.sat_gates.specs.Blasting.{AreBitsOf, bits_at, HasBits, HaveBits, HasVariables, AllHaveVariables}
use Rattle.sat_gates.proofs.NodeBits.{grown}
use Rattle.sat_gates.proofs.Using.{leaf_or_not, names_below}
use Rattle.sat_gates.proofs.Reached.{AreDone, AreAll, operands_done, done_more}

pub node_variables : (g : Graph) (root k : ℕ) (firsts : List (Option ℕ)) (inputs now : ℕ) (n : Node) → AreParts g root → StandsOn g root k
    → tree g k ≡ tree_of_node g n → IsOver g k n → AllHaveVariables g root firsts inputs → now ≡ inputs → HasVariables g root firsts now (names_of n)
node_variables g root k firsts inputs now n parts stands same over all e = elim (leaf_or_not g.names (trees_of g) n) [
  | inl none ↦ subst (HasVariables g root firsts now) (sym none) tt
  | inr l ↦
      let en = entry_at g.names l.0 in
      let here : Contains (names_in (tree g k)) (en.0, en.1) = subst (λ ns. Contains ns (en.0, en.1)) (sym (ap names_in same ∙ l.1.2)) (0, omega arith, refl) in
      subst (HasVariables g root firsts now) (sym l.1.0) (subst (λ i. HasVariables g root firsts i (l.0 ∷ [])) (sym e)
      (all l.0 (names_below (length g.names) l.0 (names_of n) l.1.0 over.names) ((parts k stands).1.names en.0 en.1 here)))
]

have_bits : (g : Graph) (root : ℕ) (m : Variables) (c : Circuit) (bits : ℕ → Option (Vec Bit Global)) (ks : List ℕ) → AreAll (HasBits g root m c bits) ks → HaveBits g root m c bits ks
have_bits g root m c bits [] h = tt
have_bits g root m c bits (k ∷ ks) h = (h.0, have_bits g root m c bits ks h.1)

pub node_operands : (g : Graph) (root : ℕ) (ids : List ℕ) (place k : ℕ) (m : Variables) (c : Circuit) (bits : ℕ → Option (Vec Bit Global)) (n : Node) → IsCone g root ids → place < length ids
    → k ≡ get_or ids place 0 → slice_get g.nodes k ≡ Some n → AllBelow k (operands_of n) → AreDone (HasBits g root m c bits) ids place → HaveBits g root m c bits (operands_of n)
node_operands g root ids place k m c bits n cone i e found below h =
    have_bits g root m c bits (operands_of n) (operands_done (HasBits g root m c bits) g root ids place k n cone i e found below h)

-- the bits of one term more
has_more : (g : Graph) (root k : ℕ) (m : Variables) (c d : Circuit) (bits more : ℕ → Option (Vec Bit Global)) (word : Vec Bit Global) → Grows c d
    → ((q : ℕ) → more q ≡ cond (nat_eq k q) (Some word) (bits q)) → AreBitsOf (tree g root) m d (tree g k) word.items
    → (q : ℕ) (b : Bool) → nat_eq k q ≡ b → HasBits g root m c bits q → HasBits g root m d more q
has_more g root k m c d bits more word grows put new q true e h =
    let at : more q ≡ Some word = put q ∙ ap (λ t. cond t (Some word) (bits q)) e in
    (rw at refl, subst (λ o. AreBitsOf (tree g root) m d (tree g q) (bits_at o)) (sym at) (subst (λ j. AreBitsOf (tree g root) m d (tree g j) word.items) (exact_unsigned_eq k q e) new))
has_more g root k m c d bits more word grows put new q false e h =
    let at : more q ≡ bits q = put q ∙ ap (λ t. cond t (Some word) (bits q)) e in
    (subst (λ o. IsSome o) (sym at) h.0, subst (λ o. AreBitsOf (tree g root) m d (tree g q) (bits_at o)) (sym at) (grown (tree g root) m (tree g q) (bits_at (bits q)) grows h.1))

pub blasted_more : (g : Graph) (root : ℕ) (ids : List ℕ) (place k : ℕ) (m : Variables) (c d : Circuit) (bits more : ℕ → Option (Vec Bit Global)) (word : Vec Bit Global) → Grows c d
    → k ≡ get_or ids place 0 → ((q : ℕ) → more q ≡ cond (nat_eq k q) (Some word) (bits q)) → AreBitsOf (tree g root) m d (tree g k) word.items
    → AreDone (HasBits g root m c bits) ids place → AreDone (HasBits g root m d more) ids (place + 1)
blasted_more g root ids place k m c d bits more word grows e put new h =
    done_more (HasBits g root m d more) ids place k e here
    (λ p i. has_more g root k m c d bits more word grows put new (get_or ids p 0) (nat_eq k (get_or ids p 0)) refl (h p i))
  where
    here : HasBits g root m d more k
    here =
        let at : more k ≡ Some word = put k ∙ ap (λ t. cond t (Some word) (bits k)) (same_eq k) in
        (rw at refl, subst (λ o. AreBitsOf (tree g root) m d (tree g k) (bits_at o)) (sym at) new)
      where
        same_eq : (j : ℕ) → nat_eq j j ≡ true
        same_eq j = eq-eqb j j refl
