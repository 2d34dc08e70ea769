-- A bit of a design comes from an input of the top exactly where it comes, in one scope, from the bits of the inputs there.
use Rattle.std.proofs.Common.{◌≡◌, ◌∙◌, refl, ap, sym, subst, Bool, true, false, not, List, [], ◌∷◌, ◌⊎◌, inl, inr, Some}
use Rattle.std.specs.Prelude.{IsTrue, ◌↔◌, ◌&&◌, ◌||◌, Contains}
use Rattle.std.proofs.lemmas.Bool.{false≢true, true≢false, and_parts, and_from, or_cases, or_left, or_right}
use Rattle.std.proofs.lemmas.Slice.Eq.{bytes_eq-Decides}
use Rattle.wb_values.specs.Value.{Name, same_name}
use Rattle.verilog_trees.specs.Syntax.{input, Item}
use Rattle.verilog_meaning.specs.Expression.{Scope, is_memory}
use Rattle.verilog_meaning.specs.Register.{is_bit_of, combinational_blocks, clocked_blocks}
use Rattle.verilog_meaning.specs.Hierarchy.{Placed, placed_scope}
use Rattle.verilog_meaning.specs.Settled.{Design, IsPlacedIn, at_path, assignments, HasPort}
use Rattle.verilog_unique.proofs.Descent.{IsAmong, among_contains, contains_among}
use Rattle.verilog_unique.proofs.Paths.{stands_at, placed_in}
use Rattle.verilog_unique.proofs.Ports.{port_is_declared}
use Rattle.verilog_designs.specs.Reads.{BitSet}
use Rattle.verilog_designs.specs.Dependence.{Bit, is_in, PlacedBit, bit_of, DependsFar}
use Rattle.flat_designs.specs.Flat.{IsNameOf, Naming}
use Rattle.flat_designs.specs.Depending.{DependsFlat, DependsFlatFar, flat_bit, DependsTheSame, BitsDependOnTheSame}
use Rattle.v_depend.specs.Resting.{IsThere}
use Rattle.v_loops.specs.OneModule.{DependsIn, DependsFarIn}
use Rattle.v_loops.proofs.Steps.{to-there}
use Rattle.map_rules.specs.Inputs.{IsInputBit, ComesFromInput}
use Rattle.map_rules.specs.Inputs as rules
use Rattle.v_reach.specs.Coming.{ComesFrom, itself, through}
use Rattle.map_inputs.specs.Bits.{name_bits, input_bits}
use Rattle.map_inputs.specs.Laws.{IsInputUnder, HasInputs}

-- ---- dependence in one scope, said twice

module _ (s : Scope) (items : List Item) where
  to-flat : (u y : Bit) → DependsIn s items u y → DependsFlat s (assignments items) (combinational_blocks items) u y
  to-flat _ _ (DependsIn.by_assignment a u y c h g) = DependsFlat.by_link a u y c h g
  to-flat _ _ (DependsIn.by_block x u y c h m g) = DependsFlat.by_block x u y c h m g

  from-flat : (u y : Bit) → DependsFlat s (assignments items) (combinational_blocks items) u y → DependsIn s items u y
  from-flat _ _ (DependsFlat.by_link a u y c h g) = DependsIn.by_assignment a u y c h g
  from-flat _ _ (DependsFlat.by_block x u y c h m g) = DependsIn.by_block x u y c h m g

  to-flat-far : (u y : Bit) → DependsFarIn s items u y → DependsFlatFar s (assignments items) (combinational_blocks items) u y
  to-flat-far _ _ (DependsFarIn.step u y h) = DependsFlatFar.step u y (to-flat u y h)
  to-flat-far _ _ (DependsFarIn.further u x y h g) = DependsFlatFar.further u x y (to-flat u x h) (to-flat-far x y g)

  from-flat-far : (u y : Bit) → DependsFlatFar s (assignments items) (combinational_blocks items) u y → DependsFarIn s items u y
  from-flat-far _ _ (DependsFlatFar.step u y h) = DependsFarIn.step u y (from-flat u y h)
  from-flat-far _ _ (DependsFlatFar.further u x y h g) = DependsFarIn.further u x y (from-flat u x h) (from-flat-far x y g)

  -- the last bit is one that there is
  pub far-there : (u y : Bit) → DependsFarIn s items u y → IsThere s y
  far-there _ _ (DependsFarIn.step u y h) = to-there s items u y h
  far-there _ _ (DependsFarIn.further u x y h g) = far-there x y g

-- ---- the bits of names

module _ (s : Scope) where
  in-input : (names : List Name) (u : Bit) → is_in (input_bits s names) u ≡ true → IsAmong names u.of_name
  in-input [] u h = absurd (false≢true h)
  in-input (m ∷ names) u h = at (in-input names u) (or_cases (is_in (name_bits s m) u) (is_in (input_bits s names) u) h)
    where
      at : (is_in (input_bits s names) u ≡ true → IsAmong names u.of_name) → (is_in (name_bits s m) u ≡ true) ⊎ (is_in (input_bits s names) u ≡ true)
          → IsAmong (m ∷ names) u.of_name
      at f (inl e) =
          let both = and_parts (not (is_memory (s m))) (is_bit_of (s u.of_name) u.word u.place && same_name m u.of_name) e in
          inl ((bytes_eq-Decides m u.of_name).0 (and_parts (is_bit_of (s u.of_name) u.word u.place) (same_name m u.of_name) both.1).1)
      at f (inr e) = inr (f e)

  input-in : (names : List Name) (u : Bit) → IsThere s u → is_memory (s u.of_name) ≡ false → IsAmong names u.of_name → is_in (input_bits s names) u ≡ true
  input-in [] u there plain h = absurd h
  input-in (m ∷ names) u there plain (inl e) =
      or_left (is_in (name_bits s m) u) (is_in (input_bits s names) u)
      (and_from (not (is_memory (s m))) (is_bit_of (s u.of_name) u.word u.place && same_name m u.of_name)
      (subst (λ (n : Name). not (is_memory (s n)) ≡ true) (sym e) (ap not plain))
      (and_from (is_bit_of (s u.of_name) u.word u.place) (same_name m u.of_name) there ((bytes_eq-Decides m u.of_name).1 e)))
  input-in (m ∷ names) u there plain (inr h) = or_right (is_in (name_bits s m) u) (is_in (input_bits s names) u) (input-in names u there plain h)

-- ---- the two

module _ (law : BitsDependOnTheSame) (d : Design) (f : Naming) (s : Scope) (items : List Item) (names : List Name) (h : HasInputs d f s items names) where
  same : DependsTheSame d f s (assignments items) (combinational_blocks items)
  same = law d f s (assignments items) (combinational_blocks items) (clocked_blocks items) h.no_undeclared h.naming h.flat

  -- a bit of an input of the top, as a bit of the module at the top
  record IsTopBit (y : PlacedBit) : Type 0 where
    top : Placed
    placed : IsPlacedIn d top
    is_bit : bit_of top y.bit ≡ y
    is_name : IsNameOf top y.bit.of_name
    is_plain : is_memory (s (f top.path y.bit.of_name)) ≡ false
    is_input : IsInputUnder d f (f top.path y.bit.of_name)

  top-bit : (y : PlacedBit) → IsInputBit d y → IsTopBit y
  top-bit y i =
      let path = stands_at d [] i.top i.is_top in
      let placed = placed_in d [] i.top i.is_top in
      let known : IsNameOf i.top y.bit.of_name = inl (port_is_declared i.top y.bit.of_name input i.is_port) in
      record {
        top = i.top;
        placed = placed;
        is_bit = λ j. record { path = (path ∙ sym i.at_top) j; bit = y.bit };
        is_name = known;
        is_plain = ap is_memory (h.flat.says_the_same i.top y.bit.of_name placed known) ∙ h.words i.top y.bit.of_name i.is_top i.is_port;
        is_input = record { top = i.top; port = y.bit.of_name; is_top = i.is_top; is_port = i.is_port; is_new = ap (λ q. f q y.bit.of_name) (sym path) };
      }

  module _ (p : Placed) (u : Bit) (at : IsPlacedIn d p) (named : IsNameOf p u.of_name) (there : IsThere s (flat_bit f p u)) where
    -- ---- from the design to the scope

    marked-at : (y : PlacedBit) (i : IsTopBit y) → IsThere s (flat_bit f i.top y.bit) → IsTrue (is_in (input_bits s names) (flat_bit f i.top y.bit))
    marked-at y i is_there =
        input-in s names (flat_bit f i.top y.bit) is_there i.is_plain
        (among_contains names (f i.top.path y.bit.of_name) ((h.are_inputs (f i.top.path y.bit.of_name)).1 i.is_input))

    in-scope : ComesFromInput d (bit_of p u) → ComesFrom s items (input_bits s names) (flat_bit f p u)
    in-scope (rules.itself i) =
        let t = top-bit (bit_of p u) i in
        let one : flat_bit f t.top u ≡ flat_bit f p u = ap (λ (y : PlacedBit). flat_bit f (record p { path = y.path }) u) t.is_bit in
        itself (subst (λ (z : Bit). IsTrue (is_in (input_bits s names) z)) one (marked-at (bit_of p u) t (subst (IsThere s) (sym one) there)))
    in-scope (rules.through y g i) =
        let t = top-bit y i in
        let far = to-scope y t g in
        through (flat_bit f t.top y.bit) far (marked-at y t (far-there s items (flat_bit f p u) (flat_bit f t.top y.bit) far))
      where
        to-scope : (y : PlacedBit) (t : IsTopBit y) → DependsFar d (bit_of p u) y → DependsFarIn s items (flat_bit f p u) (flat_bit f t.top y.bit)
        to-scope y t g =
            from-flat-far s items (flat_bit f p u) (flat_bit f t.top y.bit)
            ((same.far p t.top u y.bit at t.placed named t.is_name).0 (subst (λ (z : PlacedBit). DependsFar d (bit_of p u) z) (sym t.is_bit) g))

    -- ---- and back

    input-under : (z : Bit) → IsTrue (is_in (input_bits s names) z) → IsInputUnder d f z.of_name
    input-under z k = (h.are_inputs z.of_name).0 (contains_among names z.of_name (in-input s names z k))

    in-design : ComesFrom s items (input_bits s names) (flat_bit f p u) → ComesFromInput d (bit_of p u)
    in-design (itself k) =
        let i = input-under (flat_bit f p u) k in
        let path = stands_at d [] i.top i.is_top in
        let placed = placed_in d [] i.top i.is_top in
        let known : IsNameOf i.top i.port = inl (port_is_declared i.top i.port input i.is_port) in
        let r = h.naming.tells i.top p i.port u.of_name placed at known named (ap (λ q. f q i.port) path ∙ i.is_new) in
        rules.itself (record {
          top = i.top;
          is_top = i.is_top;
          at_top = sym r.0 ∙ path;
          is_port = subst (λ (n : Name). HasPort i.top.of_module n input) r.1 i.is_port;
        })
    in-design (through z g k) =
        let i = input-under z k in
        let path = stands_at d [] i.top i.is_top in
        let placed = placed_in d [] i.top i.is_top in
        let known : IsNameOf i.top i.port = inl (port_is_declared i.top i.port input i.is_port) in
        let y : Bit = record { of_name = i.port; word = z.word; place = z.place } in
        let one : flat_bit f i.top y ≡ z = (λ j. record { of_name = (ap (λ q. f q i.port) path ∙ i.is_new) j; word = z.word; place = z.place }) in
        let far = subst (λ (w : Bit). DependsFlatFar s (assignments items) (combinational_blocks items) (flat_bit f p u) w) (sym one) (to-flat-far s items (flat_bit f p u) z g) in
        rules.through (bit_of i.top y) ((same.far p i.top u y at placed named known).1 far)
        (record { top = i.top; is_top = i.is_top; at_top = path; is_port = i.is_port })

    pub comes-the-same : ComesFromInput d (bit_of p u) ↔ ComesFrom s items (input_bits s names) (flat_bit f p u)
    comes-the-same = (in-scope, in-design)
