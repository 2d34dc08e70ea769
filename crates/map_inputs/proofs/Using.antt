-- An expression of a map uses an input exactly where it reads a bit that is marked in one scope.
use Rattle.std.proofs.Common.{◌≡◌, ◌∙◌, refl, ap, sym, subst, true, List, inl}
use Rattle.std.specs.Prelude.{IsTrue, ◌↔◌, Contains}
use Rattle.wb_values.specs.Value.{Name}
use Rattle.verilog_trees.specs.Syntax.{Expression, input, Item}
use Rattle.verilog_meaning.specs.Expression.{Scope}
use Rattle.verilog_meaning.specs.Register.{is_bit_of}
use Rattle.verilog_meaning.specs.Hierarchy.{Placed, placed_scope, dotted}
use Rattle.verilog_meaning.specs.Settled.{Design, IsPlacedIn, whole_of, whole_name}
use Rattle.verilog_unique.proofs.Descent.{among_contains, contains_among}
use Rattle.verilog_unique.proofs.Ports.{port_is_declared}
use Rattle.verilog_unique.proofs.Reading.{read}
use Rattle.verilog_designs.specs.Names.{names_in}
use Rattle.verilog_designs.specs.Reads.{BitSet, reads}
use Rattle.verilog_designs.specs.Dependence.{Bit, is_in, PlacedBit, bit_of, Depends, DependsFar}
use Rattle.verilog_renamed.specs.Renamed.{renamed_bit}
use Rattle.verilog_renamed.specs.Agreement.{IsSameIn, ExpressionsAreAgreedOn, NamesInExpressions}
use Rattle.flat_designs.specs.Flat.{IsNameOf, Naming, IsNaming}
use Rattle.flat_designs.specs.Depending.{flat_bit}
use Rattle.flat_designs.proofs.Known.{one_place, in_assigned, in_block, in_output, reached_named, assigned_named}
use Rattle.flat_designs.proofs.Settled.{leads_to}
use Rattle.map_rules.specs.Expressions.{design_scope}
use Rattle.map_rules.specs.Inputs.{IsInputBit, ComesFromInput, itself, through, UsesInput}
use Rattle.v_depend.specs.Resting.{IsThere}
use Rattle.v_loops.proofs.Steps.{given-reached}
use Rattle.v_reach.specs.Coming.{ComesFrom}
use Rattle.map_inputs.specs.Bits.{input_bits, OneIsMarked}
use Rattle.map_inputs.specs.Laws.{HasInputs, IsKnownAs, KnownNamesStandForNames, BitsComeTheSame}
use Rattle.verilog_settled.proofs.Assigned.{takes_reach}
use Rattle.verilog_trees.specs.Syntax.{Target}
use Rattle.verilog_meaning.specs.Register.{may_reach}
use Rattle.verilog_meaning.specs.Settled.{at_path}
use Rattle.verilog_designs.specs.Accepted.{HasUndeclared}
use Rattle.verilog_designs.specs.Dependence.{IsGivenBy, copied_to, computed}
use Rattle.std.proofs.Common.{Some}

-- ---- a bit that comes from an input has a name of its module

given-at : (around : Scope) (t : Target) (inner : Scope) (e : Expression) (u y : Bit) → IsGivenBy around t inner e u y → IsTrue (may_reach around t u.of_name u.word u.place)
given-at around t inner e u y (copied_to j p l k c) = takes_reach around t u j k
given-at around t inner e u y (computed p r h) = r

some-same : {A : Type 0} {x y : A} → Some x ≡ Some y → x ≡ y
some-same e = cc

module _ (d : Design) (good : ¬ HasUndeclared d) where
  record IsNamedBit (x : PlacedBit) : Type 0 where
    place : Placed
    bit : Bit
    is_placed : IsPlacedIn d place
    is_bit : bit_of place bit ≡ x
    is_name : IsNameOf place bit.of_name

  near-named : (x y : PlacedBit) → Depends d x y → IsNamedBit x
  near-named _ _ (Depends.by_assignment p a u y at c h g) =
      record {
        place = p;
        bit = u;
        is_placed = at;
        is_bit = refl;
        is_name = reached_named (IsNameOf p) (placed_scope p) u.of_name u.word u.place a.0 (in_assigned d good p at a (among_contains _ a c))
            (given-at (placed_scope p) a.0 (placed_scope p) a.1 u y g);
      }
  near-named _ _ (Depends.by_block p x u y at c h t g) =
      record {
        place = p;
        bit = u;
        is_placed = at;
        is_bit = refl;
        is_name = assigned_named (IsNameOf p) (placed_scope p) u.of_name u.word u.place x (in_block d good p at x (among_contains _ x c)) t;
      }
  near-named _ _ (Depends.by_input p below c n u y at k to h g) =
      record {
        place = below;
        bit = u;
        is_placed = leads_to d p below c n to;
        is_bit = refl;
        is_name = reached_named (IsNameOf below) (placed_scope below) u.of_name u.word u.place (whole_of n) (inl (port_is_declared below n input to.is_port), tt)
            (given-at (placed_scope below) (whole_of n) (placed_scope p) c.expression u y g);
      }
  near-named _ _ (Depends.by_output p below c n t u y at k to e h g) =
      record {
        place = p;
        bit = u;
        is_placed = at;
        is_bit = refl;
        is_name = reached_named (IsNameOf p) (placed_scope p) u.of_name u.word u.place t (in_output d good p at c t (among_contains _ c k) e)
            (given-at (placed_scope p) t (placed_scope below) (whole_name n) u y g);
      }

  far-named : (x y : PlacedBit) → DependsFar d x y → IsNamedBit x
  far-named _ _ (DependsFar.step x y h) = near-named x y h
  far-named _ _ (DependsFar.further x z y h g) = near-named x z h

  comes-named : (p : Placed) (u : Bit) → IsPlacedIn d p → ComesFromInput d (bit_of p u) → IsNameOf p u.of_name
  comes-named p u at (itself i) =
      let same : i.top ≡ p = some-same (sym i.is_top ∙ ap (at_path d) (sym i.at_top) ∙ at) in
      subst (λ (q : Placed). IsNameOf q u.of_name) same (inl (port_is_declared i.top u.of_name input i.is_port))
  comes-named p u at (through y g i) =
      let n = far-named (bit_of p u) y g in
      let same : n.place ≡ p = some-same (sym n.is_placed ∙ ap (λ (x : PlacedBit). at_path d x.path) n.is_bit ∙ at) in
      subst (λ (q : Placed). IsNameOf q u.of_name) same (subst (λ (b : Bit). IsNameOf n.place b.of_name) (ap (λ (x : PlacedBit). x.bit) n.is_bit) n.is_name)

-- ---- expressions

module _ (law : BitsComeTheSame) (stand : KnownNamesStandForNames) (listed : NamesInExpressions) (agreed : ExpressionsAreAgreedOn) (d : Design) (f : Naming) (s t : Scope) (items : List Item) (names : List Name)
    (g : Name → Name) (e : Expression) (marked : BitSet) (h : HasInputs d f s items names) (dots : IsNaming d dotted)
    (known : (n : Name) → Contains (names_in e) n → IsKnownAs d f t g n)
    (are_marked : (u : Bit) → IsThere s u → IsTrue (is_in marked u) ↔ ComesFrom s items (input_bits s names) u) where
  same-reads : reads t e ≡ reads (design_scope d) e
  same-reads = (agreed (design_scope d) t e (listed (design_scope d) t e (λ n c. (known n c).says))).reads

  -- a bit of a name of a module that is read is there under its name in the one scope
  there-too : (p : Placed) (u : Bit) (n : Name) → IsPlacedIn d p → IsNameOf p u.of_name → design_scope d n ≡ placed_scope p u.of_name
      → IsTrue (is_bit_of (design_scope d n) u.word u.place) → IsThere s (flat_bit f p u)
  there-too p u n at named means is =
      subst (λ o. IsTrue (is_bit_of o u.word u.place)) (means ∙ sym (h.flat.says_the_same p u.of_name at named)) is

  uses-marked : UsesInput d e → OneIsMarked g marked (reads t e)
  uses-marked x =
      let n = dotted x.within.path x.bit.of_name in
      let y : Bit = record { of_name = n; word = x.bit.word; place = x.bit.place } in
      let net = read (design_scope d) e y x.is_read in
      let w = known n (contains_among (names_in e) n net.is_named) in
      let k = stand d n w.is_declared in
      let named = comes-named d h.no_undeclared x.within x.bit x.is_placed x.from_input in
      let r = one_place d dotted dots k.within x.within k.own x.bit.of_name k.is_placed x.is_placed k.is_name named k.is_written in
      let means : design_scope d n ≡ placed_scope x.within x.bit.of_name = k.means ∙ (λ i. placed_scope (r.0 i) (r.1 i)) in
      let there = there-too x.within x.bit n x.is_placed named means net.is_bit in
      let new : f x.within.path x.bit.of_name ≡ g n = sym (w.is_new x.within x.bit.of_name x.is_placed named refl) in
      let one : flat_bit f x.within x.bit ≡ renamed_bit g y = (λ i. record { of_name = new i; word = x.bit.word; place = x.bit.place }) in (
        y,
        subst (λ (z : BitSet). IsTrue (is_in z y)) (sym same-reads) x.is_read,
        subst (λ (z : Bit). IsTrue (is_in marked z)) one
            ((are_marked (flat_bit f x.within x.bit) there).1 ((law d f s items names x.within x.bit h x.is_placed named there).0 x.from_input)),
      )

  marked-uses : OneIsMarked g marked (reads t e) → UsesInput d e
  marked-uses (y, is_read, is_marked) =
      let now = subst (λ (z : BitSet). IsTrue (is_in z y)) same-reads is_read in
      let net = read (design_scope d) e y now in
      let w = known y.of_name (contains_among (names_in e) y.of_name net.is_named) in
      let k = stand d y.of_name w.is_declared in
      let u : Bit = record { of_name = k.own; word = y.word; place = y.place } in
      let there = there-too k.within u y.of_name k.is_placed k.is_name k.means net.is_bit in
      let one : renamed_bit g y ≡ flat_bit f k.within u = (λ i. record { of_name = w.is_new k.within k.own k.is_placed k.is_name k.is_written i; word = y.word; place = y.place }) in
      let comes = (are_marked (flat_bit f k.within u) there).0 (subst (λ (z : Bit). IsTrue (is_in marked z)) one is_marked) in
      record {
        within = k.within;
        bit = u;
        is_placed = k.is_placed;
        is_read = subst (λ (n : Name). IsTrue (reads (design_scope d) e n y.word y.place)) (sym k.is_written) now;
        from_input = (law d f s items names k.within u h k.is_placed k.is_name there).1 comes;
      }

  pub uses-the-same : UsesInput d e ↔ OneIsMarked g marked (reads t e)
  uses-the-same = (uses-marked, marked-uses)
