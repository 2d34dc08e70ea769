-- Bits depend on each other through the flat drivers as they do in the design.
use Rattle.std.proofs.Common.{◌≡◌, List, [], ◌∷◌, inl, inr, sym, ap, ◌∙◌, subst}
use Rattle.std.specs.List.{Contains}
use Rattle.std.specs.Prelude.{IsTrue}
use Rattle.wb_values.specs.Value.{Name}
use Rattle.verilog_trees.specs.Syntax.{Expression, Target, Statement, input, output}
use Rattle.verilog_meaning.specs.Expression.{Scope}
use Rattle.verilog_meaning.specs.Register.{combinational_blocks, is_bit_of, may_reach, may_assign}
use Rattle.verilog_meaning.specs.Hierarchy.{Placed, placed_scope}
use Rattle.verilog_meaning.specs.Settled.{Design, IsPlacedIn, assignments, whole_of, whole_name, Connection, port_connections}
use Rattle.verilog_designs.specs.Names.{names_in}
use Rattle.verilog_designs.specs.Dependence.{Bit, IsGivenBy, copied_to, computed, at_start, After, PlacedBit, bit_of, IsBitIn, Depends, DependsFar, HasLoop}
use Rattle.verilog_designs.specs.Accepted.{HasUndeclared}
use Rattle.verilog_settled.proofs.Assigned.{takes_reach}
use Rattle.verilog_unique.proofs.Descent.{IsAmong, among_contains}
use Rattle.verilog_unique.proofs.Ports.{port_is_declared}
use Rattle.verilog_unique.proofs.Reading.{given_net, after_block}
use Rattle.verilog_renamed.specs.Renamed.{renamed_expression, renamed_target, renamed_assignment, renamed_statement, renamed_bit}
use Rattle.verilog_renamed.specs.Laws.{IsGivenByTheSame, DependsOnTheSame}
use Rattle.verilog_renamed.specs.EachName.{EachIn, EachInTarget}
use Rattle.verilog_renamed.proofs.Dependence.{old_bit}
use Rattle.verilog_renamed.proofs.KnownNames.{known_statement_bits, known_given, known_dependences}
use Rattle.flat_designs.specs.Flat.{IsNameOf, Naming, IsNaming, into_input, out_of_output, IsLink, to_input, of_output, IsFlatLink, of_module, of_connection, IsFlatBlock, of_block, IsFlat}
use Rattle.flat_designs.specs.Depending.{IsBitAmong, DependsFlat, DependsFlatFar, HasFlatLoop, flat_bit, DependsTheSame, BitsDependOnTheSame}
use Rattle.flat_designs.proofs.Known.{in_assigned, in_right_side, right_side_name, in_block, block_name, in_connection, connection_name, in_output, one_place, reached_named, assigned_named}
use Rattle.flat_designs.proofs.Settled.{leads_to, target_known, expression_known, statement_known}

given_reaches : (around : Scope) (t : Target) (inner : Scope) (e : Expression) (u y : Bit) → IsGivenBy around t inner e u y
    → IsTrue (may_reach around t u.of_name u.word u.place)
given_reaches around t inner e u y (copied_to j plain within takes copy) = takes_reach around t u j takes
given_reaches around t inner e u y (computed plain reaches is_read) = reaches

-- bits of modules that are these bits in the one scope, and which are in this relation
record HasBits (d : Design) (called : Naming) (R : PlacedBit → PlacedBit → Type 0) (u y : Bit) : Type 0 where
  around : Placed
  inner : Placed
  bit : Bit
  other : Bit
  at_around : IsPlacedIn d around
  at_inner : IsPlacedIn d inner
  bit_named : IsNameOf around bit.of_name
  other_named : IsNameOf inner other.of_name
  is_bit : flat_bit called around bit ≡ u
  is_other : flat_bit called inner other ≡ y
  is_so : R (bit_of around bit) (bit_of inner other)

-- a bit gets its value by the assignment, with the names of its module
record IsGivenFrom (called : Naming) (p q : Placed) (t : Target) (e : Expression) (u y : Bit) : Type 0 where
  bit : Bit
  other : Bit
  bit_named : IsNameOf p bit.of_name
  other_named : IsNameOf q other.of_name
  is_bit : flat_bit called p bit ≡ u
  is_other : flat_bit called q other ≡ y
  in_range : IsBitIn p bit
  given : IsGivenBy (placed_scope p) t (placed_scope q) e bit other

module _ (d : Design) (called : Naming) (good : ¬ HasUndeclared d) (naming : IsNaming d called) (s : Scope) (links : List (Target × Expression)) (blocks clocked : List Statement) (flat : IsFlat d called s links blocks clocked) where
  -- ---- one bit of the one scope is one bit

  bit_tells : (p q : Placed) (u y : Bit) → IsPlacedIn d p → IsPlacedIn d q → IsNameOf p u.of_name → IsNameOf q y.of_name
      → flat_bit called p u ≡ flat_bit called q y → bit_of p u ≡ bit_of q y
  bit_tells p q u y at_p at_q is_u is_y e =
      let r = one_place d called naming p q u.of_name y.of_name at_p at_q is_u is_y (ap (λ (z : Bit). z.of_name) e) in
      ap (λ z. bit_of z u) r.0
      ∙ ap (λ n. bit_of q (record { of_name = n; word = u.word; place = u.place })) r.1
      ∙ ap (λ k. bit_of q (record { of_name = y.of_name; word = k; place = u.place })) (ap (λ (z : Bit). z.word) e)
      ∙ ap (λ b. bit_of q (record { of_name = y.of_name; word = y.word; place = b })) (ap (λ (z : Bit). z.place) e)

  range_there : (p : Placed) (u : Bit) → IsPlacedIn d p → IsNameOf p u.of_name → IsBitIn p u → IsBitAmong s (flat_bit called p u)
  range_there p u at named h = subst (λ o. IsTrue (is_bit_of o u.word u.place)) (sym (flat.says_the_same p u.of_name at named)) h

  range_back : (p : Placed) (u : Bit) → IsPlacedIn d p → IsNameOf p u.of_name → IsBitAmong s (flat_bit called p u) → IsBitIn p u
  range_back p u at named h = subst (λ o. IsTrue (is_bit_of o u.word u.place)) (flat.says_the_same p u.of_name at named) h

  -- ---- one assignment, with the names of two modules

  module _ (p q : Placed) (t : Target) (e : Expression) (at_p : IsPlacedIn d p) (at_q : IsPlacedIn d q) (target : EachInTarget (IsNameOf p) t) (right : EachIn (IsNameOf q) e) where
    same_given : IsGivenByTheSame (called p.path) (called q.path) (placed_scope p) s (placed_scope q) s t e
    same_given =
        known_given (called p.path) (called q.path) (placed_scope p) s (placed_scope q) s t e (naming.apart p at_p) (naming.apart q at_q)
        (target_known d called good s links blocks clocked flat p t at_p target) (expression_known d called good s links blocks clocked flat q e at_q right)

    given_named : (u y : Bit) → IsGivenBy (placed_scope p) t (placed_scope q) e u y → IsNameOf p u.of_name
    given_named u y g =
        reached_named (IsNameOf p) (placed_scope p) u.of_name u.word u.place t target (given_reaches (placed_scope p) t (placed_scope q) e u y g)

    link_there : (u y : Bit) → Contains links (renamed_target (called p.path) t, renamed_expression (called q.path) e) → IsBitIn p u
        → IsGivenBy (placed_scope p) t (placed_scope q) e u y → DependsFlat s links blocks (flat_bit called p u) (flat_bit called q y)
    link_there u y c h g =
        DependsFlat.by_link (renamed_target (called p.path) t, renamed_expression (called q.path) e) (flat_bit called p u) (flat_bit called q y) c
        (range_there p u at_p (given_named u y g) h) ((same_given.same u y).1 g)

    link_back : (u y : Bit) → ((n : Name) → IsAmong (names_in e) n → IsNameOf q n) → IsBitAmong s u
        → IsGivenBy s (renamed_target (called p.path) t) s (renamed_expression (called q.path) e) u y → IsGivenFrom called p q t e u y
    link_back u y names h g =
        let new = same_given.only u y g in
        let a = old_bit (called p.path) u new.0 in
        let b = old_bit (called q.path) y new.1 in
        let back : IsGivenBy (placed_scope p) t (placed_scope q) e a.old b.old =
        (same_given.same a.old b.old).0
        (subst (λ z. IsGivenBy s (renamed_target (called p.path) t) s (renamed_expression (called q.path) e) z (flat_bit called q b.old)) (sym a.is_new)
        (subst (λ z. IsGivenBy s (renamed_target (called p.path) t) s (renamed_expression (called q.path) e) u z) (sym b.is_new) g)) in
        record {
          bit = a.old;
          other = b.old;
          bit_named = given_named a.old b.old back;
          other_named = names b.old.of_name (given_net (placed_scope p) (placed_scope q) t e a.old b.old back).is_named;
          is_bit = a.is_new;
          is_other = b.is_new;
          in_range = range_back p a.old at_p (given_named a.old b.old back) (subst (IsBitAmong s) (sym a.is_new) h);
          given = back;
        }

  -- ---- blocks

  block_there : (p : Placed) (x : Statement) (u y : Bit) → IsPlacedIn d p → Contains (combinational_blocks p.of_module.items) x → IsBitIn p u
      → IsTrue (may_assign (placed_scope p) x u.of_name u.word u.place) → After (placed_scope p) at_start x u y
      → DependsFlat s links blocks (flat_bit called p u) (flat_bit called p y)
  block_there p x u y at c h t g =
      let among = among_contains (combinational_blocks p.of_module.items) x c in
      let names = in_block d good p at x among in
      let known = statement_known d called good s links blocks clocked flat p x at names in
      DependsFlat.by_block (renamed_statement (called p.path) x) (flat_bit called p u) (flat_bit called p y)
      ((flat.are_blocks (renamed_statement (called p.path) x)).1 (of_block p x at c))
      (range_there p u at (assigned_named (IsNameOf p) (placed_scope p) u.of_name u.word u.place x names t) h)
      ((known_statement_bits (called p.path) (placed_scope p) s x (naming.apart p at) known).assigned.same u.of_name u.word u.place ∙ t)
      (((known_dependences (called p.path) (placed_scope p) s x (naming.apart p at) known).same u y).1 g)

  block_back : (x : Statement) (u y : Bit) → IsFlatBlock d called x → IsBitAmong s u → IsTrue (may_assign s x u.of_name u.word u.place)
      → After s at_start x u y → HasBits d called (Depends d) u y
  block_back _ u y (of_block p x at c) h t g =
      let among = among_contains (combinational_blocks p.of_module.items) x c in
      let names = in_block d good p at x among in
      let known = statement_known d called good s links blocks clocked flat p x at names in
      let bits = (known_statement_bits (called p.path) (placed_scope p) s x (naming.apart p at) known).assigned in
      let same : DependsOnTheSame (called p.path) (placed_scope p) s x = known_dependences (called p.path) (placed_scope p) s x (naming.apart p at) known in
      let a = old_bit (called p.path) u (bits.only u.of_name u.word u.place t) in
      let after : After s at_start (renamed_statement (called p.path) x) (flat_bit called p a.old) y =
      subst (λ z. After s at_start (renamed_statement (called p.path) x) z y) (sym a.is_new) g in
      let b = old_bit (called p.path) y (same.only a.old y after) in
      let back : After (placed_scope p) at_start x a.old b.old =
      (same.same a.old b.old).0 (subst (λ z. After s at_start (renamed_statement (called p.path) x) (flat_bit called p a.old) z) (sym b.is_new) after) in
      let assigned : IsTrue (may_assign (placed_scope p) x a.old.of_name a.old.word a.old.place) =
      sym (bits.same a.old.of_name a.old.word a.old.place)
      ∙ subst (λ (z : Bit). IsTrue (may_assign s (renamed_statement (called p.path) x) z.of_name z.word z.place)) (sym a.is_new) t in
      let named : IsNameOf p a.old.of_name = assigned_named (IsNameOf p) (placed_scope p) a.old.of_name a.old.word a.old.place x names assigned in
      record {
        around = p;
        inner = p;
        bit = a.old;
        other = b.old;
        at_around = at;
        at_inner = at;
        bit_named = named;
        other_named = after_block (placed_scope p) (λ (z : Bit). IsNameOf p z.of_name) x a.old b.old
            (λ z net. block_name d good p at x among z.of_name net.is_named) named back;
        is_bit = a.is_new;
        is_other = b.is_new;
        is_so = Depends.by_block p x a.old b.old at c (range_back p a.old at named (subst (IsBitAmong s) (sym a.is_new) h)) assigned back;
      }

  -- ---- links

  only_name : (q : Placed) (n : Name) → IsNameOf q n → (m : Name) → IsAmong (n ∷ []) m → IsNameOf q m
  only_name q n h m (inl e) = subst (IsNameOf q) e h
  only_name q n h m (inr k) = absurd k

  connection_back : (p : Placed) (c : Connection) (a : Target × Expression) (u y : Bit) → IsPlacedIn d p → Contains (port_connections p.of_module.items) c
      → IsLink d called p c a → IsBitAmong s u → IsGivenBy s a.0 s a.1 u y → HasBits d called (Depends d) u y
  connection_back p c _ u y at k (to_input below n to) h g =
      let among = among_contains (port_connections p.of_module.items) c k in
      let at_below = leads_to d p below c n to in
      let f = link_back below p (whole_of n) c.expression at_below at (inl (port_is_declared below n input to.is_port), tt) (in_connection d good p at c among)
      u y (connection_name d good p at c among) h g in
      record {
        around = below;
        inner = p;
        bit = f.bit;
        other = f.other;
        at_around = at_below;
        at_inner = at;
        bit_named = f.bit_named;
        other_named = f.other_named;
        is_bit = f.is_bit;
        is_other = f.is_other;
        is_so = Depends.by_input p below c n f.bit f.other at k to f.in_range f.given;
      }
  connection_back p c _ u y at k (of_output below n t to e) h g =
      let among = among_contains (port_connections p.of_module.items) c k in
      let at_below = leads_to d p below c n to in
      let port : IsNameOf below n = inl (port_is_declared below n output to.is_port) in
      let f = link_back p below t (whole_name n) at at_below (in_output d good p at c t among e) (port, tt) u y (only_name below n port) h g in
      record {
        around = p;
        inner = below;
        bit = f.bit;
        other = f.other;
        at_around = at;
        at_inner = at_below;
        bit_named = f.bit_named;
        other_named = f.other_named;
        is_bit = f.is_bit;
        is_other = f.is_other;
        is_so = Depends.by_output p below c n t f.bit f.other at k to e f.in_range f.given;
      }

  assignment_back : (a : Target × Expression) (u y : Bit) → IsFlatLink d called a → IsBitAmong s u → IsGivenBy s a.0 s a.1 u y → HasBits d called (Depends d) u y
  assignment_back _ u y (of_module p a at c) h g =
      let among = among_contains (assignments p.of_module.items) a c in
      let f = link_back p p a.0 a.1 at at (in_assigned d good p at a among) (in_right_side d good p at a among) u y (right_side_name d good p at a among) h g in
      record {
        around = p;
        inner = p;
        bit = f.bit;
        other = f.other;
        at_around = at;
        at_inner = at;
        bit_named = f.bit_named;
        other_named = f.other_named;
        is_bit = f.is_bit;
        is_other = f.is_other;
        is_so = Depends.by_assignment p a f.bit f.other at c f.in_range f.given;
      }
  assignment_back _ u y (of_connection p c a at k l) h g = connection_back p c a u y at k l h g

  -- ---- one step

  abbrev bit_there : PlacedBit → Bit
  bit_there x = renamed_bit (called x.path) x.bit

  near_there : (x y : PlacedBit) → Depends d x y → DependsFlat s links blocks (bit_there x) (bit_there y)
  near_there _ _ (Depends.by_assignment p a u y at c h g) =
      let among = among_contains (assignments p.of_module.items) a c in
      link_there p p a.0 a.1 at at (in_assigned d good p at a among) (in_right_side d good p at a among) u y
      ((flat.are_links (renamed_assignment (called p.path) a)).1 (of_module p a at c)) h g
  near_there _ _ (Depends.by_block p x u y at c h t g) = block_there p x u y at c h t g
  near_there _ _ (Depends.by_input p below c n u y at k to h g) =
      link_there below p (whole_of n) c.expression (leads_to d p below c n to) at (inl (port_is_declared below n input to.is_port), tt)
      (in_connection d good p at c (among_contains (port_connections p.of_module.items) c k)) u y
      ((flat.are_links (into_input called p below n c.expression)).1 (of_connection p c (into_input called p below n c.expression) at k (to_input below n to))) h g
  near_there _ _ (Depends.by_output p below c n t u y at k to e h g) =
      link_there p below t (whole_name n) at (leads_to d p below c n to)
      (in_output d good p at c t (among_contains (port_connections p.of_module.items) c k) e) (inl (port_is_declared below n output to.is_port), tt) u y
      ((flat.are_links (out_of_output called p below n t)).1 (of_connection p c (out_of_output called p below n t) at k (of_output below n t to e))) h g

  near_back : (u y : Bit) → DependsFlat s links blocks u y → HasBits d called (Depends d) u y
  near_back _ _ (DependsFlat.by_link a u y c h g) = assignment_back a u y ((flat.are_links a).0 c) h g
  near_back _ _ (DependsFlat.by_block x u y c h t g) = block_back x u y ((flat.are_blocks x).0 c) h t g

  -- ---- more steps

  far_there : (x y : PlacedBit) → DependsFar d x y → DependsFlatFar s links blocks (bit_there x) (bit_there y)
  far_there _ _ (DependsFar.step x y h) = DependsFlatFar.step (bit_there x) (bit_there y) (near_there x y h)
  far_there _ _ (DependsFar.further x z y h k) =
      DependsFlatFar.further (bit_there x) (bit_there z) (bit_there y) (near_there x z h) (far_there z y k)

  far_back : (u y : Bit) → DependsFlatFar s links blocks u y → HasBits d called (DependsFar d) u y
  far_back _ _ (DependsFlatFar.step u y h) =
      let f = near_back u y h in
      record {
        around = f.around;
        inner = f.inner;
        bit = f.bit;
        other = f.other;
        at_around = f.at_around;
        at_inner = f.at_inner;
        bit_named = f.bit_named;
        other_named = f.other_named;
        is_bit = f.is_bit;
        is_other = f.is_other;
        is_so = DependsFar.step (bit_of f.around f.bit) (bit_of f.inner f.other) f.is_so;
      }
  far_back _ _ (DependsFlatFar.further u z y h k) =
      let f = near_back u z h in
      let g = far_back z y k in
      let same : bit_of g.around g.bit ≡ bit_of f.inner f.other =
      bit_tells g.around f.inner g.bit f.other g.at_around f.at_inner g.bit_named f.other_named (g.is_bit ∙ sym f.is_other) in
      record {
        around = f.around;
        inner = g.inner;
        bit = f.bit;
        other = g.other;
        at_around = f.at_around;
        at_inner = g.at_inner;
        bit_named = f.bit_named;
        other_named = g.other_named;
        is_bit = f.is_bit;
        is_other = g.is_other;
        is_so = DependsFar.further (bit_of f.around f.bit) (bit_of f.inner f.other) (bit_of g.inner g.other) f.is_so
            (subst (λ z. DependsFar d z (bit_of g.inner g.other)) same g.is_so);
      }

  -- the bits that were found are those at hand
  at_hand : (R : PlacedBit → PlacedBit → Type 0) (p q : Placed) (u y : Bit) → IsPlacedIn d p → IsPlacedIn d q → IsNameOf p u.of_name → IsNameOf q y.of_name
      → HasBits d called R (flat_bit called p u) (flat_bit called q y) → R (bit_of p u) (bit_of q y)
  at_hand R p q u y at_p at_q is_u is_y f =
      subst (λ z. R z (bit_of q y)) (bit_tells f.around p f.bit u f.at_around at_p f.bit_named is_u f.is_bit)
      (subst (R (bit_of f.around f.bit)) (bit_tells f.inner q f.other y f.at_inner at_q f.other_named is_y f.is_other) f.is_so)

  loop_back : HasFlatLoop s links blocks → HasLoop d
  loop_back h =
      let f = far_back h.bit h.bit h.loops in
      let same : bit_of f.inner f.other ≡ bit_of f.around f.bit =
      bit_tells f.inner f.around f.other f.bit f.at_inner f.at_around f.other_named f.bit_named (f.is_other ∙ sym f.is_bit) in
      record { bit = bit_of f.around f.bit; loops = subst (DependsFar d (bit_of f.around f.bit)) same f.is_so }

  pub depends_the_same : DependsTheSame d called s links blocks
  depends_the_same =
      record {
        near = λ p q u y at_p at_q is_u is_y. (
          near_there (bit_of p u) (bit_of q y),
          λ h. at_hand (Depends d) p q u y at_p at_q is_u is_y (near_back (flat_bit called p u) (flat_bit called q y) h),
        );
        far = λ p q u y at_p at_q is_u is_y. (
          far_there (bit_of p u) (bit_of q y),
          λ h. at_hand (DependsFar d) p q u y at_p at_q is_u is_y (far_back (flat_bit called p u) (flat_bit called q y) h),
        );
        loops = (λ h. record { bit = bit_there h.bit; loops = far_there h.bit h.bit h.loops }, loop_back);
      }

pub bits_depend_on_the_same : BitsDependOnTheSame
bits_depend_on_the_same d called s links blocks clocked good naming flat = depends_the_same d called good naming s links blocks clocked flat
