-- What the answer means for a design that is one module.
use Rattle.std.proofs.Common.{◌≡◌, ◌∙◌, ap, sym, subst, arith, false, List, [], ◌∷◌, Contains, Some}
use Rattle.std.specs.Prelude.{◌↔◌, IsTrue}
use Rattle.std.specs.List.{list_any}
use Rattle.verilog_trees.specs.Syntax.{Module}
use Rattle.verilog_meaning.specs.Expression.{Scope}
use Rattle.verilog_meaning.specs.Register.{may_assign, combinational_blocks}
use Rattle.verilog_meaning.specs.Hierarchy.{PathStep, Placed, placed_scope}
use Rattle.verilog_meaning.specs.Settled.{Design, at_path, IsPlacedIn, Connection, assignments, port_connections}
use Rattle.verilog_designs.specs.Dependence.{Bit, IsGivenBy, at_start, After, PlacedBit, bit_of, IsBitIn, Depends, DependsFar, HasLoop}
use Rattle.v_hier.specs.Instances.{is_part, is_any, module_has_parts, has_parts}
use Rattle.v_scopes.specs.Ports.{alone}
use Rattle.v_scopes.proofs.Parts.{some_is, none_some, nothing_below}
use Rattle.v_assigned.proofs.OneModule.{no-connections, second}
use Rattle.v_loops.specs.OneModule.{DependsIn, DependsFarIn, HasLoopIn}

module _ (d : Design) (m : Module) (clear : has_parts d.source ≡ false) (own : module_has_parts m ≡ false) (top : at_path d [] ≡ Some (alone m)) where
  abbrev s : Scope
  s = placed_scope (alone m)

  placed-top : (q : Placed) (path : List PathStep) → at_path d path ≡ Some q → q ≡ alone m
  placed-top q [] e = some_is q (alone m) (sym e ∙ top)
  placed-top q (u ∷ path) e = absurd (none_some q (sym (nothing_below d.source d.top clear u path) ∙ e))

  unconnected : port_connections m.items ≡ []
  unconnected = no-connections m.items (second (is_any m.parameters) (list_any is_part m.items) own)

  no-connection : (A : Type 0) (c : Connection) → Contains (port_connections m.items) c → A
  no-connection A c h = at (subst (λ (xs : List Connection). Contains xs c) unconnected h)
    where
      at : Contains [] c → A
      at (i, l, e) = absurd (omega (arith, l))

  -- what stands in the design is the top
  to-top : (A : Placed → Type 0) (q : Placed) → IsPlacedIn d q → A q → A (alone m)
  to-top A q at h = subst A (placed-top q q.path at) h

  -- the bits of a step are bits of the top
  record IsStep (u y : PlacedBit) : Type 0 where
    pub from : Bit
    pub to : Bit
    pub from_is : bit_of (alone m) from ≡ u
    pub to_is : bit_of (alone m) to ≡ y
    pub depends : DependsIn s m.items from to

  moved : (p : Placed) → IsPlacedIn d p → (u : Bit) → bit_of (alone m) u ≡ bit_of p u
  moved p at u = ap (λ (q : Placed). bit_of q u) (sym (placed-top p p.path at))

  step-inside : (u y : PlacedBit) → Depends d u y → IsStep u y
  step-inside _ _ (Depends.by_assignment p a u y at c h g) =
      let r = to-top (λ (q : Placed). Contains (assignments q.of_module.items) a × IsBitIn q u × IsGivenBy (placed_scope q) a.0 (placed_scope q) a.1 u y) p at (c, h, g) in
      record { from = u; to = y; from_is = moved p at u; to_is = moved p at y; depends = DependsIn.by_assignment a u y r.0 r.1 r.2 }
  step-inside _ _ (Depends.by_block p x u y at c h k g) =
      let r = to-top (λ (q : Placed). Contains (combinational_blocks q.of_module.items) x × IsBitIn q u × IsTrue (may_assign (placed_scope q) x u.of_name u.word u.place)
      × After (placed_scope q) at_start x u y) p at (c, h, k, g) in
      record { from = u; to = y; from_is = moved p at u; to_is = moved p at y; depends = DependsIn.by_block x u y r.0 r.1 r.2 r.3 }
  step-inside _ _ (Depends.by_input p below c n u y at stands to h g) =
      no-connection (IsStep (bit_of below u) (bit_of p y)) c (to-top (λ (q : Placed). Contains (port_connections q.of_module.items) c) p at stands)
  step-inside _ _ (Depends.by_output p below c n t u y at stands to is h g) =
      no-connection (IsStep (bit_of p u) (bit_of below y)) c (to-top (λ (q : Placed). Contains (port_connections q.of_module.items) c) p at stands)

  -- the same of several steps
  record IsWay (u y : PlacedBit) : Type 0 where
    pub from : Bit
    pub to : Bit
    pub from_is : bit_of (alone m) from ≡ u
    pub to_is : bit_of (alone m) to ≡ y
    pub depends : DependsFarIn s m.items from to

  same-bit : (x y : Bit) (z : PlacedBit) → bit_of (alone m) x ≡ z → bit_of (alone m) y ≡ z → x ≡ y
  same-bit x y z e f = ap (λ (w : PlacedBit). w.bit) (e ∙ sym f)

  way-inside : (u y : PlacedBit) → DependsFar d u y → IsWay u y
  way-inside _ _ (DependsFar.step u y a) =
      let r = step-inside u y a in
      record { from = r.from; to = r.to; from_is = r.from_is; to_is = r.to_is; depends = DependsFarIn.step r.from r.to r.depends }
  way-inside _ _ (DependsFar.further u x y a f) =
      let r = step-inside u x a in
      let q = way-inside x y f in
      record {
        from = r.from;
        to = q.to;
        from_is = r.from_is;
        to_is = q.to_is;
        depends = DependsFarIn.further r.from r.to q.to r.depends
            (subst (λ (z : Bit). DependsFarIn s m.items z q.to) (sym (same-bit r.to q.from x r.to_is q.from_is)) q.depends);
      }

  step-outside : (u y : Bit) → DependsIn s m.items u y → Depends d (bit_of (alone m) u) (bit_of (alone m) y)
  step-outside _ _ (DependsIn.by_assignment a u y c h g) = Depends.by_assignment (alone m) a u y top c h g
  step-outside _ _ (DependsIn.by_block x u y c h k g) = Depends.by_block (alone m) x u y top c h k g

  way-outside : (u y : Bit) → DependsFarIn s m.items u y → DependsFar d (bit_of (alone m) u) (bit_of (alone m) y)
  way-outside _ _ (DependsFarIn.step u y a) = DependsFar.step (bit_of (alone m) u) (bit_of (alone m) y) (step-outside u y a)
  way-outside _ _ (DependsFarIn.further u x y a f) =
      DependsFar.further (bit_of (alone m) u) (bit_of (alone m) x) (bit_of (alone m) y) (step-outside u x a) (way-outside x y f)

  there : HasLoop d → HasLoopIn s m.items
  there h =
      let r = way-inside h.bit h.bit h.loops in
      record { bit = r.from; loops = subst (λ (z : Bit). DependsFarIn s m.items r.from z) (same-bit r.to r.from h.bit r.to_is r.from_is) r.depends }

  back : HasLoopIn s m.items → HasLoop d
  back h = record { bit = bit_of (alone m) h.bit; loops = way-outside h.bit h.bit h.loops }

  pub as-the-rule : HasLoop d ↔ HasLoopIn s m.items
  as-the-rule = (there, back)
