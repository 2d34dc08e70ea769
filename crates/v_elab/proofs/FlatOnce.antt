-- The drivers of a design in one scope are those of its modules, and a bit has one of them at most.
use Rattle.std.proofs.Common.{◌≡◌, ◌∙◌, ℕ, refl, ap, sym, subst, List, [], ◌∷◌, ◌⊎◌, inl, inr, Contains}
use Rattle.std.specs.Prelude.{IsTrue}
use Rattle.wb_values.specs.Value.{Name}
use Rattle.verilog_trees.specs.Syntax.{Expression, Target, Statement, blocking, Item, input}
use Rattle.verilog_meaning.specs.Expression.{Object, Scope}
use Rattle.verilog_meaning.specs.Register.{is_bit_of, may_reach, may_assign, clocked_blocks, combinational_blocks}
use Rattle.verilog_meaning.specs.Hierarchy.{Placed, placed_scope}
use Rattle.verilog_meaning.specs.Settled.{Design, IsPlacedIn, IsBitOf, assignments, Connection, port_connections}
use Rattle.verilog_designs.specs.Dependence.{Bit}
use Rattle.verilog_designs.specs.Accepted.{HasUndeclared}
use Rattle.verilog_unique.proofs.Descent.{IsAmong, contains_among, among_contains}
use Rattle.verilog_unique.proofs.Ports.{port_is_declared}
use Rattle.verilog_exists.proofs.Links.{Link, assignment_link, output_link, input_link, IsLink as IsLinkOf, of_assignment, of_output as output_is, of_input as input_is}
use Rattle.verilog_exists.proofs.Givers.{IsSound}
use Rattle.verilog_renamed.specs.Renamed.{renamed_expression, renamed_target, renamed_statement}
use Rattle.verilog_renamed.specs.Laws.{AreRenamedBits}
use Rattle.verilog_renamed.specs.EachName.{EachInTarget, EachInStatement}
use Rattle.verilog_renamed.proofs.KnownNames.{known_target_bits, known_statement_bits}
use Rattle.flat_designs.specs.Flat.{IsNameOf, Naming, IsNaming, IsLink, to_input, of_output, IsFlatLink, of_module, of_connection, IsFlatBlock, of_block, IsFlat}
use Rattle.flat_designs.proofs.Known.{in_assigned, in_block, in_output, one_place, reached_named, assigned_named}
use Rattle.flat_designs.proofs.Settled.{leads_to, target_known, statement_known}
use Rattle.v_order.specs.Drivers.{as_statements, drivers}
use Rattle.v_loops.proofs.Listed.{kind-of}
use Rattle.v_settle.specs.OneModule.{HasOneDriver}

-- a link of a module under what its names are called
abbrev pub called_link : Naming → Placed → Link → Target × Expression
called_link called p l = (renamed_target (called p.path) l.target, renamed_expression (called l.inner.path) l.expression)

-- The assignment is a link of a module that stands in the design.
pub record IsLinkThere (d : Design) (called : Naming) (a : Target × Expression) : Type 0 where
  pub place : Placed
  pub link : Link
  pub is_placed : IsPlacedIn d place
  pub is_link : IsLinkOf d place link
  pub named : EachInTarget (IsNameOf place) link.target
  pub same : called_link called place link ≡ a

-- The statement is a combinational block of a module that stands in the design.
pub record IsBlockThere (d : Design) (called : Naming) (x : Statement) : Type 0 where
  pub place : Placed
  pub statement : Statement
  pub is_placed : IsPlacedIn d place
  pub is_block : IsAmong (combinational_blocks place.of_module.items) statement
  pub named : EachInStatement (IsNameOf place) statement
  pub same : renamed_statement (called place.path) statement ≡ x

module _ (d : Design) (called : Naming) (good : ¬ HasUndeclared d) where
  connected : (q : Placed) (c : Connection) (a : Target × Expression) → IsPlacedIn d q → IsAmong (port_connections q.of_module.items) c → IsLink d called q c a
      → IsLinkThere d called a
  connected q c _ at h (to_input below m to) =
      record {
        place = below;
        link = input_link q c m;
        is_placed = leads_to d q below c m to;
        is_link = input_is q c m at h to;
        named = (inl (port_is_declared below m input to.is_port), tt);
        same = refl;
      }
  connected q c _ at h (of_output below m x to e) =
      record {
        place = q;
        link = output_link below m x;
        is_placed = at;
        is_link = output_is c below m x h to e;
        named = in_output d good q at c x h e;
        same = refl;
      }

  pub link_there : (a : Target × Expression) → IsFlatLink d called a → IsLinkThere d called a
  link_there _ (of_module q a at c) =
      let h = among_contains (assignments q.of_module.items) a c in
      record { place = q; link = assignment_link q a; is_placed = at; is_link = of_assignment a h; named = in_assigned d good q at a h; same = refl }
  link_there _ (of_connection q c a at h l) = connected q c a at (among_contains (port_connections q.of_module.items) c h) l

  pub block_there : (x : Statement) → IsFlatBlock d called x → IsBlockThere d called x
  block_there _ (of_block q x at c) =
      let h = among_contains (combinational_blocks q.of_module.items) x c in
      record { place = q; statement = x; is_placed = at; is_block = h; named = in_block d good q at x h; same = refl }

-- ---- which module it is, where a bit is driven

link_of : (links : List (Target × Expression)) (x : Statement) → IsAmong (as_statements links) x
    → (a : Target × Expression) × IsAmong links a × (blocking a.0 a.1 ≡ x)
link_of [] x h = absurd h
link_of (a ∷ links) x (inl e) = (a, inl refl, e)
link_of (a ∷ links) x (inr h) = let r = link_of links x h in (r.0, inr r.1, r.2)

-- The statement drives a bit of a name as this link, or as this block.
data DrivesAs (d : Design) (called : Naming) (p : Placed) (n : Name) (k b : ℕ) (x : Statement) : Type 0 where
  as_link : (l : Link) → IsLinkOf d p l → IsTrue (may_reach (placed_scope p) l.target n k b)
      → blocking (renamed_target (called p.path) l.target) (renamed_expression (called l.inner.path) l.expression) ≡ x → DrivesAs d called p n k b x
  as_block : (z : Statement) → IsAmong (combinational_blocks p.of_module.items) z → IsTrue (may_assign (placed_scope p) z n k b)
      → renamed_statement (called p.path) z ≡ x → DrivesAs d called p n k b x

record DrivesThere (d : Design) (called : Naming) (x : Statement) (u : Bit) : Type 0 where
  pub place : Placed
  pub of_name : Name
  pub is_placed : IsPlacedIn d place
  pub is_name : IsNameOf place of_name
  pub same : called place.path of_name ≡ u.of_name
  pub drives : DrivesAs d called place of_name u.word u.place x

module _ (d : Design) (called : Naming) (good : ¬ HasUndeclared d) (naming : IsNaming d called) (sound : IsSound d) (s : Scope) (items : List Item)
    (flat : IsFlat d called s (assignments items) (combinational_blocks items) (clocked_blocks items)) where
  link_drives : (u : Bit) (a : Target × Expression) → IsFlatLink d called a → IsTrue (may_reach s a.0 u.of_name u.word u.place)
      → DrivesThere d called (blocking a.0 a.1) u
  link_drives u a h t =
      let g = link_there d called good a h in
      subst (λ (y : Target × Expression). IsTrue (may_reach s y.0 u.of_name u.word u.place) → DrivesThere d called (blocking y.0 y.1) u) g.same (from g.place g.link g.is_placed g.is_link g.named) t
    where
      from : (p : Placed) (l : Link) → IsPlacedIn d p → IsLinkOf d p l → EachInTarget (IsNameOf p) l.target
          → IsTrue (may_reach s (renamed_target (called p.path) l.target) u.of_name u.word u.place)
          → DrivesThere d called (blocking (renamed_target (called p.path) l.target) (renamed_expression (called l.inner.path) l.expression)) u
      from p l at is named q =
          let r : AreRenamedBits (called p.path) (may_reach (placed_scope p) l.target) (may_reach s (renamed_target (called p.path) l.target)) =
          (known_target_bits (called p.path) (placed_scope p) s l.target (naming.apart p at)
          (target_known d called good s (assignments items) (combinational_blocks items) (clocked_blocks items) flat p l.target at named)).reached in
          let f = r.only u.of_name u.word u.place q in
          let o : IsTrue (may_reach (placed_scope p) l.target f.old u.word u.place) =
          sym (r.same f.old u.word u.place) ∙ ap (λ i. may_reach s (renamed_target (called p.path) l.target) i u.word u.place) f.is_new ∙ q in
          record {
            place = p;
            of_name = f.old;
            is_placed = at;
            is_name = reached_named (IsNameOf p) (placed_scope p) f.old u.word u.place l.target named o;
            same = f.is_new;
            drives = as_link l is o refl;
          }

  block_drives : (u : Bit) (x : Statement) → IsFlatBlock d called x → IsTrue (may_assign s x u.of_name u.word u.place) → DrivesThere d called x u
  block_drives u x h t =
      let g = block_there d called good x h in
      subst (λ y. IsTrue (may_assign s y u.of_name u.word u.place) → DrivesThere d called y u) g.same (from g.place g.statement g.is_placed g.is_block g.named) t
    where
      from : (p : Placed) (z : Statement) → IsPlacedIn d p → IsAmong (combinational_blocks p.of_module.items) z → EachInStatement (IsNameOf p) z
          → IsTrue (may_assign s (renamed_statement (called p.path) z) u.of_name u.word u.place) → DrivesThere d called (renamed_statement (called p.path) z) u
      from p z at is named q =
          let r : AreRenamedBits (called p.path) (may_assign (placed_scope p) z) (may_assign s (renamed_statement (called p.path) z)) =
          (known_statement_bits (called p.path) (placed_scope p) s z (naming.apart p at)
          (statement_known d called good s (assignments items) (combinational_blocks items) (clocked_blocks items) flat p z at named)).assigned in
          let f = r.only u.of_name u.word u.place q in
          let o : IsTrue (may_assign (placed_scope p) z f.old u.word u.place) =
          sym (r.same f.old u.word u.place) ∙ ap (λ i. may_assign s (renamed_statement (called p.path) z) i u.word u.place) f.is_new ∙ q in
          record {
            place = p;
            of_name = f.old;
            is_placed = at;
            is_name = assigned_named (IsNameOf p) (placed_scope p) f.old u.word u.place z named o;
            same = f.is_new;
            drives = as_block z is o refl;
          }

  drives : (x : Statement) (u : Bit) → Contains (drivers items) x → IsTrue (may_assign s x u.of_name u.word u.place) → DrivesThere d called x u
  drives x u c t = by (kind-of items x (among_contains (drivers items) x c)) t
    where
      by : IsAmong (as_statements (assignments items)) x ⊎ IsAmong (combinational_blocks items) x → IsTrue (may_assign s x u.of_name u.word u.place) → DrivesThere d called x u
      by (inl h) =
          let a = link_of (assignments items) x h in
          subst (λ y. IsTrue (may_assign s y u.of_name u.word u.place) → DrivesThere d called y u) a.2
          (link_drives u a.0 ((flat.are_links a.0).0 (contains_among (assignments items) a.0 a.1)))
      by (inr h) = block_drives u x ((flat.are_blocks x).0 (contains_among (combinational_blocks items) x h))

  -- two drivers of a bit of one module are one
  one : (p : Placed) (n : Name) (k b : ℕ) (x y : Statement) → IsPlacedIn d p → IsBitOf p n k b → DrivesAs d called p n k b x → DrivesAs d called p n k b y → x ≡ y
  one p n k b x y at there (as_link l h t e) (as_link m g u f) =
      sym e ∙ ap (λ (z : Link). blocking (renamed_target (called p.path) z.target) (renamed_expression (called z.inner.path) z.expression)) (sound.one_link p l m n k b at there h g t u) ∙ f
  one p n k b x y at there (as_link l h t e) (as_block z g u f) = absurd ((sound.link_alone p l n k b at there h t).2 z g u)
  one p n k b x y at there (as_block z g u f) (as_link l h t e) = absurd ((sound.link_alone p l n k b at there h t).2 z g u)
  one p n k b x y at there (as_block z h t e) (as_block w g u f) = sym e ∙ ap (renamed_statement (called p.path)) (sound.one_block p z w n k b at there h g t u) ∙ f

  pub one_driver : HasOneDriver s items
  one_driver x y u there in_x in_y tx ty = by (drives x u in_x tx) (drives y u in_y ty)
    where
      by : DrivesThere d called x u → DrivesThere d called y u → x ≡ y
      by g h =
          let r = one_place d called naming h.place g.place h.of_name g.of_name h.is_placed g.is_placed h.is_name g.is_name (h.same ∙ sym g.same) in
          let is_bit : IsBitOf g.place g.of_name u.word u.place =
          ap (λ (o : Object). is_bit_of o u.word u.place) (sym (flat.says_the_same g.place g.of_name g.is_placed g.is_name) ∙ ap s g.same) ∙ there in
          one g.place g.of_name u.word u.place x y g.is_placed is_bit g.drives
          (subst (λ z. DrivesAs d called z g.of_name u.word u.place y) r.0 (subst (λ m. DrivesAs d called h.place m u.word u.place y) r.1 h.drives))
