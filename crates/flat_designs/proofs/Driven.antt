-- A bit of a module is driven by the flat drivers as it is in the design.
use Rattle.std.proofs.Common.{◌≡◌, ℕ, Bool, true, false, List, [], ◌∷◌, ◌⊎◌, inl, inr, refl, sym, ap, ◌∙◌, subst}
use Rattle.std.specs.List.{Contains}
use Rattle.std.specs.Prelude.{IsTrue, ◌&&◌}
use Rattle.std.proofs.lemmas.Bool.{or_cases, and_parts, false≢true}
use Rattle.wb_values.specs.Value.{Name, same_name}
use Rattle.verilog_trees.specs.Syntax.{Expression, Target, Statement, input, output}
use Rattle.verilog_meaning.specs.Expression.{Scope}
use Rattle.verilog_meaning.specs.Register.{clocked_blocks, combinational_blocks, is_bit_of, may_reach, may_assign, one_may_assign, counts}
use Rattle.verilog_meaning.specs.Hierarchy.{Placed, placed_scope}
use Rattle.verilog_meaning.specs.Settled.{Design, IsPlacedIn, IsDeclared, assignments, Connection, port_connections, IsConnectedTo, one_may_reach, is_counted, IsDriven}
use Rattle.verilog_designs.specs.Reads.{BitSet}
use Rattle.verilog_designs.specs.Accepted.{HasUndeclared}
use Rattle.verilog_unique.proofs.Options.{same_is, is_same, left_true, right_true}
use Rattle.verilog_unique.proofs.Descent.{IsAmong, contains_among, among_contains}
use Rattle.verilog_unique.proofs.Ports.{port_is_declared}
use Rattle.verilog_exists.proofs.Drivers.{one_assigns}
use Rattle.verilog_renamed.specs.Renamed.{renamed_target, renamed_assignment, renamed_statement}
use Rattle.verilog_renamed.specs.Laws.{AreRenamedBits}
use Rattle.verilog_renamed.specs.EachName.{EachInTarget, EachInStatement}
use Rattle.verilog_renamed.proofs.KnownNames.{known_target_bits, known_statement_bits}
use Rattle.flat_designs.specs.Flat.{IsNameOf, Naming, IsNaming, into_input, out_of_output, IsLink, to_input, of_output, IsFlatLink, of_module, of_connection, IsFlatBlock, of_block, IsFlatClocked, of_clocked, IsFlat}
use Rattle.flat_designs.specs.Laws.{IsDrivenByLink, IsInputOfTop, IsDrivenTheSame, BitsAreDrivenTheSame}
use Rattle.flat_designs.proofs.Known.{in_assigned, in_block, in_clocked, in_output, one_place, reached_named, assigned_named}
use Rattle.flat_designs.proofs.Settled.{leads_to, target_known, statement_known}

-- ---- one of a list

one_reaches : (s : Scope) (xs : List (Target × Expression)) (n : Name) (k b : ℕ) → IsTrue (one_may_reach s xs n k b)
    → (a : Target × Expression) × IsAmong xs a × IsTrue (may_reach s a.0 n k b)
one_reaches s [] n k b t = absurd (false≢true t)
one_reaches s (x ∷ xs) n k b t =
    elim (or_cases (may_reach s x.0 n k b) (one_may_reach s xs n k b) t) as (λ _. (a : Target × Expression) × IsAmong (x ∷ xs) a × IsTrue (may_reach s a.0 n k b))
    [ inl h ↦ (x, inl refl, h) | inr h ↦ let f = one_reaches s xs n k b h in (f.0, inr f.1, f.2) ]

reaches_one : (s : Scope) (xs : List (Target × Expression)) (a : Target × Expression) (n : Name) (k b : ℕ) → IsAmong xs a
    → IsTrue (may_reach s a.0 n k b) → IsTrue (one_may_reach s xs n k b)
reaches_one s [] a n k b h t = absurd h
reaches_one s (x ∷ xs) a n k b (inl e) t =
    left_true (may_reach s x.0 n k b) (one_may_reach s xs n k b) (subst (λ (y : Target × Expression). IsTrue (may_reach s y.0 n k b)) (sym e) t)
reaches_one s (x ∷ xs) a n k b (inr h) t = right_true (may_reach s x.0 n k b) (one_may_reach s xs n k b) (reaches_one s xs a n k b h t)

assigns_one : (s : Scope) (xs : List Statement) (a : Statement) (n : Name) (k b : ℕ) → IsAmong xs a → IsTrue (may_assign s a n k b)
    → IsTrue (one_may_assign s xs n k b)
assigns_one s [] a n k b h t = absurd h
assigns_one s (x ∷ xs) a n k b (inl e) t =
    left_true (may_assign s x n k b) (one_may_assign s xs n k b) (subst (λ y. IsTrue (may_assign s y n k b)) (sym e) t)
assigns_one s (x ∷ xs) a n k b (inr h) t = right_true (may_assign s x n k b) (one_may_assign s xs n k b) (assigns_one s xs a n k b h t)

same_truth : (x y : Bool) → (IsTrue x → IsTrue y) → (IsTrue y → IsTrue x) → x ≡ y
same_truth true y f g = sym (f refl)
same_truth false true f g = g refl
same_truth false false f g = refl

-- ---- a bit of a module

module _ (d : Design) (called : Naming) (good : ¬ HasUndeclared d) (naming : IsNaming d called) (s : Scope) (links : List (Target × Expression)) (blocks clocked : List Statement) (flat : IsFlat d called s links blocks clocked) (p : Placed) (n : Name) (k b : ℕ) (at : IsPlacedIn d p) (declared : IsDeclared p n) where
  -- bits of a module under the names of the one scope are bits of p only if the module is p
  tell : (q : Placed) (old new : BitSet) → IsPlacedIn d q → AreRenamedBits (called q.path) old new → ((m : Name) → IsTrue (old m k b) → IsNameOf q m)
      → IsTrue (new (called p.path n) k b) → (q ≡ p) × IsTrue (old n k b)
  tell q old new at_q h named t =
      let f = h.only (called p.path n) k b t in
      let o : IsTrue (old f.old k b) = sym (h.same f.old k b) ∙ ap (λ i. new i k b) f.is_new ∙ t in
      let r = one_place d called naming q p f.old n at_q at (named f.old o) (inl declared) f.is_new in
      (r.0, subst (λ m. IsTrue (old m k b)) r.1 o)

  -- ---- links

  target_bits : (q : Placed) (t : Target) → IsPlacedIn d q → EachInTarget (IsNameOf q) t → AreRenamedBits (called q.path) (may_reach (placed_scope q) t) (may_reach s (renamed_target (called q.path) t))
  target_bits q t at_q named =
      (known_target_bits (called q.path) (placed_scope q) s t (naming.apart q at_q) (target_known d called good s links blocks clocked flat q t at_q named)).reached

  connected : (q : Placed) (c : Connection) (a : Target × Expression) → IsPlacedIn d q → Contains (port_connections q.of_module.items) c → IsLink d called q c a
      → IsTrue (may_reach s a.0 (called p.path n) k b) → IsDrivenByLink d p n k b
  connected q c _ at_q h (to_input below m to) t =
      let r = one_place d called naming below p m n (leads_to d q below c m to) at (inl (port_is_declared below m input to.is_port)) (inl declared)
      (same_is (called below.path m) (called p.path n) (and_parts (same_name (called below.path m) (called p.path n)) true t).0) in
      IsDrivenByLink.by_input q c at_q h
      (subst (λ z. IsConnectedTo d q c z n input) r.0 (subst (λ i. IsConnectedTo d q c below i input) r.1 to))
  connected q c _ at_q h (of_output below m x to e) t =
      let named = in_output d good q at_q c x (among_contains (port_connections q.of_module.items) c h) e in
      let r = tell q (may_reach (placed_scope q) x) (may_reach s (renamed_target (called q.path) x)) at_q (target_bits q x at_q named)
      (λ i g. reached_named (IsNameOf q) (placed_scope q) i k b x named g) t in
      subst (λ z. Contains (port_connections z.of_module.items) c → IsConnectedTo d z c below m output → IsTrue (may_reach (placed_scope z) x n k b) → IsDrivenByLink d p n k b)
      (sym r.0) (λ g i j. IsDrivenByLink.by_output c below m x g i e j) h to r.1

  linked : (a : Target × Expression) → IsFlatLink d called a → IsTrue (may_reach s a.0 (called p.path n) k b) → IsDrivenByLink d p n k b
  linked _ (of_module q a at_q c) t =
      let h = among_contains (assignments q.of_module.items) a c in
      let named = in_assigned d good q at_q a h in
      let r = tell q (may_reach (placed_scope q) a.0) (may_reach s (renamed_target (called q.path) a.0)) at_q (target_bits q a.0 at_q named)
      (λ i g. reached_named (IsNameOf q) (placed_scope q) i k b a.0 named g) t in
      IsDrivenByLink.by_assignment
      (subst (λ z. IsTrue (one_may_reach (placed_scope z) (assignments z.of_module.items) n k b)) r.0
      (reaches_one (placed_scope q) (assignments q.of_module.items) a n k b h r.1))
  linked _ (of_connection q c a at_q h l) t = connected q c a at_q h l t

  from_links : IsTrue (one_may_reach s links (called p.path n) k b) → IsDrivenByLink d p n k b
  from_links t =
      let r = one_reaches s links (called p.path n) k b t in linked r.0 ((flat.are_links r.0).0 (contains_among links r.0 r.1)) r.2

  to_links : IsDrivenByLink d p n k b → IsTrue (one_may_reach s links (called p.path n) k b)
  to_links (IsDrivenByLink.by_assignment t) =
      let r = one_reaches (placed_scope p) (assignments p.of_module.items) n k b t in
      reaches_one s links (renamed_assignment (called p.path) r.0) (called p.path n) k b
      (among_contains links _ ((flat.are_links (renamed_assignment (called p.path) r.0)).1 (of_module p r.0 at (contains_among (assignments p.of_module.items) r.0 r.1))))
      ((target_bits p r.0.0 at (in_assigned d good p at r.0 r.1)).same n k b ∙ r.2)
  to_links (IsDrivenByLink.by_input around c at_around h to) =
      reaches_one s links (into_input called around p n c.expression) (called p.path n) k b
      (among_contains links _ ((flat.are_links (into_input called around p n c.expression)).1 (of_connection around c (into_input called around p n c.expression) at_around h (to_input p n to))))
      (ap (λ z. z && true) (is_same (called p.path n)))
  to_links (IsDrivenByLink.by_output c below m x h to e r) =
      reaches_one s links (out_of_output called p below m x) (called p.path n) k b
      (among_contains links _ ((flat.are_links (out_of_output called p below m x)).1 (of_connection p c (out_of_output called p below m x) at h (of_output below m x to e))))
      ((target_bits p x at (in_output d good p at c x (among_contains (port_connections p.of_module.items) c h) e)).same n k b ∙ r)

  -- ---- blocks

  statement_bits : (q : Placed) (x : Statement) → IsPlacedIn d q → EachInStatement (IsNameOf q) x → AreRenamedBits (called q.path) (may_assign (placed_scope q) x) (may_assign s (renamed_statement (called q.path) x))
  statement_bits q x at_q named =
      (known_statement_bits (called q.path) (placed_scope q) s x (naming.apart q at_q) (statement_known d called good s links blocks clocked flat q x at_q named)).assigned

  same_blocks : one_may_assign s blocks (called p.path n) k b ≡ one_may_assign (placed_scope p) (combinational_blocks p.of_module.items) n k b
  same_blocks =
      same_truth (one_may_assign s blocks (called p.path n) k b) (one_may_assign (placed_scope p) (combinational_blocks p.of_module.items) n k b)
      (λ t. let r = one_assigns s blocks (called p.path n) k b t in from r.0 ((flat.are_blocks r.0).0 (contains_among blocks r.0 r.1)) r.2)
      (λ t. let r = one_assigns (placed_scope p) (combinational_blocks p.of_module.items) n k b t in
      assigns_one s blocks (renamed_statement (called p.path) r.0) (called p.path n) k b
      (among_contains blocks _ ((flat.are_blocks (renamed_statement (called p.path) r.0)).1 (of_block p r.0 at (contains_among (combinational_blocks p.of_module.items) r.0 r.1))))
      ((statement_bits p r.0 at (in_block d good p at r.0 r.1)).same n k b ∙ r.2))
    where
      from : (x : Statement) → IsFlatBlock d called x → IsTrue (may_assign s x (called p.path n) k b)
          → IsTrue (one_may_assign (placed_scope p) (combinational_blocks p.of_module.items) n k b)
      from _ (of_block q x at_q c) t =
          let h = among_contains (combinational_blocks q.of_module.items) x c in
          let named = in_block d good q at_q x h in
          let r = tell q (may_assign (placed_scope q) x) (may_assign s (renamed_statement (called q.path) x)) at_q (statement_bits q x at_q named)
          (λ i g. assigned_named (IsNameOf q) (placed_scope q) i k b x named g) t in
          subst (λ z. IsTrue (one_may_assign (placed_scope z) (combinational_blocks z.of_module.items) n k b)) r.0
          (assigns_one (placed_scope q) (combinational_blocks q.of_module.items) x n k b h r.1)

  same_clocked : one_may_assign s clocked (called p.path n) k b ≡ one_may_assign (placed_scope p) (clocked_blocks p.of_module.items) n k b
  same_clocked =
      same_truth (one_may_assign s clocked (called p.path n) k b) (one_may_assign (placed_scope p) (clocked_blocks p.of_module.items) n k b)
      (λ t. let r = one_assigns s clocked (called p.path n) k b t in from r.0 ((flat.are_clocked r.0).0 (contains_among clocked r.0 r.1)) r.2)
      (λ t. let r = one_assigns (placed_scope p) (clocked_blocks p.of_module.items) n k b t in
      assigns_one s clocked (renamed_statement (called p.path) r.0) (called p.path n) k b
      (among_contains clocked _ ((flat.are_clocked (renamed_statement (called p.path) r.0)).1 (of_clocked p r.0 at (contains_among (clocked_blocks p.of_module.items) r.0 r.1))))
      ((statement_bits p r.0 at (in_clocked d good p at r.0 r.1)).same n k b ∙ r.2))
    where
      from : (x : Statement) → IsFlatClocked d called x → IsTrue (may_assign s x (called p.path n) k b)
          → IsTrue (one_may_assign (placed_scope p) (clocked_blocks p.of_module.items) n k b)
      from _ (of_clocked q x at_q c) t =
          let h = among_contains (clocked_blocks q.of_module.items) x c in
          let named = in_clocked d good q at_q x h in
          let r = tell q (may_assign (placed_scope q) x) (may_assign s (renamed_statement (called q.path) x)) at_q (statement_bits q x at_q named)
          (λ i g. assigned_named (IsNameOf q) (placed_scope q) i k b x named g) t in
          subst (λ z. IsTrue (one_may_assign (placed_scope z) (clocked_blocks z.of_module.items) n k b)) r.0
          (assigns_one (placed_scope q) (clocked_blocks q.of_module.items) x n k b h r.1)

  same_counted : counts s clocked (called p.path n) k b ≡ is_counted p n k b
  same_counted =
      ap (λ o. is_bit_of o k b && one_may_assign s clocked (called p.path n) k b) (flat.says_the_same p n at (inl declared))
      ∙ ap (λ x. is_bit_of (placed_scope p n) k b && x) same_clocked

  -- ---- all drivers

  abbrev IsFlatDriven : Type 0
  IsFlatDriven =
      IsTrue (counts s clocked (called p.path n) k b) ⊎ (IsTrue (one_may_assign s blocks (called p.path n) k b)
      ⊎ (IsTrue (one_may_reach s links (called p.path n) k b) ⊎ IsInputOfTop d p n))

  to_flat : IsDriven d p n k b → IsFlatDriven
  to_flat (IsDriven.by_clock t) = inl (same_counted ∙ t)
  to_flat (IsDriven.by_block t) = inr (inl (same_blocks ∙ t))
  to_flat (IsDriven.by_assignment t) = inr (inr (inl (to_links (IsDrivenByLink.by_assignment t))))
  to_flat (IsDriven.by_top_input top port other) = inr (inr (inr (record { at_top = top; is_port = port; no_clock = other })))
  to_flat (IsDriven.by_input around c at_around h to) = inr (inr (inl (to_links (IsDrivenByLink.by_input around c at_around h to))))
  to_flat (IsDriven.by_output c below m x h to e r) = inr (inr (inl (to_links (IsDrivenByLink.by_output c below m x h to e r))))

  by_links : IsDrivenByLink d p n k b → IsDriven d p n k b
  by_links (IsDrivenByLink.by_assignment t) = IsDriven.by_assignment t
  by_links (IsDrivenByLink.by_input around c at_around h to) = IsDriven.by_input around c at_around h to
  by_links (IsDrivenByLink.by_output c below m x h to e r) = IsDriven.by_output c below m x h to e r

  from_flat : IsFlatDriven → IsDriven d p n k b
  from_flat (inl t) = IsDriven.by_clock (sym same_counted ∙ t)
  from_flat (inr (inl t)) = IsDriven.by_block (sym same_blocks ∙ t)
  from_flat (inr (inr (inl t))) = by_links (from_links t)
  from_flat (inr (inr (inr h))) = IsDriven.by_top_input h.at_top h.is_port h.no_clock

  pub driven_the_same : IsDrivenTheSame d called s links blocks clocked p n k b
  driven_the_same = record { by_link = (from_links, to_links); by_block = same_blocks; counted = same_counted; driven = (to_flat, from_flat) }

pub bits_are_driven_the_same : BitsAreDrivenTheSame
bits_are_driven_the_same d called s links blocks clocked p n k b good naming flat at declared =
    driven_the_same d called good naming s links blocks clocked flat p n k b at declared
