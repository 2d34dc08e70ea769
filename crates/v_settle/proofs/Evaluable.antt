-- Modules that break none of the rules can be evaluated.
use Rattle.std.proofs.Common.{◌≡◌, ◌≤◌, ℕ, refl, ap, arith, Bool, true, false, cond, not, ◌&&◌, nat_le, List, [], ◌∷◌, ◌++◌, inl, inr, Option, Some, None, is_some}
use Rattle.std.specs.Prelude.{IsTrue, ◌||◌, option_map}
use Rattle.std.proofs.lemmas.Bool.{false≢true, true≢false, and_parts, and_from}
use Rattle.std.proofs.lemmas.Bool.Decides.{nat_tests}
use Rattle.wb_values.specs.Value.{Name, same_name}
use Rattle.wb_values.specs.Choice.{some_if}
use Rattle.verilog_trees.specs.Syntax.{Expression, Selects, whole, one, two, Target, place, joined, Targets, no_targets, target, Statement, Range, Item, port, parameter, wires, variables, assign, always, instances, Source, Module}
use Rattle.verilog_meaning.specs.Expression.{Object, Scope, object_or_undeclared, scope_of, object_width, is_memory}
use Rattle.verilog_meaning.specs.Statement.{targets_width}
use Rattle.verilog_meaning.specs.Register.{is_clocked, combinational_blocks}
use Rattle.verilog_meaning.specs.Hierarchy.{Declaration, declarations, declaration_of, and_later, ranged_object, declared_object, placed_scope}
use Rattle.verilog_meaning.specs.Settled.{is_declared_among, IsDeclared, whole_of, wire_assignments, assignments}
use Rattle.verilog_settled.specs.Locality.{has_constant_selects}
use Rattle.verilog_rules.specs.Expression.{Broken, also, is_unbroken, anywhere, by_name, by_total, broken, broken_selects, has_many_words}
use Rattle.verilog_designs.specs.Drivers.{target_names, targets_names}
use Rattle.verilog_designs.specs.Expressions.{memory_if, by_constants, targets_have_width, writes_memory, broken_target, broken_targets, broken_net_target, broken_statement, broken_events, broken_range, broken_assignments, broken_initial_values, broken_module_item, broken_module_items}
use Rattle.verilog_unique.proofs.Descent.{IsAmong, among_left, among_right}
use Rattle.verilog_exists.proofs.Links.{of_assignment, assignment_link}
use Rattle.verilog_exists.proofs.Givers.{IsSound as IsSoundDesign}
use Rattle.verilog_exists.proofs.Drivers.{is_sound}
use Rattle.verilog_exists.proofs.Valued.{ranges_known}
use Rattle.v_value.specs.Narrow.{HasNarrowObjects}
use Rattle.v_size.proofs.Unbroken.{unbroken-also}
use Rattle.v_sound.proofs.Within.{net-target-narrow}
use Rattle.v_scopes.specs.Ports.{alone}
use Rattle.v_lower.specs.Lowered.{has_sort}
use Rattle.v_lower.specs.Walking.{IsSound, sound_at}
use Rattle.v_write.specs.Soundness.{UnbrokenIsSound}
use Rattle.v_settle.specs.Drivers.{IsNet, HasOneSelect, IsNetTarget, AreNetTargets, IsSoundLink, AreSoundLinks}
use Rattle.v_settle.specs.OneModule.{AreSound}
use Rattle.v_settle.specs.Designs.{AcceptedIsEvaluable}
use Rattle.v_settle.proofs.Alone.{no-memory, one-driver-of-accepted}
use Rattle.v_settle.proofs.Listed.{Links}

-- ---- nets

few-bits : (w : ℕ) → w ≤ 128 → nat_le w 128 ≡ true
few-bits w h = grind (arith, nat_tests, h)

few-words : (a : Option (ℕ × ℕ)) → is_some a ≡ false → has_many_words a ≡ false
few-words None h = refl
few-words (Some a) h = absurd (true≢false h)

sort-of : (o : Object) → o.is_declared ≡ true → object_width o ≤ 128 → is_memory o ≡ false → has_sort o ≡ true
sort-of o d w m =
    and_from o.is_declared (nat_le (object_width o) 128 && not (has_many_words o.addresses)) d
    (and_from (nat_le (object_width o) 128) (not (has_many_words o.addresses)) (few-bits (object_width o) w) (ap not (few-words o.addresses m)))

-- a second select is of a memory
bad-second : (d m r : Bool) → d ≡ true → m ≡ false → not (d && (not m || not r)) ≡ true → ⊥
bad-second true false r e f h = false≢true h
bad-second true true r e f h = true≢false f
bad-second false m r e f h = false≢true e

one-select : (o : Object) (x : Selects) → o.is_declared ≡ true → is_memory o ≡ false → is_unbroken (by_name anywhere o x) ≡ true → HasOneSelect x
one-select o whole d m h = tt
one-select o (one x) d m h = tt
one-select o (two x y) d m h =
    let b : Broken = by_name anywhere o (two x y) in
    let a1 = and_parts (not b.undeclared) _ h in
    let a2 = and_parts (not b.has_xz) _ a1.1 in
    let a3 = and_parts (not b.bad_constant) _ a2.1 in
    let a4 = and_parts (not b.width_over_128) _ a3.1 in
    let a5 = and_parts (not b.bad_select) _ a4.1 in
    bad-second o.is_declared (is_memory o) o.has_range d m a5.0

sound-so : (s : Scope) (e : Expression) → is_unbroken (broken s anywhere e) ≡ true → IsSound s e
unfolding sound_at
sound-so s e h = h

module _ (source : Source) (s : Scope) (objects : HasNarrowObjects s) (free : (n : Name) → (s n).constant ≡ None) where
  abbrev AreNets : List Name → Type 0
  AreNets ns = (n : Name) → IsAmong ns n → ((s n).is_declared ≡ true) × (is_memory (s n) ≡ false)

  net : (n : Name) → (s n).is_declared ≡ true → is_memory (s n) ≡ false → IsNet s n
  net n d m = record { sort = sort-of (s n) d (objects n).0 m; variable = free n; plain = m }

  mutual
    target-nets : (t : Target) → AreNets (target_names t) → is_unbroken (broken_target s by_constants t) ≡ true → IsNetTarget s t
    target-nets (place n x) f h =
        let q = f n (inl refl) in
        (net n q.0 q.1, one-select (s n) x q.0 q.1 (unbroken-also (by_name anywhere (s n) x) (broken_selects s by_constants (s n) x) h).0)
    target-nets (joined ts) f h =
        targets-nets ts f (unbroken-also (by_total (some_if (targets_have_width s ts) (targets_width s ts))) (broken_targets s by_constants ts) h).1

    targets-nets : (ts : Targets) → AreNets (targets_names ts) → is_unbroken (broken_targets s by_constants ts) ≡ true → AreNetTargets s ts
    targets-nets no_targets f h = tt
    targets-nets (target t ts) f h =
        let q = unbroken-also (broken_target s by_constants t) (broken_targets s by_constants ts) h in (
          target-nets t (λ n k. f n (among_left (target_names t) (targets_names ts) n k)) q.0,
          targets-nets ts (λ n k. f n (among_right (target_names t) (targets_names ts) n k)) q.1,
        )

  -- ---- continuous assignments

  abbrev IsFine : Target × Expression → Type 0
  IsFine a = AreNets (target_names a.0) × IsTrue (has_constant_selects s a.0)

  abbrev AreFine : Links → Type 0
  AreFine links = (a : Target × Expression) → IsAmong links a → IsFine a

  link-sound : (a : Target × Expression) → IsFine a → is_unbroken (also (broken_net_target s by_constants a.0) (broken s anywhere a.1)) ≡ true → IsSoundLink s a.0 a.1
  link-sound a f h =
      let q = unbroken-also (broken_net_target s by_constants a.0) (broken s anywhere a.1) h in
      let t = net-target-narrow s by_constants a.0 objects q.0 in
      let b = unbroken-also (memory_if (writes_memory s a.0)) (broken_target s by_constants a.0) q.0 in
      record { nets = target-nets a.0 f.0 b.1; constant = f.1; some_bits = t.1; at_most_128 = t.2; value = sound-so s a.1 q.1 }

  wire-sound : (n : Name) (e : Expression) → AreNets (n ∷ []) → is_unbroken (broken s anywhere e) ≡ true → IsSoundLink s (whole_of n) e
  wire-sound n e f h =
      let q = f n (inl refl) in
      record { nets = (net n q.0 q.1, tt); constant = refl; some_bits = omega arith; at_most_128 = (objects n).0; value = sound-so s e h }

  links-join : (xs ys : Links) → AreSoundLinks s xs → AreSoundLinks s ys → AreSoundLinks s (xs ++ ys)
  links-join [] ys h g = g
  links-join (x ∷ xs) ys h g = (h.0, links-join xs ys h.1 g)

  wires-sound : (ws : List (Name × Option Expression)) → AreFine (wire_assignments ws) → is_unbroken (broken_initial_values s ws) ≡ true → AreSoundLinks s (wire_assignments ws)
  wires-sound [] f h = tt
  wires-sound ((n, None) ∷ ws) f h = wires-sound ws f h
  wires-sound ((n, Some e) ∷ ws) f h =
      let p = unbroken-also (broken s anywhere e) (broken_initial_values s ws) h in
      (wire-sound n e (f (whole_of n, e) (inl refl)).0 p.0, wires-sound ws (λ a k. f a (inr k)) p.1)

  links-sound : (xs : Links) → AreFine xs → is_unbroken (broken_assignments s xs) ≡ true → AreSoundLinks s xs
  links-sound [] f h = tt
  links-sound (x ∷ xs) f h =
      let p = unbroken-also (also (broken_net_target s by_constants x.0) (broken s anywhere x.1)) (broken_assignments s xs) h in
      (link-sound x (f x (inl refl)) p.0, links-sound xs (λ a k. f a (inr k)) p.1)

  items-links : (items : List Item) → AreFine (assignments items) → is_unbroken (broken_module_items source s items) ≡ true → AreSoundLinks s (assignments items)
  items-links [] f h = tt
  items-links (i ∷ items) f h =
      let p = unbroken-also (broken_module_item source s i) (broken_module_items source s items) h in
      one-more i items f p.0 (λ g. items-links items g p.1)
    where
      one-more : (j : Item) (rest : List Item) → AreFine (assignments (j ∷ rest)) → is_unbroken (broken_module_item source s j) ≡ true
          → (AreFine (assignments rest) → AreSoundLinks s (assignments rest)) → AreSoundLinks s (assignments (j ∷ rest))
      one-more (port d) rest g u later = later g
      one-more (parameter d) rest g u later = later g
      one-more (wires signed r ws) rest g u later =
          links-join (wire_assignments ws) (assignments rest)
          (wires-sound ws (λ a k. g a (among_left (wire_assignments ws) (assignments rest) a k)) (unbroken-also (broken_range s r) (broken_initial_values s ws) u).1)
          (later (λ a k. g a (among_right (wire_assignments ws) (assignments rest) a k)))
      one-more (variables signed r vs) rest g u later = later g
      one-more (assign xs) rest g u later =
          links-join xs (assignments rest) (links-sound xs (λ a k. g a (among_left xs (assignments rest) a k)) u)
          (later (λ a k. g a (among_right xs (assignments rest) a k)))
      one-more (always es x) rest g u later = later g
      one-more (instances m given is) rest g u later = later g

  -- ---- blocks

  block-sound : UnbrokenIsSound → (c : Bool) (x : Statement) (xs : List Statement) → is_unbroken (broken_statement s c x) ≡ true → AreSound s xs → AreSound s (cond c xs (x ∷ xs))
  block-sound law true x xs h g = g
  block-sound law false x xs h g = (law s false x objects h (λ n k. free n), g)

  items-blocks : UnbrokenIsSound → (items : List Item) → is_unbroken (broken_module_items source s items) ≡ true → AreSound s (combinational_blocks items)
  items-blocks law [] h = tt
  items-blocks law (i ∷ items) h =
      let p = unbroken-also (broken_module_item source s i) (broken_module_items source s items) h in
      one-more i items p.0 (items-blocks law items p.1)
    where
      one-more : (j : Item) (rest : List Item) → is_unbroken (broken_module_item source s j) ≡ true → AreSound s (combinational_blocks rest)
          → AreSound s (combinational_blocks (j ∷ rest))
      one-more (port d) rest u g = g
      one-more (parameter d) rest u g = g
      one-more (wires signed r ws) rest u g = g
      one-more (variables signed r vs) rest u g = g
      one-more (assign xs) rest u g = g
      one-more (always es x) rest u g =
          block-sound law (is_clocked es) x (combinational_blocks rest) (unbroken-also (broken_events s es) (broken_statement s (is_clocked es) x) u).1 g
      one-more (instances m given is) rest u g = g

-- ---- names of a module without parameters

declared-something : (ds : List Declaration) (n : Name) → is_declared_among ds n ≡ true → is_some (declaration_of ds n) ≡ true
declared-something [] n h = absurd (false≢true h)
declared-something (d ∷ ds) n h = chosen (same_name d.of_name n) (declared-something ds n) h
  where
    chosen : (b : Bool) → (is_declared_among ds n ≡ true → is_some (declaration_of ds n) ≡ true) → (b || is_declared_among ds n) ≡ true
        → is_some (cond b (Some (and_later d (declaration_of ds n))) (declaration_of ds n)) ≡ true
    chosen true f k = refl
    chosen false f k = f k

ranged-declared : (s : Scope) (signed : Bool) (r : Option Range) → (ranged_object s signed r).is_declared ≡ true
ranged-declared s signed None = refl
ranged-declared s signed (Some r) = refl

ranged-variable : (s : Scope) (signed : Bool) (r : Option Range) → (ranged_object s signed r).constant ≡ None
ranged-variable s signed None = refl
ranged-variable s signed (Some r) = refl

found-declared : (s : Scope) (o : Option Declaration) → is_some o ≡ true → (object_or_undeclared (option_map (declared_object s) o)).is_declared ≡ true
found-declared s None h = absurd (false≢true h)
found-declared s (Some d) h = ranged-declared s d.signed d.range

found-variable : (s : Scope) (o : Option Declaration) → (object_or_undeclared (option_map (declared_object s) o)).constant ≡ None
found-variable s None = refl
found-variable s (Some d) = ranged-variable s d.signed d.range

declared-there : (m : Module) (n : Name) → IsDeclared (alone m) n → (placed_scope (alone m) n).is_declared ≡ true
declared-there m n h = found-declared (scope_of []) (declaration_of (declarations m) n) (declared-something (declarations m) n h)

no-parameter : (m : Module) (n : Name) → (placed_scope (alone m) n).constant ≡ None
no-parameter m n = found-variable (scope_of []) (declaration_of (declarations m) n)

-- ---- accepted designs

pub accepted-evaluable : UnbrokenIsSound → AcceptedIsEvaluable
accepted-evaluable law d m top accepted shapely objects unbroken runnable =
    record {
      runnable = runnable;
      links = items-links d.source (placed_scope (alone m)) objects (no-parameter m) m.items fine unbroken;
      blocks = items-blocks d.source (placed_scope (alone m)) objects (no-parameter m) law m.items unbroken;
      one_driver = one-driver-of-accepted d (alone m) accepted shapely top;
      parameters = no-memory d (alone m) top;
    }
  where
    sound : IsSoundDesign d
    sound = is_sound d accepted (ranges_known d accepted shapely)

    fine : (a : Target × Expression) → IsAmong (assignments m.items) a
        → ((n : Name) → IsAmong (target_names a.0) n → ((placed_scope (alone m) n).is_declared ≡ true) × (is_memory (placed_scope (alone m) n) ≡ false))
        × IsTrue (has_constant_selects (placed_scope (alone m)) a.0)
    fine a k = (names, sound.link_constant (alone m) (assignment_link (alone m) a) top (of_assignment a k))
      where
        names : (n : Name) → IsAmong (target_names a.0) n → ((placed_scope (alone m) n).is_declared ≡ true) × (is_memory (placed_scope (alone m) n) ≡ false)
        names n g =
            let q = sound.link_name (alone m) (assignment_link (alone m) a) n top (of_assignment a k) g in
            (declared-there m n q.0, q.1)
