-- Items that break none of the rules: drivers, bits without drivers and loops may be looked for.
use Rattle.std.proofs.Common.{◌≡◌, refl, subst, Bool, true, false, cond, arith, List, [], ◌∷◌, ◌++◌, Option, Some, None}
use Rattle.wb_values.specs.Value.{Name}
use Rattle.verilog_trees.specs.Syntax.{Expression, Target, Statement, blocking, Item, port, parameter, wires, variables, assign, always, instances, Source}
use Rattle.verilog_meaning.specs.Expression.{Scope, is_memory}
use Rattle.verilog_meaning.specs.Register.{is_clocked, clocked_blocks, combinational_blocks}
use Rattle.verilog_meaning.specs.Settled.{whole_of, wire_assignments, assignments}
use Rattle.verilog_rules.specs.Expression.{also, anywhere, broken, is_unbroken}
use Rattle.verilog_designs.specs.Expressions.{memory_if, writes_memory, by_constants, broken_target, broken_net_target, broken_statement, broken_events, broken_assignments, broken_initial_values, broken_range, broken_module_item, broken_module_items}
use Rattle.v_value.specs.Narrow.{HasNarrowObjects}
use Rattle.v_flow.specs.Narrow.{HasNarrowParts, IsNarrowFlow}
use Rattle.v_size.proofs.Unbroken.{unbroken-also, unbroken-holds}
use Rattle.v_sound.proofs.Fitting.{statement-narrow}
use Rattle.v_sound.proofs.Within.{net-target-narrow}
use Rattle.v_drivers.specs.Premises.{HaveNarrowTargets, AreNarrowBlocks, AreNarrowItems}
use Rattle.v_undriven.specs.Premises.{AreNarrowValues, AreNarrowReads}
use Rattle.v_depend.specs.Running.{IsFit}
use Rattle.v_paths.specs.Modules.{AreFitItems}
use Rattle.v_order.specs.Drivers.{as_statements}
use Rattle.v_loops.specs.Turns.{AreFitToRun, HaveConstantSelects, IsRunnable}
use Rattle.v_fitting.specs.Wires.{AreNoMemories, HasPlainWires, HavePlainWires}
use Rattle.v_fitting.proofs.Targets.{target-constant, statement-targets}
use Rattle.v_fitting.proofs.Memories.{unwritten, plain-target, plain-statement}

module _ (source : Source) (s : Scope) (objects : HasNarrowObjects s) where
  -- ---- continuous assignments

  joined-narrow : (xs ys : List (Target × Expression)) → HaveNarrowTargets s xs → HaveNarrowTargets s ys → HaveNarrowTargets s (xs ++ ys)
  joined-narrow [] ys h g = g
  joined-narrow (x ∷ xs) ys h g = (h.0, joined-narrow xs ys h.1 g)

  whole-narrow : (n : Name) → HasNarrowParts s (whole_of n)
  whole-narrow n = ((omega arith, (objects n).0), tt)

  wires-narrow : (ws : List (Name × Option Expression)) → HaveNarrowTargets s (wire_assignments ws)
  wires-narrow [] = tt
  wires-narrow ((n, None) ∷ ws) = wires-narrow ws
  wires-narrow ((n, Some e) ∷ ws) = (whole-narrow n, wires-narrow ws)

  links-narrow : (xs : List (Target × Expression)) → is_unbroken (broken_assignments s xs) ≡ true → HaveNarrowTargets s xs
  links-narrow [] h = tt
  links-narrow (x ∷ xs) h =
      let p = unbroken-also (also (broken_net_target s by_constants x.0) (broken s anywhere x.1)) (broken_assignments s xs) h in
      ((net-target-narrow s by_constants x.0 objects (unbroken-also (broken_net_target s by_constants x.0) (broken s anywhere x.1) p.0).0).0, links-narrow xs p.1)

  -- ---- blocks

  -- a block, where it is of the kind that is looked at
  block-narrow : (b : Bool) (x : Statement) (xs : List Statement) → IsNarrowFlow s x → AreNarrowBlocks s xs → AreNarrowBlocks s (cond b (x ∷ xs) xs)
  block-narrow true x xs h g = (h, g)
  block-narrow false x xs h g = g

  other-narrow : (b : Bool) (x : Statement) (xs : List Statement) → IsNarrowFlow s x → AreNarrowBlocks s xs → AreNarrowBlocks s (cond b xs (x ∷ xs))
  other-narrow true x xs h g = g
  other-narrow false x xs h g = (h, g)

  -- ---- items

  pub items-narrow : (items : List Item) → is_unbroken (broken_module_items source s items) ≡ true → AreNarrowItems s items
  items-narrow [] h = record { targets = tt; clocked = tt; combinational = tt }
  items-narrow (i ∷ items) h =
      let p = unbroken-also (broken_module_item source s i) (broken_module_items source s items) h in
      one-more i items p.0 (items-narrow items p.1)
    where
      one-more : (j : Item) (rest : List Item) → is_unbroken (broken_module_item source s j) ≡ true → AreNarrowItems s rest → AreNarrowItems s (j ∷ rest)
      one-more (port d) rest u g = record { targets = g.targets; clocked = g.clocked; combinational = g.combinational }
      one-more (parameter d) rest u g = record { targets = g.targets; clocked = g.clocked; combinational = g.combinational }
      one-more (wires signed r ws) rest u g =
          record { targets = joined-narrow (wire_assignments ws) (assignments rest) (wires-narrow ws) g.targets; clocked = g.clocked; combinational = g.combinational }
      one-more (variables signed r vs) rest u g = record { targets = g.targets; clocked = g.clocked; combinational = g.combinational }
      one-more (assign xs) rest u g =
          record { targets = joined-narrow xs (assignments rest) (links-narrow xs u) g.targets; clocked = g.clocked; combinational = g.combinational }
      one-more (always es x) rest u g =
          let w = statement-narrow s objects (is_clocked es) x (unbroken-also (broken_events s es) (broken_statement s (is_clocked es) x) u).1 in
          record {
            targets = g.targets;
            clocked = block-narrow (is_clocked es) x (clocked_blocks rest) w g.clocked;
            combinational = other-narrow (is_clocked es) x (combinational_blocks rest) w g.combinational;
          }
      one-more (instances m given is) rest u g = record { targets = g.targets; clocked = g.clocked; combinational = g.combinational }

  -- ---- what items read

  values-narrow : (ws : List (Name × Option Expression)) → is_unbroken (broken_initial_values s ws) ≡ true → AreNarrowValues s (wire_assignments ws)
  values-narrow [] h = tt
  values-narrow ((n, None) ∷ ws) h = values-narrow ws h
  values-narrow ((n, Some e) ∷ ws) h =
      let p = unbroken-also (broken s anywhere e) (broken_initial_values s ws) h in
      ((unbroken-holds s objects anywhere e p.0).1, values-narrow ws p.1)

  assigned-narrow : (xs : List (Target × Expression)) → is_unbroken (broken_assignments s xs) ≡ true → AreNarrowValues s xs
  assigned-narrow [] h = tt
  assigned-narrow (x ∷ xs) h =
      let p = unbroken-also (also (broken_net_target s by_constants x.0) (broken s anywhere x.1)) (broken_assignments s xs) h in
      ((unbroken-holds s objects anywhere x.1 (unbroken-also (broken_net_target s by_constants x.0) (broken s anywhere x.1) p.0).1).1, assigned-narrow xs p.1)

  pub reads-narrow : (items : List Item) → is_unbroken (broken_module_items source s items) ≡ true → AreNarrowReads s items
  reads-narrow [] h = tt
  reads-narrow (port d ∷ items) h = (tt, reads-narrow items (unbroken-also (broken_module_item source s (port d)) (broken_module_items source s items) h).1)
  reads-narrow (parameter d ∷ items) h = (tt, reads-narrow items (unbroken-also (broken_module_item source s (parameter d)) (broken_module_items source s items) h).1)
  reads-narrow (wires signed r ws ∷ items) h =
      let p = unbroken-also (broken_module_item source s (wires signed r ws)) (broken_module_items source s items) h in
      (values-narrow ws (unbroken-also (broken_range s r) (broken_initial_values s ws) p.0).1, reads-narrow items p.1)
  reads-narrow (variables signed r vs ∷ items) h = (tt, reads-narrow items (unbroken-also (broken_module_item source s (variables signed r vs)) (broken_module_items source s items) h).1)
  reads-narrow (assign xs ∷ items) h =
      let p = unbroken-also (broken_module_item source s (assign xs)) (broken_module_items source s items) h in
      (assigned-narrow xs p.0, reads-narrow items p.1)
  reads-narrow (always es x ∷ items) h =
      let p = unbroken-also (broken_module_item source s (always es x)) (broken_module_items source s items) h in
      (statement-narrow s objects (is_clocked es) x (unbroken-also (broken_events s es) (broken_statement s (is_clocked es) x) p.0).1, reads-narrow items p.1)
  reads-narrow (instances m given is ∷ items) h = (tt, reads-narrow items (unbroken-also (broken_module_item source s (instances m given is)) (broken_module_items source s items) h).1)

  -- ---- drivers that loops are looked for in

  link-fit : (x : Target × Expression) → is_unbroken (also (broken_net_target s by_constants x.0) (broken s anywhere x.1)) ≡ true → IsFit s (blocking x.0 x.1)
  link-fit x h =
      let q = unbroken-also (broken_net_target s by_constants x.0) (broken s anywhere x.1) h in
      let t = net-target-narrow s by_constants x.0 objects q.0 in
      record { narrow = (t.0, (unbroken-holds s objects anywhere x.1 q.1).1); targets = t.2; plain = plain-target s x.0 x.1 (unwritten s by_constants x.0 q.0) }

  wire-fit : (n : Name) (e : Expression) → is_memory (s n) ≡ false → is_unbroken (broken s anywhere e) ≡ true → IsFit s (blocking (whole_of n) e)
  wire-fit n e m h =
      record { narrow = (whole-narrow n, (unbroken-holds s objects anywhere e h).1); targets = (objects n).0; plain = plain-target s (whole_of n) e m }

  joined-fit : (xs ys : List (Target × Expression)) → AreFitToRun s (as_statements xs) → AreFitToRun s (as_statements ys) → AreFitToRun s (as_statements (xs ++ ys))
  joined-fit [] ys h g = g
  joined-fit (x ∷ xs) ys h g = (h.0, joined-fit xs ys h.1 g)

  wires-fit : (ws : List (Name × Option Expression)) → AreNoMemories s ws → is_unbroken (broken_initial_values s ws) ≡ true
      → AreFitToRun s (as_statements (wire_assignments ws))
  wires-fit [] m h = tt
  wires-fit ((n, None) ∷ ws) m h = wires-fit ws m.1 h
  wires-fit ((n, Some e) ∷ ws) m h =
      let p = unbroken-also (broken s anywhere e) (broken_initial_values s ws) h in
      (wire-fit n e m.0 p.0, wires-fit ws m.1 p.1)

  links-fit : (xs : List (Target × Expression)) → is_unbroken (broken_assignments s xs) ≡ true → AreFitToRun s (as_statements xs)
  links-fit [] h = tt
  links-fit (x ∷ xs) h =
      let p = unbroken-also (also (broken_net_target s by_constants x.0) (broken s anywhere x.1)) (broken_assignments s xs) h in
      (link-fit x p.0, links-fit xs p.1)

  joined-constant : (xs ys : List (Target × Expression)) → HaveConstantSelects s xs → HaveConstantSelects s ys → HaveConstantSelects s (xs ++ ys)
  joined-constant [] ys h g = g
  joined-constant (x ∷ xs) ys h g = (h.0, joined-constant xs ys h.1 g)

  wires-constant : (ws : List (Name × Option Expression)) → HaveConstantSelects s (wire_assignments ws)
  wires-constant [] = tt
  wires-constant ((n, None) ∷ ws) = wires-constant ws
  wires-constant ((n, Some e) ∷ ws) = (refl, wires-constant ws)

  links-constant : (xs : List (Target × Expression)) → is_unbroken (broken_assignments s xs) ≡ true → HaveConstantSelects s xs
  links-constant [] h = tt
  links-constant (x ∷ xs) h =
      let p = unbroken-also (also (broken_net_target s by_constants x.0) (broken s anywhere x.1)) (broken_assignments s xs) h in
      let q = unbroken-also (broken_net_target s by_constants x.0) (broken s anywhere x.1) p.0 in
      (target-constant s x.0 (unbroken-also (memory_if (writes_memory s x.0)) (broken_target s by_constants x.0) q.0).1, links-constant xs p.1)

  statement-fit : (x : Statement) → is_unbroken (broken_statement s false x) ≡ true → IsFit s x
  statement-fit x h = record { narrow = statement-narrow s objects false x h; targets = statement-targets s objects false x h; plain = plain-statement s x h }

  -- a block, where it is of the kind that is looked at
  other-fit : (b : Bool) (x : Statement) (xs : List Statement) → (b ≡ false → IsFit s x) → AreFitToRun s xs → AreFitToRun s (cond b xs (x ∷ xs))
  other-fit true x xs h g = g
  other-fit false x xs h g = (h refl, g)

  pub items-runnable : (items : List Item) → HavePlainWires s items → is_unbroken (broken_module_items source s items) ≡ true → IsRunnable s items
  items-runnable [] m h = record { links = tt; blocks = tt; constant = tt }
  items-runnable (i ∷ items) m h =
      let p = unbroken-also (broken_module_item source s i) (broken_module_items source s items) h in
      one-more i items m.0 p.0 (items-runnable items m.1 p.1)
    where
      one-more : (j : Item) (rest : List Item) → HasPlainWires s j → is_unbroken (broken_module_item source s j) ≡ true → IsRunnable s rest → IsRunnable s (j ∷ rest)
      one-more (port d) rest w u g = record { links = g.links; blocks = g.blocks; constant = g.constant }
      one-more (parameter d) rest w u g = record { links = g.links; blocks = g.blocks; constant = g.constant }
      one-more (wires signed r ws) rest w u g =
          let v = unbroken-also (broken_range s r) (broken_initial_values s ws) u in
          record {
            links = joined-fit (wire_assignments ws) (assignments rest) (wires-fit ws w v.1) g.links;
            blocks = g.blocks;
            constant = joined-constant (wire_assignments ws) (assignments rest) (wires-constant ws) g.constant;
          }
      one-more (variables signed r vs) rest w u g = record { links = g.links; blocks = g.blocks; constant = g.constant }
      one-more (assign xs) rest w u g =
          record {
            links = joined-fit xs (assignments rest) (links-fit xs u) g.links;
            blocks = g.blocks;
            constant = joined-constant xs (assignments rest) (links-constant xs u) g.constant;
          }
      one-more (always es x) rest w u g =
          let v = unbroken-also (broken_events s es) (broken_statement s (is_clocked es) x) u in
          record {
            links = g.links;
            blocks = other-fit (is_clocked es) x (combinational_blocks rest) (λ e. statement-fit x (subst (λ c. is_unbroken (broken_statement s c x) ≡ true) e v.1)) g.blocks;
            constant = g.constant;
          }
      one-more (instances m given is) rest w u g = record { links = g.links; blocks = g.blocks; constant = g.constant }

  -- ---- blocks that latches are looked for in

  pub items-fit : (items : List Item) → is_unbroken (broken_module_items source s items) ≡ true → AreFitItems s items
  items-fit [] h = tt
  items-fit (port d ∷ items) h = (tt, items-fit items (unbroken-also (broken_module_item source s (port d)) (broken_module_items source s items) h).1)
  items-fit (parameter d ∷ items) h = (tt, items-fit items (unbroken-also (broken_module_item source s (parameter d)) (broken_module_items source s items) h).1)
  items-fit (wires signed r ws ∷ items) h = (tt, items-fit items (unbroken-also (broken_module_item source s (wires signed r ws)) (broken_module_items source s items) h).1)
  items-fit (variables signed r vs ∷ items) h = (tt, items-fit items (unbroken-also (broken_module_item source s (variables signed r vs)) (broken_module_items source s items) h).1)
  items-fit (assign xs ∷ items) h = (tt, items-fit items (unbroken-also (broken_module_item source s (assign xs)) (broken_module_items source s items) h).1)
  items-fit (always es x ∷ items) h =
      let p = unbroken-also (broken_module_item source s (always es x)) (broken_module_items source s items) h in
      let q = unbroken-also (broken_events s es) (broken_statement s (is_clocked es) x) p.0 in (
        record {
          narrow = statement-narrow s objects (is_clocked es) x q.1;
          no_memory = λ e. plain-statement s x (subst (λ c. is_unbroken (broken_statement s c x) ≡ true) e q.1);
        },
        items-fit items p.1,
      )
  items-fit (instances m given is ∷ items) h = (tt, items-fit items (unbroken-also (broken_module_item source s (instances m given is)) (broken_module_items source s items) h).1)
