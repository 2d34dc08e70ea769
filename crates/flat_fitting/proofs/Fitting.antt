-- Items whose drivers break no rule are fit for all that is looked for.
use Rattle.std.proofs.Common.{◌≡◌, refl, subst, sym, Bool, true, false, cond, arith, List, [], ◌∷◌, ◌++◌, inl, inr, Option, Some, None}
use Rattle.wb_values.specs.Value.{Name}
use Rattle.verilog_trees.specs.Syntax.{Expression, Target, Statement, blocking, Events, Item, port, parameter, wires, variables, assign, always, instances}
use Rattle.verilog_meaning.specs.Expression.{Scope}
use Rattle.verilog_meaning.specs.Register.{is_clocked, clocked_blocks, combinational_blocks}
use Rattle.verilog_meaning.specs.Settled.{wire_assignments, assignments}
use Rattle.verilog_rules.specs.Expression.{anywhere, broken, is_unbroken}
use Rattle.verilog_designs.specs.Expressions.{memory_if, writes_memory, by_constants, broken_target, broken_net_target, broken_statement}
use Rattle.verilog_unique.proofs.Descent.{IsAmong, among_left, among_right, contains_among}
use Rattle.v_value.specs.Narrow.{HasNarrowObjects}
use Rattle.v_flow.specs.Narrow.{IsNarrowFlow}
use Rattle.v_size.proofs.Unbroken.{unbroken-also, unbroken-holds}
use Rattle.v_sound.proofs.Fitting.{statement-narrow}
use Rattle.v_sound.proofs.Within.{net-target-narrow}
use Rattle.v_drivers.specs.Premises.{HaveNarrowTargets, AreNarrowBlocks, AreNarrowItems}
use Rattle.v_undriven.specs.Premises.{AreNarrowValues, AreNarrowReads}
use Rattle.v_depend.specs.Running.{IsFit}
use Rattle.v_paths.specs.Modules.{IsFitBlock, AreFitItems}
use Rattle.v_order.specs.Drivers.{as_statements}
use Rattle.v_loops.specs.Turns.{AreFitToRun, HaveConstantSelects, IsRunnable}
use Rattle.v_fitting.proofs.Targets.{target-constant, statement-targets}
use Rattle.v_fitting.proofs.Memories.{unwritten, plain-target, plain-statement}
use Rattle.flat_rules.specs.Drivers.{LinkBreaksNothing, DriversBreakNothing}
use Rattle.flat_rules.proofs.Drivers.{flat_drivers_break_nothing, flat_scopes_are_narrow}
use Rattle.flat_fitting.specs.Fitting.{AreFitForAll, UnbrokenDriversAreFit, FlatItemsAreFit}

module _ (s : Scope) (objects : HasNarrowObjects s) where
  -- ---- continuous assignments

  EachLink : List (Target × Expression) → Type 0
  EachLink xs = (a : Target × Expression) → IsAmong xs a → LinkBreaksNothing s a

  links_narrow : (xs : List (Target × Expression)) → EachLink xs → HaveNarrowTargets s xs
  unfolding EachLink
  links_narrow [] h = tt
  links_narrow (x ∷ xs) h = ((net-target-narrow s by_constants x.0 objects (h x (inl refl)).target).0, links_narrow xs (λ a k. h a (inr k)))

  values_narrow : (xs : List (Target × Expression)) → EachLink xs → AreNarrowValues s xs
  unfolding EachLink
  values_narrow [] h = tt
  values_narrow (x ∷ xs) h = ((unbroken-holds s objects anywhere x.1 (h x (inl refl)).value).1, values_narrow xs (λ a k. h a (inr k)))

  links_fit : (xs : List (Target × Expression)) → EachLink xs → AreFitToRun s (as_statements xs)
  unfolding EachLink
  links_fit [] h = tt
  links_fit (x ∷ xs) h = (one, links_fit xs (λ a k. h a (inr k)))
    where
      one : IsFit s (blocking x.0 x.1)
      one =
          let g : LinkBreaksNothing s x = h x (inl refl) in
          let t = net-target-narrow s by_constants x.0 objects g.target in
          record {
            narrow = (t.0, (unbroken-holds s objects anywhere x.1 g.value).1);
            targets = t.2;
            plain = plain-target s x.0 x.1 (unwritten s by_constants x.0 g.target);
          }

  links_constant : (xs : List (Target × Expression)) → EachLink xs → HaveConstantSelects s xs
  unfolding EachLink
  links_constant [] h = tt
  links_constant (x ∷ xs) h = (
    target-constant s x.0 (unbroken-also (memory_if (writes_memory s x.0)) (broken_target s by_constants x.0) (h x (inl refl)).target).1,
    links_constant xs (λ a k. h a (inr k)),
  )

  -- ---- blocks

  EachBlock : Bool → List Statement → Type 0
  EachBlock c xs = (x : Statement) → IsAmong xs x → is_unbroken (broken_statement s c x) ≡ true

  blocks_narrow : (c : Bool) (xs : List Statement) → EachBlock c xs → AreNarrowBlocks s xs
  unfolding EachBlock
  blocks_narrow c [] h = tt
  blocks_narrow c (x ∷ xs) h = (statement-narrow s objects c x (h x (inl refl)), blocks_narrow c xs (λ y k. h y (inr k)))

  blocks_fit : (xs : List Statement) → EachBlock false xs → AreFitToRun s xs
  unfolding EachBlock
  blocks_fit [] h = tt
  blocks_fit (x ∷ xs) h =
      let g = h x (inl refl) in (
        record { narrow = statement-narrow s objects false x g; targets = statement-targets s objects false x g; plain = plain-statement s x g },
        blocks_fit xs (λ y k. h y (inr k)),
      )

  -- ---- items

  record EachDriver (items : List Item) : Type 0 where
    links : EachLink (assignments items)
    blocks : EachBlock false (combinational_blocks items)
    clocked : EachBlock true (clocked_blocks items)

  -- a block that stands first is of one kind
  after_block : (es : Events) (x : Statement) (items : List Item) → EachDriver (always es x ∷ items)
      → (is_unbroken (broken_statement s (is_clocked es) x) ≡ true) × EachDriver items
  unfolding EachBlock
  after_block es x items h = chosen (is_clocked es) h.blocks h.clocked
    where
      chosen : (b : Bool)
          → ((y : Statement) → IsAmong (cond b (combinational_blocks items) (x ∷ combinational_blocks items)) y → is_unbroken (broken_statement s false y) ≡ true)
          → ((y : Statement) → IsAmong (cond b (x ∷ clocked_blocks items) (clocked_blocks items)) y → is_unbroken (broken_statement s true y) ≡ true)
          → (is_unbroken (broken_statement s b x) ≡ true) × EachDriver items
      chosen true f g = (g x (inl refl), record { links = h.links; blocks = f; clocked = λ y k. g y (inr k) })
      chosen false f g = (f x (inl refl), record { links = h.links; blocks = λ y k. f y (inr k); clocked = g })

  after_links : (xs : List (Target × Expression)) (i : Item) (items : List Item) → assignments (i ∷ items) ≡ xs ++ assignments items
      → combinational_blocks (i ∷ items) ≡ combinational_blocks items → clocked_blocks (i ∷ items) ≡ clocked_blocks items → EachDriver (i ∷ items)
      → EachLink xs × EachDriver items
  unfolding EachLink EachBlock
  after_links xs i items e b c h = (
    λ a k. h.links a (subst (λ ys. IsAmong ys a) (sym e) (among_left xs (assignments items) a k)),
    record {
      links = λ a k. h.links a (subst (λ ys. IsAmong ys a) (sym e) (among_right xs (assignments items) a k));
      blocks = λ y k. h.blocks y (subst (λ ys. IsAmong ys y) (sym b) k);
      clocked = λ y k. h.clocked y (subst (λ ys. IsAmong ys y) (sym c) k);
    },
  )

  reads_narrow : (items : List Item) → EachDriver items → AreNarrowReads s items
  reads_narrow [] h = tt
  reads_narrow (port d ∷ items) h = (tt, reads_narrow items (after_links [] (port d) items refl refl refl h).1)
  reads_narrow (parameter d ∷ items) h = (tt, reads_narrow items (after_links [] (parameter d) items refl refl refl h).1)
  reads_narrow (wires signed r ws ∷ items) h =
      let g = after_links (wire_assignments ws) (wires signed r ws) items refl refl refl h in
      (values_narrow (wire_assignments ws) g.0, reads_narrow items g.1)
  reads_narrow (variables signed r vs ∷ items) h = (tt, reads_narrow items (after_links [] (variables signed r vs) items refl refl refl h).1)
  reads_narrow (assign xs ∷ items) h = let g = after_links xs (assign xs) items refl refl refl h in (values_narrow xs g.0, reads_narrow items g.1)
  reads_narrow (always es x ∷ items) h = let g = after_block es x items h in (statement-narrow s objects (is_clocked es) x g.0, reads_narrow items g.1)
  reads_narrow (instances m given is ∷ items) h = (tt, reads_narrow items (after_links [] (instances m given is) items refl refl refl h).1)

  items_fit : (items : List Item) → EachDriver items → AreFitItems s items
  items_fit [] h = tt
  items_fit (port d ∷ items) h = (tt, items_fit items (after_links [] (port d) items refl refl refl h).1)
  items_fit (parameter d ∷ items) h = (tt, items_fit items (after_links [] (parameter d) items refl refl refl h).1)
  items_fit (wires signed r ws ∷ items) h = (tt, items_fit items (after_links (wire_assignments ws) (wires signed r ws) items refl refl refl h).1)
  items_fit (variables signed r vs ∷ items) h = (tt, items_fit items (after_links [] (variables signed r vs) items refl refl refl h).1)
  items_fit (assign xs ∷ items) h = (tt, items_fit items (after_links xs (assign xs) items refl refl refl h).1)
  items_fit (always es x ∷ items) h = let g = after_block es x items h in (fit g.0, items_fit items g.1)
    where
      fit : is_unbroken (broken_statement s (is_clocked es) x) ≡ true → IsFitBlock s es x
      fit u =
          record {
            narrow = statement-narrow s objects (is_clocked es) x u;
            no_memory = λ e. plain-statement s x (subst (λ b. is_unbroken (broken_statement s b x) ≡ true) e u);
          }
  items_fit (instances m given is ∷ items) h = (tt, items_fit items (after_links [] (instances m given is) items refl refl refl h).1)

  all_fit : (items : List Item) → EachDriver items → AreFitForAll s items
  all_fit items h =
      record {
        for_drivers =
            record {
              targets = links_narrow (assignments items) h.links;
              clocked = blocks_narrow true (clocked_blocks items) h.clocked;
              combinational = blocks_narrow false (combinational_blocks items) h.blocks;
            };
        for_reads = reads_narrow items h;
        for_paths = items_fit items h;
        for_loops =
            record {
              links = links_fit (assignments items) h.links;
              blocks = blocks_fit (combinational_blocks items) h.blocks;
              constant = links_constant (assignments items) h.links;
            };
      }

  each_driver : (items : List Item) → DriversBreakNothing s (assignments items) (combinational_blocks items) (clocked_blocks items) → EachDriver items
  unfolding EachLink EachBlock
  each_driver items h =
      record {
        links = λ a k. h.each_link a (contains_among (assignments items) a k);
        blocks = λ x k. h.each_block x (contains_among (combinational_blocks items) x k);
        clocked = λ x k. h.each_clocked x (contains_among (clocked_blocks items) x k);
      }

pub unbroken_drivers_are_fit : UnbrokenDriversAreFit
unbroken_drivers_are_fit s items objects h = all_fit s objects items (each_driver s objects items h)

pub flat_items_are_fit : FlatItemsAreFit
flat_items_are_fit d f s items sound flat others =
    unbroken_drivers_are_fit s items
    (flat_scopes_are_narrow d f s (assignments items) (combinational_blocks items) (clocked_blocks items) sound flat others)
    (flat_drivers_break_nothing d f s (assignments items) (combinational_blocks items) (clocked_blocks items) sound flat)
