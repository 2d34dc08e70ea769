-- What the items of a module read, and what drives its bits, by lists: continuous assignments, clocked blocks, other blocks.
use Rattle.std.proofs.Common.{◌≡◌, ◌∙◌, ℕ, refl, ap, sym, subst, cond, Bool, true, false, inl, inr, List, [], ◌∷◌, ◌++◌}
use Rattle.std.specs.Prelude.{◌||◌, map}
use Rattle.std.specs.List.{list_any}
use Rattle.std.proofs.lemmas.Bool.{false≢true, or_left, or_right, and_parts, and_from}
use Rattle.std.proofs.lemmas.List.{map-append}
use Rattle.wb_values.specs.Value.{Name}
use Rattle.verilog_trees.specs.Syntax.{Expression, Target, place, joined, Targets, no_targets, target, Statement, Item, port, parameter, wires, variables, assign, always, instances}
use Rattle.verilog_meaning.specs.Expression.{Scope}
use Rattle.verilog_meaning.specs.Register.{is_clocked, clocked_blocks, combinational_blocks, is_bit_of, may_reach, may_reach_one, may_assign, one_may_assign}
use Rattle.verilog_meaning.specs.Settled.{assignments, wire_assignments, one_may_reach}
use Rattle.verilog_designs.specs.Reads.{BitSet, reads}
use Rattle.verilog_designs.specs.Drivers.{statement_reads, parts_of, all_parts_of}
use Rattle.v_drivers.specs.Sets.{reached_by, target_drivers, assignments_drivers, blocks_drivers, drivers}
use Rattle.v_undriven.specs.Reads.{links_read, all_items_read}
use Rattle.v_undriven.specs.Undriven.{OneHas}

-- ---- truth values

pub either : {A : Type 0} (p q : Bool) → (p || q) ≡ true → (p ≡ true → A) → (q ≡ true → A) → A
either true q h f g = f refl
either false q h f g = g h

or_assoc : (a b c : Bool) → ((a || b) || c) ≡ (a || (b || c))
or_assoc true b c = refl
or_assoc false b c = refl

onto-second : (a b c d : Bool) → (a || (b || (c || d))) ≡ (b || ((a || c) || d))
onto-second true true c d = refl
onto-second true false c d = refl
onto-second false b c d = refl

onto-third : (a b c d : Bool) → (a || (b || (c || d))) ≡ (b || (c || (a || d)))
onto-third true true c d = refl
onto-third true false true d = refl
onto-third true false false d = refl
onto-third false b c d = refl

-- ---- what is read

any-append : {X : Type 0} (p : X → Bool) (xs ys : List X) → list_any p (xs ++ ys) ≡ (list_any p xs || list_any p ys)
any-append p [] ys = refl
any-append p (x ∷ xs) ys = ap (λ b. p x || b) (any-append p xs ys) ∙ sym (or_assoc (p x) (list_any p xs) (list_any p ys))

module _ (s : Scope) (n : Name) (k b : ℕ) where
  abbrev pub by_link : Target × Expression → Bool
  by_link a = reads s a.1 n k b

  abbrev pub by_block : Statement → Bool
  by_block x = statement_reads s x n k b

  links-any : (links : List (Target × Expression)) → links_read s links n k b ≡ list_any by_link links
  links-any [] = refl
  links-any (a ∷ links) = ap (λ t. reads s a.1 n k b || t) (links-any links)

  abbrev of_lists : List Item → Bool
  of_lists items = list_any by_link (assignments items) || (list_any by_block (clocked_blocks items) || list_any by_block (combinational_blocks items))

  of-links : (links : List (Target × Expression)) (rest : List (Target × Expression)) (t u : Bool) → u ≡ (list_any by_link rest || t)
      → (links_read s links n k b || u) ≡ (list_any by_link (links ++ rest) || t)
  of-links links rest t u e =
      ap (λ z. z || u) (links-any links) ∙ ap (λ z. list_any by_link links || z) e
      ∙ sym (or_assoc (list_any by_link links) (list_any by_link rest) t) ∙ ap (λ z. z || t) (sym (any-append by_link links rest))

  of-block : (t : Bool) (x : Statement) (items : List Item) (u : Bool) → u ≡ of_lists items
      → (by_block x || u)
      ≡ (list_any by_link (assignments items) || (list_any by_block (cond t (x ∷ clocked_blocks items) (clocked_blocks items)) || list_any by_block (cond t (combinational_blocks items) (x ∷ combinational_blocks items))))
  of-block true x items u e =
      ap (λ z. by_block x || z) e
      ∙ onto-second (by_block x) (list_any by_link (assignments items)) (list_any by_block (clocked_blocks items)) (list_any by_block (combinational_blocks items))
  of-block false x items u e =
      ap (λ z. by_block x || z) e
      ∙ onto-third (by_block x) (list_any by_link (assignments items)) (list_any by_block (clocked_blocks items)) (list_any by_block (combinational_blocks items))

  pub read-lists : (items : List Item) → all_items_read s items n k b
      ≡ (list_any by_link (assignments items) || (list_any by_block (clocked_blocks items) || list_any by_block (combinational_blocks items)))
  read-lists [] = refl
  read-lists (port d ∷ items) = read-lists items
  read-lists (parameter d ∷ items) = read-lists items
  read-lists (wires signed r ws ∷ items) = of-links (wire_assignments ws) (assignments items) _ _ (read-lists items)
  read-lists (variables signed r vs ∷ items) = read-lists items
  read-lists (assign links ∷ items) = of-links links (assignments items) _ _ (read-lists items)
  read-lists (always es x ∷ items) = of-block (is_clocked es) x items _ (read-lists items)
  read-lists (instances m given is ∷ items) = read-lists items

  -- ---- what has a driver

  has-left : (ps qs : List BitSet) → OneHas ps n k b → OneHas (ps ++ qs) n k b
  has-left [] qs h = absurd h
  has-left (p ∷ ps) qs (inl h) = inl h
  has-left (p ∷ ps) qs (inr h) = inr (has-left ps qs h)

  has-right : (ps qs : List BitSet) → OneHas qs n k b → OneHas (ps ++ qs) n k b
  has-right [] qs h = h
  has-right (p ∷ ps) qs h = inr (has-right ps qs h)

  has-parts : {A : Type 0} (ps qs : List BitSet) → OneHas (ps ++ qs) n k b → (OneHas ps n k b → A) → (OneHas qs n k b → A) → A
  has-parts [] qs h f g = g h
  has-parts (p ∷ ps) qs (inl h) f g = f (inl h)
  has-parts (p ∷ ps) qs (inr h) f g = has-parts ps qs h (λ i. f (inr i)) g

  moved : (ps qs : List BitSet) → ps ≡ qs → OneHas ps n k b → OneHas qs n k b
  moved ps qs e h = subst (λ (rs : List BitSet). OneHas rs n k b) e h

  abbrev is_bit : Bool
  is_bit = is_bit_of (s n) k b

  mutual
    target-reached : (t : Target) → OneHas (map (reached_by s) (parts_of t)) n k b → (is_bit ≡ true) × (may_reach s t n k b ≡ true)
    target-reached (place m x) (inl h) = and_parts is_bit (may_reach s (place m x) n k b) h
    target-reached (place m x) (inr h) = absurd h
    target-reached (joined ts) h = targets-reached ts h

    targets-reached : (ts : Targets) → OneHas (map (reached_by s) (all_parts_of ts)) n k b → (is_bit ≡ true) × (may_reach_one s ts n k b ≡ true)
    targets-reached no_targets h = absurd h
    targets-reached (target t ts) h =
        has-parts (map (reached_by s) (parts_of t)) (map (reached_by s) (all_parts_of ts))
        (moved _ _ (map-append (reached_by s) (parts_of t) (all_parts_of ts)) h)
        (λ i. let r = target-reached t i in (r.0, or_left (may_reach s t n k b) (may_reach_one s ts n k b) r.1))
        (λ i. let r = targets-reached ts i in (r.0, or_right (may_reach s t n k b) (may_reach_one s ts n k b) r.1))

  mutual
    reached-target : (t : Target) → is_bit ≡ true → may_reach s t n k b ≡ true → OneHas (map (reached_by s) (parts_of t)) n k b
    reached-target (place m x) e h = inl (and_from is_bit (may_reach s (place m x) n k b) e h)
    reached-target (joined ts) e h = reached-targets ts e h

    reached-targets : (ts : Targets) → is_bit ≡ true → may_reach_one s ts n k b ≡ true → OneHas (map (reached_by s) (all_parts_of ts)) n k b
    reached-targets no_targets e h = absurd (false≢true h)
    reached-targets (target t ts) e h =
        moved _ _ (sym (map-append (reached_by s) (parts_of t) (all_parts_of ts)))
        (either (may_reach s t n k b) (may_reach_one s ts n k b) h
        (λ i. has-left (map (reached_by s) (parts_of t)) (map (reached_by s) (all_parts_of ts)) (reached-target t e i))
        (λ i. has-right (map (reached_by s) (parts_of t)) (map (reached_by s) (all_parts_of ts)) (reached-targets ts e i)))

  of-target : (t : Target) → OneHas (target_drivers s t) n k b → (is_bit ≡ true) × (may_reach s t n k b ≡ true)
  unfolding target_drivers
  of-target t h = target-reached t h

  to-target : (t : Target) → is_bit ≡ true → may_reach s t n k b ≡ true → OneHas (target_drivers s t) n k b
  unfolding target_drivers
  to-target t e h = reached-target t e h

  links-reached : (links : List (Target × Expression)) → OneHas (assignments_drivers s links) n k b → (is_bit ≡ true) × (one_may_reach s links n k b ≡ true)
  links-reached [] h = absurd h
  links-reached (a ∷ links) h =
      has-parts (target_drivers s a.0) (assignments_drivers s links) h
      (λ i. let r = of-target a.0 i in (r.0, or_left (may_reach s a.0 n k b) (one_may_reach s links n k b) r.1))
      (λ i. let r = links-reached links i in (r.0, or_right (may_reach s a.0 n k b) (one_may_reach s links n k b) r.1))

  reached-links : (links : List (Target × Expression)) → is_bit ≡ true → one_may_reach s links n k b ≡ true → OneHas (assignments_drivers s links) n k b
  reached-links [] e h = absurd (false≢true h)
  reached-links (a ∷ links) e h =
      either (may_reach s a.0 n k b) (one_may_reach s links n k b) h
      (λ i. has-left (target_drivers s a.0) (assignments_drivers s links) (to-target a.0 e i))
      (λ i. has-right (target_drivers s a.0) (assignments_drivers s links) (reached-links links e i))

  blocks-assign : (xs : List Statement) → OneHas (blocks_drivers s xs) n k b → (is_bit ≡ true) × (one_may_assign s xs n k b ≡ true)
  blocks-assign [] h = absurd h
  blocks-assign (x ∷ xs) (inl h) = let r = and_parts is_bit (may_assign s x n k b) h in (r.0, or_left (may_assign s x n k b) (one_may_assign s xs n k b) r.1)
  blocks-assign (x ∷ xs) (inr h) = let r = blocks-assign xs h in (r.0, or_right (may_assign s x n k b) (one_may_assign s xs n k b) r.1)

  assign-blocks : (xs : List Statement) → is_bit ≡ true → one_may_assign s xs n k b ≡ true → OneHas (blocks_drivers s xs) n k b
  assign-blocks [] e h = absurd (false≢true h)
  assign-blocks (x ∷ xs) e h =
      either (may_assign s x n k b) (one_may_assign s xs n k b) h (λ i. inl (and_from is_bit (may_assign s x n k b) e i)) (λ i. inr (assign-blocks xs e i))

  -- what a driver is that has the bit
  pub data DrivenBy (items : List Item) : Type 0 where
    by_links : one_may_reach s (assignments items) n k b ≡ true → DrivenBy items
    by_clock : one_may_assign s (clocked_blocks items) n k b ≡ true → DrivenBy items
    by_others : one_may_assign s (combinational_blocks items) n k b ≡ true → DrivenBy items

  pub driven-by : (items : List Item) → OneHas (drivers s items) n k b → (is_bit_of (s n) k b ≡ true) × DrivenBy items
  driven-by items h =
      has-parts (assignments_drivers s (assignments items)) (blocks_drivers s (clocked_blocks items) ++ blocks_drivers s (combinational_blocks items)) h
      (λ i. let r = links-reached (assignments items) i in (r.0, by_links r.1))
      (λ i. has-parts (blocks_drivers s (clocked_blocks items)) (blocks_drivers s (combinational_blocks items)) i
      (λ j. let r = blocks-assign (clocked_blocks items) j in (r.0, by_clock r.1))
      (λ j. let r = blocks-assign (combinational_blocks items) j in (r.0, by_others r.1)))

  pub by-driven : (items : List Item) → is_bit_of (s n) k b ≡ true → DrivenBy items → OneHas (drivers s items) n k b
  by-driven items e (by_links h) =
      has-left (assignments_drivers s (assignments items)) (blocks_drivers s (clocked_blocks items) ++ blocks_drivers s (combinational_blocks items))
      (reached-links (assignments items) e h)
  by-driven items e (by_clock h) =
      has-right (assignments_drivers s (assignments items)) (blocks_drivers s (clocked_blocks items) ++ blocks_drivers s (combinational_blocks items))
      (has-left (blocks_drivers s (clocked_blocks items)) (blocks_drivers s (combinational_blocks items)) (assign-blocks (clocked_blocks items) e h))
  by-driven items e (by_others h) =
      has-right (assignments_drivers s (assignments items)) (blocks_drivers s (clocked_blocks items) ++ blocks_drivers s (combinational_blocks items))
      (has-right (blocks_drivers s (clocked_blocks items)) (blocks_drivers s (combinational_blocks items)) (assign-blocks (combinational_blocks items) e h))
