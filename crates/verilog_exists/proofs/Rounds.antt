-- Where two valuations give a bit two values in the next round, they differ at a bit on which it depends; so after as many rounds as
-- there are bits none changes.
use Rattle.std.proofs.Common.{◌≡◌, ℕ, zero, suc, ◌<◌, ◌≤◌, Bool, true, false, not, ◌&&◌, ◌⊎◌, inl, inr, refl, sym, ap, ◌∙◌, subst, List, [], ◌∷◌, length, IsTrue, arith}
use Rattle.std.specs.List.{Contains}
use Rattle.std.proofs.lemmas.Bool.{and_parts, and_from, or_cases, or_left, or_right, false≢true}
use Rattle.wb_values.specs.Value.{Name, same_name, Valuation}
use Rattle.verilog_trees.specs.Syntax.{Expression, Target, place, joined, Targets, no_targets, target, Statement, Direction, output}
use Rattle.verilog_meaning.specs.Expression.{Scope, is_memory, assigned_value}
use Rattle.verilog_meaning.specs.Statement.{places, target_width, written, run}
use Rattle.verilog_meaning.specs.Register.{combinational_blocks, selects_are_constant, may_mean, may_reach, may_reach_one, may_assign, value_bit}
use Rattle.verilog_meaning.specs.Hierarchy.{instance_step, Placed, placed_scope}
use Rattle.verilog_meaning.specs.Settled.{Design, IsPlacedIn, inside, IsDeclared, IsValueOf, HasPort, assignments, whole_of, whole_name, port_connections}
use Rattle.verilog_designs.specs.Names.{names_in, names_in_statement, all_item_mentions}
use Rattle.verilog_designs.specs.Reads.{surely_reaches, one_surely_reaches}
use Rattle.verilog_designs.specs.Dependence.{Bit, is_in, takes, index_reads, IsGivenBy, at_start, After, PlacedBit, bit_of, IsBitIn, Depends}
use Rattle.verilog_designs.specs.Drivers.{target_names, targets_names}
use Rattle.verilog_designs.specs.Accepted.{IsAccepted, HasUndeclared, undeclared, bad_hierarchy, comb_loop}
use Rattle.verilog_settled.specs.Locality.{IsSame, DifferAt, HasNoConstantMemory, AllFit, LeavesAre, has_constant_selects, all_have_constant_selects}
use Rattle.verilog_settled.proofs.Values.{alike_values}
use Rattle.verilog_settled.proofs.Found.{In, differ_at}
use Rattle.verilog_settled.proofs.Expressions.{readable}
use Rattle.verilog_settled.proofs.Places.{place_fixed}
use Rattle.verilog_settled.proofs.Written.{Why, stays, takes_bit, by_index, NotSurely, same_from}
use Rattle.verilog_settled.proofs.Targets.{ArePlaced, AllArePlaced, target_why}
use Rattle.verilog_settled.proofs.Assigned.{given_found}
use Rattle.verilog_settled.proofs.Runs.{run_bit_is_local}
use Rattle.verilog_unique.specs.Agreement.{Agree, IsBitDeclared}
use Rattle.verilog_unique.specs.Finite.{IsChain}
use Rattle.verilog_unique.specs.Unique.{AnyName, NumbersFit}
use Rattle.verilog_unique.proofs.Descent.{IsAmong, among_left, among_right, contains_among, among_contains}
use Rattle.verilog_unique.proofs.Chains.{chains_are_short}
use Rattle.verilog_unique.proofs.Bits.{bits_are_finite}
use Rattle.verilog_unique.proofs.Paths.{placed_in}
use Rattle.verilog_unique.proofs.Standing.{IsKnownIn, mentioned_known}
use Rattle.verilog_unique.proofs.Reading.{Covers, given_net, after_block}
use Rattle.verilog_unique.proofs.Mentioned.{AreUsed, in_module, assignment_used, block_used, connection_used}
use Rattle.verilog_unique.proofs.Parameters.{net_is_declared, no_constant_memory}
use Rattle.verilog_unique.proofs.Ports.{port_is_declared}
use Rattle.verilog_unique.proofs.Fitting.{leaves, statements, numbers_in, names_known}
use Rattle.verilog_exists.proofs.Fitting.{known_fit}
use Rattle.verilog_exists.proofs.Kept.{written_fits, run_fits}
use Rattle.verilog_exists.proofs.Spots.{SeesItsOwn}
use Rattle.verilog_exists.proofs.Links.{Link, IsLink, of_assignment, of_output, of_input}
use Rattle.verilog_exists.proofs.Givers.{Giver, giver, IsGiver, is_held, is_outside, is_run, is_link, is_nothing, is_giver, IsSound, given, after_link, new_bit, AllFitIn, rounds, rounds_fit, round_bit}

-- ---- targets with constant indexes (the same stands in the proofs of `verilog_settled`)

mutual
  fixed_placed : (s : Scope) (v w : Valuation) → HasNoConstantMemory s → (t : Target) → IsTrue (has_constant_selects s t) → ArePlaced s v w (λ n. ⊥) t
  fixed_placed s v w p (place n x) h = inl (place_fixed s v p n x h ∙ sym (place_fixed s w p n x h))
  fixed_placed s v w p (joined ts) h = all_fixed_placed s v w p ts h

  all_fixed_placed : (s : Scope) (v w : Valuation) → HasNoConstantMemory s → (ts : Targets) → IsTrue (all_have_constant_selects s ts)
      → AllArePlaced s v w (λ n. ⊥) ts
  all_fixed_placed s v w p no_targets h = tt
  all_fixed_placed s v w p (target t ts) h = (
    fixed_placed s v w p t (and_parts (has_constant_selects s t) (all_have_constant_selects s ts) h).0,
    all_fixed_placed s v w p ts (and_parts (has_constant_selects s t) (all_have_constant_selects s ts) h).1,
  )

mutual
  fixed_surely : (s : Scope) (t : Target) (u : Bit) → IsTrue (has_constant_selects s t) → IsTrue (may_reach s t u.of_name u.word u.place)
      → IsTrue (is_in (surely_reaches s t) u)
  fixed_surely s (place n x) u c h =
      let both : (same_name n u.of_name ≡ true) × (may_mean s (s n) x u.word u.place ≡ true) =
      and_parts (same_name n u.of_name) (may_mean s (s n) x u.word u.place) h in
      and_from (same_name n u.of_name) (selects_are_constant s x && may_mean s (s n) x u.word u.place) both.0
      (and_from (selects_are_constant s x) (may_mean s (s n) x u.word u.place) c both.1)
  fixed_surely s (joined ts) u c h = one_fixed_surely s ts u c h

  one_fixed_surely : (s : Scope) (ts : Targets) (u : Bit) → IsTrue (all_have_constant_selects s ts) → IsTrue (may_reach_one s ts u.of_name u.word u.place)
      → IsTrue (is_in (one_surely_reaches s ts) u)
  one_fixed_surely s no_targets u c h = absurd (false≢true h)
  one_fixed_surely s (target t ts) u c h =
      elim (or_cases (may_reach s t u.of_name u.word u.place) (may_reach_one s ts u.of_name u.word u.place) h) [
        | inl e ↦ or_left (is_in (surely_reaches s t) u) (is_in (one_surely_reaches s ts) u)
            (fixed_surely s t u (and_parts (has_constant_selects s t) (all_have_constant_selects s ts) c).0 e)
        | inr e ↦ or_right (is_in (surely_reaches s t) u) (is_in (one_surely_reaches s ts) u)
            (one_fixed_surely s ts u (and_parts (has_constant_selects s t) (all_have_constant_selects s ts) c).1 e)
      ]

never_surely : (b : Bool) → b ≡ true → not b ≡ true → ⊥
never_surely true h k = false≢true k
never_surely false h k = false≢true h

-- A bit that a target with constant indexes reaches is the same after two right sides were written, or those differ at a bit that gives it.
pub linked_local : (around inner : Scope) (v w inner_v inner_w : Valuation) (IsKnown : Name → Type 0) (t : Target) (e : Expression) (u : Bit)
    → HasNoConstantMemory around → HasNoConstantMemory inner → AllFit inner IsKnown inner_v → AllFit inner IsKnown inner_w → LeavesAre IsKnown e
    → is_memory (around u.of_name) ≡ false → IsValueOf (around u.of_name) (v u.of_name) → IsValueOf (around u.of_name) (w u.of_name)
    → IsTrue (has_constant_selects around t) → IsTrue (may_reach around t u.of_name u.word u.place)
    → IsSame (written around v (places around v t) (assigned_value inner inner_v (target_width around t) e))
    (written around w (places around w t) (assigned_value inner inner_w (target_width around t) e)) u
    ⊎ DifferAt inner_v inner_w (IsGivenBy around t inner e u)
linked_local around inner v w inner_v inner_w IsKnown t e u pa pi fv fw l m hv hw c h =
    over (target_why around v w (λ n. ⊥) pa u (alike_values (around u.of_name) (v u.of_name) (w u.of_name) hv hw) t (fixed_placed around v w pa t c) x y
    (alike_values (around u.of_name) (v u.of_name) (written around v (places around v t) x u.of_name) hv (written_fits around v t x u.of_name m hv))
    (alike_values (around u.of_name) (w u.of_name) (written around w (places around w t) y u.of_name) hw (written_fits around w t y u.of_name m hw)))
  where
    x : ℕ
    x = assigned_value inner inner_v (target_width around t) e

    y : ℕ
    y = assigned_value inner inner_w (target_width around t) e

    because : Why v w (λ n. ⊥) (NotSurely around t u) (λ j. (j < target_width around t) × IsTrue (takes around t u j)) (In (index_reads around t u)) x y u
        → DifferAt inner_v inner_w (IsGivenBy around t inner e u)
    because (stays n d) = absurd (never_surely (is_in (surely_reaches around t) u) (fixed_surely around t u c h) n)
    because (by_index f) = absurd f.has_value
    because (takes_bit j k d) =
        differ_at inner_v inner_w (λ z. Unit {0}) (IsGivenBy around t inner e u)
        (given_found around inner inner_v inner_w (λ z. Unit {0}) IsKnown pi (readable inner inner_v inner_w IsKnown fv fw) t e l u j k.0 k.1 d)

    over : IsSame (written around v (places around v t) x) (written around w (places around w t) y) u
        ⊎ Why v w (λ n. ⊥) (NotSurely around t u) (λ j. (j < target_width around t) × IsTrue (takes around t u j)) (In (index_reads around t u)) x y u
        → IsSame (written around v (places around v t) x) (written around w (places around w t) y) u ⊎ DifferAt inner_v inner_w (IsGivenBy around t inner e u)
    over (inl same) = inl same
    over (inr k) = inr (because k)

-- a target has the name of each bit that it may reach
mutual
  pub reached_name : (s : Scope) (t : Target) (n : Name) (k b : ℕ) → IsTrue (may_reach s t n k b) → IsAmong (target_names t) n
  reached_name s (place m x) n k b h = inl (same_from m n (and_parts (same_name m n) (may_mean s (s m) x k b) h).0)
  reached_name s (joined ts) n k b h = reached_names s ts n k b h

  reached_names : (s : Scope) (ts : Targets) (n : Name) (k b : ℕ) → IsTrue (may_reach_one s ts n k b) → IsAmong (targets_names ts) n
  reached_names s no_targets n k b h = absurd (false≢true h)
  reached_names s (target t ts) n k b h =
      elim (or_cases (may_reach s t n k b) (may_reach_one s ts n k b) h) as (λ _. IsAmong (targets_names (target t ts)) n) [
        | inl e ↦ among_left (target_names t) (targets_names ts) n (reached_name s t n k b e)
        | inr e ↦ among_right (target_names t) (targets_names ts) n (reached_names s ts n k b e)
      ]

-- ---- bits on which others depend are bits of declared names (the same stands in the proofs of `verilog_unique`)

pub nets_declared : (d : Design) → ¬ HasUndeclared d → (p : Placed) (ns : List Name) → IsPlacedIn d p → AreUsed (all_item_mentions p.of_module.items) ns
    → Covers (placed_scope p) (IsBitDeclared p) ns
nets_declared d good p ns at f y h =
    record {
      is_declared = net_is_declared d p.path p at y.of_name (mentioned_known d good p.path p at y.of_name (in_module p.of_module ns f y.of_name h.is_named)) h.is_net;
      is_bit = h.is_bit;
    }

pub port_bits : (p : Placed) (n : Name) (way : Direction) → HasPort p.of_module n way → Covers (placed_scope p) (IsBitDeclared p) (n ∷ [])
port_bits p n way h y net = record { is_declared = named y.of_name net.is_named; is_bit = net.is_bit }
  where
    named : (m : Name) → IsAmong (n ∷ []) m → IsDeclared p m
    named m (inl e) = subst (IsDeclared p) e (port_is_declared p n way h)
    named m (inr f) = absurd f

-- ---- a step

-- A bit of a declared name on which this one depends, and at which the valuations differ.
pub record DifferBelow (d : Design) (v w : Valuation) (p : Placed) (u : Bit) : Type 0 where
  pub place : Placed
  pub bit : Bit
  pub is_placed : IsPlacedIn d place
  pub is_declared : IsBitDeclared place bit
  pub depends : Depends d (bit_of p u) (bit_of place bit)
  pub differs : ¬ Agree v w place bit

module _ (d : Design) (accepted : IsAccepted d) (fit : NumbersFit d.source) (sound : IsSound d) (registers inputs : Valuation) where
  known_in : (v : Valuation) → AllFitIn d v → (p : Placed) → IsPlacedIn d p → AllFit (placed_scope p) (IsKnownIn p.of_module) (inside v p)
  known_in v h p at = known_fit d p (inside v p) fit at (λ n t. h p n at t)

  run_step : (v w : Valuation) → AllFitIn d v → AllFitIn d w → (p : Placed) (u : Bit) → IsPlacedIn d p → IsBitDeclared p u
      → (x : Statement) → IsAmong (combinational_blocks p.of_module.items) x → IsTrue (may_assign (placed_scope p) x u.of_name u.word u.place)
      → IsSame (run (placed_scope p) x (inside v p)).valuation (run (placed_scope p) x (inside w p)).valuation u ⊎ DifferBelow d v w p u
  run_step v w hv hw p u at declared x among assigns =
      over (run_bit_is_local (placed_scope p) (inside v p) (inside w p) (IsKnownIn p.of_module) x u (no_constant_memory d p.path p at)
      (known_in v hv p at) (known_in w hw p at)
      (statements (IsKnownIn p.of_module) x
      (names_known d (accepted undeclared) p (names_in_statement x) at (block_used p.of_module.items x among)) ((numbers_in d p fit at).blocks x stands))
      (λ n h. run_fits (placed_scope p) x (inside v p) n (λ k. (sound.block_name p x n at among k).1) h)
      (λ n h. run_fits (placed_scope p) x (inside w p) n (λ k. (sound.block_name p x n at among k).1) h)
      (hv p u.of_name at declared.is_declared) (hw p u.of_name at declared.is_declared))
    where
      stands : Contains (combinational_blocks p.of_module.items) x
      stands = contains_among (combinational_blocks p.of_module.items) x among

      over : IsSame (run (placed_scope p) x (inside v p)).valuation (run (placed_scope p) x (inside w p)).valuation u
          ⊎ DifferAt (inside v p) (inside w p) (After (placed_scope p) at_start x u)
          → IsSame (run (placed_scope p) x (inside v p)).valuation (run (placed_scope p) x (inside w p)).valuation u ⊎ DifferBelow d v w p u
      over (inl e) = inl e
      over (inr z) =
          inr (record {
            place = p;
            bit = z.bit;
            is_placed = at;
            is_declared = after_block (placed_scope p) (IsBitDeclared p) x u z.bit
                (nets_declared d (accepted undeclared) p (names_in_statement x) at (block_used p.of_module.items x among)) declared z.is_so;
            depends = Depends.by_block p x u z.bit at stands declared.is_bit assigns z.is_so;
            differs = z.differs;
          })

  -- what a bit of the link's target depends on
  link_below : (v w : Valuation) (p : Placed) (u : Bit) → IsPlacedIn d p → IsBitDeclared p u → (l : Link) → IsLink d p l
      → DifferAt (inside v l.inner) (inside w l.inner) (IsGivenBy (placed_scope p) l.target (placed_scope l.inner) l.expression u) → DifferBelow d v w p u
  link_below v w p u at declared _ (of_assignment a among) z =
      record {
        place = p;
        bit = z.bit;
        is_placed = at;
        is_declared = nets_declared d (accepted undeclared) p (names_in a.1) at (assignment_used p.of_module.items a among) z.bit
            (given_net (placed_scope p) (placed_scope p) a.0 a.1 u z.bit z.is_so);
        depends = Depends.by_assignment p a u z.bit at (contains_among (assignments p.of_module.items) a among) declared.is_bit z.is_so;
        differs = z.differs;
      }
  link_below v w p u at declared _ (of_output c below m t among connected e) z =
      record {
        place = below;
        bit = z.bit;
        is_placed = placed_in d (instance_step c.of_instance ∷ p.path) below connected.is_below;
        is_declared = port_bits below m output connected.is_port z.bit (given_net (placed_scope p) (placed_scope below) t (whole_name m) u z.bit z.is_so);
        depends = Depends.by_output p below c m t u z.bit at (contains_among (port_connections p.of_module.items) c among) connected e declared.is_bit z.is_so;
        differs = z.differs;
      }
  link_below v w p u at declared _ (of_input around c n around_at among connected) z =
      record {
        place = around;
        bit = z.bit;
        is_placed = around_at;
        is_declared = nets_declared d (accepted undeclared) around (names_in c.expression) around_at (connection_used around.of_module.items c among) z.bit
            (given_net (placed_scope p) (placed_scope around) (whole_of n) c.expression u z.bit z.is_so);
        depends = Depends.by_input around p c n u z.bit around_at (contains_among (port_connections around.of_module.items) c among) connected declared.is_bit z.is_so;
        differs = z.differs;
      }

  inner_placed : (p : Placed) → IsPlacedIn d p → (l : Link) → IsLink d p l → IsPlacedIn d l.inner
  inner_placed p at _ (of_assignment a among) = at
  inner_placed p at _ (of_output c below m t among connected e) = placed_in d (instance_step c.of_instance ∷ p.path) below connected.is_below
  inner_placed p at _ (of_input around c n around_at among connected) = around_at

  leaves_in : (p : Placed) (e : Expression) → IsPlacedIn d p → AreUsed (all_item_mentions p.of_module.items) (names_in e) → LeavesAre AnyName e
      → LeavesAre (IsKnownIn p.of_module) e
  leaves_in p e at used h = leaves (IsKnownIn p.of_module) e (names_known d (accepted undeclared) p (names_in e) at used) h

  link_leaves : (p : Placed) → IsPlacedIn d p → (l : Link) → IsLink d p l → LeavesAre (IsKnownIn l.inner.of_module) l.expression
  link_leaves p at _ (of_assignment a among) =
      leaves_in p a.1 at (assignment_used p.of_module.items a among)
      ((numbers_in d p fit at).assigned a (contains_among (assignments p.of_module.items) a among))
  link_leaves p at _ (of_output c below m t among connected e) = (inl (port_is_declared below m output connected.is_port), tt)
  link_leaves p at _ (of_input around c n around_at among connected) =
      leaves_in around c.expression around_at (connection_used around.of_module.items c among)
      ((numbers_in d around fit around_at).connected c (contains_among (port_connections around.of_module.items) c among))

  link_step : (v w : Valuation) → AllFitIn d v → AllFitIn d w → (p : Placed) (u : Bit) → IsPlacedIn d p → IsBitDeclared p u
      → (l : Link) → IsLink d p l → IsTrue (may_reach (placed_scope p) l.target u.of_name u.word u.place)
      → IsSame (after_link v p l) (after_link w p l) u ⊎ DifferBelow d v w p u
  link_step v w hv hw p u at declared l is reaches =
      over (linked_local (placed_scope p) (placed_scope l.inner) (inside v p) (inside w p) (inside v l.inner) (inside w l.inner) (IsKnownIn l.inner.of_module)
      l.target l.expression u (no_constant_memory d p.path p at) (no_constant_memory d l.inner.path l.inner inner_at)
      (known_in v hv l.inner inner_at) (known_in w hw l.inner inner_at) (link_leaves p at l is)
      (sound.link_name p l u.of_name at is (reached_name (placed_scope p) l.target u.of_name u.word u.place reaches)).1
      (hv p u.of_name at declared.is_declared) (hw p u.of_name at declared.is_declared) (sound.link_constant p l at is) reaches)
    where
      inner_at : IsPlacedIn d l.inner
      inner_at = inner_placed p at l is

      over : IsSame (after_link v p l) (after_link w p l) u
          ⊎ DifferAt (inside v l.inner) (inside w l.inner) (IsGivenBy (placed_scope p) l.target (placed_scope l.inner) l.expression u)
          → IsSame (after_link v p l) (after_link w p l) u ⊎ DifferBelow d v w p u
      over (inl e) = inl e
      over (inr z) = inr (link_below v w p u at declared l is z)

  given_step : (v w : Valuation) → AllFitIn d v → AllFitIn d w → (p : Placed) (u : Bit) → IsPlacedIn d p → IsBitDeclared p u
      → (g : Giver) → IsGiver d p u.of_name u.word u.place g
      → (given registers inputs v p u.of_name u.word u.place g ≡ given registers inputs w p u.of_name u.word u.place g) ⊎ DifferBelow d v w p u
  given_step v w hv hw p u at declared _ (is_held t) = inl refl
  given_step v w hv hw p u at declared _ (is_outside e f n) = inl refl
  given_step v w hv hw p u at declared _ (is_run x among assigns) = run_step v w hv hw p u at declared x among assigns
  given_step v w hv hw p u at declared _ (is_link l is reaches) = link_step v w hv hw p u at declared l is reaches
  given_step v w hv hw p u at declared _ is_nothing = inl refl

  -- ---- rounds

  -- a chain of so many bits, from this one on
  record ChainFrom (bits : List PlacedBit) (k : ℕ) (u : PlacedBit) : Type 0 where
    rest : List PlacedBit
    is_long : length rest ≡ k
    is_chain : IsChain d (u ∷ rest)
    within : (z : PlacedBit) → IsAmong (u ∷ rest) z → Contains bits z

  longer : (bits : List PlacedBit) (k : ℕ) (u y : PlacedBit) → Contains bits u → Depends d u y → ChainFrom bits k y → ChainFrom bits (suc k) u
  longer bits k u y here depends c =
      record {
        rest = y ∷ c.rest;
        is_long = ap suc c.is_long;
        is_chain = (depends, c.is_chain);
        within = λ z h. by_place z h;
      }
    where
      by_place : (z : PlacedBit) → IsAmong (u ∷ y ∷ c.rest) z → Contains bits z
      by_place z (inl e) = subst (Contains bits) e here
      by_place z (inr h) = c.within z h

  module _ (own : SeesItsOwn d) (bits : List PlacedBit)
      (all : (p : Placed) (u : Bit) → IsPlacedIn d p → IsBitDeclared p u → Contains bits (bit_of p u)) where
    -- After so many rounds a bit stays, or a chain of as many bits leads down from it.
    stays_or_chain : (k : ℕ) (p : Placed) (u : Bit) → IsPlacedIn d p → IsBitDeclared p u
        → Agree (rounds d own registers inputs k) (rounds d own registers inputs (suc k)) p u ⊎ ChainFrom bits k (bit_of p u)
    stays_or_chain zero p u at declared = inr (record { rest = []; is_long = refl; is_chain = tt; within = only })
      where
        only : (z : PlacedBit) → IsAmong (bit_of p u ∷ []) z → Contains bits z
        only z (inl e) = subst (Contains bits) e (all p u at declared)
        only z (inr h) = absurd h
    stays_or_chain (suc k) p u at declared =
        over (λ q y is_at is_declared. stays_or_chain k q y is_at is_declared)
        (given_step (rounds d own registers inputs k) (rounds d own registers inputs (suc k)) (rounds_fit d own registers inputs k)
        (rounds_fit d own registers inputs (suc k)) p u at declared (giver d p u.of_name u.word u.place) (is_giver d p u.of_name u.word u.place at))
      where
        below : ((q : Placed) (y : Bit) → IsPlacedIn d q → IsBitDeclared q y
            → Agree (rounds d own registers inputs k) (rounds d own registers inputs (suc k)) q y ⊎ ChainFrom bits k (bit_of q y))
            → DifferBelow d (rounds d own registers inputs k) (rounds d own registers inputs (suc k)) p u → ChainFrom bits (suc k) (bit_of p u)
        below f z = further (f z.place z.bit z.is_placed z.is_declared)
          where
            further : Agree (rounds d own registers inputs k) (rounds d own registers inputs (suc k)) z.place z.bit ⊎ ChainFrom bits k (bit_of z.place z.bit)
                → ChainFrom bits (suc k) (bit_of p u)
            further (inl e) = absurd (z.differs e)
            further (inr c) = longer bits k (bit_of p u) (bit_of z.place z.bit) (all p u at declared) z.depends c

        over : ((q : Placed) (y : Bit) → IsPlacedIn d q → IsBitDeclared q y
            → Agree (rounds d own registers inputs k) (rounds d own registers inputs (suc k)) q y ⊎ ChainFrom bits k (bit_of q y))
            → (new_bit d registers inputs (rounds d own registers inputs k) p u.of_name u.word u.place
            ≡ new_bit d registers inputs (rounds d own registers inputs (suc k)) p u.of_name u.word u.place)
            ⊎ DifferBelow d (rounds d own registers inputs k) (rounds d own registers inputs (suc k)) p u
            → Agree (rounds d own registers inputs (suc k)) (rounds d own registers inputs (suc (suc k))) p u ⊎ ChainFrom bits (suc k) (bit_of p u)
        over f (inl e) =
            inl (round_bit d own registers inputs (rounds d own registers inputs k) p u.of_name u.word u.place at declared.is_declared declared.is_bit
            ∙ e
            ∙ sym (round_bit d own registers inputs (rounds d own registers inputs (suc k)) p u.of_name u.word u.place at declared.is_declared declared.is_bit))
        over f (inr z) = inr (below f z)

    -- After as many rounds as there are bits each stays.
    never_changes : (p : Placed) (u : Bit) → IsPlacedIn d p → IsBitDeclared p u
        → Agree (rounds d own registers inputs (length bits)) (rounds d own registers inputs (suc (length bits))) p u
    never_changes p u at declared = only (stays_or_chain (length bits) p u at declared)
      where
        only : Agree (rounds d own registers inputs (length bits)) (rounds d own registers inputs (suc (length bits))) p u ⊎ ChainFrom bits (length bits) (bit_of p u)
            → Agree (rounds d own registers inputs (length bits)) (rounds d own registers inputs (suc (length bits))) p u
        only (inl e) = e
        only (inr c) =
            let short : length (bit_of p u ∷ c.rest) ≤ length bits =
            chains_are_short d bits (bit_of p u ∷ c.rest) (accepted comb_loop) c.is_chain
            (λ z h. c.within z (among_contains (bit_of p u ∷ c.rest) z h)) in
            let long = c.is_long in
            absurd (omega (arith, short, long))

  -- A valuation that stays as it is in a round: each bit has what its giver gives it.
  pub record IsFixed (v : Valuation) : Type 0 where
    pub fits : AllFitIn d v
    pub has : (p : Placed) (u : Bit) → IsPlacedIn d p → IsBitDeclared p u
        → value_bit (inside v p u.of_name) u.word u.place ≡ new_bit d registers inputs v p u.of_name u.word u.place

  pub some_fixed : SeesItsOwn d → (v : Valuation) × IsFixed v
  some_fixed own = (
    rounds d own registers inputs (length bits.0),
    record {
      fits = rounds_fit d own registers inputs (length bits.0);
      has = λ p u at declared.
          never_changes own bits.0 (λ q y is_at is_declared. bits.1 q y is_at is_declared.is_declared is_declared.is_bit) p u at declared
          ∙ round_bit d own registers inputs (rounds d own registers inputs (length bits.0)) p u.of_name u.word u.place at declared.is_declared declared.is_bit;
    },
  )
    where
      bits : (bits : List PlacedBit) × ((p : Placed) (u : Bit) → IsPlacedIn d p → IsDeclared p u.of_name → IsBitIn p u → Contains bits (bit_of p u))
      bits = bits_are_finite d (accepted bad_hierarchy)
