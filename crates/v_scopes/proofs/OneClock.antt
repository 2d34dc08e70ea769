-- The clock of a design of one module.
use Rattle.std.proofs.Common.{◌≡◌, ◌∙◌, refl, ap, sym, subst, ℕ, suc, zero, ◌<◌, arith, Bool, true, false, true≢false, ◌||◌, List, [], ◌∷◌, length, get_or, Option, Some, None, option_map}
use Rattle.std.specs.List.{list_any, Contains}
use Rattle.std.specs.Prelude.{IsTrue}
use Rattle.std.proofs.lemmas.Slice.Eq.{bytes_eq-Decides}
use Rattle.wb_values.specs.Value.{Name, same_name}
use Rattle.verilog_trees.specs.Syntax.{Item, port, parameter, wires, variables, assign, always, instances}
use Rattle.verilog_meaning.specs.Hierarchy.{PathStep, instance_step, Placed, module_named, constants_of, no_overrides}
use Rattle.verilog_meaning.specs.Settled.{Design, at_path, IsPlacedIn, Connection, port_connections}
use Rattle.verilog_designs.specs.Names.{is_among}
use Rattle.verilog_designs.specs.Clocks.{IsClockNet, names_in_module, HasClockAsData}
use Rattle.v_hier.specs.Instances.{is_part, is_any, has_parts}
use Rattle.v_scopes.proofs.Parts.{or_left, or_right, some_is, none_some, whole_module, nothing_below}

-- ---- names in a list

same_here : (n : Name) → same_name n n ≡ true
same_here n = (bytes_eq-Decides n n).1 refl

among_at : (ns : List Name) (n : Name) (k : ℕ) → k < length ns → get_or ns k n ≡ n → IsTrue (is_among ns n)
among_at [] n k l e = absurd (omega (arith, l))
among_at (m ∷ ns) n zero l e = ap (λ b. b || is_among ns n) (subst (λ x. same_name x n ≡ true) (sym e) (same_here n))
among_at (m ∷ ns) n (suc k) l e = later (same_name m n) (is_among ns n) (among_at ns n k (omega (arith, l)) e)
  where
    later : (a b : Bool) → b ≡ true → (a || b) ≡ true
    later true b h = refl
    later false b h = h

among : (ns : List Name) (n : Name) → Contains ns n → IsTrue (is_among ns n)
among ns n c = among_at ns n c.0 c.1 c.2

contained : (ns : List Name) (n : Name) → IsTrue (is_among ns n) → Contains ns n
contained [] n t = absurd (true≢false (sym t))
contained (m ∷ ns) n t = by_first (same_name m n) refl t (contained ns n)
  where
    by_first : (b : Bool) → same_name m n ≡ b → (b || is_among ns n) ≡ true → (IsTrue (is_among ns n) → Contains ns n) → Contains (m ∷ ns) n
    by_first true e h f = (0, omega arith, (bytes_eq-Decides m n).0 e)
    by_first false e h f = let c = f h in (suc c.0, omega (arith, c.1), c.2)

-- ---- no connections without instances

no_connections : (items : List Item) → list_any is_part items ≡ false → port_connections items ≡ []
no_connections [] h = refl
no_connections (port d ∷ items) h = no_connections items h
no_connections (parameter d ∷ items) h = absurd (true≢false h)
no_connections (wires signed r ws ∷ items) h = no_connections items h
no_connections (variables signed r vs ∷ items) h = no_connections items h
no_connections (assign ts ∷ items) h = no_connections items h
no_connections (always es x ∷ items) h = no_connections items h
no_connections (instances k given is ∷ items) h = absurd (true≢false h)

in_nothing : {A : Type 0} (xs : List A) (x : A) → xs ≡ [] → Contains xs x → ⊥
in_nothing xs x e c = short (length xs) (ap length e) c.1
  where
    short : (n : ℕ) → n ≡ 0 → c.0 < n → ⊥
    short n f l = omega (arith, f, l)

-- ---- the clock

from_map : {A B : Type 0} (f : A → B) (o : Option A) (y : B) → option_map f o ≡ Some y → (x : A) × (o ≡ Some x) × (f x ≡ y)
from_map f None y e = absurd (none_some y e)
from_map f (Some x) y e = (x, refl, some_is (f x) y e)

-- the module at the top
top_module : (d : Design) (p : Placed) → at_path d [] ≡ Some p → (p.path ≡ []) × (module_named d.source d.top ≡ Some p.of_module)
top_module d p e =
    let f = from_map (λ m. record { path = []; of_module = m; constants = constants_of m no_overrides }) (module_named d.source d.top) p e in
    (ap (λ (q : Placed). q.path) (sym f.2), f.1 ∙ ap (λ (q : Placed). Some q.of_module) f.2)

module _ (d : Design) (p : Placed) (whole : has_parts d.source ≡ false) (top : at_path d [] ≡ Some p) where
  -- what is placed is the top
  placed_top : (q : Placed) (path : List PathStep) → at_path d path ≡ Some q → q ≡ p
  placed_top q [] e = some_is q p (sym e ∙ top)
  placed_top q (u ∷ path) e = absurd (none_some q (sym (nothing_below d.source d.top whole u path) ∙ e))

  clock_net : (q : Placed) (n : Name) → IsClockNet d q n → n ≡ d.clock
  clock_net _ _ (IsClockNet.at_top q at root) = refl
  clock_net _ _ (IsClockNet.at_input around below c m n net stands to is) =
      absurd (none_some below (sym (nothing_below d.source d.top whole (instance_step c.of_instance) around.path) ∙ to.is_below))

  unconnected : port_connections p.of_module.items ≡ []
  unconnected =
      no_connections p.of_module.items
      (or_right (is_any p.of_module.parameters) (list_any is_part p.of_module.items)
      (whole_module d.source d.top p.of_module whole (top_module d p top).1))

  pub clock_alone : HasClockAsData d → IsTrue (is_among (names_in_module p.of_module) d.clock)
  clock_alone (HasClockAsData.in_module q n at net stands) =
      subst (λ k. IsTrue (is_among (names_in_module p.of_module) k)) (clock_net q n net)
      (subst (λ (r : Placed). IsTrue (is_among (names_in_module r.of_module) n)) (placed_top q q.path at) (among (names_in_module q.of_module) n stands))
  clock_alone (HasClockAsData.in_connection q n c at net stands named other) =
      absurd (in_nothing (port_connections q.of_module.items) c
      (ap (λ (r : Placed). port_connections r.of_module.items) (placed_top q q.path at) ∙ unconnected) stands)

pub clock_found : (d : Design) (p : Placed) → at_path d [] ≡ Some p → IsTrue (is_among (names_in_module p.of_module) d.clock) → HasClockAsData d
clock_found d p top t =
    let root = (top_module d p top).0 in
    let at : IsPlacedIn d p = ap (at_path d) root ∙ top in
    HasClockAsData.in_module p d.clock at (IsClockNet.at_top p at root) (contained (names_in_module p.of_module) d.clock t)
