-- A valuation that a round leaves as it is has settled.
use Rattle.std.proofs.Common.{◌≡◌, ◌≢◌, ℕ, zero, suc, true, false, not, ◌⊎◌, inl, inr, refl, sym, ap, ◌∙◌, subst, List, [], ◌∷◌, Option, Some, None, IsTrue, arith, pow_pos}
use Rattle.std.specs.Prelude.{option_map}
use Rattle.std.proofs.lemmas.Bool.{cases_Bool, and_parts, false≢true}
use Rattle.wb_values.specs.Value.{Name, same_name, number as a_number, Valuation}
use Rattle.verilog_trees.specs.Syntax.{Expression, Target, Statement, Module, input}
use Rattle.verilog_meaning.specs.Expression.{Scope, object_width}
use Rattle.verilog_meaning.specs.Statement.{run}
use Rattle.verilog_meaning.specs.Register.{combinational_blocks, value_bit, is_bit_of, may_reach, may_assign, one_may_assign}
use Rattle.verilog_meaning.specs.Hierarchy.{instance_step, Placed, placed_scope, dotted, module_named}
use Rattle.verilog_meaning.specs.Settled.{Design, at_path, IsPlacedIn, inside, IsDeclared, IsValueOf, IsBitOf, HasPort, assignments, HasAssigned, HasRun, HasRunAll, Connection, port_connections, IsConnectedTo, HasConnection, HasConnected, one_may_reach, IsDriven, by_clock, by_block, by_assignment, by_top_input, by_input, by_output, IsSettledIn, IsSettled}
use Rattle.verilog_meaning.specs.Next.{AreInputs}
use Rattle.verilog_designs.specs.Drivers.{target_names, assigned_names}
use Rattle.verilog_designs.specs.Accepted.{no_module, IsAccepted, no_top}
use Rattle.verilog_settled.proofs.Bits.{unset_past}
use Rattle.verilog_settled.proofs.Values.{alike_values}
use Rattle.verilog_settled.proofs.Reached.{run_apart}
use Rattle.verilog_unique.specs.Unique.{NumbersFit}
use Rattle.verilog_unique.proofs.Options.{split, same_is, is_same, left_true, right_true}
use Rattle.verilog_unique.proofs.Descent.{IsAmong, contains_among}
use Rattle.verilog_unique.proofs.Paths.{stands_at, placed_in, top_of}
use Rattle.verilog_unique.proofs.Parameters.{no_constant_memory}
use Rattle.verilog_unique.proofs.Ports.{port_is_declared}
use Rattle.verilog_unique.proofs.Values.{same_values}
use Rattle.verilog_exists.proofs.Kept.{unwritten, unassigned, written_fits, run_fits, unreached}
use Rattle.verilog_exists.proofs.Links.{Link, IsLink, of_assignment, of_output, of_input, assignment_link, output_link, input_link}
use Rattle.verilog_exists.proofs.Givers.{Giver, held, outside, by_run, by_link, giver, IsGiver, is_held, is_outside, is_run, is_link, is_nothing, is_giver, is_top, gives_held, gives_outside, gives_run, gives_link, IsSound, given, after_link, linked}
use Rattle.verilog_exists.proofs.Rounds.{IsFixed}

-- a name is among others or not
pub among_or_not : (ns : List Name) (n : Name) → IsAmong ns n ⊎ ¬ IsAmong ns n
among_or_not [] n = inr (λ h. h)
among_or_not (m ∷ ns) n = here (split (same_name m n)) (among_or_not ns n)
  where
    here : (same_name m n ≡ true) ⊎ (same_name m n ≡ false) → IsAmong ns n ⊎ ¬ IsAmong ns n → IsAmong (m ∷ ns) n ⊎ ¬ IsAmong (m ∷ ns) n
    here (inl e) r = inl (inl (same_is m n e))
    here (inr e) (inl h) = inl (inr h)
    here (inr e) (inr f) = inr none
      where
        none : IsAmong (m ∷ ns) n → ⊥
        none (inl g) = false≢true (sym e ∙ subst (λ k. same_name m k ≡ true) g (is_same m))
        none (inr g) = f g

pub one_may : (s : Scope) (xs : List Statement) (x : Statement) (n : Name) (k b : ℕ) → IsAmong xs x → IsTrue (may_assign s x n k b)
    → IsTrue (one_may_assign s xs n k b)
one_may s [] x n k b h t = absurd h
one_may s (y ∷ xs) x n k b (inl e) t =
    left_true (may_assign s y n k b) (one_may_assign s xs n k b) (subst (λ z. IsTrue (may_assign s z n k b)) (sym e) t)
one_may s (y ∷ xs) x n k b (inr h) t = right_true (may_assign s y n k b) (one_may_assign s xs n k b) (one_may s xs x n k b h t)

pub one_may_do : (s : Scope) (as' : List (Target × Expression)) (a : Target × Expression) (n : Name) (k b : ℕ) → IsAmong as' a → IsTrue (may_reach s a.0 n k b)
    → IsTrue (one_may_reach s as' n k b)
one_may_do s [] a n k b h t = absurd h
one_may_do s (y ∷ rest) a n k b (inl e) t =
    left_true (may_reach s y.0 n k b) (one_may_reach s rest n k b) (subst (λ (z : Target × Expression). IsTrue (may_reach s z.0 n k b)) (sym e) t)
one_may_do s (y ∷ rest) a n k b (inr h) t = right_true (may_reach s y.0 n k b) (one_may_reach s rest n k b) (one_may_do s rest a n k b h t)

module _ (d : Design) (accepted : IsAccepted d) (fit : NumbersFit d.source) (sound : IsSound d) (registers inputs v : Valuation)
    (inputs_fit : AreInputs d inputs) (fixed : IsFixed d accepted fit sound registers inputs v) where
  bit_is : (p : Placed) (n : Name) (k b : ℕ) (g : Giver) → IsPlacedIn d p → IsDeclared p n → IsBitOf p n k b → giver d p n k b ≡ g
      → value_bit (inside v p n) k b ≡ given registers inputs v p n k b g
  bit_is p n k b g at declared is_bit e =
      fixed.has p (record { of_name = n; word = k; place = b }) at (record { is_declared = declared; is_bit = is_bit }) ∙ ap (given registers inputs v p n k b) e

  -- ---- links and blocks

  link_holds : (p : Placed) → IsPlacedIn d p → (l : Link) → IsLink d p l → (n : Name) → after_link v p l n ≡ inside v p n
  link_holds p at l is n = by_name (among_or_not (target_names l.target) n)
    where
      among : IsAmong (target_names l.target) n → after_link v p l n ≡ inside v p n
      among h =
          let name = sound.link_name p l n at is h in
          let old : IsValueOf (placed_scope p n) (inside v p n) = fixed.fits p n at name.0 in
          let new : IsValueOf (placed_scope p n) (after_link v p l n) = written_fits (placed_scope p) (inside v p) l.target (linked v p l) n name.1 old in
          same_values (placed_scope p n) (after_link v p l n) (inside v p n) new old
          (λ k b is_bit.
          bit_stays k b old new (bit_given k b name.0 is_bit) (cases_Bool (may_reach (placed_scope p) l.target n k b)))
        where
          bit_given : (k b : ℕ) → IsDeclared p n → IsBitOf p n k b → may_reach (placed_scope p) l.target n k b ≡ true
              → value_bit (after_link v p l n) k b ≡ value_bit (inside v p n) k b
          bit_given k b declared is_bit e = sym (bit_is p n k b (by_link l) at declared is_bit (gives_link d sound p l n k b at is_bit is e))

          bit_stays : (k b : ℕ) → IsValueOf (placed_scope p n) (inside v p n) → IsValueOf (placed_scope p n) (after_link v p l n)
              → (may_reach (placed_scope p) l.target n k b ≡ true → value_bit (after_link v p l n) k b ≡ value_bit (inside v p n) k b)
              → (may_reach (placed_scope p) l.target n k b ≡ true) ⊎ (may_reach (placed_scope p) l.target n k b ≡ false)
              → value_bit (after_link v p l n) k b ≡ value_bit (inside v p n) k b
          bit_stays k b old new f (inl e) = f e
          bit_stays k b old new f (inr e) =
              unreached (placed_scope p) (no_constant_memory d p.path p at) (inside v p) l.target (linked v p l) n k b e old new

      by_name : IsAmong (target_names l.target) n ⊎ ¬ IsAmong (target_names l.target) n → after_link v p l n ≡ inside v p n
      by_name (inl h) = among h
      by_name (inr h) = unwritten (placed_scope p) (inside v p) l.target (linked v p l) n h

  run_holds : (p : Placed) → IsPlacedIn d p → (x : Statement) → IsAmong (combinational_blocks p.of_module.items) x → HasRun (placed_scope p) (inside v p) x
  run_holds p at x stands n = by_name (among_or_not (assigned_names x) n)
    where
      among : IsAmong (assigned_names x) n → (run (placed_scope p) x (inside v p)).valuation n ≡ inside v p n
      among h =
          let name = sound.block_name p x n at stands h in
          let old : IsValueOf (placed_scope p n) (inside v p n) = fixed.fits p n at name.0 in
          let new : IsValueOf (placed_scope p n) ((run (placed_scope p) x (inside v p)).valuation n) = run_fits (placed_scope p) x (inside v p) n (λ _. name.1) old in
          same_values (placed_scope p n) ((run (placed_scope p) x (inside v p)).valuation n) (inside v p n) new old
          (λ k b is_bit.
          bit_stays k b old new (bit_given k b name.0 is_bit) (cases_Bool (may_assign (placed_scope p) x n k b)))
        where
          bit_given : (k b : ℕ) → IsDeclared p n → IsBitOf p n k b → may_assign (placed_scope p) x n k b ≡ true
              → value_bit ((run (placed_scope p) x (inside v p)).valuation n) k b ≡ value_bit (inside v p n) k b
          bit_given k b declared is_bit e = sym (bit_is p n k b (by_run x) at declared is_bit (gives_run d sound p x n k b at is_bit stands e))

          bit_stays : (k b : ℕ) → IsValueOf (placed_scope p n) (inside v p n)
              → IsValueOf (placed_scope p n) ((run (placed_scope p) x (inside v p)).valuation n)
              → (may_assign (placed_scope p) x n k b ≡ true → value_bit ((run (placed_scope p) x (inside v p)).valuation n) k b ≡ value_bit (inside v p n) k b)
              → (may_assign (placed_scope p) x n k b ≡ true) ⊎ (may_assign (placed_scope p) x n k b ≡ false)
              → value_bit ((run (placed_scope p) x (inside v p)).valuation n) k b ≡ value_bit (inside v p n) k b
          bit_stays k b old new f (inl e) = f e
          bit_stays k b old new f (inr e) =
              run_apart (placed_scope p) (no_constant_memory d p.path p at) x (inside v p) n k b (inside v p n) e
              (alike_values (placed_scope p n) (inside v p n) (inside v p n) old old)
              (alike_values (placed_scope p n) (inside v p n) ((run (placed_scope p) x (inside v p)).valuation n) old new)

      by_name : IsAmong (assigned_names x) n ⊎ ¬ IsAmong (assigned_names x) n → (run (placed_scope p) x (inside v p)).valuation n ≡ inside v p n
      by_name (inl h) = among h
      by_name (inr h) = unassigned (placed_scope p) x (inside v p) n h

  -- ---- lists of them

  all_assigned : (p : Placed) → IsPlacedIn d p → (as' : List (Target × Expression)) → ((a : Target × Expression) → IsAmong as' a → IsAmong (assignments p.of_module.items) a)
      → HasAssigned (placed_scope p) (inside v p) as'
  all_assigned p at [] f = tt
  all_assigned p at (a ∷ rest) f =
      (link_holds p at (assignment_link p a) (of_assignment a (f a (inl refl))), all_assigned p at rest (λ b h. f b (inr h)))

  all_run : (p : Placed) → IsPlacedIn d p → (xs : List Statement) → ((x : Statement) → IsAmong xs x → IsAmong (combinational_blocks p.of_module.items) x)
      → HasRunAll (placed_scope p) (inside v p) xs
  all_run p at [] f = tt
  all_run p at (x ∷ xs) f = (run_holds p at x (f x (inl refl)), all_run p at xs (λ z h. f z (inr h)))

  one_connected : (p : Placed) → IsPlacedIn d p → (c : Connection) → IsAmong (port_connections p.of_module.items) c → HasConnection d v p c
  one_connected p at c h =
      record {
        to_input = λ below n connected.
            link_holds below (placed_in d (instance_step c.of_instance ∷ p.path) below connected.is_below) (input_link p c n) (of_input p c n at h connected);
        from_output = λ below n t connected e. link_holds p at (output_link below n t) (of_output c below n t h connected e);
      }

  all_connected : (p : Placed) → IsPlacedIn d p → (cs : List Connection) → ((c : Connection) → IsAmong cs c → IsAmong (port_connections p.of_module.items) c)
      → HasConnected d v p cs
  all_connected p at [] f = tt
  all_connected p at (c ∷ cs) f = (one_connected p at c (f c (inl refl)), all_connected p at cs (λ b h. f b (inr h)))

  -- ---- bits without a driver

  link_drives : (p : Placed) (n : Name) (k b : ℕ) → (l : Link) → IsLink d p l → IsTrue (may_reach (placed_scope p) l.target n k b) → IsDriven d p n k b
  link_drives p n k b _ (of_assignment a h) t = by_assignment (one_may_do (placed_scope p) (assignments p.of_module.items) a n k b h t)
  link_drives p n k b _ (of_output c below m t' h connected e) t =
      by_output c below m t' (contains_among (port_connections p.of_module.items) c h) connected e t
  link_drives p n k b _ (of_input around c m at h connected) t =
      by_input around c at (contains_among (port_connections around.of_module.items) c h)
      (subst (λ i. IsConnectedTo d around c p i input) (same_is m n (and_parts (same_name m n) true t).0) connected)

  undriven_bit : (p : Placed) (n : Name) (k b : ℕ) → ¬ IsDriven d p n k b → (g : Giver) → IsGiver d p n k b g → given registers inputs v p n k b g ≡ false
  undriven_bit p n k b none _ (is_held t) = absurd (none (by_clock t))
  undriven_bit p n k b none _ (is_outside e f g) = absurd (none (by_top_input e f g))
  undriven_bit p n k b none _ (is_run x h t) = absurd (none (by_block (one_may (placed_scope p) (combinational_blocks p.of_module.items) x n k b h t)))
  undriven_bit p n k b none _ (is_link l h t) = absurd (none (link_drives p n k b l h t))
  undriven_bit p n k b none _ is_nothing = refl

  settled_in : (p : Placed) → IsPlacedIn d p → IsSettledIn d registers v p
  settled_in p at =
      record {
        fits = λ n t. fixed.fits p n at t;
        held = λ n k b t counted. bit_is p n k b held at t (and_parts (is_bit_of (placed_scope p n) k b) _ counted).0 (gives_held d p n k b counted);
        assigned = all_assigned p at (assignments p.of_module.items) (λ a h. h);
        connections = all_connected p at (port_connections p.of_module.items) (λ c h. h);
        combinational = all_run p at (combinational_blocks p.of_module.items) (λ x h. h);
        undriven = λ n k b t is_bit none.
            bit_is p n k b (giver d p n k b) at t is_bit refl ∙ undriven_bit p n k b none (giver d p n k b) (is_giver d p n k b at);
      }

  -- ---- the top's inputs

  input_bit : (p : Placed) (n : Name) (k b : ℕ) → at_path d [] ≡ Some p → IsPlacedIn d p → HasPort p.of_module n input → n ≢ d.clock → IsBitOf p n k b
      → value_bit (inside v p n) k b ≡ value_bit (inputs n) k b
  input_bit p n k b top at port other is_bit =
      bit_is p n k b outside at (port_is_declared p n input port) is_bit
      (gives_outside d p n k b (sound.input_alone p n k b at port).0 (is_top d p n (stands_at d [] p top) port other))

  input_is : (p : Placed) (n : Name) → at_path d [] ≡ Some p → HasPort p.of_module n input → n ≢ d.clock → v n ≡ inputs n
  input_is p n top port other =
      let at : IsPlacedIn d p = placed_in d [] p top in
      subst (λ path. v (dotted path n) ≡ inputs n) (stands_at d [] p top)
      (same_values (placed_scope p n) (inside v p n) (inputs n) (fixed.fits p n at (port_is_declared p n input port)) (inputs_fit p n top port other)
      (λ k b is_bit. input_bit p n k b top at port other is_bit))

  clock_bit : (p : Placed) (k b : ℕ) → p.path ≡ [] → IsPlacedIn d p → HasPort p.of_module d.clock input → IsBitOf p d.clock k b
      → (g : Giver) → IsGiver d p d.clock k b g → given registers inputs v p d.clock k b g ≡ false
  clock_bit p k b path at port is_bit _ (is_held t) = absurd (false≢true (sym (sound.input_alone p d.clock k b at port).0 ∙ t))
  clock_bit p k b path at port is_bit _ (is_outside e f g) = absurd (g refl)
  clock_bit p k b path at port is_bit _ (is_run x h t) = absurd ((sound.block_alone p x d.clock k b at is_bit h t).1 port)
  clock_bit p k b path at port is_bit _ (is_link l h t) = absurd ((sound.link_alone p l d.clock k b at is_bit h t).1 (path, port))
  clock_bit p k b path at port is_bit _ is_nothing = refl

  zero_bit : (k b : ℕ) → value_bit (a_number 0) k b ≡ false
  zero_bit zero b = unset_past 0 0 b (omega arith) (omega arith)
  zero_bit (suc k) b = refl

  clock_is : (p : Placed) → at_path d [] ≡ Some p → v d.clock ≡ a_number 0
  clock_is p top =
      let at : IsPlacedIn d p = placed_in d [] p top in
      let port : HasPort p.of_module d.clock input = sound.clock_is_input p top in
      let declared : IsDeclared p d.clock = port_is_declared p d.clock input port in
      subst (λ path. v (dotted path d.clock) ≡ a_number 0) (stands_at d [] p top)
      (same_values (placed_scope p d.clock) (inside v p d.clock) (a_number 0) (fixed.fits p d.clock at declared)
      (ap not (sound.input_alone p d.clock 0 0 at port).1, pow_pos (object_width (placed_scope p d.clock)))
      (λ k b is_bit.
      bit_is p d.clock k b (giver d p d.clock k b) at declared is_bit refl
      ∙ clock_bit p k b (stands_at d [] p top) at port is_bit (giver d p d.clock k b) (is_giver d p d.clock k b at) ∙ sym (zero_bit k b)))

  pub is_settled : IsSettled d registers inputs v
  is_settled =
      record {
        modules = settled_in;
        inputs_held = input_is;
        clock_low = at_top (module_named d.source d.top) refl;
      }
    where
      at_top : (x : Option Module) → module_named d.source d.top ≡ x → v d.clock ≡ a_number 0
      at_top None e = absurd (accepted no_top (no_module e))
      at_top (Some m) e = clock_is (top_of m) (ap (option_map top_of) e)
