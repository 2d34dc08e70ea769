-- What gives each bit of a module its value, and one round: a valuation in which each bit has what that gives it under another.
use Rattle.std.proofs.Common.{◌≡◌, ◌≢◌, ℕ, zero, suc, Bool, true, false, cond, List, [], ◌∷◌, inl, inr, refl, sym, ap, ◌∙◌, subst, Option, Some, None}
use Rattle.std.specs.Prelude.{IsTrue, not, ◌&&◌}
use Rattle.std.proofs.lemmas.Bool.{cond-true, cond-false, false≢true}
use Rattle.wb_values.specs.Value.{Name, same_name, Value, Valuation, entry_of}
use Rattle.verilog_trees.specs.Syntax.{Statement, Direction, input, output}
use Rattle.verilog_meaning.specs.Expression.{Scope, is_memory, assigned_value}
use Rattle.verilog_meaning.specs.Statement.{places, target_width, written, run}
use Rattle.verilog_meaning.specs.Register.{combinational_blocks, value_bit, may_reach, may_assign}
use Rattle.verilog_meaning.specs.Hierarchy.{PathStep, Placed, placed_scope}
use Rattle.verilog_meaning.specs.Settled.{Design, at_path, IsPlacedIn, inside, IsDeclared, IsValueOf, IsBitOf, HasPort, port_directions, is_counted}
use Rattle.verilog_designs.specs.Ports.{is_input}
use Rattle.verilog_designs.specs.Drivers.{target_names, assigned_names}
use Rattle.verilog_settled.specs.Locality.{has_constant_selects}
use Rattle.verilog_unique.proofs.Options.{same_is, is_same, both_true}
use Rattle.verilog_unique.proofs.Descent.{IsAmong}
use Rattle.verilog_exists.proofs.Build.{built, built_fits, built_bit}
use Rattle.verilog_exists.proofs.Spots.{SeesItsOwn, spread}
use Rattle.verilog_exists.proofs.Links.{Link, IsLink, links, links_sound, links_complete}

-- ---- what gives a bit its value

-- the registers; the inputs of the top; a combinational block; a link; nothing
pub data Giver : Type 0 where
  held outside nothing : Giver
  by_run : Statement → Giver
  by_link : Link → Giver

abbrev pub first_run : Scope → List Statement → Name → ℕ → ℕ → Giver → Giver
first_run s [] n k b g = g
first_run s (x ∷ xs) n k b g = cond (may_assign s x n k b) (by_run x) (first_run s xs n k b g)

abbrev pub first_link : Scope → List Link → Name → ℕ → ℕ → Giver
first_link s [] n k b = nothing
first_link s (l ∷ ls) n k b = cond (may_reach s l.target n k b) (by_link l) (first_link s ls n k b)

abbrev is_root : List PathStep → Bool
is_root [] = true
is_root (u ∷ path) = false

abbrev pub is_top_input : Design → Placed → Name → Bool
is_top_input d p n = is_root p.path && (is_input (entry_of (port_directions p.of_module) n) && not (same_name n d.clock))

pub giver : Design → Placed → Name → ℕ → ℕ → Giver
giver d p n k b =
    cond (is_counted p n k b) held
    (cond (is_top_input d p n) outside
    (first_run (placed_scope p) (combinational_blocks p.of_module.items) n k b (first_link (placed_scope p) (links d p) n k b)))

pub data IsGiver (d : Design) (p : Placed) (n : Name) (k b : ℕ) : Giver → Type 0 where
  is_held : IsTrue (is_counted p n k b) → IsGiver d p n k b held
  is_outside : p.path ≡ [] → HasPort p.of_module n input → n ≢ d.clock → IsGiver d p n k b outside
  is_run : (x : Statement) → IsAmong (combinational_blocks p.of_module.items) x → IsTrue (may_assign (placed_scope p) x n k b) → IsGiver d p n k b (by_run x)
  is_link : (l : Link) → IsLink d p l → IsTrue (may_reach (placed_scope p) l.target n k b) → IsGiver d p n k b (by_link l)
  is_nothing : IsGiver d p n k b nothing

top_input : (d : Design) (p : Placed) (n : Name) → is_top_input d p n ≡ true → (p.path ≡ []) × HasPort p.of_module n input × (n ≢ d.clock)
top_input d p n e =
    let one = both_true (is_root p.path) (is_input (entry_of (port_directions p.of_module) n) && not (same_name n d.clock)) e in
    let two = both_true (is_input (entry_of (port_directions p.of_module) n)) (not (same_name n d.clock)) one.1 in (
      root p.path one.0,
      way (entry_of (port_directions p.of_module) n) two.0,
      λ f. other (same_name n d.clock) (subst (λ m. same_name n m ≡ true) f (is_same n)) two.1,
    )
  where
    root : (path : List PathStep) → IsTrue (is_root path) → path ≡ []
    root [] t = refl
    root (u ∷ path) t = cc

    way : (x : Option Direction) → IsTrue (is_input x) → x ≡ Some input
    way None t = cc
    way (Some input) t = refl
    way (Some output) t = cc

    other : (b : Bool) → b ≡ true → IsTrue (not b) → ⊥
    other true f t = cc
    other false f t = cc

pub is_top : (d : Design) (p : Placed) (n : Name) → p.path ≡ [] → HasPort p.of_module n input → n ≢ d.clock → is_top_input d p n ≡ true
is_top d p n e f g =
    subst (λ path. (is_root path && (is_input (entry_of (port_directions p.of_module) n) && not (same_name n d.clock))) ≡ true) (sym e)
    (subst (λ x. (is_input x && not (same_name n d.clock)) ≡ true) (sym f) (other (same_name n d.clock) (λ h. g (same_is n d.clock h))))
  where
    other : (b : Bool) → (b ≡ true → ⊥) → not b ≡ true
    other true h = absurd (h refl)
    other false h = refl

-- ---- the giver is one

link_found : (d : Design) (p : Placed) (n : Name) (k b : ℕ) (ls : List Link) → ((l : Link) → IsAmong ls l → IsLink d p l)
    → IsGiver d p n k b (first_link (placed_scope p) ls n k b)
link_found d p n k b [] f = is_nothing
link_found d p n k b (l ∷ ls) f =
    chosen (may_reach (placed_scope p) l.target n k b) refl (link_found d p n k b ls (λ m h. f m (inr h)))
  where
    chosen : (t : Bool) → may_reach (placed_scope p) l.target n k b ≡ t → IsGiver d p n k b (first_link (placed_scope p) ls n k b)
        → IsGiver d p n k b (cond t (by_link l) (first_link (placed_scope p) ls n k b))
    chosen true e g = is_link l (f l (inl refl)) e
    chosen false e g = g

run_found : (d : Design) (p : Placed) (n : Name) (k b : ℕ) (xs : List Statement) (g : Giver)
    → ((x : Statement) → IsAmong xs x → IsAmong (combinational_blocks p.of_module.items) x) → IsGiver d p n k b g
    → IsGiver d p n k b (first_run (placed_scope p) xs n k b g)
run_found d p n k b [] g f h = h
run_found d p n k b (x ∷ xs) g f h =
    chosen (may_assign (placed_scope p) x n k b) refl (run_found d p n k b xs g (λ z i. f z (inr i)) h)
  where
    chosen : (t : Bool) → may_assign (placed_scope p) x n k b ≡ t → IsGiver d p n k b (first_run (placed_scope p) xs n k b g)
        → IsGiver d p n k b (cond t (by_run x) (first_run (placed_scope p) xs n k b g))
    chosen true e i = is_run x (f x (inl refl)) e
    chosen false e i = i

pub is_giver : (d : Design) (p : Placed) (n : Name) (k b : ℕ) → IsPlacedIn d p → IsGiver d p n k b (giver d p n k b)
unfolding giver
is_giver d p n k b at =
    counted (is_counted p n k b) refl
    (from_top (is_top_input d p n) refl
    (run_found d p n k b (combinational_blocks p.of_module.items) (first_link (placed_scope p) (links d p) n k b) (λ x h. h)
    (link_found d p n k b (links d p) (λ l h. links_sound d p l at h))))
  where
    counted : (t : Bool) {g : Giver} → is_counted p n k b ≡ t → IsGiver d p n k b g → IsGiver d p n k b (cond t held g)
    counted true e h = is_held e
    counted false e h = h

    from_top : (t : Bool) {g : Giver} → is_top_input d p n ≡ t → IsGiver d p n k b g → IsGiver d p n k b (cond t outside g)
    from_top true e h = let r = top_input d p n e in is_outside r.0 r.1 r.2
    from_top false e h = h

-- ---- which it is

pub gives_held : (d : Design) (p : Placed) (n : Name) (k b : ℕ) → is_counted p n k b ≡ true → giver d p n k b ≡ held
unfolding giver
gives_held d p n k b e = cond-true (is_counted p n k b) held _ e

pub gives_outside : (d : Design) (p : Placed) (n : Name) (k b : ℕ) → is_counted p n k b ≡ false → is_top_input d p n ≡ true → giver d p n k b ≡ outside
unfolding giver
gives_outside d p n k b e f = cond-false (is_counted p n k b) held _ e ∙ cond-true (is_top_input d p n) outside _ f

run_first : (s : Scope) (xs : List Statement) (n : Name) (k b : ℕ) (g : Giver) (x : Statement) → IsAmong xs x → IsTrue (may_assign s x n k b)
    → ((z : Statement) → IsAmong xs z → IsTrue (may_assign s z n k b) → z ≡ x) → first_run s xs n k b g ≡ by_run x
run_first s [] n k b g x h t one = absurd h
run_first s (y ∷ xs) n k b g x h t one =
    chosen (λ i. run_first s xs n k b g x i t (λ z j. one z (inr j))) (may_assign s y n k b) refl h
  where
    chosen : (IsAmong xs x → first_run s xs n k b g ≡ by_run x) → (c : Bool) → may_assign s y n k b ≡ c → IsAmong (y ∷ xs) x
        → cond c (by_run y) (first_run s xs n k b g) ≡ by_run x
    chosen f true e i = ap by_run (one y (inl refl) e)
    chosen f false e (inl i) = absurd (false≢true (sym e ∙ subst (λ z. may_assign s z n k b ≡ true) (sym i) t))
    chosen f false e (inr i) = f i

no_run : (s : Scope) (xs : List Statement) (n : Name) (k b : ℕ) (g : Giver) → ((z : Statement) → IsAmong xs z → ¬ IsTrue (may_assign s z n k b))
    → first_run s xs n k b g ≡ g
no_run s [] n k b g none = refl
no_run s (y ∷ xs) n k b g none = chosen (no_run s xs n k b g (λ z j. none z (inr j))) (may_assign s y n k b) refl
  where
    chosen : first_run s xs n k b g ≡ g → (c : Bool) → may_assign s y n k b ≡ c → cond c (by_run y) (first_run s xs n k b g) ≡ g
    chosen f true e = absurd (none y (inl refl) e)
    chosen f false e = f

link_first : (s : Scope) (ls : List Link) (n : Name) (k b : ℕ) (l : Link) → IsAmong ls l → IsTrue (may_reach s l.target n k b)
    → ((m : Link) → IsAmong ls m → IsTrue (may_reach s m.target n k b) → m ≡ l) → first_link s ls n k b ≡ by_link l
link_first s [] n k b l h t one = absurd h
link_first s (y ∷ ls) n k b l h t one =
    chosen (λ i. link_first s ls n k b l i t (λ z j. one z (inr j))) (may_reach s y.target n k b) refl h
  where
    chosen : (IsAmong ls l → first_link s ls n k b ≡ by_link l) → (c : Bool) → may_reach s y.target n k b ≡ c → IsAmong (y ∷ ls) l
        → cond c (by_link y) (first_link s ls n k b) ≡ by_link l
    chosen f true e i = ap by_link (one y (inl refl) e)
    chosen f false e (inl i) = absurd (false≢true (sym e ∙ subst (λ (z : Link). may_reach s z.target n k b ≡ true) (sym i) t))
    chosen f false e (inr i) = f i

-- ---- what the rules give

-- Blocks and links drive declared names that are no memories, the indexes of links are constant, and each bit has one driver at most.
pub record IsSound (d : Design) : Type 0 where
  pub block_name : (p : Placed) (x : Statement) (n : Name) → IsPlacedIn d p → IsAmong (combinational_blocks p.of_module.items) x
      → IsAmong (assigned_names x) n → IsDeclared p n × (is_memory (placed_scope p n) ≡ false)
  pub link_name : (p : Placed) (l : Link) (n : Name) → IsPlacedIn d p → IsLink d p l → IsAmong (target_names l.target) n
      → IsDeclared p n × (is_memory (placed_scope p n) ≡ false)
  pub link_constant : (p : Placed) (l : Link) → IsPlacedIn d p → IsLink d p l → IsTrue (has_constant_selects (placed_scope p) l.target)
  pub one_block : (p : Placed) (x z : Statement) (n : Name) (k b : ℕ) → IsPlacedIn d p → IsBitOf p n k b
      → IsAmong (combinational_blocks p.of_module.items) x → IsAmong (combinational_blocks p.of_module.items) z
      → IsTrue (may_assign (placed_scope p) x n k b) → IsTrue (may_assign (placed_scope p) z n k b) → x ≡ z
  pub one_link : (p : Placed) (l m : Link) (n : Name) (k b : ℕ) → IsPlacedIn d p → IsBitOf p n k b → IsLink d p l → IsLink d p m
      → IsTrue (may_reach (placed_scope p) l.target n k b) → IsTrue (may_reach (placed_scope p) m.target n k b) → l ≡ m
  pub block_alone : (p : Placed) (x : Statement) (n : Name) (k b : ℕ) → IsPlacedIn d p → IsBitOf p n k b
      → IsAmong (combinational_blocks p.of_module.items) x → IsTrue (may_assign (placed_scope p) x n k b)
      → (is_counted p n k b ≡ false) × ¬ HasPort p.of_module n input
  pub link_alone : (p : Placed) (l : Link) (n : Name) (k b : ℕ) → IsPlacedIn d p → IsBitOf p n k b → IsLink d p l
      → IsTrue (may_reach (placed_scope p) l.target n k b)
      → (is_counted p n k b ≡ false) × ¬ (p.path ≡ [] × HasPort p.of_module n input)
      × ((x : Statement) → IsAmong (combinational_blocks p.of_module.items) x → ¬ IsTrue (may_assign (placed_scope p) x n k b))
  pub input_alone : (p : Placed) (n : Name) (k b : ℕ) → IsPlacedIn d p → HasPort p.of_module n input
      → (is_counted p n k b ≡ false) × (is_memory (placed_scope p n) ≡ false)
  pub clock_is_input : (p : Placed) → at_path d [] ≡ Some p → HasPort p.of_module d.clock input

module _ (d : Design) (sound : IsSound d) where
  no_top : (p : Placed) (n : Name) → ¬ (p.path ≡ [] × HasPort p.of_module n input) → is_top_input d p n ≡ false
  no_top p n h = tested (is_top_input d p n) refl
    where
      tested : (t : Bool) → is_top_input d p n ≡ t → t ≡ false
      tested true e = let r = top_input d p n e in absurd (h (r.0, r.1))
      tested false e = refl

  pub gives_run : (p : Placed) (x : Statement) (n : Name) (k b : ℕ) → IsPlacedIn d p → IsBitOf p n k b
      → IsAmong (combinational_blocks p.of_module.items) x → IsTrue (may_assign (placed_scope p) x n k b) → giver d p n k b ≡ by_run x
  unfolding giver
  gives_run p x n k b at is_bit h t =
      let alone = sound.block_alone p x n k b at is_bit h t in
      cond-false (is_counted p n k b) held _ alone.0
      ∙ cond-false (is_top_input d p n) outside _ (no_top p n (λ r. alone.1 r.1))
      ∙ run_first (placed_scope p) (combinational_blocks p.of_module.items) n k b (first_link (placed_scope p) (links d p) n k b) x h t
      (λ z i u. sound.one_block p z x n k b at is_bit i h u t)

  pub gives_link : (p : Placed) (l : Link) (n : Name) (k b : ℕ) → IsPlacedIn d p → IsBitOf p n k b → IsLink d p l
      → IsTrue (may_reach (placed_scope p) l.target n k b) → giver d p n k b ≡ by_link l
  unfolding giver
  gives_link p l n k b at is_bit h t =
      let alone = sound.link_alone p l n k b at is_bit h t in
      cond-false (is_counted p n k b) held _ alone.0
      ∙ cond-false (is_top_input d p n) outside _ (no_top p n alone.1)
      ∙ no_run (placed_scope p) (combinational_blocks p.of_module.items) n k b (first_link (placed_scope p) (links d p) n k b) alone.2
      ∙ link_first (placed_scope p) (links d p) n k b l (links_complete d p l at h) t
      (λ m i u. sound.one_link p m l n k b at is_bit (links_sound d p m at i) h u t)

-- ---- a round

-- the value of a link's expression, for its target
abbrev pub linked : Valuation → Placed → Link → ℕ
linked v p l = assigned_value (placed_scope l.inner) (inside v l.inner) (target_width (placed_scope p) l.target) l.expression

-- what a module has after its value was written to the target
abbrev pub after_link : Valuation → Placed → Link → Valuation
after_link v p l = written (placed_scope p) (inside v p) (places (placed_scope p) (inside v p) l.target) (linked v p l)

-- what the giver of a bit gives it
abbrev pub given : (registers inputs v : Valuation) → Placed → Name → ℕ → ℕ → Giver → Bool
given registers inputs v p n k b held = value_bit (inside registers p n) k b
given registers inputs v p n k b outside = value_bit (inputs n) k b
given registers inputs v p n k b nothing = false
given registers inputs v p n k b (by_run x) = value_bit ((run (placed_scope p) x (inside v p)).valuation n) k b
given registers inputs v p n k b (by_link l) = value_bit (after_link v p l n) k b

abbrev pub new_bit : Design → (registers inputs v : Valuation) → Placed → Name → ℕ → ℕ → Bool
new_bit d registers inputs v p n k b = given registers inputs v p n k b (giver d p n k b)

abbrev pub new_value : Design → (registers inputs v : Valuation) → Placed → Name → Value
new_value d registers inputs v p n = built (placed_scope p n) (new_bit d registers inputs v p n)

abbrev pub no_value : Placed → Name → Value
no_value p n = built (placed_scope p n) (λ k b. false)

-- Declared names have values of their objects.
abbrev pub AllFitIn : Design → Valuation → Type 0
AllFitIn d v = (p : Placed) (n : Name) → IsPlacedIn d p → IsDeclared p n → IsValueOf (placed_scope p n) (inside v p n)

module _ (d : Design) (own : SeesItsOwn d) (registers inputs : Valuation) where
  abbrev pub round : Valuation → Valuation
  round v = spread own.spots (new_value d registers inputs v)

  -- so many rounds from a valuation in which all bits are 0
  abbrev pub rounds : ℕ → Valuation
  rounds zero = spread own.spots no_value
  rounds (suc k) = round (rounds k)

  pub round_fits : (v : Valuation) → AllFitIn d (round v)
  round_fits v p n at t =
      subst (IsValueOf (placed_scope p n)) (sym (own.sees (new_value d registers inputs v) p n at t))
      (built_fits (placed_scope p n) (new_bit d registers inputs v p n))

  pub rounds_fit : (k : ℕ) → AllFitIn d (rounds k)
  rounds_fit zero p n at t =
      subst (IsValueOf (placed_scope p n)) (sym (own.sees no_value p n at t)) (built_fits (placed_scope p n) (λ k b. false))
  rounds_fit (suc k) p n at t = round_fits (rounds k) p n at t

  pub round_bit : (v : Valuation) (p : Placed) (n : Name) (k b : ℕ) → IsPlacedIn d p → IsDeclared p n → IsBitOf p n k b
      → value_bit (inside (round v) p n) k b ≡ new_bit d registers inputs v p n k b
  round_bit v p n k b at t is_bit =
      ap (λ x. value_bit x k b) (own.sees (new_value d registers inputs v) p n at t)
      ∙ built_bit (placed_scope p n) (new_bit d registers inputs v p n) k b is_bit
