-- The drivers of a module as one list: which they are, what holds of each, and what they drive.
use Rattle.std.proofs.Common.{◌≡◌, ℕ, refl, sym, subst, true, List, [], ◌∷◌, ◌++◌, ◌⊎◌, inl, inr}
use Rattle.std.specs.Prelude.{IsTrue}
use Rattle.std.proofs.lemmas.Bool.{false≢true, or_cases, or_left, or_right}
use Rattle.wb_values.specs.Value.{Name}
use Rattle.verilog_trees.specs.Syntax.{Statement, blocking, Item}
use Rattle.verilog_meaning.specs.Expression.{Scope}
use Rattle.verilog_meaning.specs.Register.{may_assign, one_may_assign, combinational_blocks}
use Rattle.verilog_meaning.specs.Settled.{assignments}
use Rattle.verilog_unique.proofs.Descent.{IsAmong, among_left, among_right, among_either, among_contains}
use Rattle.verilog_designs.specs.Reads.{no_bits}
use Rattle.verilog_designs.specs.Dependence.{Bit, at_start, After, given}
use Rattle.v_drivers.proofs.Driving.{combinational-of-items}
use Rattle.v_depend.specs.Resting.{IsThere}
use Rattle.v_depend.specs.Running.{IsFit}
use Rattle.v_order.specs.Drivers.{as_statements, drivers}
use Rattle.v_order.proofs.Growing.{links-more}
use Rattle.v_loops.specs.OneModule.{DependsIn}
use Rattle.v_loops.specs.Turns.{AreFitToRun, IsRunnable, Stage}
use Rattle.v_loops.proofs.Steps.{given-reached, one-here, one-there, as-statement, fit-among}

-- ---- which they are

either-kind : (i : Item) (items : List Item) (x : Statement)
    → (IsAmong (drivers items) x → IsAmong (as_statements (assignments items)) x ⊎ IsAmong (combinational_blocks items) x)
    → IsAmong (drivers (i ∷ items)) x → IsAmong (as_statements (assignments (i ∷ items))) x ⊎ IsAmong (combinational_blocks (i ∷ items)) x
either-kind i items x later h = first (among_either (as_statements (assignments (i ∷ []))) (combinational_blocks (i ∷ []) ++ drivers items) x h)
  where
    link : IsAmong (as_statements (assignments (i ∷ [])) ++ as_statements (assignments items)) x → IsAmong (as_statements (assignments (i ∷ items))) x
    link k = subst (λ (zs : List Statement). IsAmong zs x) (sym (links-more i items)) k

    block : IsAmong (combinational_blocks (i ∷ []) ++ combinational_blocks items) x → IsAmong (combinational_blocks (i ∷ items)) x
    block k = subst (λ (zs : List Statement). IsAmong zs x) (sym (combinational-of-items i items)) k

    last : IsAmong (as_statements (assignments items)) x ⊎ IsAmong (combinational_blocks items) x
        → IsAmong (as_statements (assignments (i ∷ items))) x ⊎ IsAmong (combinational_blocks (i ∷ items)) x
    last (inl k) = inl (link (among_right (as_statements (assignments (i ∷ []))) (as_statements (assignments items)) x k))
    last (inr k) = inr (block (among_right (combinational_blocks (i ∷ [])) (combinational_blocks items) x k))

    second : IsAmong (combinational_blocks (i ∷ [])) x ⊎ IsAmong (drivers items) x
        → IsAmong (as_statements (assignments (i ∷ items))) x ⊎ IsAmong (combinational_blocks (i ∷ items)) x
    second (inl k) = inr (block (among_left (combinational_blocks (i ∷ [])) (combinational_blocks items) x k))
    second (inr k) = last (later k)

    first : IsAmong (as_statements (assignments (i ∷ []))) x ⊎ IsAmong (combinational_blocks (i ∷ []) ++ drivers items) x
        → IsAmong (as_statements (assignments (i ∷ items))) x ⊎ IsAmong (combinational_blocks (i ∷ items)) x
    first (inl k) = inl (link (among_left (as_statements (assignments (i ∷ []))) (as_statements (assignments items)) x k))
    first (inr k) = second (among_either (combinational_blocks (i ∷ [])) (drivers items) x k)

pub kind-of : (items : List Item) (x : Statement) → IsAmong (drivers items) x
    → IsAmong (as_statements (assignments items)) x ⊎ IsAmong (combinational_blocks items) x
kind-of [] x h = absurd h
kind-of (i ∷ items) x h = either-kind i items x (kind-of items x) h

pub link-among : (items : List Item) (x : Statement) → IsAmong (as_statements (assignments items)) x → IsAmong (drivers items) x
link-among [] x h = absurd h
link-among (i ∷ items) x h =
    at (link-among items x) (among_either (as_statements (assignments (i ∷ []))) (as_statements (assignments items)) x (subst (λ (zs : List Statement). IsAmong zs x) (links-more i items) h))
  where
    at : (IsAmong (as_statements (assignments items)) x → IsAmong (drivers items) x)
        → IsAmong (as_statements (assignments (i ∷ []))) x ⊎ IsAmong (as_statements (assignments items)) x → IsAmong (drivers (i ∷ items)) x
    at f (inl k) = among_left (as_statements (assignments (i ∷ []))) (combinational_blocks (i ∷ []) ++ drivers items) x k
    at f (inr k) =
        among_right (as_statements (assignments (i ∷ []))) (combinational_blocks (i ∷ []) ++ drivers items) x
        (among_right (combinational_blocks (i ∷ [])) (drivers items) x (f k))

pub block-among : (items : List Item) (x : Statement) → IsAmong (combinational_blocks items) x → IsAmong (drivers items) x
block-among [] x h = absurd h
block-among (i ∷ items) x h =
    at (block-among items x) (among_either (combinational_blocks (i ∷ [])) (combinational_blocks items) x (subst (λ (zs : List Statement). IsAmong zs x) (combinational-of-items i items) h))
  where
    at : (IsAmong (combinational_blocks items) x → IsAmong (drivers items) x)
        → IsAmong (combinational_blocks (i ∷ [])) x ⊎ IsAmong (combinational_blocks items) x → IsAmong (drivers (i ∷ items)) x
    at f (inl k) =
        among_right (as_statements (assignments (i ∷ []))) (combinational_blocks (i ∷ []) ++ drivers items) x
        (among_left (combinational_blocks (i ∷ [])) (drivers items) x k)
    at f (inr k) =
        among_right (as_statements (assignments (i ∷ []))) (combinational_blocks (i ∷ []) ++ drivers items) x
        (among_right (combinational_blocks (i ∷ [])) (drivers items) x (f k))

-- ---- what holds of each

pub fit-driver : (s : Scope) (items : List Item) (x : Statement) → IsRunnable s items → IsAmong (drivers items) x → IsFit s x
fit-driver s items x r h =
    elim (kind-of items x h) as (λ _. IsFit s x) [
      | inl k ↦ fit-among s (as_statements (assignments items)) x r.links k
      | inr k ↦ fit-among s (combinational_blocks items) x r.blocks k
    ]

all-fit : (s : Scope) (xs : List Statement) → ((x : Statement) → IsAmong xs x → IsFit s x) → AreFitToRun s xs
all-fit s [] f = tt
all-fit s (x ∷ xs) f = (f x (inl refl), all-fit s xs (λ y h. f y (inr h)))

pub fit-drivers : (s : Scope) (items : List Item) → IsRunnable s items → AreFitToRun s (drivers items)
fit-drivers s items r = all-fit s (drivers items) (λ x h. fit-driver s items x r h)

-- ---- dependence

-- a driver by which a bit depends on another one
pub record IsBy (s : Scope) (items : List Item) (u y : Bit) : Type 0 where
  pub driver : Statement
  pub stands : IsAmong (drivers items) driver
  pub there : IsThere s u
  pub assigns : IsTrue (may_assign s driver u.of_name u.word u.place)
  pub after : After s at_start driver u y

pub by-driver : (s : Scope) (items : List Item) (u y : Bit) → DependsIn s items u y → IsBy s items u y
by-driver s items _ _ (DependsIn.by_assignment a u y c h g) =
    record {
      driver = blocking a.0 a.1;
      stands = link-among items (blocking a.0 a.1) (as-statement (assignments items) a (among_contains (assignments items) a c));
      there = h;
      assigns = given-reached s a.0 a.1 u y g;
      after = given y g refl;
    }
by-driver s items _ _ (DependsIn.by_block x u y c h m a) =
    record { driver = x; stands = block-among items x (among_contains (combinational_blocks items) x c); there = h; assigns = m; after = a }

-- ---- bits that are driven

pub one-assigns : (s : Scope) (xs : List Statement) (n : Name) (k b : ℕ) → one_may_assign s xs n k b ≡ true → (x : Statement) × IsAmong xs x × (may_assign s x n k b ≡ true)
one-assigns s [] n k b h = absurd (false≢true h)
one-assigns s (x ∷ xs) n k b h = at (one-assigns s xs n k b) (or_cases (may_assign s x n k b) (one_may_assign s xs n k b) h)
  where
    at : (one_may_assign s xs n k b ≡ true → (y : Statement) × IsAmong xs y × (may_assign s y n k b ≡ true)) → (may_assign s x n k b ≡ true) ⊎ (one_may_assign s xs n k b ≡ true)
        → (y : Statement) × IsAmong (x ∷ xs) y × (may_assign s y n k b ≡ true)
    at f (inl e) = (x, inl refl, e)
    at f (inr e) = let o = f e in (o.0, inr o.1, o.2)

pub assigned-by : (s : Scope) (xs : List Statement) (x : Statement) (n : Name) (k b : ℕ) → IsAmong xs x → may_assign s x n k b ≡ true → one_may_assign s xs n k b ≡ true
assigned-by s [] x n k b h m = absurd h
assigned-by s (y ∷ xs) x n k b (inl e) m =
    or_left (may_assign s y n k b) (one_may_assign s xs n k b) (subst (λ (z : Statement). may_assign s z n k b ≡ true) (sym e) m)
assigned-by s (y ∷ xs) x n k b (inr h) m = or_right (may_assign s y n k b) (one_may_assign s xs n k b) (assigned-by s xs x n k b h m)

-- a bit that a driver may assign is of the first stage, and each bit of that is assigned by one
pub first-stage : (s : Scope) (items : List Item) (x : Statement) (u : Bit) → IsAmong (drivers items) x → IsThere s u
    → IsTrue (may_assign s x u.of_name u.word u.place) → Stage s items 0 u
first-stage s items x u h there m =
    elim (kind-of items x h) as (λ _. Stage s items 0 u) [
      | inl l ↦ inl (one-here true no_bits s (as_statements (assignments items)) x u l (there, m, tt))
      | inr l ↦ inr (one-here true no_bits s (combinational_blocks items) x u l (there, m, tt))
    ]

pub stage-assigned : (s : Scope) (items : List Item) (u : Bit) → Stage s items 0 u
    → (x : Statement) × IsAmong (drivers items) x × IsThere s u × IsTrue (may_assign s x u.of_name u.word u.place)
stage-assigned s items u (inl h) =
    let o = one-there true no_bits s (as_statements (assignments items)) u h in (o.0, link-among items o.0 o.1, o.2.0, o.2.1)
stage-assigned s items u (inr h) =
    let o = one-there true no_bits s (combinational_blocks items) u h in (o.0, block-among items o.0 o.1, o.2.0, o.2.1)
