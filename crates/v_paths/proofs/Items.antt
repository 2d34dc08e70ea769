-- Blocks that are found item by item.
use Rattle.std.proofs.Common.{◌≡◌, ◌∙◌, ℕ, zero, suc, ◌<◌, refl, ap, sym, subst, arith, inl, inr, Bool, true, false, cond, List, [], ◌∷◌, length, slice_index_or, Contains}
use Rattle.std.specs.Prelude.{◌↔◌, IsTrue, not}
use Rattle.std.specs.declared.boxed.Box.{Box}
use Rattle.std.specs.declared.alloc.Global.{Global}
use Rattle.std.proofs.lemmas.Bool.{true≢false, false≢true}
use Rattle.wb_values.specs.Value.{Name}
use Rattle.verilog_trees.specs.Syntax.{Statement, Events, Item, port, parameter, wires, variables, assign, always, instances}
use Rattle.verilog_meaning.specs.Expression.{Scope}
use Rattle.verilog_meaning.specs.Register.{is_clocked, combinational_blocks}
use Rattle.v_syntax.specs.declared.module.Item.{Item as CodeItem}
use Rattle.v_syntax.specs.declared.module.Item.TheVariants.{Always}
use Rattle.v_syntax.specs.declared.module.Events.{Events as CodeEvents}
use Rattle.v_syntax.specs.declared.tree.Statement.{Statement as CodeStatement}
use Rattle.v_syntax.specs.Tree.{statement_of}
use Rattle.v_syntax.specs.Source.{events_of, item_of}
use Rattle.v_paths.specs.Latches.{HasLatchedBit}
use Rattle.v_paths.specs.Events.{IsEventListIn}
use Rattle.v_paths.specs.Modules.{IsFitBlock, IsFitItem, AreFitItems, HasLatchIn, HasBadEventListIn, IsLatchedItem, IsBadItem, OneIs}

-- ---- places of a list

later : {A : Type 0} (y : A) (xs : List A) (x : A) → Contains xs x → Contains (y ∷ xs) x
later y xs x c = (suc c.0, omega (arith, c.1), c.2)

-- ---- latches

first-block : (b : Bool) (x : Statement) (xs : List Statement) → b ≡ false → Contains (cond b xs (x ∷ xs)) x
first-block true x xs h = absurd (true≢false h)
first-block false x xs h = (0, omega arith, refl)

later-block : (b : Bool) (x y : Statement) (xs : List Statement) → Contains xs y → Contains (cond b xs (x ∷ xs)) y
later-block true x y xs c = c
later-block false x y xs c = later x xs y c

latch-of : (s : Scope) (items : List Item) → OneIs (IsLatchedItem s) items → HasLatchIn s items
latch-of s [] h = absurd h
latch-of s (port d ∷ items) (inl h) = absurd h
latch-of s (port d ∷ items) (inr h) = let r = latch-of s items h in record { statement = r.statement; stands = r.stands; latched = r.latched }
latch-of s (parameter d ∷ items) (inl h) = absurd h
latch-of s (parameter d ∷ items) (inr h) = let r = latch-of s items h in record { statement = r.statement; stands = r.stands; latched = r.latched }
latch-of s (wires g r ws ∷ items) (inl h) = absurd h
latch-of s (wires g r ws ∷ items) (inr h) = let q = latch-of s items h in record { statement = q.statement; stands = q.stands; latched = q.latched }
latch-of s (variables g r vs ∷ items) (inl h) = absurd h
latch-of s (variables g r vs ∷ items) (inr h) = let q = latch-of s items h in record { statement = q.statement; stands = q.stands; latched = q.latched }
latch-of s (assign ts ∷ items) (inl h) = absurd h
latch-of s (assign ts ∷ items) (inr h) = let q = latch-of s items h in record { statement = q.statement; stands = q.stands; latched = q.latched }
latch-of s (always es x ∷ items) (inl h) = record { statement = x; stands = first-block (is_clocked es) x (combinational_blocks items) h.0; latched = h.1 }
latch-of s (always es x ∷ items) (inr h) =
    let q = latch-of s items h in
    record { statement = q.statement; stands = later-block (is_clocked es) x q.statement (combinational_blocks items) q.stands; latched = q.latched }
latch-of s (instances k given is ∷ items) (inl h) = absurd h
latch-of s (instances k given is ∷ items) (inr h) = let q = latch-of s items h in record { statement = q.statement; stands = q.stands; latched = q.latched }

-- a block at a place
block-at : (s : Scope) (es : Events) (x y : Statement) (xs : List Statement) (items : List Item) (b : Bool) → is_clocked es ≡ b → HasLatchedBit s y
    → (Contains xs y → OneIs (IsLatchedItem s) items) → Contains (cond b xs (x ∷ xs)) y → OneIs (IsLatchedItem s) (always es x ∷ items)
block-at s es x y xs items true e l f c = inr (f c)
block-at s es x y xs items false e l f (zero, i, is) = inl (e, subst (HasLatchedBit s) (sym is) l)
block-at s es x y xs items false e l f (suc k, i, is) = inr (f (k, omega (arith, i), is))

one-latch : (s : Scope) (items : List Item) (y : Statement) → HasLatchedBit s y → Contains (combinational_blocks items) y → OneIs (IsLatchedItem s) items
one-latch s [] y l c = absurd (omega (arith, c.1))
one-latch s (port d ∷ items) y l c = inr (one-latch s items y l c)
one-latch s (parameter d ∷ items) y l c = inr (one-latch s items y l c)
one-latch s (wires g r ws ∷ items) y l c = inr (one-latch s items y l c)
one-latch s (variables g r vs ∷ items) y l c = inr (one-latch s items y l c)
one-latch s (assign ts ∷ items) y l c = inr (one-latch s items y l c)
one-latch s (always es x ∷ items) y l c = block-at s es x y (combinational_blocks items) items (is_clocked es) refl l (one-latch s items y l) c
one-latch s (instances k given is ∷ items) y l c = inr (one-latch s items y l c)

pub latches-so : (s : Scope) (items : List Item) (r : Bool) → IsTrue r ↔ OneIs (IsLatchedItem s) items → IsTrue r ↔ HasLatchIn s items
latches-so s items r h = ((λ t. latch-of s items (h.0 t)), (λ l. h.1 (one-latch s items l.statement l.latched l.stands)))

-- ---- lists of events

bad-of : (s : Scope) (clocks : Name → Bool) (items : List Item) → OneIs (IsBadItem s clocks) items → HasBadEventListIn s clocks items
bad-of s clocks [] h = absurd h
bad-of s clocks (i ∷ items) (inr h) = let q = bad-of s clocks items h in record { events = q.events; statement = q.statement; stands = later i items (always q.events q.statement) q.stands; bad = q.bad }
bad-of s clocks (port d ∷ items) (inl h) = absurd h
bad-of s clocks (parameter d ∷ items) (inl h) = absurd h
bad-of s clocks (wires g r ws ∷ items) (inl h) = absurd h
bad-of s clocks (variables g r vs ∷ items) (inl h) = absurd h
bad-of s clocks (assign ts ∷ items) (inl h) = absurd h
bad-of s clocks (always es x ∷ items) (inl h) = record { events = es; statement = x; stands = (0, omega arith, refl); bad = h }
bad-of s clocks (instances k given is ∷ items) (inl h) = absurd h

one-bad : (s : Scope) (clocks : Name → Bool) (items : List Item) (es : Events) (x : Statement) → (¬ IsEventListIn s clocks x es)
    → (k : ℕ) → k < length items → slice_index_or items k (always es x) ≡ always es x → OneIs (IsBadItem s clocks) items
one-bad s clocks [] es x h k l e = absurd (omega (arith, l))
one-bad s clocks (i ∷ items) es x h zero l e = inl (subst (IsBadItem s clocks) (sym e) h)
one-bad s clocks (i ∷ items) es x h (suc k) l e = inr (one-bad s clocks items es x h k (omega (arith, l)) e)

pub bad-so : (s : Scope) (clocks : Name → Bool) (items : List Item) (r : Bool) → IsTrue r ↔ OneIs (IsBadItem s clocks) items → IsTrue r ↔ HasBadEventListIn s clocks items
bad-so s clocks items r h = (
  (λ t. bad-of s clocks items (h.0 t)),
  (λ l. h.1 (one-bad s clocks items l.events l.statement l.bad l.stands.0 l.stands.1 l.stands.2)),
)

-- ---- one item

module _ (s : Scope) (i : CodeItem) (ev : CodeEvents) (b : Box CodeStatement Global) (is : i ≡ Always ev b) (x : CodeStatement) (same : x ≡ b.value) where
  block : item_of i ≡ always (events_of ev) (statement_of x)
  block = ap item_of is ∙ ap (λ y. always (events_of ev) (statement_of y)) (sym same)

  pub fit-block : IsFitItem s (item_of i) → IsFitBlock s (events_of ev) (statement_of x)
  fit-block h = subst (IsFitItem s) block h

  pub clocked-item : (c : Bool) → c ≡ is_clocked (events_of ev) → c ≡ true → IsTrue false ↔ IsLatchedItem s (item_of i)
  clocked-item c h t = (
    (λ f. absurd (false≢true f)),
    (λ l. let p = subst (IsLatchedItem s) block l in absurd (true≢false (sym t ∙ h ∙ p.0))),
  )

  pub latched-item : (c r : Bool) → c ≡ is_clocked (events_of ev) → c ≡ false → IsTrue r ↔ HasLatchedBit s (statement_of x) → IsTrue r ↔ IsLatchedItem s (item_of i)
  latched-item c r h f k = (
    (λ t. subst (IsLatchedItem s) (sym block) (sym h ∙ f, k.0 t)),
    (λ l. k.1 (subst (IsLatchedItem s) block l).1),
  )

  pub bad-item : (clocks : Name → Bool) (r : Bool) → IsTrue r ↔ IsEventListIn s clocks (statement_of x) (events_of ev) → IsTrue (not r) ↔ IsBadItem s clocks (item_of i)
  bad-item clocks true k = (
    (λ t. absurd (false≢true t)),
    (λ l. absurd ((subst (IsBadItem s clocks) block l) (k.0 refl))),
  )
  bad-item clocks false k = (
    (λ t. subst (IsBadItem s clocks) (sym block) (λ e. false≢true (k.1 e))),
    (λ l. refl),
  )

-- an item that is no block
pub none-so : {A : Type 0} → (A → ⊥) → IsTrue false ↔ A
none-so h = ((λ f. absurd (false≢true f)), (λ a. absurd (h a)))

-- ---- loops

module _ (is_so : Item → Type 0) where
  without-first : (i : Item) (items : List Item) → (is_so i → ⊥) → OneIs is_so (i ∷ items) → OneIs is_so items
  without-first i items h (inl a) = absurd (h a)
  without-first i items h (inr o) = o

  not-so : (i : Item) (r : Bool) → IsTrue r ↔ is_so i → r ≡ false → is_so i → ⊥
  not-so i r h f a = true≢false (sym (h.1 a) ∙ f)

  pub onto-turn : (all : Type 0) (xs rest : List Item) (i : Item) (r : Bool) → xs ≡ i ∷ rest → IsTrue r ↔ is_so i → r ≡ false → (all → OneIs is_so xs) → all → OneIs is_so rest
  onto-turn all xs rest i r e h f k a = without-first i rest (not-so i r h f) (subst (OneIs is_so) e (k a))

  pub into-turn : (all : Type 0) (xs rest : List Item) (i : Item) → xs ≡ i ∷ rest → (OneIs is_so xs → all) → OneIs is_so rest → all
  into-turn all xs rest i e k o = k (subst (OneIs is_so) (sym e) (inr o))

  pub found-so : (all : Type 0) (xs rest : List Item) (i : Item) (r : Bool) → xs ≡ i ∷ rest → IsTrue r ↔ is_so i → r ≡ true → (OneIs is_so xs → all) → IsTrue true ↔ all
  found-so all xs rest i r e h t k = ((λ u. k (subst (OneIs is_so) (sym e) (inl (h.0 t)))), (λ a. refl))

  pub none-found : (all : Type 0) (xs : List Item) → xs ≡ [] → (all → OneIs is_so xs) → IsTrue false ↔ all
  none-found all xs e k = ((λ f. absurd (false≢true f)), (λ a. absurd (subst (OneIs is_so) e (k a))))

pub fit-first : (s : Scope) (xs rest : List Item) (i : Item) → xs ≡ i ∷ rest → AreFitItems s xs → IsFitItem s i × AreFitItems s rest
fit-first s xs rest i e h = subst (AreFitItems s) e h
