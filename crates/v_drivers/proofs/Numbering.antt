-- That two sets of the list meet exactly where the rule finds two drivers: the rule numbers its drivers, the list has them in turn.
use Rattle.std.proofs.Common.{◌≡◌, ◌∙◌, ℕ, suc, refl, ap, sym, subst, inl, inr, List, [], ◌∷◌, ◌++◌}
use Rattle.std.specs.Prelude.{◌⊎◌, map}
use Rattle.std.proofs.lemmas.List.{map-append}
use Rattle.verilog_trees.specs.Syntax.{Expression, Target, Statement, Item}
use Rattle.verilog_meaning.specs.Expression.{Scope}
use Rattle.verilog_meaning.specs.Register.{clocked_blocks, combinational_blocks}
use Rattle.verilog_meaning.specs.Settled.{assignments}
use Rattle.verilog_designs.specs.Reads.{BitSet}
use Rattle.verilog_designs.specs.Drivers.{Driver, assigned, clocked, combinational, parts_of}
use Rattle.v_drivers.specs.Sets.{reached_by, assigned_by, target_drivers, assignments_drivers, blocks_drivers, drivers, Meet, OneMeets, TwoMeet}
use Rattle.v_drivers.proofs.Meeting.{turned}

-- a driver and its bits
abbrev pub Entry : Type 0
Entry = Driver × BitSet

abbrev pub part_entries : Scope → (i j : ℕ) → List Target → List Entry
part_entries s i j [] = []
part_entries s i j (t ∷ ts) = (assigned i j, reached_by s t) ∷ part_entries s i (suc j) ts

abbrev pub link_entries : Scope → ℕ → List (Target × Expression) → List Entry
link_entries s i [] = []
link_entries s i (a ∷ links) = part_entries s i 0 (parts_of a.0) ++ link_entries s (suc i) links

abbrev pub block_entries : Scope → (ℕ → Driver) → ℕ → List Statement → List Entry
block_entries s f i [] = []
block_entries s f i (x ∷ xs) = (f i, assigned_by s x) ∷ block_entries s f (suc i) xs

abbrev pub entries : Scope → List Item → List Entry
entries s items =
    link_entries s 0 (assignments items)
    ++ (block_entries s clocked 0 (clocked_blocks items) ++ block_entries s combinational 0 (combinational_blocks items))

abbrev pub sets_of : List Entry → List BitSet
sets_of es = map (λ (e : Entry). e.1) es

-- ---- the sets of the entries

sets-append : (xs ys : List Entry) → sets_of (xs ++ ys) ≡ sets_of xs ++ sets_of ys
sets-append xs ys = map-append (λ (e : Entry). e.1) xs ys

sets-parts : (s : Scope) (i j : ℕ) (ts : List Target) → sets_of (part_entries s i j ts) ≡ map (reached_by s) ts
sets-parts s i j [] = refl
sets-parts s i j (t ∷ ts) = ap (λ z. reached_by s t ∷ z) (sets-parts s i (suc j) ts)

sets-links : (s : Scope) (i : ℕ) (links : List (Target × Expression)) → sets_of (link_entries s i links) ≡ assignments_drivers s links
unfolding target_drivers
sets-links s i [] = refl
sets-links s i (a ∷ links) =
    sets-append (part_entries s i 0 (parts_of a.0)) (link_entries s (suc i) links)
    ∙ ap (λ z. z ++ sets_of (link_entries s (suc i) links)) (sets-parts s i 0 (parts_of a.0))
    ∙ ap (λ z. map (reached_by s) (parts_of a.0) ++ z) (sets-links s (suc i) links)

sets-blocks : (s : Scope) (f : ℕ → Driver) (i : ℕ) (xs : List Statement) → sets_of (block_entries s f i xs) ≡ blocks_drivers s xs
sets-blocks s f i [] = refl
sets-blocks s f i (x ∷ xs) = ap (λ z. assigned_by s x ∷ z) (sets-blocks s f (suc i) xs)

pub sets-entries : (s : Scope) (items : List Item) → sets_of (entries s items) ≡ drivers s items
sets-entries s items =
    let links = link_entries s 0 (assignments items) in
    let cs = block_entries s clocked 0 (clocked_blocks items) in
    let ms = block_entries s combinational 0 (combinational_blocks items) in
    sets-append links (cs ++ ms) ∙ ap (λ z. z ++ sets_of (cs ++ ms)) (sets-links s 0 (assignments items))
    ∙ ap (λ z. assignments_drivers s (assignments items) ++ z)
    (sets-append cs ms ∙ ap (λ z. z ++ sets_of ms) (sets-blocks s clocked 0 (clocked_blocks items))
    ∙ ap (λ z. blocks_drivers s (clocked_blocks items) ++ z) (sets-blocks s combinational 0 (combinational_blocks items)))

-- ---- entries of a list

abbrev pub In : List Entry → Entry → Type 0
In [] e = ⊥
In (f ∷ es) e = (f ≡ e) ⊎ In es e

pub in-left : (xs ys : List Entry) (e : Entry) → In xs e → In (xs ++ ys) e
in-left [] ys e h = absurd h
in-left (x ∷ xs) ys e (inl h) = inl h
in-left (x ∷ xs) ys e (inr h) = inr (in-left xs ys e h)

pub in-right : (xs ys : List Entry) (e : Entry) → In ys e → In (xs ++ ys) e
in-right [] ys e h = h
in-right (x ∷ xs) ys e h = inr (in-right xs ys e h)

pub in-parts : {A : Type 0} (xs ys : List Entry) (e : Entry) → In (xs ++ ys) e → (In xs e → A) → (In ys e → A) → A
in-parts [] ys e h f g = g h
in-parts (x ∷ xs) ys e (inl h) f g = f (inl h)
in-parts (x ∷ xs) ys e (inr h) f g = in-parts xs ys e h (λ i. f (inr i)) g

-- no two entries of the list have one driver
abbrev pub AreApart : List Entry → Type 0
AreApart [] = Unit {0}
AreApart (e ∷ es) = ((f : Entry) → In es f → ¬ (e.0 ≡ f.0)) × AreApart es

pub apart-append : (xs ys : List Entry) → AreApart xs → AreApart ys → ((e f : Entry) → In xs e → In ys f → ¬ (e.0 ≡ f.0)) → AreApart (xs ++ ys)
apart-append [] ys h g k = g
apart-append (x ∷ xs) ys h g k = (
  (λ f i. in-parts xs ys f i (λ l. h.0 f l) (λ r. k x f (inl refl) r)),
  apart-append xs ys h.1 g (λ e f i j. k e f (inr i) j),
)

-- Two entries with different drivers whose sets meet.
pub record TwoOf (s : Scope) (es : List Entry) : Type 0 where
  pub one : Entry
  pub other : Entry
  pub one_in : In es one
  pub other_in : In es other
  pub are_two : ¬ (one.0 ≡ other.0)
  pub meet : Meet s one.1 other.1

one-meets : {A : Type 0} (s : Scope) (p : BitSet) (es : List Entry) → OneMeets s p (sets_of es) → ((f : Entry) → In es f → Meet s p f.1 → A) → A
one-meets s p [] h k = absurd h
one-meets s p (e ∷ es) (inl m) k = k e (inl refl) m
one-meets s p (e ∷ es) (inr m) k = one-meets s p es m (λ f i. k f (inr i))

pub two-of : (s : Scope) (es : List Entry) → AreApart es → TwoMeet s (sets_of es) → TwoOf s es
two-of s [] a h = absurd h
two-of s (e ∷ es) a (inl m) =
    one-meets s e.1 es m (λ f i n. record { one = e; other = f; one_in = inl refl; other_in = inr i; are_two = a.0 f i; meet = n })
two-of s (e ∷ es) a (inr m) =
    let t = two-of s es a.1 m in
    record { one = t.one; other = t.other; one_in = inr t.one_in; other_in = inr t.other_in; are_two = t.are_two; meet = t.meet }

meets-one : (s : Scope) (p : BitSet) (es : List Entry) (f : Entry) → In es f → Meet s p f.1 → OneMeets s p (sets_of es)
meets-one s p [] f i m = absurd i
meets-one s p (e ∷ es) f (inl i) m = inl (subst (λ (g : Entry). Meet s p g.1) (sym i) m)
meets-one s p (e ∷ es) f (inr i) m = inr (meets-one s p es f i m)

pub of-two : (s : Scope) (es : List Entry) (e f : Entry) → In es e → In es f → ¬ (e.0 ≡ f.0) → Meet s e.1 f.1 → TwoMeet s (sets_of es)
of-two s [] e f i j a m = absurd i
of-two s (x ∷ es) e f (inl i) (inl j) a m = absurd (a (ap (λ (g : Entry). g.0) (sym i ∙ j)))
of-two s (x ∷ es) e f (inl i) (inr j) a m = inl (meets-one s x.1 es f j (subst (λ (g : Entry). Meet s g.1 f.1) (sym i) m))
of-two s (x ∷ es) e f (inr i) (inl j) a m = inl (meets-one s x.1 es e i (turned s e.1 x.1 (subst (λ (g : Entry). Meet s e.1 g.1) (sym j) m)))
of-two s (x ∷ es) e f (inr i) (inr j) a m = inr (of-two s es e f i j a m)
