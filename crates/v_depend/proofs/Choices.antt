-- What choices leave resting, from branch to branch.
use Rattle.std.proofs.Common.{◌≡◌, ◌∙◌, ℕ, zero, ◌<◌, ◌^◌, max, suc, arith, refl, ap, sym, subst, Bool, true, false, cond, inl, inr, List, ◌∷◌}
use Rattle.std.specs.Prelude.{◌&&◌, ◌||◌, ◌⊎◌, ◌↔◌, Option, Some, None, IsTrue}
use Rattle.std.proofs.lemmas.Bool.{false≢true, or_cases, or_left, or_right, or_parts}
use Rattle.verilog_trees.specs.Syntax.{Expression, CaseKind, exact_case, wild_case, Statement, empty, case, Statements, statement, CaseItems, no_items, arm, default_arm}
use Rattle.std.specs.Prelude.{nat_le}
use Rattle.std.proofs.lemmas.Nat.{pow_pos}
use Rattle.std.proofs.lemmas.Bool.{and_parts}
use Rattle.verilog_meaning.specs.Expression.{Scope, width_of, sign_of}
use Rattle.verilog_meaning.specs.Statement.{items_width, items_signed}
use Rattle.verilog_meaning.specs.Register.{may_assign, may_assign_in_case}
use Rattle.verilog_designs.specs.Reads.{BitSet, no_bits, or_in, reads, items_read, items_have_all, is_full}
use Rattle.verilog_designs.specs.Dependence.{Bit, is_in, ThroughReads, AfterChoice, NoArm, After, AfterAll, AfterArms}
use Rattle.v_syntax.specs.declared.tree.CaseItem.{CaseItem, Values, Default}
use Rattle.v_syntax.specs.Tree.{arm_before, or_empty}
use Rattle.v_statement.specs.Effects.{item_list, item_statement}
use Rattle.v_flow.specs.Spans.{existing}
use Rattle.v_masks.specs.Masks.{spread}
use Rattle.v_depend.specs.Resting.{IsThere, OneIsUnsettled, at_first, RestsAfter}
use Rattle.v_depend.specs.Running.{IsFit, Tells, Adds, AddsArms}
use Rattle.v_depend.proofs.Following.{carry, carry-all, as-before, still-before, arms-as-before}
use Rattle.v_depend.proofs.Parting.{same-word}

-- ---- a case without an item is not full

none-have : (s : Scope) (w : ℕ) (signed : Bool) (n : ℕ) → 0 < n → items_have_all s w signed n no_items ≡ false
none-have s w signed zero h = absurd (omega (arith, h))
none-have s w signed (suc n) h = refl

none-all : (s : Scope) (w : ℕ) (signed : Bool) → (nat_le w 8 && items_have_all s w signed (2 ^ w) no_items) ≡ true → ⊥
none-all s w signed h = false≢true (sym (none-have s w signed (2 ^ w) (pow_pos w)) ∙ (and_parts (nat_le w 8) _ h).1)

never-full : (s : Scope) (kind : CaseKind) (e : Expression) → is_full s kind e no_items ≡ true → ⊥
never-full s wild_case e h = false≢true h
never-full s exact_case e h = none-all s (max (width_of s e) (items_width s no_items)) (sign_of s e && items_signed s no_items) h

-- ---- what is united

true-or : (a b : Bool) → IsTrue (a || b) ↔ IsTrue a ⊎ IsTrue b
true-or a b = (or_cases a b, back)
  where
    back : IsTrue a ⊎ IsTrue b → IsTrue (a || b)
    back (inl h) = or_left a b h
    back (inr h) = or_right a b h

pub at-bit : (p q : BitSet) → p ≡ q → (u : Bit) → is_in p u ≡ is_in q u
at-bit p q e u = λ i. e i u.of_name u.word u.place

-- Where a branch is run on a copy, the union has what it leaves.
pub branch-added : (w : BitSet) (s : Scope) (x : Statement) (assigned left copy more_assigned more_left : BitSet) → IsFit s x
    → ((u : Bit) → IsThere s u → IsTrue (is_in copy u) ↔ RestsAfter w s x u) → more_left ≡ or_in left copy
    → more_assigned ≡ or_in assigned (spread (existing s (may_assign s x))) → Adds w s x assigned left more_assigned more_left
branch-added w s x assigned left copy more_assigned more_left fit rests l a =
    record {
      assigned_is = λ u t. at-bit more_assigned (or_in assigned (spread (existing s (may_assign s x)))) a u
          ∙ ap (λ z. is_in assigned u || z) (same-word s (may_assign s x) u.of_name u.word u.place fit.plain t);
      left_is = λ u t.
          let e = at-bit more_left (or_in left copy) l u in
          let r = rests u t in
          let o = true-or (is_in left u) (is_in copy u) in
          ((λ h. over r.0 (o.0 (sym e ∙ h))), (λ h. e ∙ o.1 (over r.1 h)));
    }
  where
    over : {A B C : Type 0} → (B → C) → A ⊎ B → A ⊎ C
    over f (inl h) = inl h
    over f (inr h) = inr (f h)

-- ---- arms of an if

-- a choice between a branch and what stands behind it, by whether either assigns
module _ (w : BitSet) (s : Scope) (x y : Statement) (C : Type 0) (u : Bit) where
  abbrev Chosen : Bool → Type 0
  Chosen t = AfterChoice t C (RestsAfter w s x u ⊎ RestsAfter w s y u) (IsTrue (is_in w u))

  first : Bool
  first = may_assign s x u.of_name u.word u.place

  second : Bool
  second = may_assign s y u.of_name u.word u.place

  -- c: the condition rests; the two that are left; and all that is assigned, where the condition rests
  chosen : (c : Bool) → IsTrue c ↔ C → IsTrue c × IsTrue (first || second) ⊎ (RestsAfter w s x u ⊎ RestsAfter w s y u) → Chosen (first || second)
  unfolding first second
  chosen c i h = at (first || second) refl h
    where
      at : (t : Bool) → (first || second) ≡ t → IsTrue c × IsTrue t ⊎ (RestsAfter w s x u ⊎ RestsAfter w s y u) → Chosen t
      at true e (inl k) = inl (i.0 k.0)
      at true e (inr k) = inr k
      at false e (inl k) = absurd (false≢true k.1)
      at false e (inr (inl k)) = as-before s (at_first w) x u u (or_parts first second e).0 k
      at false e (inr (inr k)) = as-before s (at_first w) y u u (or_parts first second e).1 k

  from-chosen : (c : Bool) → IsTrue c ↔ C → Chosen (first || second) → IsTrue c × IsTrue (first || second) ⊎ (RestsAfter w s x u ⊎ RestsAfter w s y u)
  unfolding first second
  from-chosen c i h = at (first || second) refl h
    where
      at : (t : Bool) → (first || second) ≡ t → Chosen t → IsTrue c × IsTrue t ⊎ (RestsAfter w s x u ⊎ RestsAfter w s y u)
      at true e (inl k) = inl (i.1 k, refl)
      at true e (inr k) = inr k
      at false e k = inr (inl (still-before s (at_first w) x u u (or_parts first second e).0 k))

  pub choice-law : (c : Bool) → IsTrue c ↔ C
      → (IsTrue c × IsTrue (may_assign s x u.of_name u.word u.place || may_assign s y u.of_name u.word u.place) ⊎ (RestsAfter w s x u ⊎ RestsAfter w s y u))
      ↔ AfterChoice (may_assign s x u.of_name u.word u.place || may_assign s y u.of_name u.word u.place) C (RestsAfter w s x u ⊎ RestsAfter w s y u) (IsTrue (is_in w u))
  unfolding first second
  choice-law c i = (chosen c i, from-chosen c i)

no-other : (a : Bool) → a || false ≡ a
no-other true = refl
no-other false = refl

-- an arm before what stands behind its else, if anything does
arm-law : (w : BitSet) (s : Scope) (e : Expression) (x : Statement) (o : Option Statement) (u : Bit)
    → AfterChoice (may_assign s x u.of_name u.word u.place || may_assign s (or_empty o) u.of_name u.word u.place) (ThroughReads (at_first w) (reads s e) u)
    (RestsAfter w s x u ⊎ RestsAfter w s (or_empty o) u) (IsTrue (is_in w u))
    ≡ RestsAfter w s (arm_before e x o) u
arm-law w s e x None u =
    ap (λ t. AfterChoice t (ThroughReads (at_first w) (reads s e) u) (RestsAfter w s x u ⊎ IsTrue (is_in w u)) (IsTrue (is_in w u))) (no-other (may_assign s x u.of_name u.word u.place))
arm-law w s e x (Some y) u = refl

arm-assigns : (s : Scope) (e : Expression) (x : Statement) (o : Option Statement) (u : Bit)
    → (may_assign s x u.of_name u.word u.place || may_assign s (or_empty o) u.of_name u.word u.place) ≡ may_assign s (arm_before e x o) u.of_name u.word u.place
arm-assigns s e x None u = no-other (may_assign s x u.of_name u.word u.place)
arm-assigns s e x (Some y) u = refl

or-swap : (a b : Bool) → a || b ≡ b || a
or-swap true true = refl
or-swap true false = refl
or-swap false true = refl
or-swap false false = refl

both-true : (c t : Bool) → (c && t) ≡ true → IsTrue c × IsTrue t
both-true true t h = (refl, h)
both-true false t h = absurd (false≢true h)

from-both : (c t : Bool) → IsTrue c × IsTrue t → (c && t) ≡ true
from-both true t h = h.1
from-both false t h = absurd (false≢true h.0)

-- m: after the choice; a: the branch is added to l, what stands behind; k: all that is assigned, where c
module _ (L X Y : Type 0) (m a k l c any : Bool) (whole : m ≡ (a || k)) (all : k ≡ (c && any)) (branch : IsTrue a ↔ IsTrue l ⊎ X) (behind : IsTrue l ↔ Y) where
  taken-apart : IsTrue m → IsTrue c × IsTrue any ⊎ (X ⊎ Y)
  taken-apart h =
      elim (or_cases a k (sym whole ∙ h)) [
        | inl g ↦ elim (branch.0 g) [
          | inl b ↦ inr (inr (behind.0 b))
          | inr x ↦ inr (inl x)
        ]
        | inr g ↦ inl (both-true c any (sym all ∙ g))
      ]

  put-together : IsTrue c × IsTrue any ⊎ (X ⊎ Y) → IsTrue m
  put-together (inl h) = whole ∙ or_right a k (all ∙ from-both c any h)
  put-together (inr (inl x)) = whole ∙ or_left a k (branch.1 (inr x))
  put-together (inr (inr y)) = whole ∙ or_left a k (branch.1 (inl (behind.1 y)))

chosen-bit : (c : Bool) (p : BitSet) (u : Bit) → is_in (cond c p no_bits) u ≡ (c && is_in p u)
chosen-bit true p u = refl
chosen-bit false p u = refl

-- An arm: its branch is added to what stands behind its else, and all that is assigned where its condition rests.
pub arm-told : (w : BitSet) (s : Scope) (e : Expression) (x : Statement) (o : Option Statement) (c : Bool) (assigned left more_assigned added more_left : BitSet)
    → Tells w s (or_empty o) assigned left → Adds w s x assigned left more_assigned added → IsTrue c ↔ OneIsUnsettled w (reads s e)
    → more_left ≡ or_in added (cond c more_assigned no_bits) → Tells w s (arm_before e x o) more_assigned more_left
arm-told w s e x o c assigned left more_assigned added more_left tells adds rests is =
    record { assigned_is = assigns; left_is = leaves }
  where
    any : Bit → Bool
    any u = may_assign s x u.of_name u.word u.place || may_assign s (or_empty o) u.of_name u.word u.place

    all-assigned : (u : Bit) → IsThere s u → is_in more_assigned u ≡ (may_assign s x u.of_name u.word u.place || may_assign s (or_empty o) u.of_name u.word u.place)
    all-assigned u t =
        adds.assigned_is u t ∙ ap (λ z. z || may_assign s x u.of_name u.word u.place) (tells.assigned_is u t)
        ∙ or-swap (may_assign s (or_empty o) u.of_name u.word u.place) (may_assign s x u.of_name u.word u.place)

    assigns : (u : Bit) → IsThere s u → is_in more_assigned u ≡ may_assign s (arm_before e x o) u.of_name u.word u.place
    assigns u t = all-assigned u t ∙ arm-assigns s e x o u

    leaves : (u : Bit) → IsThere s u → IsTrue (is_in more_left u) ↔ RestsAfter w s (arm_before e x o) u
    leaves u t =
        let law = choice-law w s x (or_empty o) (OneIsUnsettled w (reads s e)) u c rests in
        let some = may_assign s x u.of_name u.word u.place || may_assign s (or_empty o) u.of_name u.word u.place in
        let k = chosen-bit c more_assigned u ∙ ap (λ z. c && z) (all-assigned u t) in
        let whole = at-bit more_left (or_in added (cond c more_assigned no_bits)) is u in
        let X = RestsAfter w s x u in
        let Y = RestsAfter w s (or_empty o) u in
        let m = is_in more_left u in
        let a = is_in added u in
        let z = is_in (cond c more_assigned no_bits) u in
        let l = is_in left u in
        subst (λ P. IsTrue (is_in more_left u) ↔ P) (arm-law w s e x o u) (
          (λ h. law.0 (taken-apart X X Y m a z l c some whole k (adds.left_is u t) (tells.left_is u t) h)),
          (λ h. put-together X X Y m a z l c some whole k (adds.left_is u t) (tells.left_is u t) (law.1 h)),
        )

-- nothing behind the arms
pub nothing-told : (w : BitSet) (s : Scope) (assigned left : BitSet) → assigned ≡ no_bits → left ≡ w → Tells w s empty assigned left
nothing-told w s assigned left a l =
    record {
      assigned_is = λ u t. at-bit assigned no_bits a u;
      left_is = λ u t. subst (λ (p : BitSet). IsTrue (is_in p u) ↔ IsTrue (is_in w u)) (sym l) ((λ h. h), (λ h. h));
    }

-- the statement behind the last else
pub last-told : (w : BitSet) (s : Scope) (x : Statement) (assigned left none : BitSet) → IsFit s x → ((u : Bit) → IsThere s u → IsTrue (is_in left u) ↔ RestsAfter w s x u)
    → none ≡ no_bits → assigned ≡ or_in none (spread (existing s (may_assign s x))) → Tells w s x assigned left
last-told w s x assigned left none fit rests e a =
    record {
      assigned_is = λ u t. at-bit assigned (or_in none (spread (existing s (may_assign s x)))) a u
          ∙ ap (λ z. z || is_in (spread (existing s (may_assign s x))) u) (at-bit none no_bits e u)
          ∙ same-word s (may_assign s x) u.of_name u.word u.place fit.plain t;
      left_is = rests;
    }

-- ---- items of a case

to-left : {A B C : Type 0} → A ⊎ (B ⊎ C) → (A ⊎ B) ⊎ C
to-left (inl h) = inl (inl h)
to-left (inr (inl h)) = inl (inr h)
to-left (inr (inr h)) = inr h

to-right : {A B C : Type 0} → (A ⊎ B) ⊎ C → A ⊎ (B ⊎ C)
to-right (inl (inl h)) = inl h
to-right (inl (inr h)) = inr (inl h)
to-right (inr h) = inr (inr h)

over-left : {A B C : Type 0} → (A → B) → A ⊎ C → B ⊎ C
over-left f (inl h) = inl (f h)
over-left f (inr h) = inr h

turned : {A B : Type 0} → A ⊎ B → B ⊎ A
turned (inl h) = inr h
turned (inr h) = inl h

or-right : (a b c : Bool) → (a || b) || c ≡ a || (b || c)
or-right true b c = refl
or-right false b c = refl

item-assigns : (s : Scope) (i : CaseItem) (items : List CaseItem) (u : Bit)
    → may_assign_in_case s (item_list (i ∷ items)) u.of_name u.word u.place
    ≡ (may_assign s (item_statement i) u.of_name u.word u.place || may_assign_in_case s (item_list items) u.of_name u.word u.place)
item-assigns s (Values es x) items u = refl
item-assigns s (Default x) items u = refl

item-after : (w : BitSet) (s : Scope) (i : CaseItem) (items : List CaseItem) (u : Bit)
    → AfterArms s (at_first w) (item_list (i ∷ items)) u u ≡ (RestsAfter w s (item_statement i) u ⊎ AfterArms s (at_first w) (item_list items) u u)
item-after w s (Values es x) items u = refl
item-after w s (Default x) items u = refl

here : {A : Type 0} → A ⊎ ⊥ → A
here (inl h) = h
here (inr h) = absurd h

pub items-ended : (w : BitSet) (s : Scope) (items : CaseItems) (assigned left : BitSet) → items ≡ no_items → AddsArms w s items assigned left assigned left
items-ended w s items assigned left e =
    subst (λ z. AddsArms w s z assigned left assigned left) (sym e)
    (record {
      assigned_is = λ u t. sym (no-other (is_in assigned u));
      left_is = λ u t. ((λ h. inl h), (λ h. here h));
    })

-- one item more, before those that are left
pub items-turn : (w : BitSet) (s : Scope) (all : CaseItems) (i : CaseItem) (items : List CaseItem) (a l b m c n : BitSet)
    → ((d o : BitSet) → AddsArms w s (item_list (i ∷ items)) b m d o → AddsArms w s all a l d o) → Adds w s (item_statement i) b m c n
    → (d o : BitSet) → AddsArms w s (item_list items) c n d o → AddsArms w s all a l d o
items-turn w s all i items a l b m c n rest adds d o more =
    rest d o (record {
      assigned_is = λ u t. more.assigned_is u t ∙ ap (λ z. z || may_assign_in_case s (item_list items) u.of_name u.word u.place) (adds.assigned_is u t)
          ∙ or-right (is_in b u) (may_assign s (item_statement i) u.of_name u.word u.place) (may_assign_in_case s (item_list items) u.of_name u.word u.place)
          ∙ ap (λ z. is_in b u || z) (sym (item-assigns s i items u));
      left_is = λ u t.
          subst (λ P. IsTrue (is_in o u) ↔ IsTrue (is_in m u) ⊎ P) (sym (item-after w s i items u))
          ((λ h. to-right (over-left ((adds.left_is u t).0) ((more.left_is u t).0 h))), (λ h. (more.left_is u t).1 (over-left ((adds.left_is u t).1) (to-left h))));
    })

no-arm-left : (P : Type 0) (b : Bool) → NoArm b P → P
no-arm-left P true k = absurd k
no-arm-left P false k = k

-- A case: the items are added to what stands where no item matches, and all that is assigned where what is read at the start rests.
module _ (w : BitSet) (s : Scope) (kind : CaseKind) (e : Expression) (items : CaseItems) (full c : Bool) (none left assigned added after : BitSet) (is_full_case : full ≡ is_full s kind e items)
    (first : left ≡ cond full no_bits w) (empty_first : none ≡ no_bits) (adds : AddsArms w s items none left assigned added)
    (rests : IsTrue c ↔ OneIsUnsettled w (or_in (reads s e) (items_read s items))) (whole : after ≡ or_in added (cond c assigned no_bits))
    (some : is_full s kind e items ≡ true → (u : Bit) → may_assign_in_case s items u.of_name u.word u.place ≡ false → IsTrue (is_in w u) → AfterArms s (at_first w) items u u) where
  abbrev Body : Bit → Type 0
  Body u = AfterArms s (at_first w) items u u ⊎ NoArm (is_full s kind e items) (IsTrue (is_in w u))

  no-arm : (u : Bit) (t : Bool) → is_full s kind e items ≡ t → IsTrue (is_in (cond t no_bits w) u) ↔ NoArm (is_full s kind e items) (IsTrue (is_in w u))
  no-arm u true h = subst (λ b. IsTrue false ↔ NoArm b (IsTrue (is_in w u))) (sym h) ((λ k. absurd (false≢true k)), (λ k. absurd k))
  no-arm u false h = subst (λ b. IsTrue (is_in w u) ↔ NoArm b (IsTrue (is_in w u))) (sym h) ((λ k. k), (λ k. k))

  first-is : (u : Bit) → IsTrue (is_in left u) ↔ NoArm (is_full s kind e items) (IsTrue (is_in w u))
  first-is u = subst (λ (p : BitSet). IsTrue (is_in p u) ↔ NoArm (is_full s kind e items) (IsTrue (is_in w u))) (sym first) (no-arm u full (sym is_full_case))

  assigned-is : (u : Bit) → IsThere s u → is_in assigned u ≡ may_assign_in_case s items u.of_name u.word u.place
  assigned-is u t = adds.assigned_is u t ∙ ap (λ z. z || may_assign_in_case s items u.of_name u.word u.place) (at-bit none no_bits empty_first u)

  body-is : (u : Bit) → IsThere s u → IsTrue (is_in added u) ↔ Body u
  body-is u t = ((λ h. turned (over-left ((first-is u).0) ((adds.left_is u t).0 h))), (λ h. (adds.left_is u t).1 (over-left ((first-is u).1) (turned h))))

  -- where nothing is assigned, what was before is what the arms or no arm leave
  unassigned : (u : Bit) → may_assign_in_case s items u.of_name u.word u.place ≡ false → Body u → IsTrue (is_in w u)
  unassigned u h (inl g) = arms-as-before s (at_first w) items u u h g
  unassigned u h (inr g) = no-arm-left (IsTrue (is_in w u)) (is_full s kind e items) g

  still-so : (u : Bit) (b : Bool) → is_full s kind e items ≡ b → may_assign_in_case s items u.of_name u.word u.place ≡ false → IsTrue (is_in w u) → Body u
  still-so u true k h g = inl (some k u h g)
  still-so u false k h g = inr (subst (λ b. NoArm b (IsTrue (is_in w u))) (sym k) g)

  abbrev Read : Bit → Type 0
  Read u = ThroughReads (at_first w) (or_in (reads s e) (items_read s items)) u

  choose-so : (u : Bit) (b : Bool) → may_assign_in_case s items u.of_name u.word u.place ≡ b → Body u ⊎ IsTrue c × IsTrue b → AfterChoice b (Read u) (Body u) (IsTrue (is_in w u))
  choose-so u true h (inl g) = inr g
  choose-so u true h (inr g) = inl (rests.0 g.0)
  choose-so u false h (inl g) = unassigned u h g
  choose-so u false h (inr g) = absurd (false≢true g.1)

  so-chosen : (u : Bit) (b : Bool) → may_assign_in_case s items u.of_name u.word u.place ≡ b → AfterChoice b (Read u) (Body u) (IsTrue (is_in w u)) → Body u ⊎ IsTrue c × IsTrue b
  so-chosen u true h (inl g) = inr (rests.1 g, refl)
  so-chosen u true h (inr g) = inl g
  so-chosen u false h g = inl (still-so u (is_full s kind e items) refl h g)

  module _ (u : Bit) (t : IsThere s u) where
    chosen-all : is_in (cond c assigned no_bits) u ≡ (c && may_assign_in_case s items u.of_name u.word u.place)
    chosen-all = chosen-bit c assigned u ∙ ap (λ z. c && z) (assigned-is u t)

    all-of-it : is_in after u ≡ (is_in added u || is_in (cond c assigned no_bits) u)
    all-of-it = at-bit after (or_in added (cond c assigned no_bits)) whole u

    there : IsTrue (is_in after u) → RestsAfter w s (case kind e items) u
    there h =
        choose-so u (may_assign_in_case s items u.of_name u.word u.place) refl
        (elim (or_cases (is_in added u) (is_in (cond c assigned no_bits) u) (sym all-of-it ∙ h)) [
          | inl g ↦ inl ((body-is u t).0 g)
          | inr g ↦ inr (both-true c (may_assign_in_case s items u.of_name u.word u.place) (sym chosen-all ∙ g))
        ])

    back : RestsAfter w s (case kind e items) u → IsTrue (is_in after u)
    back h =
        elim (so-chosen u (may_assign_in_case s items u.of_name u.word u.place) refl h) [
          | inl g ↦ all-of-it ∙ or_left (is_in added u) (is_in (cond c assigned no_bits) u) ((body-is u t).1 g)
          | inr g ↦ all-of-it ∙ or_right (is_in added u) (is_in (cond c assigned no_bits) u)
              (chosen-all ∙ from-both c (may_assign_in_case s items u.of_name u.word u.place) g)
        ]

    pub case-rests : IsTrue (is_in after u) ↔ RestsAfter w s (case kind e items) u
    case-rests = (there, back)

-- ---- statements in turn

-- on what a bit rests is not told
same-rests : (w : BitSet) (s : Scope) (x : Statement) (z a b : Bit) → IsThere s z → After s (at_first w) x z a → After s (at_first w) x z b
same-rests w s x z a b k r = carry s (at_first w) (at_first w) a b (λ y l q. q) x z k r

-- another account of what was before, for bits that there are
pub turn-carried : (w v : BitSet) (s : Scope) (x : Statement) (xs : Statements) (u : Bit) → IsThere s u
    → ((z : Bit) → IsThere s z → IsTrue (is_in v z) ↔ RestsAfter w s x z) → AfterAll s (at_first w) (statement x xs) u u ↔ AfterAll s (at_first v) xs u u
turn-carried w v s x xs u t h = (
  (λ g. carry-all s (After s (at_first w) x) (at_first v) u u (λ z k r. (h z k).1 (same-rests w s x z u z k r)) xs u t g),
  (λ g. carry-all s (at_first v) (After s (at_first w) x) u u (λ z k r. same-rests w s x z z u k ((h z k).0 r)) xs u t g),
)

-- ---- a full case has an item, and each leaves what was before where it is not assigned

pub full-stays : (w : BitSet) (s : Scope) (kind : CaseKind) (e : Expression) (items : CaseItems) → is_full s kind e items ≡ true → (u : Bit)
    → may_assign_in_case s items u.of_name u.word u.place ≡ false → IsTrue (is_in w u) → AfterArms s (at_first w) items u u
full-stays w s kind e no_items full u h g = absurd (never-full s kind e full)
full-stays w s kind e (arm es x items) full u h g =
    inl (still-before s (at_first w) x u u (or_parts (may_assign s x u.of_name u.word u.place) (may_assign_in_case s items u.of_name u.word u.place) h).0 g)
full-stays w s kind e (default_arm x items) full u h g =
    inl (still-before s (at_first w) x u u (or_parts (may_assign s x u.of_name u.word u.place) (may_assign_in_case s items u.of_name u.word u.place) h).0 g)
