-- Turns: bits of loops stay, and chains grow by a step.
use Rattle.std.proofs.Common.{◌≡◌, ◌∙◌, ℕ, suc, ◌+◌, ap, sym, subst, arith, true, false, List, inl, inr}
use Rattle.std.specs.Prelude.{Bool, ◌&&◌, IsTrue, ◌↔◌}
use Rattle.std.proofs.lemmas.Bool.{and_parts, and_from}
use Rattle.wb_values.specs.Value.{Name}
use Rattle.verilog_trees.specs.Syntax.{Statement, Item}
use Rattle.verilog_meaning.specs.Expression.{Scope}
use Rattle.verilog_meaning.specs.Register.{combinational_blocks}
use Rattle.verilog_meaning.specs.Settled.{assignments}
use Rattle.verilog_designs.specs.Reads.{BitSet, and_in}
use Rattle.verilog_designs.specs.Dependence.{Bit, is_in}
use Rattle.v_masks.specs.Masks.{spread}
use Rattle.v_paths.specs.Premises.{HasNoMemory}
use Rattle.v_order.specs.Drivers.{as_statements, drivers}
use Rattle.v_loops.specs.Turns.{OneRests, RestsInTurn, IsStage, HasAllLoops, IsLeft, IsLasting, IsLater, AreOf}
use Rattle.v_loops.proofs.Steps.{RestsWhereItDepends, OnUnsettled, one-here, one-there, to-there, in-first, there-spread, from-there, turn-depends, depends-turn}
use Rattle.v_loops.proofs.Stages.{first-step, turned, stays}
use Rattle.v_loops.proofs.Listed.{kind-of, link-among, block-among}

-- ---- the drivers as one list, and as two

drivers-turn : (all : Bool) (p : BitSet) (s : Scope) (items : List Item) (u : Bit) → OneRests all p s (drivers items) u → RestsInTurn all p s items u
drivers-turn all p s items u h =
    let o = one-there all p s (drivers items) u h in
    elim (kind-of items o.0 o.1) as (λ _. RestsInTurn all p s items u) [
      | inl k ↦ inl (one-here all p s (as_statements (assignments items)) o.0 u k o.2)
      | inr k ↦ inr (one-here all p s (combinational_blocks items) o.0 u k o.2)
    ]

turn-drivers : (all : Bool) (p : BitSet) (s : Scope) (items : List Item) (u : Bit) → RestsInTurn all p s items u → OneRests all p s (drivers items) u
turn-drivers all p s items u (inl h) =
    let o = one-there all p s (as_statements (assignments items)) u h in one-here all p s (drivers items) o.0 u (link-among items o.0 o.1) o.2
turn-drivers all p s items u (inr h) =
    let o = one-there all p s (combinational_blocks items) u h in one-here all p s (drivers items) o.0 u (block-among items o.0 o.1) o.2

-- ---- one turn

module _ (law : RestsWhereItDepends) (s : Scope) (xs : List Statement) (p q : BitSet) (none : HasNoMemory s p)
    (f : (u : Bit) → IsTrue (is_in q u) ↔ OneRests false p s xs u) (items : List Item) (o : AreOf s items xs) where
  rests : (u : Bit) → IsTrue (is_in q u) → OnUnsettled s items p u
  rests u h =
      turn-depends law s items p o.runnable.constant none u
      (drivers-turn false p s items u (subst (λ (ys : List Statement). OneRests false p s ys u) (sym o.same) ((f u).0 h)))

  stay : (u y : Bit) → OnUnsettled s items p u → IsTrue (is_in q u)
  stay u y h =
      (f u).1 (subst (λ (ys : List Statement). OneRests false p s ys u) o.same
      (turn-drivers false p s items u (depends-turn law s items p o.runnable.constant none u h.0 h.1 h.2)))

  next-left : (k : ℕ) → IsLeft s items k p → IsLeft s items (suc k) q
  next-left k l =
      record {
        loops = λ u h. let r = first-step s items u u h in stay u u (r.0, r.1, l.loops r.0 (turned s items u r.0 r.1 r.2));
        chains = λ u h. let r = rests u h in (r.0, r.1, l.chains r.0 r.2);
      }

  -- what has all bits of the set before lasts
  now-lasting : ((n : Name) (b : ℕ) → p n 0 b ≡ true → q n 0 b ≡ true) → IsLasting s items q
  now-lasting all u h =
      let r = rests u h in
      let z = in-first s p r.0 none (to-there s items u r.0 r.1) r.0.word r.0.place r.2 in (
        r.0,
        r.1,
        subst (λ (w : ℕ). q r.0.of_name w r.0.place ≡ true) (sym z) (all r.0.of_name r.0.place (subst (λ (w : ℕ). p r.0.of_name w r.0.place ≡ true) z r.2)),
      )

-- ---- turns that go on

-- Turns lead from one set to another.
abbrev pub IsOnward : Scope → List Statement → (before now : BitSet) → ℕ → Type 0
IsOnward s xs before now i = (items : List Item) (k : ℕ) → AreOf s items xs → IsLeft s items k before → IsLeft s items (i + k) now

module _ (s : Scope) (xs : List Statement) (before : BitSet) where
  pub none-onward : IsOnward s xs before before 0
  none-onward items k o h = let e : k ≡ 0 + k = omega arith in subst (λ (j : ℕ). IsLeft s items j before) e h

  pub ended-onward : (i : ℕ) (now : BitSet) → i ≡ 128 → IsOnward s xs before now i → (items : List Item) (k : ℕ) → AreOf s items xs → IsLeft s items k before
      → IsLater false s items 128 k now
  ended-onward i now e f items k o h = subst (λ (j : ℕ). IsLeft s items (j + k) now) e (f items k o h)

  module _ (law : RestsWhereItDepends) (i : ℕ) (now after : BitSet) (none : HasNoMemory s now) (f : IsOnward s xs before now i)
      (g : (u : Bit) → IsTrue (is_in after u) ↔ OneRests false now s xs u) where
    pub turn-onward : IsOnward s xs before after (i + 1)
    turn-onward items k o h =
        let e : suc (i + k) ≡ i + 1 + k = omega arith in
        subst (λ (j : ℕ). IsLeft s items j after) e (next-left law s xs now after none g items o (i + k) (f items k o h))

    pub last-onward : ((n : Name) (b : ℕ) → now n 0 b ≡ true → after n 0 b ≡ true) → (items : List Item) (k : ℕ) → AreOf s items xs → IsLeft s items k before
        → IsLater true s items 128 k after
    last-onward all items k o h =
        (suc (i + k), next-left law s xs now after none g items o (i + k) (f items k o h), now-lasting law s xs now after none g items o all)

-- ---- where turns begin

module _ (s : Scope) (items : List Item) (d : BitSet) (none : HasNoMemory s d) (is : IsStage s items 0 d) where
  -- all bits that are driven, in a table
  pub first-loops : (p : BitSet) → p ≡ spread d → HasAllLoops s items p
  first-loops p e u h =
      let f = first-step s items u u h in
      subst (λ (q : BitSet). IsTrue (is_in q u)) (sym e) (there-spread s d u none (from-there s items u f.0 f.1) ((is u).1 (stays s items 0 u h)))

  -- those that a table still has
  pub first-left : (p q : BitSet) → HasAllLoops s items p → q ≡ and_in d p → IsLeft s items 0 q
  first-left p q all e =
      record {
        loops = λ u h. subst (λ (z : BitSet). is_in z u ≡ true) (sym e) (and_from (is_in d u) (is_in p u) ((is u).1 (stays s items 0 u h)) (all u h));
        chains = λ u h. (is u).0 (and_parts (is_in d u) (is_in p u) (subst (λ (z : BitSet). is_in z u ≡ true) e h)).0;
      }

pub kept-free : (s : Scope) (d p q : BitSet) → HasNoMemory s d → q ≡ and_in d p → HasNoMemory s q
kept-free s d p q none e n k b m = ap (λ (z : BitSet). z n k b) e ∙ ap (λ t. t && p n k b) (none n k b m)
