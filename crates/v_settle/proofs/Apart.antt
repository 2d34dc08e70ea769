-- Bits that a statement may not assign: what they depend on after it. (The same stands in the proofs of `v_depend`, where it is private.)
use Rattle.std.proofs.Common.{◌≡◌, ◌∙◌, refl, sym, Bool, true, false, inl, inr}
use Rattle.std.specs.Prelude.{◌⊎◌, ◌&&◌, ◌||◌, not, IsTrue}
use Rattle.std.proofs.lemmas.Bool.{false≢true, and_parts, or_parts, or_cases, not_from_false, false_from_ne_true}
use Rattle.verilog_trees.specs.Syntax.{Expression, Target, place, joined, Targets, no_targets, target, Statement, empty, blocking, nonblocking, if_then, if_else, case, block, Statements, no_statements, statement}
use Rattle.verilog_meaning.specs.Expression.{Scope}
use Rattle.verilog_meaning.specs.Register.{selects_are_constant, may_mean, may_reach, may_reach_one, may_assign, may_assign_in_all, may_assign_in_case}
use Rattle.wb_values.specs.Value.{same_name}
use Rattle.verilog_designs.specs.Reads.{surely_reaches, one_surely_reaches}
use Rattle.verilog_designs.specs.Dependence.{Bit, is_in, index_reads, one_index_reads, copied_to, computed, Dependences, AfterAssignment, kept, given, indexed, AfterChoice, After, AfterAll}
use Rattle.verilog_settled.proofs.Assigned.{takes_reach}

two : {P Q P2 Q2 : Type 0} → (P → P2) → (Q → Q2) → P ⊎ Q → P2 ⊎ Q2
two f g (inl x) = inl (f x)
two f g (inr x) = inr (g x)

or-true : (p q : Bool) → (p ≡ true) ⊎ (q ≡ true) → (p || q) ≡ true
or-true true q h = refl
or-true false q (inl h) = absurd (false≢true h)
or-true false q (inr h) = h

mutual
  index-reach : (s : Scope) (t : Target) (u y : Bit) → IsTrue (is_in (index_reads s t u) y) → IsTrue (may_reach s t u.of_name u.word u.place)
  index-reach s (place n x) u y h = (and_parts (may_reach s (place n x) u.of_name u.word u.place) _ h).0
  index-reach s (joined ts) u y h = indexes-reach s ts u y h

  indexes-reach : (s : Scope) (ts : Targets) (u y : Bit) → IsTrue (is_in (one_index_reads s ts u) y) → IsTrue (may_reach_one s ts u.of_name u.word u.place)
  indexes-reach s no_targets u y h = absurd (false≢true h)
  indexes-reach s (target t ts) u y h =
      or-true (may_reach s t u.of_name u.word u.place) (may_reach_one s ts u.of_name u.word u.place)
      (two (index-reach s t u y) (λ g. indexes-reach s ts u y (and_parts (not (is_in (surely_reaches s t) u)) (is_in (one_index_reads s ts u) y) g).1)
      (or_cases (is_in (index_reads s t u) y) (not (is_in (surely_reaches s t) u) && is_in (one_index_reads s ts u) y) h))

without-constant : (a c m : Bool) → (a && (c && m)) ≡ true → (a && m) ≡ true
without-constant true true m h = h
without-constant true false m h = absurd (false≢true h)
without-constant false c m h = h

mutual
  sure-reach : (s : Scope) (t : Target) (u : Bit) → IsTrue (is_in (surely_reaches s t) u) → IsTrue (may_reach s t u.of_name u.word u.place)
  sure-reach s (place m x) u h =
      without-constant (same_name m u.of_name) (selects_are_constant s x) (may_mean s (s m) x u.word u.place) h
  sure-reach s (joined ts) u h = one-sure-reach s ts u h

  one-sure-reach : (s : Scope) (ts : Targets) (u : Bit) → IsTrue (is_in (one_surely_reaches s ts) u) → IsTrue (may_reach_one s ts u.of_name u.word u.place)
  one-sure-reach s no_targets u h = absurd (false≢true h)
  one-sure-reach s (target t ts) u h =
      or-true (may_reach s t u.of_name u.word u.place) (may_reach_one s ts u.of_name u.word u.place)
      (two (sure-reach s t u) (one-sure-reach s ts u) (or_cases (is_in (surely_reaches s t) u) (is_in (one_surely_reaches s ts) u) h))

not-sure : (s : Scope) (t : Target) (u : Bit) → may_reach s t u.of_name u.word u.place ≡ false → IsTrue (not (is_in (surely_reaches s t) u))
not-sure s t u h =
    not_from_false (is_in (surely_reaches s t) u) (false_from_ne_true (is_in (surely_reaches s t) u) (λ g. false≢true (sym h ∙ sure-reach s t u g)))

assignment-as-before : (s : Scope) (b : Dependences) (t : Target) (e : Expression) (u y : Bit) → may_reach s t u.of_name u.word u.place ≡ false
    → AfterAssignment s b t e u y → b u y
assignment-as-before s b t e u y h (kept n g) = g
assignment-as-before s b t e u y h (given x (copied_to j p l k c) g) = absurd (false≢true (sym h ∙ takes_reach s t u j k))
assignment-as-before s b t e u y h (given x (computed p r k) g) = absurd (false≢true (sym h ∙ r))
assignment-as-before s b t e u y h (indexed g) = absurd (false≢true (sym h ∙ index-reach s t u g.0 g.1))

otherwise : (P Q R : Type 0) (t : Bool) → t ≡ false → AfterChoice t P Q R → R
otherwise P Q R true h g = absurd (false≢true (sym h))
otherwise P Q R false h g = g

as-otherwise : (P Q R : Type 0) (t : Bool) → t ≡ false → R → AfterChoice t P Q R
as-otherwise P Q R true h g = absurd (false≢true (sym h))
as-otherwise P Q R false h g = g

mutual
  -- A bit that the statement may not assign is as it was before.
  pub as-before : (s : Scope) (b : Dependences) (x : Statement) (u y : Bit) → may_assign s x u.of_name u.word u.place ≡ false → After s b x u y → b u y
  as-before s b empty u y h g = g
  as-before s b (blocking t e) u y h g = assignment-as-before s b t e u y h g
  as-before s b (nonblocking t e) u y h g = g
  as-before s b (if_then c x) u y h g = otherwise _ _ _ (may_assign s x u.of_name u.word u.place) h g
  as-before s b (if_else c x w) u y h g = otherwise _ _ _ (may_assign s x u.of_name u.word u.place || may_assign s w u.of_name u.word u.place) h g
  as-before s b (case kind e items) u y h g = otherwise _ _ _ (may_assign_in_case s items u.of_name u.word u.place) h g
  as-before s b (block n xs) u y h g = all-as-before s b xs u y h g

  all-as-before : (s : Scope) (b : Dependences) (xs : Statements) (u y : Bit) → may_assign_in_all s xs u.of_name u.word u.place ≡ false
      → AfterAll s b xs u y → b u y
  all-as-before s b no_statements u y h g = g
  all-as-before s b (statement x xs) u y h g =
      let p = or_parts (may_assign s x u.of_name u.word u.place) (may_assign_in_all s xs u.of_name u.word u.place) h in
      as-before s b x u y p.0 (all-as-before s (After s b x) xs u y p.1 g)

mutual
  pub still-before : (s : Scope) (b : Dependences) (x : Statement) (u y : Bit) → may_assign s x u.of_name u.word u.place ≡ false → b u y → After s b x u y
  still-before s b empty u y h g = g
  still-before s b (blocking t e) u y h g = kept (not-sure s t u h) g
  still-before s b (nonblocking t e) u y h g = g
  still-before s b (if_then c x) u y h g = as-otherwise _ _ _ (may_assign s x u.of_name u.word u.place) h g
  still-before s b (if_else c x w) u y h g = as-otherwise _ _ _ (may_assign s x u.of_name u.word u.place || may_assign s w u.of_name u.word u.place) h g
  still-before s b (case kind e items) u y h g = as-otherwise _ _ _ (may_assign_in_case s items u.of_name u.word u.place) h g
  still-before s b (block n xs) u y h g = all-still-before s b xs u y h g

  all-still-before : (s : Scope) (b : Dependences) (xs : Statements) (u y : Bit) → may_assign_in_all s xs u.of_name u.word u.place ≡ false
      → b u y → AfterAll s b xs u y
  all-still-before s b no_statements u y h g = g
  all-still-before s b (statement x xs) u y h g =
      let p = or_parts (may_assign s x u.of_name u.word u.place) (may_assign_in_all s xs u.of_name u.word u.place) h in
      all-still-before s (After s b x) xs u y p.1 (still-before s b x u y p.0 g)
