-- Scopes that agree on each name in a tree agree on what gives a bit its value, and on what a bit rests on after a statement.
use Rattle.std.proofs.Common.{◌≡◌, ◌↔◌, ℕ, ◌-◌, ◌%◌, Bool, cond, not, ◌&&◌, ◌||◌, nat_lt, refl, sym, ap, ◌∙◌, None, pos, ◌+ℤ◌, ◌-ℤ◌}
use Rattle.wb_values.specs.Value.{Name}
use Rattle.verilog_trees.specs.Syntax.{Expression, number, name, concatenation, replication, as_signed, as_unsigned, unary, reduction, binary, shift, power, comparison, logical, conditional, Expressions, no_expressions, expression, Selects, Target, place, joined, Targets, no_targets, target, Statement, empty, blocking, nonblocking, if_then, if_else, case, block, Statements, no_statements, statement, CaseItems, no_items, arm, default_arm}
use Rattle.verilog_meaning.specs.Expression.{Scope, no_values, selects_width}
use Rattle.verilog_meaning.specs.Statement.{named_place}
use Rattle.verilog_designs.specs.Reads.{BitSet, or_in}
use Rattle.verilog_designs.specs.Dependence.{Bit, is_in, is_plain, are_plain, word_of_cell, natural_in, bit_in, bit_at, widened_bit, copied, copied_in, is_same_cell, takes, one_takes, index_reads, one_index_reads, IsGivenBy, Dependences, ThroughReads, AfterAssignment, at_start, After, AfterAll, AfterArms}
use Rattle.verilog_renamed.specs.EachName.{EachIn, EachInAll, EachInSelects, EachInTarget, EachInTargets, EachInStatement, EachInStatements, EachInItems}
use Rattle.verilog_renamed.specs.Agreement.{IsSameIn}
use Rattle.verilog_renamed.proofs.EachName.{each_follows, target_follows, statement_follows}
use Rattle.verilog_renamed.proofs.Dependence.{choice_there, no_arm_there, sum_there}
use Rattle.verilog_renamed.proofs.AgreedExpressions.{Agreed, AgreedParts, AgreedSelects, agreed, agreed_parts, agreed_selects}
use Rattle.verilog_renamed.proofs.AgreedStatements.{agreed_named, agreed_target_width, agreed_targets_width}
use Rattle.verilog_renamed.proofs.AgreedBits.{agreed_selects_constant, agreed_reach, agreed_assign, agreed_assign_in_case, agreed_reads, agreed_selects_read, agreed_items_read, agreed_surely, agreed_full}

module _ (s t : Scope) where
  -- ---- what is copied

  mutual
    pub agreed_plain : (e : Expression) → EachIn (IsSameIn s t) e → is_plain t e ≡ is_plain s e
    agreed_plain (number k) a = refl
    agreed_plain (name n x) a = agreed_selects_constant s t x a.1
    agreed_plain (concatenation es) a = agreed_all_plain es a
    agreed_plain (replication k es) a = agreed_all_plain es a.1
    agreed_plain (as_signed x) a = refl
    agreed_plain (as_unsigned x) a = refl
    agreed_plain (unary op x) a = refl
    agreed_plain (reduction op x) a = refl
    agreed_plain (binary op x y) a = refl
    agreed_plain (shift op x n) a = refl
    agreed_plain (power x n) a = refl
    agreed_plain (comparison op x y) a = refl
    agreed_plain (logical op x y) a = refl
    agreed_plain (conditional c x y) a = refl

    agreed_all_plain : (es : Expressions) → EachInAll (IsSameIn s t) es → are_plain t es ≡ are_plain s es
    agreed_all_plain no_expressions a = refl
    agreed_all_plain (expression e es) a = λ i. agreed_plain e a.0 i && agreed_all_plain es a.1 i

  agreed_bit : (n : Name) (x : Selects) (j : ℕ) → IsSameIn s t n → EachInSelects (IsSameIn s t) x → bit_at t n x j ≡ bit_at s n x j
  agreed_bit n x j a b =
      let p : named_place t no_values n x ≡ named_place s no_values n x = agreed_named s t no_values n x a b in
      λ i. bit_in (a i) n (word_of_cell (p i).cell) (natural_in ((p i).bits.low +ℤ pos j))

  agreed_widened : (g : Bool) (n : Name) (x : Selects) (j : ℕ) → IsSameIn s t n → EachInSelects (IsSameIn s t) x
      → widened_bit t g n x j ≡ widened_bit s g n x j
  agreed_widened g n x j a b =
      let h : AgreedSelects s t x = agreed_selects s t x b in
      let w : selects_width t (t n) x ≡ selects_width s (s n) x = λ i. h.width (a i) i in
      λ i. cond (nat_lt j (w i)) (agreed_bit n x j a b i) (cond g (agreed_bit n x (w i - 1) a b i) None)

  mutual
    pub agreed_copied : (e : Expression) (g : Bool) (j : ℕ) → EachIn (IsSameIn s t) e → copied t e g j ≡ copied s e g j
    agreed_copied (number k) g j a = refl
    agreed_copied (name n x) g j a = agreed_widened g n x j a.0 a.1
    agreed_copied (concatenation es) g j a = agreed_copied_in es j a
    agreed_copied (replication k es) g j a =
        let h : Agreed s t (replication k es) = agreed s t (replication k es) a in
        let m : AgreedParts s t es = agreed_parts s t es a.1 in
        λ i. cond (nat_lt j (h.width i)) (agreed_copied_in es (j % m.widths i) a.1 i) None
    agreed_copied (as_signed x) g j a = refl
    agreed_copied (as_unsigned x) g j a = refl
    agreed_copied (unary op x) g j a = refl
    agreed_copied (reduction op x) g j a = refl
    agreed_copied (binary op x y) g j a = refl
    agreed_copied (shift op x n) g j a = refl
    agreed_copied (power x n) g j a = refl
    agreed_copied (comparison op x y) g j a = refl
    agreed_copied (logical op x y) g j a = refl
    agreed_copied (conditional c x y) g j a = refl

    agreed_copied_in : (es : Expressions) (j : ℕ) → EachInAll (IsSameIn s t) es → copied_in t es j ≡ copied_in s es j
    agreed_copied_in no_expressions j a = refl
    agreed_copied_in (expression e es) j a =
        let h : Agreed s t e = agreed s t e a.0 in
        let m : AgreedParts s t es = agreed_parts s t es a.1 in
        λ i. cond (nat_lt j (m.widths i)) (agreed_copied_in es j a.1 i)
        (cond (nat_lt (j - m.widths i) (h.width i)) (agreed_copied e (h.sign i) (j - m.widths i) a.0 i) None)

  -- ---- what a target takes

  mutual
    pub agreed_takes : (x : Target) (u : Bit) (j : ℕ) → EachInTarget (IsSameIn s t) x → takes t x u j ≡ takes s x u j
    agreed_takes (place n x) u j a =
        let h : AgreedSelects s t x = agreed_selects s t x a.1 in
        λ i. agreed_reach s t (place n x) a i u.of_name u.word u.place
        && cond (agreed_selects_constant s t x a.1 i)
        (is_same_cell (natural_in (pos u.place -ℤ (agreed_named s t no_values n x a.0 a.1 i).bits.low)) j)
        (nat_lt j (h.width (a.0 i) i))
    agreed_takes (joined xs) u j a = agreed_one_takes xs u j a

    agreed_one_takes : (xs : Targets) (u : Bit) (j : ℕ) → EachInTargets (IsSameIn s t) xs → one_takes t xs u j ≡ one_takes s xs u j
    agreed_one_takes no_targets u j a = refl
    agreed_one_takes (target x xs) u j a =
        λ i. (not (nat_lt j (agreed_targets_width s t xs a.1 i)) && agreed_takes x u (j - agreed_targets_width s t xs a.1 i) a.0 i)
        || (not (is_in (agreed_surely s t x a.0 i) u) && agreed_one_takes xs u j a.1 i)

  mutual
    pub agreed_indexes : (x : Target) (u : Bit) → EachInTarget (IsSameIn s t) x → index_reads t x u ≡ index_reads s x u
    agreed_indexes (place n x) u a = λ i m k b. agreed_reach s t (place n x) a i u.of_name u.word u.place && agreed_selects_read s t x a.1 i m k b
    agreed_indexes (joined xs) u a = λ i m k b. agreed_one_index xs u a i m k b

    agreed_one_index : (xs : Targets) (u : Bit) → EachInTargets (IsSameIn s t) xs → one_index_reads t xs u ≡ one_index_reads s xs u
    agreed_one_index no_targets u a = refl
    agreed_one_index (target x xs) u a =
        λ i m k b. agreed_indexes x u a.0 i m k b || (not (is_in (agreed_surely s t x a.0 i) u) && agreed_one_index xs u a.1 i m k b)

-- ---- what gives a bit its value

-- from the one pair of scopes to the other
pub given_agreed : (s t q r : Scope) (x : Target) (e : Expression) → EachInTarget (IsSameIn s t) x → EachIn (IsSameIn q r) e → (u y : Bit)
    → IsGivenBy s x q e u y → IsGivenBy t x r e u y
given_agreed s t q r x e a b u y (IsGivenBy.copied_to j p l k c) =
    let h : Agreed q r e = agreed q r e b in
    IsGivenBy.copied_to j (agreed_plain q r e b ∙ p) (ap (nat_lt j) (agreed_target_width s t x a) ∙ l) (agreed_takes s t x u j a ∙ k)
    ((λ i. agreed_copied q r e (h.sign i) j b i) ∙ c)
given_agreed s t q r x e a b u y (IsGivenBy.computed p k h) =
    IsGivenBy.computed (ap not (agreed_plain q r e b) ∙ p) ((λ i. agreed_reach s t x a i u.of_name u.word u.place) ∙ k)
    ((λ i. is_in (agreed_reads q r e b i) y) ∙ h)

-- ---- both ways

module _ (s t : Scope) where
  turned : (n : Name) → IsSameIn s t n → IsSameIn t s n
  turned n a = sym a

  pub expression_turned : (e : Expression) → EachIn (IsSameIn s t) e → EachIn (IsSameIn t s) e
  expression_turned e = each_follows (IsSameIn s t) (IsSameIn t s) turned e

  pub target_turned : (x : Target) → EachInTarget (IsSameIn s t) x → EachInTarget (IsSameIn t s) x
  target_turned x = target_follows (IsSameIn s t) (IsSameIn t s) turned x

  pub statement_turned : (x : Statement) → EachInStatement (IsSameIn s t) x → EachInStatement (IsSameIn t s) x
  statement_turned x = statement_follows (IsSameIn s t) (IsSameIn t s) turned x

pub given_both_ways : (s t q r : Scope) (x : Target) (e : Expression) (u y : Bit) → EachInTarget (IsSameIn s t) x → EachIn (IsSameIn q r) e
    → IsGivenBy t x r e u y ↔ IsGivenBy s x q e u y
given_both_ways s t q r x e u y a b =
    (given_agreed t s r q x e (target_turned s t x a) (expression_turned q r e b) u y, given_agreed s t q r x e a b u y)

-- ---- what a bit rests on after a statement

-- what one account of what was before says, the other one says
abbrev GoesOver : (B C : Dependences) → Type 0
GoesOver B C = (u y : Bit) → B u y → C u y

reads_over : (B C : Dependences) (p q : BitSet) → q ≡ p → GoesOver B C → (y : Bit) → ThroughReads B p y → ThroughReads C q y
reads_over B C p q e go y h = (h.0, (λ i. is_in (e i) h.0) ∙ h.1, go h.0 y h.2)

module _ (s t : Scope) where
  assignment_agreed : (x : Target) (e : Expression) (B C : Dependences) → EachInTarget (IsSameIn s t) x → EachIn (IsSameIn s t) e → GoesOver B C
      → (u y : Bit) → AfterAssignment s B x e u y → AfterAssignment t C x e u y
  assignment_agreed x e B C a b go u y (AfterAssignment.kept n h) =
      AfterAssignment.kept ((λ i. not (is_in (agreed_surely s t x a i) u)) ∙ n) (go u y h)
  assignment_agreed x e B C a b go u y (AfterAssignment.given z g h) = AfterAssignment.given z (given_agreed s t s t x e a b u z g) (go z y h)
  assignment_agreed x e B C a b go u y (AfterAssignment.indexed h) =
      AfterAssignment.indexed (reads_over B C (index_reads s x u) (index_reads t x u) (agreed_indexes s t x u a) go y h)

  mutual
    pub after_agreed : (x : Statement) (B C : Dependences) → EachInStatement (IsSameIn s t) x → GoesOver B C → GoesOver (After s B x) (After t C x)
    after_agreed empty B C a go u y h = go u y h
    after_agreed (blocking x e) B C a go u y h = assignment_agreed x e B C a.0 a.1 go u y h
    after_agreed (nonblocking x e) B C a go u y h = go u y h
    after_agreed (if_then c x) B C a go u y h =
        choice_there _ _ _ _ _ _ _ _ (λ i. agreed_assign s t x a.1 i u.of_name u.word u.place)
        (reads_over B C _ _ (agreed_reads s t c a.0) go y) (sum_there _ _ _ _ (after_agreed x B C a.1 go u y) (go u y)) (go u y) h
    after_agreed (if_else c x z) B C a go u y h =
        choice_there _ _ _ _ _ _ _ _
        (λ i. agreed_assign s t x a.1 i u.of_name u.word u.place || agreed_assign s t z a.2 i u.of_name u.word u.place)
        (reads_over B C _ _ (agreed_reads s t c a.0) go y) (sum_there _ _ _ _ (after_agreed x B C a.1 go u y) (after_agreed z B C a.2 go u y)) (go u y) h
    after_agreed (case kind e items) B C a go u y h =
        choice_there _ _ _ _ _ _ _ _ (λ i. agreed_assign_in_case s t items a.1 i u.of_name u.word u.place)
        (reads_over B C _ _ (λ i. or_in (agreed_reads s t e a.0 i) (agreed_items_read s t items a.1 i)) go y)
        (sum_there _ _ _ _ (arms_agreed items B C a.1 go u y) (no_arm_there _ _ _ _ (agreed_full s t kind e items a.0 a.1) (go u y))) (go u y) h
    after_agreed (block n xs) B C a go u y h = all_agreed xs B C a go u y h

    all_agreed : (xs : Statements) (B C : Dependences) → EachInStatements (IsSameIn s t) xs → GoesOver B C → GoesOver (AfterAll s B xs) (AfterAll t C xs)
    all_agreed no_statements B C a go u y h = go u y h
    all_agreed (statement x xs) B C a go u y h = all_agreed xs (After s B x) (After t C x) a.1 (after_agreed x B C a.0 go) u y h

    arms_agreed : (items : CaseItems) (B C : Dependences) → EachInItems (IsSameIn s t) items → GoesOver B C
        → GoesOver (AfterArms s B items) (AfterArms t C items)
    arms_agreed no_items B C a go u y h = absurd h
    arms_agreed (arm es x items) B C a go u y h = sum_there _ _ _ _ (after_agreed x B C a.1 go u y) (arms_agreed items B C a.2 go u y) h
    arms_agreed (default_arm x items) B C a go u y h = sum_there _ _ _ _ (after_agreed x B C a.0 go u y) (arms_agreed items B C a.1 go u y) h

pub after_both_ways : (s t : Scope) (x : Statement) → EachInStatement (IsSameIn s t) x → (u y : Bit) → After t at_start x u y ↔ After s at_start x u y
after_both_ways s t x a u y =
    (after_agreed t s x at_start at_start (statement_turned s t x a) (λ z w h. h) u y, after_agreed s t x at_start at_start a (λ z w h. h) u y)
