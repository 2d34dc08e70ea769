-- Scopes that agree on each name in a tree agree on what is constant in it, and on the bits that it reads and assigns.
use Rattle.std.proofs.Common.{◌≡◌, ℕ, zero, suc, ◌^◌, max, Bool, true, false, cond, ◌&&◌, ◌||◌, ◌==◌, nat_le, List, [], ◌∷◌, refl, ap, ◌∙◌, subst, is_some, is_none, option_and_then}
use Rattle.std.proofs.lemmas.Bool.{false≢true}
use Rattle.wb_values.specs.Value.{Name, same_name}
use Rattle.verilog_trees.specs.Syntax.{Expression, number, name, concatenation, replication, as_signed, as_unsigned, unary, reduction, binary, shift, power, comparison, logical, conditional, Expressions, no_expressions, expression, Select, index, part, part_up, part_down, Selects, whole, one, two, Target, place, joined, Targets, no_targets, target, CaseKind, exact_case, wild_case, Statement, empty, blocking, nonblocking, if_then, if_else, case, block, Statements, no_statements, statement, CaseItems, no_items, arm, default_arm}
use Rattle.verilog_meaning.specs.Expression.{Object, Scope, is_memory, word_number, no_values, width_of, sign_of}
use Rattle.verilog_meaning.specs.Statement.{items_width, items_signed}
use Rattle.verilog_meaning.specs.Register.{is_constant, are_constant, select_is_constant, selects_are_constant, is_within, may_mean_bit, is_word_number, may_mean_word, may_mean, may_reach, may_reach_one, may_assign, may_assign_in_all, may_assign_in_case, is_bit_of, one_may_assign, counts}
use Rattle.verilog_meaning.specs.Settled.{one_may_reach}
use Rattle.verilog_settled.specs.Locality.{has_constant_selects, all_have_constant_selects}
use Rattle.verilog_designs.specs.Reads.{BitSet, no_bits, or_in, and_in, but_not_in, reads, reads_in_all, select_reads, selects_read, target_reads, targets_read, items_read, surely_reaches, one_surely_reaches, has_default, one_is, items_have, items_have_all, is_full, surely_assigns, one_surely_assigns, each_arm_assigns, reads_after, all_read_after, arms_read_after}
use Rattle.verilog_renamed.specs.EachName.{EachIn, EachInAll, EachInSelect, EachInSelects, EachInTarget, EachInTargets, EachInStatement, EachInStatements, EachInItems, EachInAssignments, EachInBlocks}
use Rattle.verilog_renamed.specs.Agreement.{IsSameIn}
use Rattle.verilog_renamed.proofs.Paths.{is_name, either_way, first_of_both}
use Rattle.verilog_renamed.proofs.AgreedExpressions.{Agreed, AgreedSelect, agreed, agreed_select}
use Rattle.verilog_renamed.proofs.AgreedStatements.{agreed_items_width, agreed_items_signed}

module _ (s t : Scope) where
  -- ---- constants

  mutual
    pub agreed_constant : (e : Expression) → EachIn (IsSameIn s t) e → is_constant t e ≡ is_constant s e
    agreed_constant (number k) a = refl
    agreed_constant (name n x) a = λ i. is_some (a.0 i).constant && agreed_selects_constant x a.1 i
    agreed_constant (concatenation es) a = agreed_parts_constant es a
    agreed_constant (replication k es) a = agreed_parts_constant es a.1
    agreed_constant (as_signed x) a = agreed_constant x a
    agreed_constant (as_unsigned x) a = agreed_constant x a
    agreed_constant (unary op x) a = agreed_constant x a
    agreed_constant (reduction op x) a = agreed_constant x a
    agreed_constant (binary op x y) a = λ i. agreed_constant x a.0 i && agreed_constant y a.1 i
    agreed_constant (shift op x y) a = λ i. agreed_constant x a.0 i && agreed_constant y a.1 i
    agreed_constant (power x y) a = λ i. agreed_constant x a.0 i && agreed_constant y a.1 i
    agreed_constant (comparison op x y) a = λ i. agreed_constant x a.0 i && agreed_constant y a.1 i
    agreed_constant (logical op x y) a = λ i. agreed_constant x a.0 i && agreed_constant y a.1 i
    agreed_constant (conditional c x y) a = λ i. agreed_constant c a.0 i && (agreed_constant x a.1 i && agreed_constant y a.2 i)

    agreed_parts_constant : (es : Expressions) → EachInAll (IsSameIn s t) es → are_constant t es ≡ are_constant s es
    agreed_parts_constant no_expressions a = refl
    agreed_parts_constant (expression e es) a = λ i. agreed_constant e a.0 i && agreed_parts_constant es a.1 i

    agreed_select_constant : (x : Select) → EachInSelect (IsSameIn s t) x → select_is_constant t x ≡ select_is_constant s x
    agreed_select_constant (index j) a = agreed_constant j a
    agreed_select_constant (part h l) a = refl
    agreed_select_constant (part_up b n) a = agreed_constant b a.0
    agreed_select_constant (part_down b n) a = agreed_constant b a.0

    pub agreed_selects_constant : (x : Selects) → EachInSelects (IsSameIn s t) x → selects_are_constant t x ≡ selects_are_constant s x
    agreed_selects_constant whole a = refl
    agreed_selects_constant (one x) a = agreed_select_constant x a
    agreed_selects_constant (two x y) a = λ i. agreed_select_constant x a.0 i && agreed_select_constant y a.1 i

  agreed_means_bit : (o : Object) (x : Select) (b : ℕ) → EachInSelect (IsSameIn s t) x → may_mean_bit t o x b ≡ may_mean_bit s o x b
  agreed_means_bit o x b a =
      let h : AgreedSelect s t x = agreed_select s t x a in
      λ i. cond (agreed_select_constant x a i) (is_within (h.bits no_values o i) b) true

  agreed_means_word : (o : Object) (x : Select) (k : ℕ) → EachInSelect (IsSameIn s t) x → may_mean_word t o x k ≡ may_mean_word s o x k
  agreed_means_word o x k a =
      let h : AgreedSelect s t x = agreed_select s t x a in
      λ i. cond (agreed_select_constant x a i) (is_word_number (option_and_then (λ z. word_number z (h.place no_values i)) o.addresses) k) true

  pub agreed_may_mean : (x : Selects) → EachInSelects (IsSameIn s t) x → (o : Object) (k b : ℕ) → may_mean t o x k b ≡ may_mean s o x k b
  agreed_may_mean whole a o k b = refl
  agreed_may_mean (one x) a o k b = λ i. cond (is_memory o) (agreed_means_word o x k a i) (agreed_means_bit o x b a i)
  agreed_may_mean (two x y) a o k b = λ i. agreed_means_word o x k a.0 i && agreed_means_bit o y b a.1 i

  mutual
    pub agreed_constant_selects : (x : Target) → EachInTarget (IsSameIn s t) x → has_constant_selects t x ≡ has_constant_selects s x
    agreed_constant_selects (place n x) a = agreed_selects_constant x a.1
    agreed_constant_selects (joined xs) a = agreed_all_constant_selects xs a

    agreed_all_constant_selects : (xs : Targets) → EachInTargets (IsSameIn s t) xs → all_have_constant_selects t xs ≡ all_have_constant_selects s xs
    agreed_all_constant_selects no_targets a = refl
    agreed_all_constant_selects (target x xs) a = λ i. agreed_constant_selects x a.0 i && agreed_all_constant_selects xs a.1 i

  -- ---- what may be assigned

  mutual
    pub agreed_reach : (x : Target) → EachInTarget (IsSameIn s t) x → may_reach t x ≡ may_reach s x
    agreed_reach (place m x) a = λ i n k b. same_name m n && agreed_may_mean x a.1 (a.0 i) k b i
    agreed_reach (joined xs) a = λ i n k b. agreed_reach_one xs a i n k b

    agreed_reach_one : (xs : Targets) → EachInTargets (IsSameIn s t) xs → may_reach_one t xs ≡ may_reach_one s xs
    agreed_reach_one no_targets a = refl
    agreed_reach_one (target x xs) a = λ i n k b. agreed_reach x a.0 i n k b || agreed_reach_one xs a.1 i n k b

  pub agreed_reach_any : (xs : List (Target × Expression)) → EachInAssignments (IsSameIn s t) xs → one_may_reach t xs ≡ one_may_reach s xs
  agreed_reach_any [] a = refl
  agreed_reach_any (x ∷ xs) a = λ i n k b. agreed_reach x.0 a.0.0 i n k b || agreed_reach_any xs a.1 i n k b

  mutual
    pub agreed_assign : (x : Statement) → EachInStatement (IsSameIn s t) x → may_assign t x ≡ may_assign s x
    agreed_assign empty a = refl
    agreed_assign (blocking x e) a = λ i n k b. agreed_reach x a.0 i n k b
    agreed_assign (nonblocking x e) a = λ i n k b. agreed_reach x a.0 i n k b
    agreed_assign (if_then c x) a = λ i n k b. agreed_assign x a.1 i n k b
    agreed_assign (if_else c x y) a = λ i n k b. agreed_assign x a.1 i n k b || agreed_assign y a.2 i n k b
    agreed_assign (case kind e items) a = λ i n k b. agreed_assign_in_case items a.1 i n k b
    agreed_assign (block m xs) a = λ i n k b. agreed_assign_in_all xs a i n k b

    agreed_assign_in_all : (xs : Statements) → EachInStatements (IsSameIn s t) xs → may_assign_in_all t xs ≡ may_assign_in_all s xs
    agreed_assign_in_all no_statements a = refl
    agreed_assign_in_all (statement x xs) a = λ i n k b. agreed_assign x a.0 i n k b || agreed_assign_in_all xs a.1 i n k b

    pub agreed_assign_in_case : (items : CaseItems) → EachInItems (IsSameIn s t) items → may_assign_in_case t items ≡ may_assign_in_case s items
    agreed_assign_in_case no_items a = refl
    agreed_assign_in_case (arm es x items) a = λ i n k b. agreed_assign x a.1 i n k b || agreed_assign_in_case items a.2 i n k b
    agreed_assign_in_case (default_arm x items) a = λ i n k b. agreed_assign x a.0 i n k b || agreed_assign_in_case items a.1 i n k b

  pub agreed_assign_any : (xs : List Statement) → EachInBlocks (IsSameIn s t) xs → one_may_assign t xs ≡ one_may_assign s xs
  agreed_assign_any [] a = refl
  agreed_assign_any (x ∷ xs) a = λ i n k b. agreed_assign x a.0 i n k b || agreed_assign_any xs a.1 i n k b

  -- ---- what is assigned is agreed on

  mutual
    reached_agrees : (x : Target) (n : Name) (k b : ℕ) → EachInTarget (IsSameIn s t) x → may_reach s x n k b ≡ true → IsSameIn s t n
    reached_agrees (place m x) n k b a h = subst (IsSameIn s t) (is_name m n (first_of_both (same_name m n) (may_mean s (s m) x k b) h)) a.0
    reached_agrees (joined xs) n k b a h = one_reached_agrees xs n k b a h

    one_reached_agrees : (xs : Targets) (n : Name) (k b : ℕ) → EachInTargets (IsSameIn s t) xs → may_reach_one s xs n k b ≡ true → IsSameIn s t n
    one_reached_agrees no_targets n k b a h = absurd (false≢true h)
    one_reached_agrees (target x xs) n k b a h =
        either_way (may_reach s x n k b) (may_reach_one s xs n k b) h (reached_agrees x n k b a.0) (one_reached_agrees xs n k b a.1)

  mutual
    assigned_agrees : (x : Statement) (n : Name) (k b : ℕ) → EachInStatement (IsSameIn s t) x → may_assign s x n k b ≡ true → IsSameIn s t n
    assigned_agrees empty n k b a h = absurd (false≢true h)
    assigned_agrees (blocking x e) n k b a h = reached_agrees x n k b a.0 h
    assigned_agrees (nonblocking x e) n k b a h = reached_agrees x n k b a.0 h
    assigned_agrees (if_then c x) n k b a h = assigned_agrees x n k b a.1 h
    assigned_agrees (if_else c x y) n k b a h =
        either_way (may_assign s x n k b) (may_assign s y n k b) h (assigned_agrees x n k b a.1) (assigned_agrees y n k b a.2)
    assigned_agrees (case kind e items) n k b a h = assigned_in_case_agrees items n k b a.1 h
    assigned_agrees (block m xs) n k b a h = assigned_in_all_agrees xs n k b a h

    assigned_in_all_agrees : (xs : Statements) (n : Name) (k b : ℕ) → EachInStatements (IsSameIn s t) xs → may_assign_in_all s xs n k b ≡ true → IsSameIn s t n
    assigned_in_all_agrees no_statements n k b a h = absurd (false≢true h)
    assigned_in_all_agrees (statement x xs) n k b a h =
        either_way (may_assign s x n k b) (may_assign_in_all s xs n k b) h (assigned_agrees x n k b a.0) (assigned_in_all_agrees xs n k b a.1)

    assigned_in_case_agrees : (items : CaseItems) (n : Name) (k b : ℕ) → EachInItems (IsSameIn s t) items → may_assign_in_case s items n k b ≡ true
        → IsSameIn s t n
    assigned_in_case_agrees no_items n k b a h = absurd (false≢true h)
    assigned_in_case_agrees (arm es x items) n k b a h =
        either_way (may_assign s x n k b) (may_assign_in_case s items n k b) h (assigned_agrees x n k b a.1) (assigned_in_case_agrees items n k b a.2)
    assigned_in_case_agrees (default_arm x items) n k b a h =
        either_way (may_assign s x n k b) (may_assign_in_case s items n k b) h (assigned_agrees x n k b a.0) (assigned_in_case_agrees items n k b a.1)

  one_assigned_agrees : (xs : List Statement) (n : Name) (k b : ℕ) → EachInBlocks (IsSameIn s t) xs → one_may_assign s xs n k b ≡ true → IsSameIn s t n
  one_assigned_agrees [] n k b a h = absurd (false≢true h)
  one_assigned_agrees (x ∷ xs) n k b a h =
      either_way (may_assign s x n k b) (one_may_assign s xs n k b) h (assigned_agrees x n k b a.0) (one_assigned_agrees xs n k b a.1)

  neither : (c d : Bool) → (c && false) ≡ (d && false)
  neither true true = refl
  neither true false = refl
  neither false true = refl
  neither false false = refl

  pub agreed_counts : (xs : List Statement) → EachInBlocks (IsSameIn s t) xs → counts t xs ≡ counts s xs
  agreed_counts xs a =
      λ i n k b. ((λ j. is_bit_of (t n) k b && agreed_assign_any xs a j n k b) ∙ by_test n k b (one_may_assign s xs n k b) refl) i
    where
      by_test : (n : Name) (k b : ℕ) (c : Bool) → one_may_assign s xs n k b ≡ c → (is_bit_of (t n) k b && c) ≡ (is_bit_of (s n) k b && c)
      by_test n k b true e = ap (λ o. is_bit_of o k b && true) (one_assigned_agrees xs n k b a e)
      by_test n k b false e = neither (is_bit_of (t n) k b) (is_bit_of (s n) k b)

  -- ---- what is read

  mutual
    pub agreed_reads : (e : Expression) → EachIn (IsSameIn s t) e → reads t e ≡ reads s e
    agreed_reads (number k) a = refl
    agreed_reads (name m x) a =
        λ i. or_in
        (λ n k b. same_name m n
        && (is_none (a.0 i).constant
        && (is_bit_of (a.0 i) k b && cond (agreed_selects_constant x a.1 i) (agreed_may_mean x a.1 (a.0 i) k b i) true)))
        (agreed_selects_read x a.1 i)
    agreed_reads (concatenation es) a = agreed_all_read es a
    agreed_reads (replication k es) a = agreed_all_read es a.1
    agreed_reads (as_signed x) a = agreed_reads x a
    agreed_reads (as_unsigned x) a = agreed_reads x a
    agreed_reads (unary op x) a = agreed_reads x a
    agreed_reads (reduction op x) a = agreed_reads x a
    agreed_reads (binary op x y) a = λ i. or_in (agreed_reads x a.0 i) (agreed_reads y a.1 i)
    agreed_reads (shift op x n) a = λ i. or_in (agreed_reads x a.0 i) (agreed_reads n a.1 i)
    agreed_reads (power x n) a = λ i. or_in (agreed_reads x a.0 i) (agreed_reads n a.1 i)
    agreed_reads (comparison op x y) a = λ i. or_in (agreed_reads x a.0 i) (agreed_reads y a.1 i)
    agreed_reads (logical op x y) a = λ i. or_in (agreed_reads x a.0 i) (agreed_reads y a.1 i)
    agreed_reads (conditional c x y) a = λ i. or_in (agreed_reads c a.0 i) (or_in (agreed_reads x a.1 i) (agreed_reads y a.2 i))

    agreed_all_read : (es : Expressions) → EachInAll (IsSameIn s t) es → reads_in_all t es ≡ reads_in_all s es
    agreed_all_read no_expressions a = refl
    agreed_all_read (expression e es) a = λ i. or_in (agreed_reads e a.0 i) (agreed_all_read es a.1 i)

    agreed_select_reads : (x : Select) → EachInSelect (IsSameIn s t) x → select_reads t x ≡ select_reads s x
    agreed_select_reads (index j) a = agreed_reads j a
    agreed_select_reads (part h l) a = refl
    agreed_select_reads (part_up b n) a = agreed_reads b a.0
    agreed_select_reads (part_down b n) a = agreed_reads b a.0

    pub agreed_selects_read : (x : Selects) → EachInSelects (IsSameIn s t) x → selects_read t x ≡ selects_read s x
    agreed_selects_read whole a = refl
    agreed_selects_read (one x) a = agreed_select_reads x a
    agreed_selects_read (two x y) a = λ i. or_in (agreed_select_reads x a.0 i) (agreed_select_reads y a.1 i)

  mutual
    pub agreed_target_reads : (x : Target) → EachInTarget (IsSameIn s t) x → target_reads t x ≡ target_reads s x
    agreed_target_reads (place n x) a = agreed_selects_read x a.1
    agreed_target_reads (joined xs) a = agreed_targets_read xs a

    agreed_targets_read : (xs : Targets) → EachInTargets (IsSameIn s t) xs → targets_read t xs ≡ targets_read s xs
    agreed_targets_read no_targets a = refl
    agreed_targets_read (target x xs) a = λ i. or_in (agreed_target_reads x a.0 i) (agreed_targets_read xs a.1 i)

  pub agreed_items_read : (items : CaseItems) → EachInItems (IsSameIn s t) items → items_read t items ≡ items_read s items
  agreed_items_read no_items a = refl
  agreed_items_read (arm es x items) a = λ i. or_in (agreed_all_read es a.0 i) (agreed_items_read items a.2 i)
  agreed_items_read (default_arm x items) a = agreed_items_read items a.1

  -- ---- what is assigned on each path

  mutual
    pub agreed_surely : (x : Target) → EachInTarget (IsSameIn s t) x → surely_reaches t x ≡ surely_reaches s x
    agreed_surely (place m x) a = λ i n k b. same_name m n && (agreed_selects_constant x a.1 i && agreed_may_mean x a.1 (a.0 i) k b i)
    agreed_surely (joined xs) a = λ i n k b. agreed_one_surely xs a i n k b

    agreed_one_surely : (xs : Targets) → EachInTargets (IsSameIn s t) xs → one_surely_reaches t xs ≡ one_surely_reaches s xs
    agreed_one_surely no_targets a = refl
    agreed_one_surely (target x xs) a = λ i n k b. agreed_surely x a.0 i n k b || agreed_one_surely xs a.1 i n k b

  agreed_one_is : (w : ℕ) (g : Bool) (y : ℕ) (es : Expressions) → EachInAll (IsSameIn s t) es → one_is t w g y es ≡ one_is s w g y es
  agreed_one_is w g y no_expressions a = refl
  agreed_one_is w g y (expression e es) a =
      let h : Agreed s t e = agreed s t e a.0 in
      λ i. (agreed_constant e a.0 i && (h.value no_values w g i == y)) || agreed_one_is w g y es a.1 i

  agreed_have : (w : ℕ) (g : Bool) (y : ℕ) (items : CaseItems) → EachInItems (IsSameIn s t) items → items_have t w g y items ≡ items_have s w g y items
  agreed_have w g y no_items a = refl
  agreed_have w g y (arm es x items) a = λ i. agreed_one_is w g y es a.0 i || agreed_have w g y items a.2 i
  agreed_have w g y (default_arm x items) a = agreed_have w g y items a.1

  agreed_have_all : (w : ℕ) (g : Bool) (n : ℕ) (items : CaseItems) → EachInItems (IsSameIn s t) items
      → items_have_all t w g n items ≡ items_have_all s w g n items
  agreed_have_all w g zero items a = refl
  agreed_have_all w g (suc n) items a = λ i. agreed_have w g n items a i && agreed_have_all w g n items a i

  pub agreed_full : (kind : CaseKind) (e : Expression) (items : CaseItems) → EachIn (IsSameIn s t) e → EachInItems (IsSameIn s t) items
      → is_full t kind e items ≡ is_full s kind e items
  agreed_full wild_case e items a b = refl
  agreed_full exact_case e items a b =
      let h : Agreed s t e = agreed s t e a in
      let w : max (width_of t e) (items_width t items) ≡ max (width_of s e) (items_width s items) = λ i. max (h.width i) (agreed_items_width s t items b i) in
      let g : (sign_of t e && items_signed t items) ≡ (sign_of s e && items_signed s items) = λ i. h.sign i && agreed_items_signed s t items b i in
      λ i. has_default items || (nat_le (w i) 8 && agreed_have_all (w i) (g i) (2 ^ w i) items b i)

  mutual
    pub agreed_surely_assigns : (x : Statement) → EachInStatement (IsSameIn s t) x → surely_assigns t x ≡ surely_assigns s x
    agreed_surely_assigns empty a = refl
    agreed_surely_assigns (blocking x e) a = agreed_surely x a.0
    agreed_surely_assigns (nonblocking x e) a = refl
    agreed_surely_assigns (if_then c x) a = refl
    agreed_surely_assigns (if_else c x y) a = λ i. and_in (agreed_surely_assigns x a.1 i) (agreed_surely_assigns y a.2 i)
    agreed_surely_assigns (case kind e items) a = λ i. cond (agreed_full kind e items a.0 a.1 i) (agreed_each_arm items a.1 i) no_bits
    agreed_surely_assigns (block n xs) a = agreed_one_assigns xs a

    agreed_one_assigns : (xs : Statements) → EachInStatements (IsSameIn s t) xs → one_surely_assigns t xs ≡ one_surely_assigns s xs
    agreed_one_assigns no_statements a = refl
    agreed_one_assigns (statement x xs) a = λ i. or_in (agreed_surely_assigns x a.0 i) (agreed_one_assigns xs a.1 i)

    agreed_each_arm : (items : CaseItems) → EachInItems (IsSameIn s t) items → each_arm_assigns t items ≡ each_arm_assigns s items
    agreed_each_arm no_items a = refl
    agreed_each_arm (arm es x items) a = λ i n k b. agreed_surely_assigns x a.1 i n k b && agreed_each_arm items a.2 i n k b
    agreed_each_arm (default_arm x items) a = λ i n k b. agreed_surely_assigns x a.0 i n k b && agreed_each_arm items a.1 i n k b

  -- ---- what is read from outside

  mutual
    pub agreed_reads_after : (done : BitSet) (x : Statement) → EachInStatement (IsSameIn s t) x → reads_after t done x ≡ reads_after s done x
    agreed_reads_after done empty a = refl
    agreed_reads_after done (blocking x e) a = λ i. but_not_in (or_in (agreed_reads e a.1 i) (agreed_target_reads x a.0 i)) done
    agreed_reads_after done (nonblocking x e) a = λ i. but_not_in (or_in (agreed_reads e a.1 i) (agreed_target_reads x a.0 i)) done
    agreed_reads_after done (if_then c x) a = λ i. or_in (but_not_in (agreed_reads c a.0 i) done) (agreed_reads_after done x a.1 i)
    agreed_reads_after done (if_else c x y) a =
        λ i. or_in (but_not_in (agreed_reads c a.0 i) done) (or_in (agreed_reads_after done x a.1 i) (agreed_reads_after done y a.2 i))
    agreed_reads_after done (case kind e items) a =
        λ i. or_in (but_not_in (or_in (agreed_reads e a.0 i) (agreed_items_read items a.1 i)) done) (agreed_arms_after done items a.1 i)
    agreed_reads_after done (block n xs) a = agreed_all_after done xs a

    agreed_all_after : (done : BitSet) (xs : Statements) → EachInStatements (IsSameIn s t) xs → all_read_after t done xs ≡ all_read_after s done xs
    agreed_all_after done no_statements a = refl
    agreed_all_after done (statement x xs) a =
        λ i. or_in (agreed_reads_after done x a.0 i) (agreed_all_after (or_in done (agreed_surely_assigns x a.0 i)) xs a.1 i)

    agreed_arms_after : (done : BitSet) (items : CaseItems) → EachInItems (IsSameIn s t) items → arms_read_after t done items ≡ arms_read_after s done items
    agreed_arms_after done no_items a = refl
    agreed_arms_after done (arm es x items) a = λ i. or_in (agreed_reads_after done x a.1 i) (agreed_arms_after done items a.2 i)
    agreed_arms_after done (default_arm x items) a = λ i. or_in (agreed_reads_after done x a.0 i) (agreed_arms_after done items a.1 i)
