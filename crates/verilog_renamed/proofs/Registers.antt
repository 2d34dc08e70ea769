-- What is constant, and which bits a statement with other names may assign.
use Rattle.std.proofs.Common.{◌≡◌, ℕ, true, cond, ◌&&◌, ◌||◌, List, [], ◌∷◌, ◌++◌, refl, sym, ap, ◌∙◌, subst, is_some, option_and_then}
use Rattle.std.proofs.lemmas.Bool.{false≢true}
use Rattle.std.proofs.lemmas.List.{map-append}
use Rattle.wb_values.specs.Value.{Name, same_name, Valuation}
use Rattle.verilog_trees.specs.Syntax.{Expression, number, name, concatenation, replication, as_signed, as_unsigned, unary, reduction, binary, shift, power, comparison, logical, conditional, Expressions, no_expressions, expression, Select, index, part, part_up, part_down, Selects, whole, one, two, Target, place, joined, Targets, no_targets, target, Statement, empty, blocking, nonblocking, if_then, if_else, case, block, Statements, no_statements, statement, CaseItems, no_items, arm, default_arm}
use Rattle.verilog_meaning.specs.Expression.{Object, Scope, is_memory, word_number, no_values}
use Rattle.verilog_meaning.specs.Statement.{run, with_updates}
use Rattle.verilog_meaning.specs.Register.{is_constant, are_constant, select_is_constant, selects_are_constant, is_within, may_mean_bit, is_word_number, may_mean_word, may_mean, may_reach, may_reach_one, may_assign, may_assign_in_all, may_assign_in_case, is_bit_of, one_may_assign, counts, updates_of_blocks, after_edge}
use Rattle.verilog_meaning.specs.Settled.{one_may_reach}
use Rattle.verilog_designs.specs.Reads.{BitSet, no_bits, or_in, and_in}
use Rattle.verilog_renamed.specs.Renamed.{renamed_expression, renamed_expressions, renamed_select, renamed_selects, renamed_target, renamed_targets, renamed_statement, renamed_statements, renamed_case_items, renamed_assignments, renamed_blocks, renamed_update, renamed_updates}
use Rattle.verilog_renamed.specs.Laws.{IsOneToOne, KeepsOthers, AreRenamedBits}
use Rattle.verilog_renamed.proofs.Paths.{ap2, ap3, through, is_name, either_way, first_of_both, second_of_both}
use Rattle.verilog_renamed.proofs.Expressions.{same_select}
use Rattle.verilog_renamed.proofs.Statements.{same_run, same_updated, updated_keeps}

-- ---- constants

module _ (f : Name → Name) (t : Scope) where
  mutual
    pub same_constant : (e : Expression) → is_constant t (renamed_expression f e) ≡ is_constant (through f t) e
    same_constant (number k) = refl
    same_constant (name n x) = ap (λ b. is_some (t (f n)).constant && b) (same_selects_constant x)
    same_constant (concatenation es) = same_parts_constant es
    same_constant (replication k es) = same_parts_constant es
    same_constant (as_signed x) = same_constant x
    same_constant (as_unsigned x) = same_constant x
    same_constant (unary op x) = same_constant x
    same_constant (reduction op x) = same_constant x
    same_constant (binary op x y) = ap2 (λ a b. a && b) (same_constant x) (same_constant y)
    same_constant (shift op x y) = ap2 (λ a b. a && b) (same_constant x) (same_constant y)
    same_constant (power x y) = ap2 (λ a b. a && b) (same_constant x) (same_constant y)
    same_constant (comparison op x y) = ap2 (λ a b. a && b) (same_constant x) (same_constant y)
    same_constant (logical op x y) = ap2 (λ a b. a && b) (same_constant x) (same_constant y)
    same_constant (conditional c x y) = ap3 (λ a b d. a && (b && d)) (same_constant c) (same_constant x) (same_constant y)

    same_parts_constant : (es : Expressions) → are_constant t (renamed_expressions f es) ≡ are_constant (through f t) es
    same_parts_constant no_expressions = refl
    same_parts_constant (expression e es) = ap2 (λ a b. a && b) (same_constant e) (same_parts_constant es)

    pub same_select_constant : (x : Select) → select_is_constant t (renamed_select f x) ≡ select_is_constant (through f t) x
    same_select_constant (index i) = same_constant i
    same_select_constant (part h l) = refl
    same_select_constant (part_up b n) = same_constant b
    same_select_constant (part_down b n) = same_constant b

    pub same_selects_constant : (x : Selects) → selects_are_constant t (renamed_selects f x) ≡ selects_are_constant (through f t) x
    same_selects_constant whole = refl
    same_selects_constant (one x) = same_select_constant x
    same_selects_constant (two x y) = ap2 (λ a b. a && b) (same_select_constant x) (same_select_constant y)

  same_means_bit : (o : Object) (x : Select) (b : ℕ) → may_mean_bit t o (renamed_select f x) b ≡ may_mean_bit (through f t) o x b
  same_means_bit o x b =
      ap2 (λ c bits. cond c (is_within bits b) true) (same_select_constant x) ((same_select f t x).bits no_values o)

  same_means_word : (o : Object) (x : Select) (k : ℕ) → may_mean_word t o (renamed_select f x) k ≡ may_mean_word (through f t) o x k
  same_means_word o x k =
      ap2 (λ c i. cond c (is_word_number (option_and_then (λ a. word_number a i) o.addresses) k) true) (same_select_constant x)
      ((same_select f t x).place no_values)

  pub same_may_mean : (o : Object) (x : Selects) (k b : ℕ) → may_mean t o (renamed_selects f x) k b ≡ may_mean (through f t) o x k b
  same_may_mean o whole k b = refl
  same_may_mean o (one x) k b = ap2 (λ c d. cond (is_memory o) c d) (same_means_word o x k) (same_means_bit o x b)
  same_may_mean o (two x y) k b = ap2 (λ c d. c && d) (same_means_word o x k) (same_means_bit o y b)

-- ---- sets of bits

pub none_renamed : (f : Name → Name) → AreRenamedBits f no_bits no_bits
none_renamed f = record { same = λ n k b. refl; only = λ n k b h. absurd (false≢true h) }

pub or_renamed : (f : Name → Name) {p q x y : BitSet} → AreRenamedBits f p x → AreRenamedBits f q y → AreRenamedBits f (or_in p q) (or_in x y)
or_renamed f {p} {q} {x} {y} h g =
    record {
      same = λ n k b. ap2 (λ c d. c || d) (h.same n k b) (g.same n k b);
      only = λ n k b e. either_way (x n k b) (y n k b) e (h.only n k b) (g.only n k b);
    }

pub and_renamed : (f : Name → Name) {p q x y : BitSet} → AreRenamedBits f p x → AreRenamedBits f q y → AreRenamedBits f (and_in p q) (and_in x y)
and_renamed f {p} {q} {x} {y} h g =
    record {
      same = λ n k b. ap2 (λ c d. c && d) (h.same n k b) (g.same n k b);
      only = λ n k b e. h.only n k b (first_of_both (x n k b) (y n k b) e);
    }

-- ---- what may be assigned

module _ (f : Name → Name) (apart : IsOneToOne f) (t : Scope) where
  mutual
    pub same_reach : (x : Target) → AreRenamedBits f (may_reach (through f t) x) (may_reach t (renamed_target f x))
    same_reach (place m x) =
        record {
          same = λ n k b. ap2 (λ c d. c && d) (apart m n) (same_may_mean f t (t (f m)) x k b);
          only = λ n k b h. record { old = m; is_new = is_name (f m) n (first_of_both (same_name (f m) n) (may_mean t (t (f m)) (renamed_selects f x) k b) h) };
        }
    same_reach (joined xs) =
        let h : AreRenamedBits f (may_reach_one (through f t) xs) (may_reach_one t (renamed_targets f xs)) = same_reach_one xs in
        record { same = h.same; only = h.only }

    same_reach_one : (xs : Targets) → AreRenamedBits f (may_reach_one (through f t) xs) (may_reach_one t (renamed_targets f xs))
    same_reach_one no_targets = record { same = λ n k b. refl; only = λ n k b h. absurd (false≢true h) }
    same_reach_one (target x xs) =
        let h : AreRenamedBits f (or_in (may_reach (through f t) x) (may_reach_one (through f t) xs))
        (or_in (may_reach t (renamed_target f x)) (may_reach_one t (renamed_targets f xs))) = or_renamed f (same_reach x) (same_reach_one xs) in
        record { same = h.same; only = h.only }

  pub same_reach_any : (xs : List (Target × Expression)) → AreRenamedBits f (one_may_reach (through f t) xs) (one_may_reach t (renamed_assignments f xs))
  same_reach_any [] = record { same = λ n k b. refl; only = λ n k b h. absurd (false≢true h) }
  same_reach_any (x ∷ xs) =
      let h : AreRenamedBits f (or_in (may_reach (through f t) x.0) (one_may_reach (through f t) xs))
      (or_in (may_reach t (renamed_target f x.0)) (one_may_reach t (renamed_assignments f xs))) = or_renamed f (same_reach x.0) (same_reach_any xs) in
      record { same = h.same; only = h.only }

  mutual
    pub same_assign : (x : Statement) → AreRenamedBits f (may_assign (through f t) x) (may_assign t (renamed_statement f x))
    same_assign empty = record { same = λ n k b. refl; only = λ n k b h. absurd (false≢true h) }
    same_assign (blocking x e) =
        let h : AreRenamedBits f (may_reach (through f t) x) (may_reach t (renamed_target f x)) = same_reach x in
        record { same = h.same; only = h.only }
    same_assign (nonblocking x e) =
        let h : AreRenamedBits f (may_reach (through f t) x) (may_reach t (renamed_target f x)) = same_reach x in
        record { same = h.same; only = h.only }
    same_assign (if_then c x) =
        let h : AreRenamedBits f (may_assign (through f t) x) (may_assign t (renamed_statement f x)) = same_assign x in
        record { same = h.same; only = h.only }
    same_assign (if_else c x y) =
        let h : AreRenamedBits f (or_in (may_assign (through f t) x) (may_assign (through f t) y))
        (or_in (may_assign t (renamed_statement f x)) (may_assign t (renamed_statement f y))) = or_renamed f (same_assign x) (same_assign y) in
        record { same = h.same; only = h.only }
    same_assign (case kind e items) =
        let h : AreRenamedBits f (may_assign_in_case (through f t) items) (may_assign_in_case t (renamed_case_items f items)) = same_assign_in_case items in
        record { same = h.same; only = h.only }
    same_assign (block n xs) =
        let h : AreRenamedBits f (may_assign_in_all (through f t) xs) (may_assign_in_all t (renamed_statements f xs)) = same_assign_in_all xs in
        record { same = h.same; only = h.only }

    same_assign_in_all : (xs : Statements) → AreRenamedBits f (may_assign_in_all (through f t) xs) (may_assign_in_all t (renamed_statements f xs))
    same_assign_in_all no_statements = record { same = λ n k b. refl; only = λ n k b h. absurd (false≢true h) }
    same_assign_in_all (statement x xs) =
        let h : AreRenamedBits f (or_in (may_assign (through f t) x) (may_assign_in_all (through f t) xs))
        (or_in (may_assign t (renamed_statement f x)) (may_assign_in_all t (renamed_statements f xs))) = or_renamed f (same_assign x) (same_assign_in_all xs) in
        record { same = h.same; only = h.only }

    pub same_assign_in_case : (items : CaseItems) → AreRenamedBits f (may_assign_in_case (through f t) items) (may_assign_in_case t (renamed_case_items f items))
    same_assign_in_case no_items = record { same = λ n k b. refl; only = λ n k b h. absurd (false≢true h) }
    same_assign_in_case (arm es x items) =
        let h : AreRenamedBits f (or_in (may_assign (through f t) x) (may_assign_in_case (through f t) items))
        (or_in (may_assign t (renamed_statement f x)) (may_assign_in_case t (renamed_case_items f items))) = or_renamed f (same_assign x) (same_assign_in_case items) in
        record { same = h.same; only = h.only }
    same_assign_in_case (default_arm x items) =
        let h : AreRenamedBits f (or_in (may_assign (through f t) x) (may_assign_in_case (through f t) items))
        (or_in (may_assign t (renamed_statement f x)) (may_assign_in_case t (renamed_case_items f items))) = or_renamed f (same_assign x) (same_assign_in_case items) in
        record { same = h.same; only = h.only }

  pub same_assign_any : (xs : List Statement) → AreRenamedBits f (one_may_assign (through f t) xs) (one_may_assign t (renamed_blocks f xs))
  same_assign_any [] = record { same = λ n k b. refl; only = λ n k b h. absurd (false≢true h) }
  same_assign_any (x ∷ xs) =
      let h : AreRenamedBits f (or_in (may_assign (through f t) x) (one_may_assign (through f t) xs))
      (or_in (may_assign t (renamed_statement f x)) (one_may_assign t (renamed_blocks f xs))) = or_renamed f (same_assign x) (same_assign_any xs) in
      record { same = h.same; only = h.only }

  pub same_counts : (xs : List Statement) → AreRenamedBits f (counts (through f t) xs) (counts t (renamed_blocks f xs))
  same_counts xs =
      let h : AreRenamedBits f (one_may_assign (through f t) xs) (one_may_assign t (renamed_blocks f xs)) = same_assign_any xs in
      record {
        same = λ n k b. ap (λ c. is_bit_of (t (f n)) k b && c) (h.same n k b);
        only = λ n k b e. h.only n k b (second_of_both (is_bit_of (t n) k b) (one_may_assign t (renamed_blocks f xs) n k b) e);
      }

  -- ---- the clock's edge

  same_block_updates : (w : Valuation) (xs : List Statement)
      → updates_of_blocks t w (renamed_blocks f xs) ≡ renamed_updates f (updates_of_blocks (through f t) (through f w) xs)
  same_block_updates w [] = refl
  same_block_updates w (x ∷ xs) =
      ap2 (λ a b. a ++ b) (same_run f apart t x w).updates (same_block_updates w xs)
      ∙ sym (map-append (renamed_update f) (run (through f t) x (through f w)).updates (updates_of_blocks (through f t) (through f w) xs))

  pub same_edge : (w : Valuation) (xs : List Statement) → through f (after_edge t (renamed_blocks f xs) w) ≡ after_edge (through f t) xs (through f w)
  same_edge w xs =
      ap (λ us. through f (with_updates t w us)) (same_block_updates w xs)
      ∙ same_updated f apart t w (updates_of_blocks (through f t) (through f w) xs)

  pub edge_keeps : (w : Valuation) (xs : List Statement) → KeepsOthers f w (after_edge t (renamed_blocks f xs) w)
  edge_keeps w xs =
      subst (λ us. KeepsOthers f w (with_updates t w us)) (sym (same_block_updates w xs))
      (updated_keeps f t w (updates_of_blocks (through f t) (through f w) xs))
