-- The bits that expressions and statements with other names read, and those that they assign on each path.
use Rattle.std.proofs.Common.{◌≡◌, ℕ, zero, suc, ◌<◌, ◌^◌, max, Bool, true, false, cond, not, ◌&&◌, ◌||◌, ◌==◌, nat_le, ◌⊎◌, inl, inr, refl, sym, ◌∙◌, subst, IsTrue, is_none, arith}
use Rattle.std.proofs.lemmas.Bool.{false≢true}
use Rattle.std.proofs.lemmas.Nat.{pow_pos}
use Rattle.wb_values.specs.Value.{Name, same_name}
use Rattle.verilog_trees.specs.Syntax.{Expression, number, name, concatenation, replication, as_signed, as_unsigned, unary, reduction, binary, shift, power, comparison, logical, conditional, Expressions, no_expressions, expression, Select, index, part, part_up, part_down, Selects, whole, one, two, Target, place, joined, Targets, no_targets, target, CaseKind, exact_case, wild_case, Statement, empty, blocking, nonblocking, if_then, if_else, case, block, Statements, no_statements, statement, CaseItems, no_items, arm, default_arm}
use Rattle.verilog_meaning.specs.Expression.{Scope, no_values, width_of, sign_of}
use Rattle.verilog_meaning.specs.Statement.{items_width, items_signed}
use Rattle.verilog_meaning.specs.Register.{selects_are_constant, may_mean, is_bit_of}
use Rattle.verilog_designs.specs.Reads.{BitSet, no_bits, or_in, but_not_in, name_reads, reads, reads_in_all, select_reads, selects_read, target_reads, targets_read, items_read, surely_reaches, one_surely_reaches, has_default, one_is, items_have, items_have_all, is_full, surely_assigns, one_surely_assigns, each_arm_assigns, reads_after, all_read_after, arms_read_after}
use Rattle.verilog_renamed.specs.Renamed.{renamed_expression, renamed_expressions, renamed_select, renamed_selects, renamed_target, renamed_targets, renamed_statement, renamed_statements, renamed_case_items}
use Rattle.verilog_renamed.specs.Laws.{IsOneToOne, IsNewName, AreRenamedBits}
use Rattle.verilog_renamed.proofs.Paths.{ap2, ap3, through, is_name, first_of_both}
use Rattle.verilog_renamed.proofs.Expressions.{same}
use Rattle.verilog_renamed.proofs.Statements.{same_items_width, same_items_signed}
use Rattle.verilog_renamed.proofs.Registers.{same_constant, same_selects_constant, same_may_mean, none_renamed, or_renamed, and_renamed}

-- ---- what is read

module _ (f : Name → Name) (apart : IsOneToOne f) (t : Scope) where
  name_renamed : (m : Name) (x : Selects) → AreRenamedBits f (name_reads (through f t) m x) (name_reads t (f m) (renamed_selects f x))
  name_renamed m x =
      record {
        same = λ n k b.
            ap3 (λ p c d. p && (is_none (t (f m)).constant && (is_bit_of (t (f m)) k b && cond c d true))) (apart m n) (same_selects_constant f t x)
            (same_may_mean f t (t (f m)) x k b);
        only = λ n k b h.
            record {
              old = m;
              is_new =
                  is_name (f m) n
                  (first_of_both (same_name (f m) n)
                  (is_none (t (f m)).constant
                  && (is_bit_of (t (f m)) k b
                  && cond (selects_are_constant t (renamed_selects f x)) (may_mean t (t (f m)) (renamed_selects f x) k b) true)) h);
            };
      }

  mutual
    pub same_reads : (e : Expression) → AreRenamedBits f (reads (through f t) e) (reads t (renamed_expression f e))
    same_reads (number k) = none_renamed f
    same_reads (name n x) = or_renamed f (name_renamed n x) (same_selects_read x)
    same_reads (concatenation es) = same_all_read es
    same_reads (replication k es) = same_all_read es
    same_reads (as_signed x) = same_reads x
    same_reads (as_unsigned x) = same_reads x
    same_reads (unary op x) = same_reads x
    same_reads (reduction op x) = same_reads x
    same_reads (binary op x y) = or_renamed f (same_reads x) (same_reads y)
    same_reads (shift op x n) = or_renamed f (same_reads x) (same_reads n)
    same_reads (power x n) = or_renamed f (same_reads x) (same_reads n)
    same_reads (comparison op x y) = or_renamed f (same_reads x) (same_reads y)
    same_reads (logical op x y) = or_renamed f (same_reads x) (same_reads y)
    same_reads (conditional c x y) = or_renamed f (same_reads c) (or_renamed f (same_reads x) (same_reads y))

    same_all_read : (es : Expressions) → AreRenamedBits f (reads_in_all (through f t) es) (reads_in_all t (renamed_expressions f es))
    same_all_read no_expressions = none_renamed f
    same_all_read (expression e es) = or_renamed f (same_reads e) (same_all_read es)

    same_select_reads : (x : Select) → AreRenamedBits f (select_reads (through f t) x) (select_reads t (renamed_select f x))
    same_select_reads (index i) = same_reads i
    same_select_reads (part h l) = none_renamed f
    same_select_reads (part_up b n) = same_reads b
    same_select_reads (part_down b n) = same_reads b

    pub same_selects_read : (x : Selects) → AreRenamedBits f (selects_read (through f t) x) (selects_read t (renamed_selects f x))
    same_selects_read whole = none_renamed f
    same_selects_read (one x) = same_select_reads x
    same_selects_read (two x y) = or_renamed f (same_select_reads x) (same_select_reads y)

  mutual
    pub same_target_reads : (x : Target) → AreRenamedBits f (target_reads (through f t) x) (target_reads t (renamed_target f x))
    same_target_reads (place n x) = same_selects_read x
    same_target_reads (joined xs) = same_targets_read xs

    same_targets_read : (xs : Targets) → AreRenamedBits f (targets_read (through f t) xs) (targets_read t (renamed_targets f xs))
    same_targets_read no_targets = none_renamed f
    same_targets_read (target x xs) = or_renamed f (same_target_reads x) (same_targets_read xs)

  pub same_items_read : (items : CaseItems) → AreRenamedBits f (items_read (through f t) items) (items_read t (renamed_case_items f items))
  same_items_read no_items = none_renamed f
  same_items_read (arm es x items) = or_renamed f (same_all_read es) (same_items_read items)
  same_items_read (default_arm x items) = same_items_read items

  -- ---- what is assigned on each path

  mutual
    pub same_surely : (x : Target) → AreRenamedBits f (surely_reaches (through f t) x) (surely_reaches t (renamed_target f x))
    same_surely (place m x) =
        record {
          same = λ n k b. ap3 (λ p c d. p && (c && d)) (apart m n) (same_selects_constant f t x) (same_may_mean f t (t (f m)) x k b);
          only = λ n k b h.
              record {
                old = m;
                is_new =
                    is_name (f m) n
                    (first_of_both (same_name (f m) n)
                    (selects_are_constant t (renamed_selects f x) && may_mean t (t (f m)) (renamed_selects f x) k b) h);
              };
        }
    same_surely (joined xs) =
        let h : AreRenamedBits f (one_surely_reaches (through f t) xs) (one_surely_reaches t (renamed_targets f xs)) = same_one_surely xs in
        record { same = h.same; only = h.only }

    same_one_surely : (xs : Targets) → AreRenamedBits f (one_surely_reaches (through f t) xs) (one_surely_reaches t (renamed_targets f xs))
    same_one_surely no_targets = record { same = λ n k b. refl; only = λ n k b h. absurd (false≢true h) }
    same_one_surely (target x xs) =
        let h : AreRenamedBits f (or_in (surely_reaches (through f t) x) (one_surely_reaches (through f t) xs))
        (or_in (surely_reaches t (renamed_target f x)) (one_surely_reaches t (renamed_targets f xs))) = or_renamed f (same_surely x) (same_one_surely xs) in
        record { same = h.same; only = h.only }

-- ---- full cases

module _ (f : Name → Name) (t : Scope) where
  pub same_default : (items : CaseItems) → has_default (renamed_case_items f items) ≡ has_default items
  same_default no_items = refl
  same_default (arm es x items) = same_default items
  same_default (default_arm x items) = refl

  same_one_is : (w : ℕ) (g : Bool) (x : ℕ) (es : Expressions) → one_is t w g x (renamed_expressions f es) ≡ one_is (through f t) w g x es
  same_one_is w g x no_expressions = refl
  same_one_is w g x (expression e es) =
      ap3 (λ a b c. (a && (b == x)) || c) (same_constant f t e) ((same f t e).value no_values w g) (same_one_is w g x es)

  same_have : (w : ℕ) (g : Bool) (x : ℕ) (items : CaseItems) → items_have t w g x (renamed_case_items f items) ≡ items_have (through f t) w g x items
  same_have w g x no_items = refl
  same_have w g x (arm es y items) = ap2 (λ a b. a || b) (same_one_is w g x es) (same_have w g x items)
  same_have w g x (default_arm y items) = same_have w g x items

  same_have_all : (w : ℕ) (g : Bool) (n : ℕ) (items : CaseItems)
      → items_have_all t w g n (renamed_case_items f items) ≡ items_have_all (through f t) w g n items
  same_have_all w g zero items = refl
  same_have_all w g (suc n) items = ap2 (λ a b. a && b) (same_have w g n items) (same_have_all w g n items)

  pub same_full : (kind : CaseKind) (e : Expression) (items : CaseItems)
      → is_full t kind (renamed_expression f e) (renamed_case_items f items) ≡ is_full (through f t) kind e items
  same_full wild_case e items = same_default items
  same_full exact_case e items =
      let m : ℕ = max (width_of t (renamed_expression f e)) (items_width t (renamed_case_items f items)) in
      let g : Bool = sign_of t (renamed_expression f e) && items_signed t (renamed_case_items f items) in
      ap2 (λ a b. a || (nat_le m 8 && b)) (same_default items) (same_have_all m g (2 ^ m) items)
      ∙ ap2 (λ a b. has_default items || (nat_le a 8 && items_have_all (through f t) a b (2 ^ a) items))
      (ap2 max (same f t e).width (same_items_width f t items)) (ap2 (λ a b. a && b) (same f t e).sign (same_items_signed f t items))

-- a case without items is not full
none_have_all : (t : Scope) (w : ℕ) (g : Bool) (n : ℕ) → 0 < n → items_have_all t w g n no_items ≡ false
none_have_all t w g zero h = absurd (omega (arith, h))
none_have_all t w g (suc n) h = refl

and_false : (a b : Bool) → b ≡ false → (a && b) ≡ false
and_false true b h = h
and_false false b h = refl

pub none_full : (t : Scope) (kind : CaseKind) (e : Expression) → is_full t kind e no_items ≡ false
none_full t wild_case e = refl
none_full t exact_case e =
    and_false (nat_le (max (width_of t e) (items_width t no_items)) 8) _
    (none_have_all t (max (width_of t e) (items_width t no_items)) (sign_of t e && items_signed t no_items)
    (2 ^ max (width_of t e) (items_width t no_items)) (pow_pos (max (width_of t e) (items_width t no_items))))

-- ---- statements

-- the bits that each arm assigns, where there is one
record AreArmBits (f : Name → Name) (items : CaseItems) (old new : BitSet) : Type 0 where
  same : (n : Name) (k b : ℕ) → new (f n) k b ≡ old n k b
  only : (n : Name) (k b : ℕ) → IsTrue (new n k b) → IsNewName f n ⊎ (items ≡ no_items)

in_full : (c : Bool) (p : BitSet) (n : Name) (k b : ℕ) → IsTrue ((cond c p no_bits) n k b) → (c ≡ true) × IsTrue (p n k b)
in_full true p n k b h = (refl, h)
in_full false p n k b h = absurd (false≢true h)

full_bits : (f : Name → Name) (c d : Bool) (p q : BitSet) → d ≡ c → ((n : Name) (k b : ℕ) → q (f n) k b ≡ p n k b) → (n : Name) (k b : ℕ)
    → (cond d q no_bits) (f n) k b ≡ (cond c p no_bits) n k b
full_bits f true true p q e h n k b = h n k b
full_bits f false false p q e h n k b = refl
full_bits f true false p q e h n k b = absurd (false≢true e)
full_bits f false true p q e h n k b = absurd (false≢true (sym e))

module _ (f : Name → Name) (apart : IsOneToOne f) (t : Scope) where
  mutual
    pub same_surely_assigns : (x : Statement) → AreRenamedBits f (surely_assigns (through f t) x) (surely_assigns t (renamed_statement f x))
    same_surely_assigns empty = none_renamed f
    same_surely_assigns (blocking x e) = same_surely f apart t x
    same_surely_assigns (nonblocking x e) = none_renamed f
    same_surely_assigns (if_then c x) = none_renamed f
    same_surely_assigns (if_else c x y) = and_renamed f (same_surely_assigns x) (same_surely_assigns y)
    same_surely_assigns (case kind e items) =
        let h : AreArmBits f items (each_arm_assigns (through f t) items) (each_arm_assigns t (renamed_case_items f items)) = same_each_arm items in
        record {
          same =
              full_bits f (is_full (through f t) kind e items) (is_full t kind (renamed_expression f e) (renamed_case_items f items))
              (each_arm_assigns (through f t) items) (each_arm_assigns t (renamed_case_items f items)) (same_full f t kind e items) h.same;
          only = λ n k b g.
              let both : (is_full t kind (renamed_expression f e) (renamed_case_items f items) ≡ true)
              × IsTrue (each_arm_assigns t (renamed_case_items f items) n k b) = in_full _ _ n k b g in
              by_items kind e items n both.0 (h.only n k b both.1);
        }
      where
        by_items : (kd : CaseKind) (d : Expression) (is : CaseItems) (n : Name) → is_full t kd (renamed_expression f d) (renamed_case_items f is) ≡ true
            → IsNewName f n ⊎ (is ≡ no_items) → IsNewName f n
        by_items kd d is n g (inl i) = i
        by_items kd d is n g (inr i) =
            let none : is_full t kd (renamed_expression f d) no_items ≡ true
            = subst (λ z. is_full t kd (renamed_expression f d) (renamed_case_items f z) ≡ true) i g in
            absurd (false≢true (sym (none_full t kd (renamed_expression f d)) ∙ none))
    same_surely_assigns (block n xs) = same_one_assigns xs

    same_one_assigns : (xs : Statements) → AreRenamedBits f (one_surely_assigns (through f t) xs) (one_surely_assigns t (renamed_statements f xs))
    same_one_assigns no_statements = none_renamed f
    same_one_assigns (statement x xs) = or_renamed f (same_surely_assigns x) (same_one_assigns xs)

    same_each_arm : (items : CaseItems) → AreArmBits f items (each_arm_assigns (through f t) items) (each_arm_assigns t (renamed_case_items f items))
    same_each_arm no_items = record { same = λ n k b. refl; only = λ n k b h. inr refl }
    same_each_arm (arm es x items) =
        let h : AreRenamedBits f (surely_assigns (through f t) x) (surely_assigns t (renamed_statement f x)) = same_surely_assigns x in
        let g : AreArmBits f items (each_arm_assigns (through f t) items) (each_arm_assigns t (renamed_case_items f items)) = same_each_arm items in
        record {
          same = λ n k b. ap2 (λ c d. c && d) (h.same n k b) (g.same n k b);
          only = λ n k b i.
              inl (h.only n k b
              (first_of_both (surely_assigns t (renamed_statement f x) n k b) (each_arm_assigns t (renamed_case_items f items) n k b) i));
        }
    same_each_arm (default_arm x items) =
        let h : AreRenamedBits f (surely_assigns (through f t) x) (surely_assigns t (renamed_statement f x)) = same_surely_assigns x in
        let g : AreArmBits f items (each_arm_assigns (through f t) items) (each_arm_assigns t (renamed_case_items f items)) = same_each_arm items in
        record {
          same = λ n k b. ap2 (λ c d. c && d) (h.same n k b) (g.same n k b);
          only = λ n k b i.
              inl (h.only n k b
              (first_of_both (surely_assigns t (renamed_statement f x) n k b) (each_arm_assigns t (renamed_case_items f items) n k b) i));
        }

-- ---- what is read from outside

-- at each new name the same bits are assigned before
abbrev pub IsDoneTheSame : (Name → Name) → (old new : BitSet) → Type 0
IsDoneTheSame f p q = (n : Name) (k b : ℕ) → q (f n) k b ≡ p n k b

but_not_renamed : (f : Name → Name) (q y : BitSet) {p x : BitSet} → AreRenamedBits f p x → IsDoneTheSame f q y
    → AreRenamedBits f (but_not_in p q) (but_not_in x y)
but_not_renamed f q y {p} {x} h g =
    record {
      same = λ n k b. ap2 (λ c d. c && not d) (h.same n k b) (g n k b);
      only = λ n k b e. h.only n k b (first_of_both (x n k b) (not (y n k b)) e);
    }

module _ (f : Name → Name) (apart : IsOneToOne f) (t : Scope) where
  mutual
    pub same_reads_after : (x : Statement) (p q : BitSet) → IsDoneTheSame f p q
        → AreRenamedBits f (reads_after (through f t) p x) (reads_after t q (renamed_statement f x))
    same_reads_after empty p q d = none_renamed f
    same_reads_after (blocking x e) p q d = but_not_renamed f p q (or_renamed f (same_reads f apart t e) (same_target_reads f apart t x)) d
    same_reads_after (nonblocking x e) p q d = but_not_renamed f p q (or_renamed f (same_reads f apart t e) (same_target_reads f apart t x)) d
    same_reads_after (if_then c x) p q d = or_renamed f (but_not_renamed f p q (same_reads f apart t c) d) (same_reads_after x p q d)
    same_reads_after (if_else c x y) p q d =
        or_renamed f (but_not_renamed f p q (same_reads f apart t c) d) (or_renamed f (same_reads_after x p q d) (same_reads_after y p q d))
    same_reads_after (case kind e items) p q d =
        or_renamed f (but_not_renamed f p q (or_renamed f (same_reads f apart t e) (same_items_read f apart t items)) d) (same_arms_after items p q d)
    same_reads_after (block n xs) p q d = same_all_after xs p q d

    same_all_after : (xs : Statements) (p q : BitSet) → IsDoneTheSame f p q
        → AreRenamedBits f (all_read_after (through f t) p xs) (all_read_after t q (renamed_statements f xs))
    same_all_after no_statements p q d = none_renamed f
    same_all_after (statement x xs) p q d =
        or_renamed f (same_reads_after x p q d)
        (same_all_after xs (or_in p (surely_assigns (through f t) x)) (or_in q (surely_assigns t (renamed_statement f x)))
        (λ n k b. ap2 (λ a c. a || c) (d n k b) ((same_surely_assigns f apart t x).same n k b)))

    same_arms_after : (items : CaseItems) (p q : BitSet) → IsDoneTheSame f p q
        → AreRenamedBits f (arms_read_after (through f t) p items) (arms_read_after t q (renamed_case_items f items))
    same_arms_after no_items p q d = none_renamed f
    same_arms_after (arm es x items) p q d = or_renamed f (same_reads_after x p q d) (same_arms_after items p q d)
    same_arms_after (default_arm x items) p q d = or_renamed f (same_reads_after x p q d) (same_arms_after items p q d)
