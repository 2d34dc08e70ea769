-- What a bit depends on by an assignment or a block with other names.
use Rattle.std.proofs.Common.{◌≡◌, ℕ, ◌-◌, ◌%◌, Bool, true, false, cond, not, ◌&&◌, ◌||◌, nat_lt, ◌⊎◌, inl, inr, refl, sym, ap, ◌∙◌, subst, Option, Some, None, option_map, is_none, pos, ◌+ℤ◌, ◌-ℤ◌, IsTrue}
use Rattle.std.proofs.lemmas.Bool.{false≢true}
use Rattle.std.specs.Prelude.{⊤}
use Rattle.wb_values.specs.Value.{Name, same_name}
use Rattle.wb_values.specs.Choice.{some_if}
use Rattle.verilog_trees.specs.Syntax.{Expression, number, name, concatenation, replication, as_signed, as_unsigned, unary, reduction, binary, shift, power, comparison, logical, conditional, Expressions, no_expressions, expression, Selects, Target, place, joined, Targets, no_targets, target, Statement, empty, blocking, nonblocking, if_then, if_else, case, block, Statements, no_statements, statement, CaseItems, no_items, arm, default_arm}
use Rattle.verilog_meaning.specs.Expression.{Object, Scope, no_values, sign_of, width_of, widths_of, selects_width}
use Rattle.verilog_meaning.specs.Statement.{Place, named_place, targets_width}
use Rattle.verilog_meaning.specs.Register.{selects_are_constant, is_bit_of, may_reach, may_assign, may_assign_in_case}
use Rattle.verilog_designs.specs.Reads.{BitSet, reads, or_in, selects_read, items_read, surely_reaches, is_full}
use Rattle.verilog_designs.specs.Dependence.{Bit, is_in, is_plain, are_plain, word_of_cell, natural_in, bit_in, bit_at, widened_bit, copied, copied_in, is_same_cell, takes, one_takes, index_reads, one_index_reads, IsGivenBy, Dependences, ThroughReads, AfterAssignment, AfterChoice, NoArm, After, AfterAll, AfterArms}
use Rattle.verilog_renamed.specs.Renamed.{renamed_expression, renamed_expressions, renamed_selects, renamed_target, renamed_targets, renamed_statement, renamed_statements, renamed_case_items, renamed_bit}
use Rattle.verilog_renamed.specs.Laws.{IsOneToOne, IsNewName, AreRenamedBits}
use Rattle.verilog_renamed.proofs.Paths.{ap2, ap3, through, is_name, name_itself, either_way, first_of_both, second_of_both}
use Rattle.verilog_renamed.proofs.Expressions.{same, same_parts, same_selects}
use Rattle.verilog_renamed.proofs.Statements.{named_same, same_target_width, same_targets_width}
use Rattle.verilog_renamed.proofs.Registers.{same_selects_constant, same_reach, same_assign, same_assign_in_case, or_renamed}
use Rattle.verilog_renamed.proofs.ReadBits.{same_reads, same_selects_read, same_items_read, same_surely, same_full}

-- ---- bits

-- Two bits with one new bit are one.
pub one_bit : (f : Name → Name) → IsOneToOne f → (u y : Bit) → renamed_bit f u ≡ renamed_bit f y → u ≡ y
one_bit f apart u y e =
    let names : same_name (f u.of_name) (f y.of_name) ≡ true
    = ap (λ (z : Bit). same_name (f u.of_name) z.of_name) (sym e) ∙ name_itself (f u.of_name) in
    let n : u.of_name ≡ y.of_name = is_name u.of_name y.of_name (sym (apart u.of_name y.of_name) ∙ names) in
    λ i. record { of_name = n i; word = ap (λ (z : Bit). z.word) e i; place = ap (λ (z : Bit). z.place) e i }

-- what holds of a bit with this new bit
pub record HasOld (f : Name → Name) (IsSo : Bit → Type 0) (y : Bit) : Type 0 where
  pub old : Bit
  pub is_new : renamed_bit f old ≡ y
  pub is_so : IsSo old

pub old_so : (f : Name → Name) (P Q : Bit → Type 0) (y : Bit) → ((z : Bit) → P z → Q z) → HasOld f P y → HasOld f Q y
old_so f P Q y k h = record { old = h.old; is_new = h.is_new; is_so = k h.old h.is_so }

-- a bit of a new name
pub old_bit : (f : Name → Name) (y : Bit) → IsNewName f y.of_name → HasOld f (λ z. ⊤) y
old_bit f y h =
    record {
      old = record { of_name = h.old; word = y.word; place = y.place };
      is_new = ap (λ n. record { of_name = n; word = y.word; place = y.place }) h.is_new;
      is_so = tt;
    }

new_name : (f : Name → Name) (P : Bit → Type 0) (y : Bit) → HasOld f P y → IsNewName f y.of_name
new_name f P y h = record { old = h.old.of_name; is_new = ap (λ (z : Bit). z.of_name) h.is_new }

-- ---- what is copied

module _ (f : Name → Name) (t : Scope) where
  mutual
    pub same_plain : (e : Expression) → is_plain t (renamed_expression f e) ≡ is_plain (through f t) e
    same_plain (number k) = refl
    same_plain (name n x) = same_selects_constant f t x
    same_plain (concatenation es) = same_all_plain es
    same_plain (replication k es) = same_all_plain es
    same_plain (as_signed x) = refl
    same_plain (as_unsigned x) = refl
    same_plain (unary op x) = refl
    same_plain (reduction op x) = refl
    same_plain (binary op x y) = refl
    same_plain (shift op x n) = refl
    same_plain (power x n) = refl
    same_plain (comparison op x y) = refl
    same_plain (logical op x y) = refl
    same_plain (conditional c x y) = refl

    same_all_plain : (es : Expressions) → are_plain t (renamed_expressions f es) ≡ are_plain (through f t) es
    same_all_plain no_expressions = refl
    same_all_plain (expression e es) = ap2 (λ a b. a && b) (same_plain e) (same_all_plain es)

  bit_in_same : (o : Object) (n : Name) (k b : Option ℕ) → bit_in o (f n) k b ≡ option_map (renamed_bit f) (bit_in o n k b)
  bit_in_same o n None b = refl
  bit_in_same o n (Some k) None = refl
  bit_in_same o n (Some k) (Some b) = by_test (is_none o.constant && is_bit_of o k b)
    where
      by_test : (c : Bool)
          → some_if c (record { of_name = f n; word = k; place = b }) ≡ option_map (renamed_bit f) (some_if c (record { of_name = n; word = k; place = b }))
      by_test true = refl
      by_test false = refl

  bit_at_same : (n : Name) (x : Selects) (j : ℕ) → bit_at t (f n) (renamed_selects f x) j ≡ option_map (renamed_bit f) (bit_at (through f t) n x j)
  bit_at_same n x j =
      ap (λ (p : Place). bit_in (t (f n)) (f n) (word_of_cell p.cell) (natural_in (p.bits.low +ℤ pos j))) (named_same f t no_values n x)
      ∙ bit_in_same (t (f n)) n (word_of_cell (named_place (through f t) no_values n x).cell)
      (natural_in ((named_place (through f t) no_values n x).bits.low +ℤ pos j))

  choice_same : (c : Bool) (a b : Option Bit) → cond c (option_map (renamed_bit f) a) (option_map (renamed_bit f) b) ≡ option_map (renamed_bit f) (cond c a b)
  choice_same true a b = refl
  choice_same false a b = refl

  widened_same : (g : Bool) (n : Name) (x : Selects) (j : ℕ)
      → widened_bit t g (f n) (renamed_selects f x) j ≡ option_map (renamed_bit f) (widened_bit (through f t) g n x j)
  widened_same g n x j =
      let w : ℕ = selects_width (through f t) (t (f n)) x in
      ap (λ m. cond (nat_lt j m) (bit_at t (f n) (renamed_selects f x) j) (cond g (bit_at t (f n) (renamed_selects f x) (m - 1)) None))
      ((same_selects f t x).width (t (f n)))
      ∙ ap2 (λ a b. cond (nat_lt j w) a (cond g b None)) (bit_at_same n x j) (bit_at_same n x (w - 1))
      ∙ ap (λ a. cond (nat_lt j w) (option_map (renamed_bit f) (bit_at (through f t) n x j)) a) (choice_same g (bit_at (through f t) n x (w - 1)) None)
      ∙ choice_same (nat_lt j w) (bit_at (through f t) n x j) (cond g (bit_at (through f t) n x (w - 1)) None)

  mutual
    pub same_copied : (e : Expression) (g : Bool) (j : ℕ) → copied t (renamed_expression f e) g j ≡ option_map (renamed_bit f) (copied (through f t) e g j)
    same_copied (number k) g j = refl
    same_copied (name n x) g j = widened_same g n x j
    same_copied (concatenation es) g j = same_copied_in es j
    same_copied (replication k es) g j =
        ap2 (λ w m. cond (nat_lt j w) (copied_in t (renamed_expressions f es) (j % m)) None) (same f t (replication k es)).width (same_parts f t es).widths
        ∙ ap (λ a. cond (nat_lt j (width_of (through f t) (replication k es))) a None) (same_copied_in es (j % widths_of (through f t) es))
        ∙ choice_same (nat_lt j (width_of (through f t) (replication k es))) (copied_in (through f t) es (j % widths_of (through f t) es)) None
    same_copied (as_signed x) g j = refl
    same_copied (as_unsigned x) g j = refl
    same_copied (unary op x) g j = refl
    same_copied (reduction op x) g j = refl
    same_copied (binary op x y) g j = refl
    same_copied (shift op x n) g j = refl
    same_copied (power x n) g j = refl
    same_copied (comparison op x y) g j = refl
    same_copied (logical op x y) g j = refl
    same_copied (conditional c x y) g j = refl

    same_copied_in : (es : Expressions) (j : ℕ) → copied_in t (renamed_expressions f es) j ≡ option_map (renamed_bit f) (copied_in (through f t) es j)
    same_copied_in no_expressions j = refl
    same_copied_in (expression e es) j =
        let m : ℕ = widths_of (through f t) es in
        let w : ℕ = width_of (through f t) e in
        let g : Bool = sign_of (through f t) e in
        ap (λ k. cond (nat_lt j k) (copied_in t (renamed_expressions f es) j)
        (cond (nat_lt (j - k) (width_of t (renamed_expression f e))) (copied t (renamed_expression f e) (sign_of t (renamed_expression f e)) (j - k)) None))
        (same_parts f t es).widths
        ∙ ap2 (λ k s. cond (nat_lt j m) (copied_in t (renamed_expressions f es) j)
        (cond (nat_lt (j - m) k) (copied t (renamed_expression f e) s (j - m)) None)) (same f t e).width (same f t e).sign
        ∙ ap2 (λ a b. cond (nat_lt j m) a (cond (nat_lt (j - m) w) b None)) (same_copied_in es j) (same_copied e g (j - m))
        ∙ ap (λ a. cond (nat_lt j m) (option_map (renamed_bit f) (copied_in (through f t) es j)) a)
        (choice_same (nat_lt (j - m) w) (copied (through f t) e g (j - m)) None)
        ∙ choice_same (nat_lt j m) (copied_in (through f t) es j) (cond (nat_lt (j - m) w) (copied (through f t) e g (j - m)) None)

-- ---- what a target takes

record TakesTheSame (f : Name → Name) (t : Scope) (x : Target) : Type 0 where
  same : (u : Bit) (j : ℕ) → takes t (renamed_target f x) (renamed_bit f u) j ≡ takes (through f t) x u j
  only : (u : Bit) (j : ℕ) → IsTrue (takes t (renamed_target f x) u j) → IsNewName f u.of_name

record OneTakesTheSame (f : Name → Name) (t : Scope) (xs : Targets) : Type 0 where
  same : (u : Bit) (j : ℕ) → one_takes t (renamed_targets f xs) (renamed_bit f u) j ≡ one_takes (through f t) xs u j
  only : (u : Bit) (j : ℕ) → IsTrue (one_takes t (renamed_targets f xs) u j) → IsNewName f u.of_name

-- the bits of indexes, for the new bit of u, and for any
record IndexesTheSame (f : Name → Name) (old new : Bit → BitSet) : Type 0 where
  same : (u : Bit) → AreRenamedBits f (old u) (new (renamed_bit f u))
  reached : (u : Bit) (n : Name) (k b : ℕ) → IsTrue (new u n k b) → IsNewName f u.of_name

module _ (f : Name → Name) (apart : IsOneToOne f) (t : Scope) where
  mutual
    same_takes : (x : Target) → TakesTheSame f t x
    same_takes (place n x) =
        record {
          same = λ u j.
              ap2 (λ a c. a && c) ((same_reach f apart t (place n x)).same u.of_name u.word u.place)
              (ap3 (λ c (p : Place) w. cond c (is_same_cell (natural_in (pos u.place -ℤ p.bits.low)) j) (nat_lt j w)) (same_selects_constant f t x)
              (named_same f t no_values n x) ((same_selects f t x).width (t (f n))));
          only = λ u j h.
              (same_reach f apart t (place n x)).only u.of_name u.word u.place
              (first_of_both (may_reach t (place (f n) (renamed_selects f x)) u.of_name u.word u.place)
              (cond (selects_are_constant t (renamed_selects f x))
              (is_same_cell (natural_in (pos u.place -ℤ (named_place t no_values (f n) (renamed_selects f x)).bits.low)) j)
              (nat_lt j (selects_width t (t (f n)) (renamed_selects f x)))) h);
        }
    same_takes (joined xs) =
        let h : OneTakesTheSame f t xs = same_one_takes xs in
        record { same = h.same; only = h.only }

    same_one_takes : (xs : Targets) → OneTakesTheSame f t xs
    same_one_takes no_targets = record { same = λ u j. refl; only = λ u j h. absurd (false≢true h) }
    same_one_takes (target x xs) =
        let h : TakesTheSame f t x = same_takes x in
        let g : OneTakesTheSame f t xs = same_one_takes xs in
        record {
          same = λ u j.
              ap (λ w. (not (nat_lt j w) && takes t (renamed_target f x) (renamed_bit f u) (j - w))
              || (not (is_in (surely_reaches t (renamed_target f x)) (renamed_bit f u)) && one_takes t (renamed_targets f xs) (renamed_bit f u) j))
              (same_targets_width f t xs)
              ∙ ap3 (λ a c d. (not (nat_lt j (targets_width (through f t) xs)) && a) || (not c && d)) (h.same u (j - targets_width (through f t) xs))
              ((same_surely f apart t x).same u.of_name u.word u.place) (g.same u j);
          only = λ u j e.
              either_way (not (nat_lt j (targets_width t (renamed_targets f xs))) && takes t (renamed_target f x) u (j - targets_width t (renamed_targets f xs)))
              (not (is_in (surely_reaches t (renamed_target f x)) u) && one_takes t (renamed_targets f xs) u j) e
              (λ i. h.only u (j - targets_width t (renamed_targets f xs))
              (second_of_both (not (nat_lt j (targets_width t (renamed_targets f xs))))
              (takes t (renamed_target f x) u (j - targets_width t (renamed_targets f xs))) i))
              (λ i. g.only u j (second_of_both (not (is_in (surely_reaches t (renamed_target f x)) u)) (one_takes t (renamed_targets f xs) u j) i));
        }

  mutual
    same_indexes : (x : Target) → IndexesTheSame f (index_reads (through f t) x) (index_reads t (renamed_target f x))
    same_indexes (place n x) =
        let h : AreRenamedBits f (may_reach (through f t) (place n x)) (may_reach t (renamed_target f (place n x))) = same_reach f apart t (place n x) in
        let g : AreRenamedBits f (selects_read (through f t) x) (selects_read t (renamed_selects f x)) = same_selects_read f apart t x in
        record {
          same = λ u.
              record {
                same = λ m k b. ap2 (λ c d. c && d) (h.same u.of_name u.word u.place) (g.same m k b);
                only = λ m k b e.
                    g.only m k b
                    (second_of_both (may_reach t (place (f n) (renamed_selects f x)) (f u.of_name) u.word u.place) (selects_read t (renamed_selects f x) m k b) e);
              };
          reached = λ u m k b e.
              h.only u.of_name u.word u.place
              (first_of_both (may_reach t (place (f n) (renamed_selects f x)) u.of_name u.word u.place) (selects_read t (renamed_selects f x) m k b) e);
        }
    same_indexes (joined xs) =
        let h : IndexesTheSame f (one_index_reads (through f t) xs) (one_index_reads t (renamed_targets f xs)) = same_one_index xs in
        record { same = λ u. record { same = (h.same u).same; only = (h.same u).only }; reached = h.reached }

    same_one_index : (xs : Targets) → IndexesTheSame f (one_index_reads (through f t) xs) (one_index_reads t (renamed_targets f xs))
    same_one_index no_targets =
        record { same = λ u. record { same = λ m k b. refl; only = λ m k b e. absurd (false≢true e) }; reached = λ u m k b e. absurd (false≢true e) }
    same_one_index (target x xs) =
        let h : IndexesTheSame f (index_reads (through f t) x) (index_reads t (renamed_target f x)) = same_indexes x in
        let g : IndexesTheSame f (one_index_reads (through f t) xs) (one_index_reads t (renamed_targets f xs)) = same_one_index xs in
        record {
          same = λ u.
              record {
                same = λ m k b.
                    ap3 (λ a c d. a || (not c && d)) ((h.same u).same m k b) ((same_surely f apart t x).same u.of_name u.word u.place) ((g.same u).same m k b);
                only = λ m k b e.
                    either_way (index_reads t (renamed_target f x) (renamed_bit f u) m k b)
                    (not (is_in (surely_reaches t (renamed_target f x)) (renamed_bit f u)) && one_index_reads t (renamed_targets f xs) (renamed_bit f u) m k b) e
                    ((h.same u).only m k b)
                    (λ i. (g.same u).only m k b
                    (second_of_both (not (is_in (surely_reaches t (renamed_target f x)) (renamed_bit f u)))
                    (one_index_reads t (renamed_targets f xs) (renamed_bit f u) m k b) i));
              };
          reached = λ u m k b e.
              either_way (index_reads t (renamed_target f x) u m k b)
              (not (is_in (surely_reaches t (renamed_target f x)) u) && one_index_reads t (renamed_targets f xs) u m k b) e
              (h.reached u m k b)
              (λ i. g.reached u m k b
              (second_of_both (not (is_in (surely_reaches t (renamed_target f x)) u)) (one_index_reads t (renamed_targets f xs) u m k b) i));
        }

-- ---- what gives a bit its value: the names of the target by f, those of the right side by g

some_renamed : (g : Name → Name) (o : Option Bit) (y : Bit) → option_map (renamed_bit g) o ≡ Some y → HasOld g (λ z. o ≡ Some z) y
some_renamed g None y e = absurd (let h : None ≡ Some y = e in cc)
some_renamed g (Some z) y e = record { old = z; is_new = (let h : Some (renamed_bit g z) ≡ Some y = e in cc); is_so = refl }

module _ (f g : Name → Name) (apart : IsOneToOne f) (inner_apart : IsOneToOne g) (t r : Scope) (x : Target) (e : Expression) where
  pub given_there : (u y : Bit) → IsGivenBy (through f t) x (through g r) e u y
      → IsGivenBy t (renamed_target f x) r (renamed_expression g e) (renamed_bit f u) (renamed_bit g y)
  given_there u y (IsGivenBy.copied_to j p l k c) =
      IsGivenBy.copied_to j (same_plain g r e ∙ p) (ap (nat_lt j) (same_target_width f t x) ∙ l) ((same_takes f apart t x).same u j ∙ k)
      (ap (λ b. copied r (renamed_expression g e) b j) (same g r e).sign ∙ same_copied g r e (sign_of (through g r) e) j
      ∙ ap (option_map (renamed_bit g)) c)
  given_there u y (IsGivenBy.computed p k i) =
      IsGivenBy.computed (ap not (same_plain g r e) ∙ p) ((same_reach f apart t x).same u.of_name u.word u.place ∙ k)
      ((same_reads g inner_apart r e).same y.of_name y.word y.place ∙ i)

  pub given_back : (u y : Bit) → IsGivenBy t (renamed_target f x) r (renamed_expression g e) (renamed_bit f u) y
      → HasOld g (IsGivenBy (through f t) x (through g r) e u) y
  given_back u y (IsGivenBy.copied_to j p l k c) =
      old_so g (λ z. copied (through g r) e (sign_of (through g r) e) j ≡ Some z) (IsGivenBy (through f t) x (through g r) e u) y
      (λ z i. IsGivenBy.copied_to j (sym (same_plain g r e) ∙ p) (sym (ap (nat_lt j) (same_target_width f t x)) ∙ l)
      (sym ((same_takes f apart t x).same u j) ∙ k) i)
      (some_renamed g (copied (through g r) e (sign_of (through g r) e) j) y
      (sym (ap (λ b. copied r (renamed_expression g e) b j) (same g r e).sign ∙ same_copied g r e (sign_of (through g r) e) j) ∙ c))
  given_back u y (IsGivenBy.computed p k i) =
      let h : HasOld g (λ z. ⊤) y = old_bit g y ((same_reads g inner_apart r e).only y.of_name y.word y.place i) in
      let there : IsTrue (is_in (reads r (renamed_expression g e)) (renamed_bit g h.old))
      = subst (λ z. IsTrue (is_in (reads r (renamed_expression g e)) z)) (sym h.is_new) i in
      record {
        old = h.old;
        is_new = h.is_new;
        is_so =
            IsGivenBy.computed (sym (ap not (same_plain g r e)) ∙ p) (sym ((same_reach f apart t x).same u.of_name u.word u.place) ∙ k)
            (sym ((same_reads g inner_apart r e).same h.old.of_name h.old.word h.old.place) ∙ there);
      }

  pub given_new : (u y : Bit) → IsGivenBy t (renamed_target f x) r (renamed_expression g e) u y → IsNewName f u.of_name
  given_new u y (IsGivenBy.copied_to j p l k c) = (same_takes f apart t x).only u j k
  given_new u y (IsGivenBy.computed p k i) = (same_reach f apart t x).only u.of_name u.word u.place k

  pub given_from : (u y : Bit) → IsGivenBy t (renamed_target f x) r (renamed_expression g e) u y → IsNewName g y.of_name
  given_from u y h =
      let k : HasOld f (λ z. ⊤) u = old_bit f u (given_new u y h) in
      new_name g (IsGivenBy (through f t) x (through g r) e k.old) y
      (given_back k.old y (subst (λ z. IsGivenBy t (renamed_target f x) r (renamed_expression g e) z y) (sym k.is_new) h))

-- ---- what a bit depends on after a statement

-- The one account of what was before says of the new bits what the other says of the old ones.
abbrev pub GoesThere : (Name → Name) → (old new : Dependences) → Type 0
GoesThere f B C = (u y : Bit) → B u y → C (renamed_bit f u) (renamed_bit f y)

abbrev pub ComesBack : (Name → Name) → (old new : Dependences) → Type 0
ComesBack f B C = (u y : Bit) → C (renamed_bit f u) y → HasOld f (B u) y

reads_there : (f : Name → Name) (B C : Dependences) (p q : BitSet) → AreRenamedBits f p q → GoesThere f B C → (y : Bit) → ThroughReads B p y
    → ThroughReads C q (renamed_bit f y)
reads_there f B C p q s go y h =
    (renamed_bit f h.0, s.same h.0.of_name h.0.word h.0.place ∙ h.1, go h.0 y h.2)

reads_back : (f : Name → Name) (B C : Dependences) (p q : BitSet) → AreRenamedBits f p q → ComesBack f B C → (y : Bit) → ThroughReads C q y
    → HasOld f (ThroughReads B p) y
reads_back f B C p q s come y h =
    let k : HasOld f (λ z. ⊤) h.0 = old_bit f h.0 (s.only h.0.of_name h.0.word h.0.place h.1) in
    let there : IsTrue (is_in q (renamed_bit f k.old)) = subst (λ z. IsTrue (is_in q z)) (sym k.is_new) h.1 in
    old_so f (B k.old) (ThroughReads B p) y (λ z b. (k.old, sym (s.same k.old.of_name k.old.word k.old.place) ∙ there, b))
    (come k.old y (subst (λ z. C z y) (sym k.is_new) h.2))

pub choice_there : (b c : Bool) (P Q R X Y Z : Type 0) → c ≡ b → (P → X) → (Q → Y) → (R → Z) → AfterChoice b P Q R → AfterChoice c X Y Z
choice_there b c P Q R X Y Z e i j k h = subst (λ d. AfterChoice d X Y Z) (sym e) (by_test b h)
  where
    by_test : (d : Bool) → AfterChoice d P Q R → AfterChoice d X Y Z
    by_test true (inl l) = inl (i l)
    by_test true (inr l) = inr (j l)
    by_test false l = k l

choice_back : (f : Name → Name) (b c : Bool) (P Q R : Bit → Type 0) (X Y Z : Type 0) (y : Bit) → c ≡ b → (X → HasOld f P y) → (Y → HasOld f Q y)
    → (Z → HasOld f R y) → AfterChoice c X Y Z → HasOld f (λ z. AfterChoice b (P z) (Q z) (R z)) y
choice_back f b c P Q R X Y Z y e i j k h = by_test b (subst (λ d. AfterChoice d X Y Z) e h)
  where
    by_test : (d : Bool) → AfterChoice d X Y Z → HasOld f (λ z. AfterChoice d (P z) (Q z) (R z)) y
    by_test true (inl l) = old_so f P (λ z. P z ⊎ Q z) y (λ z m. inl m) (i l)
    by_test true (inr l) = old_so f Q (λ z. P z ⊎ Q z) y (λ z m. inr m) (j l)
    by_test false l = k l

choice_new : (f : Name → Name) (n : Name) (c : Bool) (X Y Z : Type 0) → (IsTrue c → IsNewName f n) → AfterChoice c X Y Z → IsNewName f n ⊎ Z
choice_new f n true X Y Z k h = inl (k refl)
choice_new f n false X Y Z k h = inr h

pub no_arm_there : (b c : Bool) (P X : Type 0) → c ≡ b → (P → X) → NoArm b P → NoArm c X
no_arm_there b c P X e k h = subst (λ d. NoArm d X) (sym e) (by_test b h)
  where
    by_test : (d : Bool) → NoArm d P → NoArm d X
    by_test true l = l
    by_test false l = k l

no_arm_back : (f : Name → Name) (b c : Bool) (P : Bit → Type 0) (X : Type 0) (y : Bit) → c ≡ b → (X → HasOld f P y) → NoArm c X
    → HasOld f (λ z. NoArm b (P z)) y
no_arm_back f b c P X y e k h = by_test b (subst (λ d. NoArm d X) e h)
  where
    by_test : (d : Bool) → NoArm d X → HasOld f (λ z. NoArm d (P z)) y
    by_test true l = absurd l
    by_test false l = k l

pub sum_there : (P Q X Y : Type 0) → (P → X) → (Q → Y) → P ⊎ Q → X ⊎ Y
sum_there P Q X Y i j (inl h) = inl (i h)
sum_there P Q X Y i j (inr h) = inr (j h)

sum_back : (f : Name → Name) (P Q : Bit → Type 0) (X Y : Type 0) (y : Bit) → (X → HasOld f P y) → (Y → HasOld f Q y) → X ⊎ Y
    → HasOld f (λ z. P z ⊎ Q z) y
sum_back f P Q X Y y i j (inl h) = old_so f P (λ z. P z ⊎ Q z) y (λ z m. inl m) (i h)
sum_back f P Q X Y y i j (inr h) = old_so f Q (λ z. P z ⊎ Q z) y (λ z m. inr m) (j h)

module _ (f : Name → Name) (apart : IsOneToOne f) (t : Scope) where
  assignment_there : (x : Target) (e : Expression) (B C : Dependences) → GoesThere f B C → (u y : Bit) → AfterAssignment (through f t) B x e u y
      → AfterAssignment t C (renamed_target f x) (renamed_expression f e) (renamed_bit f u) (renamed_bit f y)
  assignment_there x e B C go u y (AfterAssignment.kept n b) =
      AfterAssignment.kept (ap not ((same_surely f apart t x).same u.of_name u.word u.place) ∙ n) (go u y b)
  assignment_there x e B C go u y (AfterAssignment.given z i b) =
      AfterAssignment.given (renamed_bit f z) (given_there f f apart apart t t x e u z i) (go z y b)
  assignment_there x e B C go u y (AfterAssignment.indexed h) =
      AfterAssignment.indexed
      (reads_there f B C (index_reads (through f t) x u) (index_reads t (renamed_target f x) (renamed_bit f u)) ((same_indexes f apart t x).same u) go y h)

  assignment_back : (x : Target) (e : Expression) (B C : Dependences) → ComesBack f B C → (u y : Bit)
      → AfterAssignment t C (renamed_target f x) (renamed_expression f e) (renamed_bit f u) y → HasOld f (AfterAssignment (through f t) B x e u) y
  assignment_back x e B C come u y (AfterAssignment.kept n b) =
      old_so f (B u) (AfterAssignment (through f t) B x e u) y
      (λ z i. AfterAssignment.kept (sym (ap not ((same_surely f apart t x).same u.of_name u.word u.place)) ∙ n) i) (come u y b)
  assignment_back x e B C come u y (AfterAssignment.given z i b) =
      let k : HasOld f (IsGivenBy (through f t) x (through f t) e u) z = given_back f f apart apart t t x e u z i in
      old_so f (B k.old) (AfterAssignment (through f t) B x e u) y (λ m j. AfterAssignment.given k.old k.is_so j)
      (come k.old y (subst (λ m. C m y) (sym k.is_new) b))
  assignment_back x e B C come u y (AfterAssignment.indexed h) =
      old_so f (ThroughReads B (index_reads (through f t) x u)) (AfterAssignment (through f t) B x e u) y (λ z i. AfterAssignment.indexed i)
      (reads_back f B C (index_reads (through f t) x u) (index_reads t (renamed_target f x) (renamed_bit f u)) ((same_indexes f apart t x).same u) come y h)

  assignment_new : (x : Target) (e : Expression) (C : Dependences) (u y : Bit) → AfterAssignment t C (renamed_target f x) (renamed_expression f e) u y
      → IsNewName f u.of_name ⊎ C u y
  assignment_new x e C u y (AfterAssignment.kept n b) = inr b
  assignment_new x e C u y (AfterAssignment.given z i b) = inl (given_new f f apart apart t t x e u z i)
  assignment_new x e C u y (AfterAssignment.indexed h) = inl ((same_indexes f apart t x).reached u h.0.of_name h.0.word h.0.place h.1)

  case_reads : (e : Expression) (items : CaseItems)
      → AreRenamedBits f (or_in (reads (through f t) e) (items_read (through f t) items))
      (or_in (reads t (renamed_expression f e)) (items_read t (renamed_case_items f items)))
  case_reads e items = or_renamed f (same_reads f apart t e) (same_items_read f apart t items)

  mutual
    pub after_there : (x : Statement) (B C : Dependences) → GoesThere f B C → GoesThere f (After (through f t) B x) (After t C (renamed_statement f x))
    after_there empty B C go u y h = go u y h
    after_there (blocking x e) B C go u y h = assignment_there x e B C go u y h
    after_there (nonblocking x e) B C go u y h = go u y h
    after_there (if_then c x) B C go u y h =
        choice_there _ _ _ _ _ _ _ _ ((same_assign f apart t x).same u.of_name u.word u.place)
        (reads_there f B C (reads (through f t) c) (reads t (renamed_expression f c)) (same_reads f apart t c) go y)
        (sum_there _ _ _ _ (after_there x B C go u y) (go u y)) (go u y) h
    after_there (if_else c x z) B C go u y h =
        choice_there _ _ _ _ _ _ _ _
        (ap2 (λ a b. a || b) ((same_assign f apart t x).same u.of_name u.word u.place) ((same_assign f apart t z).same u.of_name u.word u.place))
        (reads_there f B C (reads (through f t) c) (reads t (renamed_expression f c)) (same_reads f apart t c) go y)
        (sum_there _ _ _ _ (after_there x B C go u y) (after_there z B C go u y)) (go u y) h
    after_there (case kind e items) B C go u y h =
        choice_there _ _ _ _ _ _ _ _ ((same_assign_in_case f apart t items).same u.of_name u.word u.place)
        (reads_there f B C (or_in (reads (through f t) e) (items_read (through f t) items))
        (or_in (reads t (renamed_expression f e)) (items_read t (renamed_case_items f items))) (case_reads e items) go y)
        (sum_there _ _ _ _ (arms_there items B C go u y)
        (no_arm_there (is_full (through f t) kind e items) (is_full t kind (renamed_expression f e) (renamed_case_items f items)) (B u y)
        (C (renamed_bit f u) (renamed_bit f y)) (same_full f t kind e items) (go u y))) (go u y) h
    after_there (block n xs) B C go u y h = all_there xs B C go u y h

    all_there : (xs : Statements) (B C : Dependences) → GoesThere f B C → GoesThere f (AfterAll (through f t) B xs) (AfterAll t C (renamed_statements f xs))
    all_there no_statements B C go u y h = go u y h
    all_there (statement x xs) B C go u y h = all_there xs (After (through f t) B x) (After t C (renamed_statement f x)) (after_there x B C go) u y h

    arms_there : (items : CaseItems) (B C : Dependences) → GoesThere f B C → GoesThere f (AfterArms (through f t) B items) (AfterArms t C (renamed_case_items f items))
    arms_there no_items B C go u y h = h
    arms_there (arm es x items) B C go u y h = sum_there _ _ _ _ (after_there x B C go u y) (arms_there items B C go u y) h
    arms_there (default_arm x items) B C go u y h = sum_there _ _ _ _ (after_there x B C go u y) (arms_there items B C go u y) h

  mutual
    pub after_back : (x : Statement) (B C : Dependences) → ComesBack f B C → ComesBack f (After (through f t) B x) (After t C (renamed_statement f x))
    after_back empty B C come u y h = come u y h
    after_back (blocking x e) B C come u y h = assignment_back x e B C come u y h
    after_back (nonblocking x e) B C come u y h = come u y h
    after_back (if_then c x) B C come u y h =
        choice_back f (may_assign (through f t) x u.of_name u.word u.place) (may_assign t (renamed_statement f x) (f u.of_name) u.word u.place)
        (ThroughReads B (reads (through f t) c)) (λ z. After (through f t) B x u z ⊎ B u z) (B u) _ _ _ y
        ((same_assign f apart t x).same u.of_name u.word u.place)
        (reads_back f B C (reads (through f t) c) (reads t (renamed_expression f c)) (same_reads f apart t c) come y)
        (sum_back f (After (through f t) B x u) (B u) _ _ y (after_back x B C come u y) (come u y)) (come u y) h
    after_back (if_else c x z) B C come u y h =
        choice_back f (may_assign (through f t) x u.of_name u.word u.place || may_assign (through f t) z u.of_name u.word u.place)
        (may_assign t (renamed_statement f x) (f u.of_name) u.word u.place || may_assign t (renamed_statement f z) (f u.of_name) u.word u.place)
        (ThroughReads B (reads (through f t) c)) (λ m. After (through f t) B x u m ⊎ After (through f t) B z u m) (B u) _ _ _ y
        (ap2 (λ a b. a || b) ((same_assign f apart t x).same u.of_name u.word u.place) ((same_assign f apart t z).same u.of_name u.word u.place))
        (reads_back f B C (reads (through f t) c) (reads t (renamed_expression f c)) (same_reads f apart t c) come y)
        (sum_back f (After (through f t) B x u) (After (through f t) B z u) _ _ y (after_back x B C come u y) (after_back z B C come u y)) (come u y) h
    after_back (case kind e items) B C come u y h =
        choice_back f (may_assign_in_case (through f t) items u.of_name u.word u.place)
        (may_assign_in_case t (renamed_case_items f items) (f u.of_name) u.word u.place)
        (ThroughReads B (or_in (reads (through f t) e) (items_read (through f t) items)))
        (λ m. AfterArms (through f t) B items u m ⊎ NoArm (is_full (through f t) kind e items) (B u m)) (B u) _ _ _ y
        ((same_assign_in_case f apart t items).same u.of_name u.word u.place)
        (reads_back f B C (or_in (reads (through f t) e) (items_read (through f t) items))
        (or_in (reads t (renamed_expression f e)) (items_read t (renamed_case_items f items))) (case_reads e items) come y)
        (sum_back f (AfterArms (through f t) B items u) (λ m. NoArm (is_full (through f t) kind e items) (B u m)) _ _ y (arms_back items B C come u y)
        (no_arm_back f (is_full (through f t) kind e items) (is_full t kind (renamed_expression f e) (renamed_case_items f items)) (B u)
        (C (renamed_bit f u) y) y (same_full f t kind e items) (come u y))) (come u y) h
    after_back (block n xs) B C come u y h = all_back xs B C come u y h

    all_back : (xs : Statements) (B C : Dependences) → ComesBack f B C → ComesBack f (AfterAll (through f t) B xs) (AfterAll t C (renamed_statements f xs))
    all_back no_statements B C come u y h = come u y h
    all_back (statement x xs) B C come u y h = all_back xs (After (through f t) B x) (After t C (renamed_statement f x)) (after_back x B C come) u y h

    arms_back : (items : CaseItems) (B C : Dependences) → ComesBack f B C → ComesBack f (AfterArms (through f t) B items) (AfterArms t C (renamed_case_items f items))
    arms_back no_items B C come u y h = absurd h
    arms_back (arm es x items) B C come u y h =
        sum_back f (After (through f t) B x u) (AfterArms (through f t) B items u) _ _ y (after_back x B C come u y) (arms_back items B C come u y) h
    arms_back (default_arm x items) B C come u y h =
        sum_back f (After (through f t) B x u) (AfterArms (through f t) B items u) _ _ y (after_back x B C come u y) (arms_back items B C come u y) h

  -- a bit of another name is what it was
  mutual
    pub after_new : (x : Statement) (C : Dependences) (u y : Bit) → After t C (renamed_statement f x) u y → IsNewName f u.of_name ⊎ C u y
    after_new empty C u y h = inr h
    after_new (blocking x e) C u y h = assignment_new x e C u y h
    after_new (nonblocking x e) C u y h = inr h
    after_new (if_then c x) C u y h = choice_new f u.of_name _ _ _ _ ((same_assign f apart t (if_then c x)).only u.of_name u.word u.place) h
    after_new (if_else c x z) C u y h = choice_new f u.of_name _ _ _ _ ((same_assign f apart t (if_else c x z)).only u.of_name u.word u.place) h
    after_new (case kind e items) C u y h = choice_new f u.of_name _ _ _ _ ((same_assign f apart t (case kind e items)).only u.of_name u.word u.place) h
    after_new (block n xs) C u y h = all_new xs C u y h

    all_new : (xs : Statements) (C : Dependences) (u y : Bit) → AfterAll t C (renamed_statements f xs) u y → IsNewName f u.of_name ⊎ C u y
    all_new no_statements C u y h = inr h
    all_new (statement x xs) C u y h = by_rest (all_new xs (After t C (renamed_statement f x)) u y h) (after_new x C u y)
      where
        by_rest : {A B D : Type 0} → A ⊎ B → (B → A ⊎ D) → A ⊎ D
        by_rest (inl a) k = inl a
        by_rest (inr b) k = k b
