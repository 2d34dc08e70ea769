-- What is read behind assignments that are done already.
use Rattle.std.proofs.Common.{◌≡◌, ◌∙◌, refl, ap, ap₂, sym, Bool, true, false}
use Rattle.std.specs.Prelude.{ℕ, ◌&&◌, ◌||◌, not}
use Rattle.wb_values.specs.Value.{Name}
use Rattle.verilog_trees.specs.Syntax.{Statement, empty, blocking, nonblocking, if_then, if_else, case, block, Statements, no_statements, statement, CaseItems, no_items, arm, default_arm}
use Rattle.verilog_meaning.specs.Expression.{Scope}
use Rattle.verilog_designs.specs.Reads.{BitSet, no_bits, or_in, but_not_in, reads, target_reads, items_read, surely_assigns, reads_after, all_read_after, arms_read_after, reads_outside}
use Rattle.v_flow.proofs.Constants.{and_true, and_false}

left-out : (p d : Bool) → (p && not d) ≡ ((p && true) && not d)
left-out p d = ap (λ t. t && not d) (sym (and_true p))

either-left-out : (p q d : Bool) → ((p && not d) || (q && not d)) ≡ ((p || q) && not d)
either-left-out true q false = refl
either-left-out false q false = refl
either-left-out p q true = at p q
  where
    at : (p q : Bool) → ((p && false) || (q && false)) ≡ ((p || q) && false)
    at true q = and_false q
    at false q = refl

-- p is read by one part, and q by what follows, where the first part assigns a
then-left-out : (p q a d : Bool) → ((p && not d) || (q && not (d || a))) ≡ ((p || (q && not a)) && not d)
then-left-out p q a false = ap (λ t. t || (q && not a)) (and_true p) ∙ sym (and_true (p || (q && not a)))
then-left-out p q a true =
    ap (λ t. t || (q && false)) (and_false p) ∙ and_false q ∙ sym (and_false (p || (q && not a)))

-- two parts that are left out each
both-left-out : (p q x y d : Bool) → x ≡ (p && not d) → y ≡ (q && not d) → (x || y) ≡ ((p || q) && not d)
both-left-out p q x y d e f = ap₂ (λ a b. a || b) e f ∙ either-left-out p q d

mutual
  pub behind : (s : Scope) (done : BitSet) (x : Statement) (n : Name) (k b : ℕ) → reads_after s done x n k b ≡ (reads_after s no_bits x n k b && not (done n k b))
  behind s done empty n k b = refl
  behind s done (blocking t e) n k b = left-out (or_in (reads s e) (target_reads s t) n k b) (done n k b)
  behind s done (nonblocking t e) n k b = left-out (or_in (reads s e) (target_reads s t) n k b) (done n k b)
  behind s done (if_then c x) n k b =
      both-left-out _ _ _ _ (done n k b) (left-out (reads s c n k b) (done n k b)) (behind s done x n k b)
  behind s done (if_else c x y) n k b =
      both-left-out _ _ _ _ (done n k b) (left-out (reads s c n k b) (done n k b))
      (both-left-out _ _ _ _ (done n k b) (behind s done x n k b) (behind s done y n k b))
  behind s done (case kind e items) n k b =
      both-left-out _ _ _ _ (done n k b) (left-out (or_in (reads s e) (items_read s items) n k b) (done n k b)) (arms-behind s done items n k b)
  behind s done (block m xs) n k b = all-behind s done xs n k b

  all-behind : (s : Scope) (done : BitSet) (xs : Statements) (n : Name) (k b : ℕ) → all_read_after s done xs n k b ≡ (all_read_after s no_bits xs n k b && not (done n k b))
  all-behind s done no_statements n k b = refl
  all-behind s done (statement x xs) n k b =
      let r = reads_after s no_bits x n k b in
      let q = all_read_after s no_bits xs n k b in
      let a = surely_assigns s x n k b in
      ap₂ (λ u v. u || v) (behind s done x n k b) (all-behind s (or_in done (surely_assigns s x)) xs n k b)
      ∙ then-left-out r q a (done n k b)
      ∙ ap (λ v. (r || v) && not (done n k b)) (sym (all-behind s (or_in no_bits (surely_assigns s x)) xs n k b))

  arms-behind : (s : Scope) (done : BitSet) (items : CaseItems) (n : Name) (k b : ℕ) → arms_read_after s done items n k b ≡ (arms_read_after s no_bits items n k b && not (done n k b))
  arms-behind s done no_items n k b = refl
  arms-behind s done (arm es x items) n k b =
      both-left-out _ _ _ _ (done n k b) (behind s done x n k b) (arms-behind s done items n k b)
  arms-behind s done (default_arm x items) n k b =
      both-left-out _ _ _ _ (done n k b) (behind s done x n k b) (arms-behind s done items n k b)

pub reads-behind : (s : Scope) (done : BitSet) (x : Statement) → reads_after s done x ≡ but_not_in (reads_outside s x) done
reads-behind s done x = λ i n k b. behind s done x n k b i

pub reads-sequence : (s : Scope) (x : Statement) (xs : Statements) → all_read_after s no_bits (statement x xs) ≡ or_in (reads_outside s x) (but_not_in (all_read_after s no_bits xs) (surely_assigns s x))
reads-sequence s x xs = λ i n k b. reads_after s no_bits x n k b || all-behind s (or_in no_bits (surely_assigns s x)) xs n k b i
