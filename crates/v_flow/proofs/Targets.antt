-- What targets read, and the bits that an assignment to them may reach or surely reaches.
use Rattle.std.proofs.Common.{◌≡◌, ◌∙◌, refl, ap, sym, subst, Bool, true, false, cond, List}
use Rattle.std.specs.Prelude.{ℕ, ◌&&◌, ◌||◌}
use Rattle.std.proofs.lemmas.Slice.Eq.{bytes_eq-Decides}
use Rattle.std.specs.declared.vec.Vec.{Vec}
use Rattle.std.specs.declared.alloc.Global.{Global}
use Rattle.std.specs.Borrow.{Bor}
use Rattle.wb_values.specs.Value.{Name, same_name}
use Rattle.verilog_trees.specs.Syntax as pure
use Rattle.verilog_meaning.specs.Expression.{Scope}
use Rattle.verilog_meaning.specs.Register.{is_bit_of, may_mean, may_reach, may_reach_one, selects_are_constant}
use Rattle.verilog_designs.specs.Reads.{no_bits, or_in, target_reads, targets_read, surely_reaches, one_surely_reaches}
use Rattle.v_syntax.specs.declared.tree.Target.{Target, Place, Joined}
use Rattle.v_syntax.specs.declared.tree.Selects.{Selects}
use Rattle.v_syntax.specs.Tree.{target_of, selects_of}
use Rattle.v_statement.specs.Statements.{target_list}
use Rattle.v_statement.proofs.Targets.{target_of-Joined}
use Rattle.v_value.specs.Narrow.{IsNarrow}
use Rattle.v_flow.specs.Spans.{existing}
use Rattle.v_flow.specs.Narrow.{HasNarrowParts, HaveNarrowParts}
use Rattle.v_flow.specs.Flow.{place_bits, place_reached, reached, one_reached, selects_constant_at, selects_read_at, target_reads_at, targets_read_at}
use Rattle.v_flow.proofs.Constants.{and_false}

pub and_or : (a b c : Bool) → a && (b || c) ≡ (a && b) || (a && c)
and_or true b c = refl
and_or false b c = refl

-- bits of the name m, asked for under the name n
same-object : (s : Scope) (m n : Name) (k b : ℕ) (w : Bool) → (is_bit_of (s n) k b && (same_name m n && w)) ≡ (same_name m n && (is_bit_of (s m) k b && w))
same-object s m n k b w =
    (elim (same_name m n) as (λ t. same_name m n ≡ t → (is_bit_of (s n) k b && (t && w)) ≡ (t && (is_bit_of (s m) k b && w))) [
      | true ↦ λ e. ap (λ o. is_bit_of (s o) k b && w) (sym ((bytes_eq-Decides m n).0 e))
      | false ↦ λ e. and_false (is_bit_of (s n) k b)
    ]) refl

place-may : (s : Scope) (m : Name) (x : pure.Selects) → place_bits s m x ≡ existing s (may_reach s (pure.place m x))
unfolding place_bits
place-may s m x = λ i n k b. sym (same-object s m n k b (may_mean s (s m) x k b)) i

place-point : (s : Scope) (m : Name) (x : pure.Selects) (n : Name) (k b : ℕ) (d : Bool)
    → cond d (place_bits s m x) no_bits n k b ≡ (is_bit_of (s n) k b && (same_name m n && (d && may_mean s (s m) x k b)))
unfolding place_bits
place-point s m x n k b true = sym (same-object s m n k b (may_mean s (s m) x k b))
place-point s m x n k b false = sym (ap (λ t. is_bit_of (s n) k b && t) (and_false (same_name m n)) ∙ and_false (is_bit_of (s n) k b))

place-sure : (s : Scope) (m : Name) (x : pure.Selects) → cond (selects_are_constant s x) (place_bits s m x) no_bits ≡ existing s (surely_reaches s (pure.place m x))
place-sure s m x = λ i n k b. place-point s m x n k b (selects_are_constant s x) i

place-reached : (s : Scope) (surely : Bool) (m : Name) (x : pure.Selects) → place_reached s surely m x ≡ reached s surely (pure.place m x)
unfolding reached selects_constant_at
place-reached s true m x = place-sure s m x
place-reached s false m x = place-may s m x

joined-reached : (s : Scope) (surely : Bool) (ts : pure.Targets) → one_reached s surely ts ≡ reached s surely (pure.joined ts)
unfolding reached one_reached
joined-reached s true ts = λ i n k b. is_bit_of (s n) k b && one_surely_reaches s ts n k b
joined-reached s false ts = λ i n k b. is_bit_of (s n) k b && may_reach_one s ts n k b

pub no_target-reached : (s : Scope) (surely : Bool) → one_reached s surely pure.no_targets ≡ no_bits
unfolding one_reached
no_target-reached s true = λ i n k b. and_false (is_bit_of (s n) k b) i
no_target-reached s false = λ i n k b. and_false (is_bit_of (s n) k b) i

pub target-reached : (s : Scope) (surely : Bool) (t : pure.Target) (ts : pure.Targets) → one_reached s surely (pure.target t ts) ≡ or_in (reached s surely t) (one_reached s surely ts)
unfolding reached one_reached
target-reached s true t ts = λ i n k b. and_or (is_bit_of (s n) k b) (surely_reaches s t n k b) (one_surely_reaches s ts n k b) i
target-reached s false t ts = λ i n k b. and_or (is_bit_of (s n) k b) (may_reach s t n k b) (may_reach_one s ts n k b) i

pub no_target-reads : (s : Scope) → targets_read_at s pure.no_targets ≡ no_bits
unfolding targets_read_at
no_target-reads s = refl

pub target-reads : (s : Scope) (t : pure.Target) (ts : pure.Targets) → targets_read_at s (pure.target t ts) ≡ or_in (target_reads_at s t) (targets_read_at s ts)
unfolding target_reads_at targets_read_at
target-reads s t ts = refl

module _ (s : Scope) (e : Target) where
  pub of-Place : (surely : Bool) (m : Bor (List ℕ)) (x : Selects) → e ≡ Place m x → place_reached s surely m.now (selects_of x) ≡ reached s surely (target_of e)
  of-Place surely m x i = place-reached s surely m.now (selects_of x) ∙ sym (ap (λ z. reached s surely (target_of z)) i)

  pub of-Joined : (surely : Bool) (v : Vec Target Global) → e ≡ Joined v → (ts : List Target) → ts ≡ v.items → one_reached s surely (target_list ts) ≡ reached s surely (target_of e)
  of-Joined surely v i ts j =
      ap (λ l. one_reached s surely (target_list l)) j ∙ joined-reached s surely (target_list v.items)
      ∙ sym (ap (reached s surely) (ap target_of i ∙ target_of-Joined v))

  pub reads-Place : (m : Bor (List ℕ)) (x : Selects) → e ≡ Place m x → selects_read_at s (selects_of x) ≡ target_reads_at s (target_of e)
  unfolding selects_read_at target_reads_at
  reads-Place m x i = sym (ap (λ z. target_reads s (target_of z)) i)

  pub reads-Joined : (v : Vec Target Global) → e ≡ Joined v → (ts : List Target) → ts ≡ v.items → targets_read_at s (target_list ts) ≡ target_reads_at s (target_of e)
  unfolding targets_read_at target_reads_at
  reads-Joined v i ts j =
      ap (λ l. targets_read s (target_list l)) j ∙ sym (ap (target_reads s) (ap target_of i ∙ target_of-Joined v))

  module _ (h : HasNarrowParts s (target_of e)) where
    pub narrow-Place : (m : Bor (List ℕ)) (x : Selects) → e ≡ Place m x → IsNarrow s (pure.name m.now (selects_of x))
    narrow-Place m x i = subst (λ z. HasNarrowParts s (target_of z)) i h

    pub narrow-Joined : (v : Vec Target Global) → e ≡ Joined v → (ts : List Target) → ts ≡ v.items → HaveNarrowParts s (target_list ts)
    narrow-Joined v i ts j = subst (λ l. HaveNarrowParts s (target_list l)) (sym j) (subst (HasNarrowParts s) (ap target_of i ∙ target_of-Joined v) h)
