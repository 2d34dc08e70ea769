-- How many bits selects take, over what the calls returned.
use Rattle.std.proofs.Common.{◌≡◌, ℕ, ◌∙◌, ap, sym, subst, Bool, true, false, cond, ℤ, pos, negsuc}
use Rattle.verilog_meaning.specs.Expression as meaning
use Rattle.verilog_meaning.specs.Expression.{Scope}
use Rattle.std.specs.declared.boxed.Box.{Box}
use Rattle.std.specs.declared.alloc.Global.{Global}
use Rattle.v_syntax.specs.declared.tree.Expression.{Expression}
use Rattle.v_syntax.specs.declared.tree.Select.{Select, Index, Part, PartUp, PartDown}
use Rattle.v_syntax.specs.Tree.{tree_of, select_of}
use Rattle.v_value.specs.declared.select.Integer.{Integer}
use Rattle.v_value.specs.Index.{integer_at, count_between}
use Rattle.v_value.specs.Narrow.{IsNarrow, IsSelectNarrow, HasNarrowObjects}
use Rattle.v_value.specs.Evaluation.{count_at, bound_at, taken_at}
use Rattle.v_value.proofs.Taking as taking
use Rattle.v_narrow.specs.Test.{is_width}

-- a constant that a call was given
abbrev pub IsConstant : Scope → Expression → Type 0
IsConstant s e = record {
  objects : HasNarrowObjects s;
  narrow : IsNarrow s (tree_of e);
}

-- y is the select, e and f what stands in it as calls were given it
module _ (s : Scope) (y : Select) where
  pub index-few : (a : Box Expression Global) → y ≡ Index a → true ≡ is_width (taken_at s (select_of y))
  index-few a i = ap is_width (taking.index-count s y a i)

  module _ (a b : Box Expression Global) (i : y ≡ Part a b) where
    module _ (h : IsSelectNarrow s (select_of y)) where
      opened : HasNarrowObjects s × IsNarrow s (tree_of a.value) × IsNarrow s (tree_of b.value)
      opened = subst (λ z. IsSelectNarrow s (select_of z)) i h

      pub part-left : (e : Expression) → e ≡ a.value → IsConstant s e
      part-left e j = record { objects = opened.0; narrow = subst (λ z. IsNarrow s (tree_of z)) (sym j) opened.1 }

      pub part-right : (f : Expression) → f ≡ b.value → IsConstant s f
      part-right f j = record { objects = opened.0; narrow = subst (λ z. IsNarrow s (tree_of z)) (sym j) opened.2 }

    pub part-few : (e f : Expression) → e ≡ a.value → f ≡ b.value → (k l : ℤ) → k ≡ bound_at s (tree_of e) → l ≡ bound_at s (tree_of f) → (r : Bool) → r ≡ is_width (count_between k l) → r ≡ is_width (taken_at s (select_of y))
    part-few e f j j2 k l is_k is_l r g = g ∙ ap is_width (taking.part-between s y a b i e f j j2 k l is_k is_l)

  module _ (a b : Box Expression Global) (f : Expression) (j : f ≡ b.value) where
    module _ (i : y ≡ PartUp a b) where
      pub up-count : IsSelectNarrow s (select_of y) → IsConstant s f
      up-count h =
          let o : HasNarrowObjects s × IsNarrow s (tree_of a.value) × IsNarrow s (tree_of b.value) = subst (λ z. IsSelectNarrow s (select_of z)) i h in
          record { objects = o.0; narrow = subst (λ z. IsNarrow s (tree_of z)) (sym j) o.2 }

      pub up-few : (n : ℕ) → n ≡ count_at s (tree_of f) → (r : Bool) → r ≡ is_width n → r ≡ is_width (taken_at s (select_of y))
      up-few n is_n r g = g ∙ ap is_width (taking.up-count s y a b i f j n is_n)

    module _ (i : y ≡ PartDown a b) where
      pub down-count : IsSelectNarrow s (select_of y) → IsConstant s f
      down-count h =
          let o : HasNarrowObjects s × IsNarrow s (tree_of a.value) × IsNarrow s (tree_of b.value) = subst (λ z. IsSelectNarrow s (select_of z)) i h in
          record { objects = o.0; narrow = subst (λ z. IsNarrow s (tree_of z)) (sym j) o.2 }

      pub down-few : (n : ℕ) → n ≡ count_at s (tree_of f) → (r : Bool) → r ≡ is_width n → r ≡ is_width (taken_at s (select_of y))
      down-few n is_n r g = g ∙ ap is_width (taking.down-count s y a b i f j n is_n)

-- the number of a constant by its integer
module _ (s : Scope) (e : Expression) (i : Integer) (g : integer_at i ≡ bound_at s (tree_of e)) where
  natural : meaning.natural_of (integer_at i) ≡ count_at s (tree_of e)
  unfolding bound_at count_at
  natural = ap meaning.natural_of g

  pub below_zero : i.negative ≡ true → 0 ≡ count_at s (tree_of e)
  below_zero n = sym (ap (λ b. meaning.natural_of (cond b (negsuc i.magnitude) (pos i.magnitude))) n) ∙ natural

  pub from_zero : i.negative ≡ false → i.magnitude ≡ count_at s (tree_of e)
  from_zero n = sym (ap (λ b. meaning.natural_of (cond b (negsuc i.magnitude) (pos i.magnitude))) n) ∙ natural
