-- Narrow parts of targets, names that are no memories, and blocks of a module.
use Rattle.std.proofs.Common.{◌≡◌, ◌∙◌, ℕ, ◌+◌, ◌<◌, ◌≤◌, ap, sym, subst, arith, Bool, true, false, cond, List, ◌∷◌, length, drop, get_or, Option, Some, is_some}
use Rattle.std.specs.declared.boxed.Box.{Box}
use Rattle.std.specs.declared.alloc.Global.{Global}
use Rattle.std.proofs.lemmas.Bool.{true≢false}
use Rattle.std.proofs.lemmas.List.{drop_more}
use Rattle.wb_values.specs.Value.{Name, same_name, entry_of}
use Rattle.wb_values.specs.Choice.{some_if}
use Rattle.verilog_trees.specs.Syntax as pure
use Rattle.verilog_meaning.specs.Expression.{Object, Scope, object_or_undeclared, is_memory, scope_of, selects_width}
use Rattle.v_syntax.specs.declared.tree.Expression.{Expression}
use Rattle.v_syntax.specs.declared.tree.Select.{Select, Index, Part, PartUp, PartDown}
use Rattle.v_syntax.specs.declared.tree.Selects.{Selects, Whole, One, Two}
use Rattle.v_syntax.specs.declared.tree.Statement.{Statement}
use Rattle.v_syntax.specs.declared.module.Item.{Item}
use Rattle.v_syntax.specs.declared.module.Item.TheVariants.{Always}
use Rattle.v_syntax.specs.declared.module.Events.{Events}
use Rattle.v_syntax.specs.Tree.{tree_of, select_of, selects_of, statement_of}
use Rattle.v_syntax.specs.Source.{item_of}
use Rattle.v_value.specs.declared.scope.Declaration.{Declaration}
use Rattle.v_value.specs.Scope.{object_of, objects_of}
use Rattle.v_value.specs.Narrow.{IsNarrow, HasNarrowObjects, IsSelectNarrow, AreSelectsNarrow}
use Rattle.v_flow.specs.Narrow.{IsNarrowFlow}
use Rattle.v_paths.specs.Modules.{IsFitItem}

-- ---- names

abbrev pub AreNoMemories : List Declaration → Type 0
AreNoMemories ds = (n : Name) → is_memory (scope_of (objects_of ds) n) ≡ false

by-name : (o : Object) (r : Option Object) (t : Bool) → is_memory o ≡ false → is_memory (object_or_undeclared r) ≡ false → is_memory (object_or_undeclared (cond t (Some o) r)) ≡ false
by-name o r true h k = h
by-name o r false h k = k

one-more : (d : Declaration) (ds : List Declaration) → is_some d.object.addresses ≡ false → AreNoMemories ds → AreNoMemories (d ∷ ds)
one-more d ds e h = λ n. by-name (object_of d.object) (entry_of (objects_of ds) n) (same_name d.name.now n) e (h n)

-- a turn of the loop over declarations, one of which is no memory
pub memory-turn : (ds : List Declaration) (i : ℕ) (d : Declaration) (b : Bool) → i < length ds → b ≡ is_some (get_or ds i d).object.addresses → b ≡ false
    → AreNoMemories (drop (i + 1) ds) → AreNoMemories (drop i ds)
memory-turn ds i d b h e f g = subst AreNoMemories (sym (drop_more ds i d h)) (one-more (get_or ds i d) (drop (i + 1) ds) (sym e ∙ f) g)

-- ---- parts of targets

width-is : (b : Bool) (w v : ℕ) → Some w ≡ some_if b v → w ≡ v
width-is true w v e = cc e
width-is false w v e = cc e

-- a part of a name that has so many bits
pub narrow-place : (s : Scope) (n : Name) (o : Object) (x : pure.Selects) (b : Bool) (w : ℕ) → o ≡ s n → Some w ≡ some_if b (selects_width s o x)
    → (w ≡ 0 → ⊥) → w ≤ 128 → AreSelectsNarrow s x → IsNarrow s (pure.name n x)
narrow-place s n o x b w e f h k a =
    let is : w ≡ selects_width s (s n) x = width-is b w (selects_width s o x) f ∙ ap (λ p. selects_width s p x) e in
    let some : 1 ≤ w = omega (arith, h) in
    ((subst (λ v. 1 ≤ v) is some, subst (λ v. v ≤ 128) is k), a)

module _ (s : Scope) (x : Select) where
  pub select-Index : (b : Box Expression Global) → x ≡ Index b → (i : Expression) → i ≡ b.value → IsNarrow s (tree_of i) → IsSelectNarrow s (select_of x)
  select-Index b e i g h = subst (λ z. IsSelectNarrow s (select_of z)) (sym e) (subst (λ z. IsNarrow s (tree_of z)) g h)

  pub select-Part : HasNarrowObjects s → (l r : Box Expression Global) → x ≡ Part l r → (i j : Expression) → i ≡ l.value → j ≡ r.value
      → IsNarrow s (tree_of i) × IsNarrow s (tree_of j) → IsSelectNarrow s (select_of x)
  select-Part o l r e i j f g h =
      subst (λ z. IsSelectNarrow s (select_of z)) (sym e) (o, subst (λ z. IsNarrow s (tree_of z)) f h.0, subst (λ z. IsNarrow s (tree_of z)) g h.1)

  pub select-PartUp : HasNarrowObjects s → (l r : Box Expression Global) → x ≡ PartUp l r → (i j : Expression) → i ≡ l.value → j ≡ r.value
      → IsNarrow s (tree_of i) × IsNarrow s (tree_of j) → IsSelectNarrow s (select_of x)
  select-PartUp o l r e i j f g h =
      subst (λ z. IsSelectNarrow s (select_of z)) (sym e) (o, subst (λ z. IsNarrow s (tree_of z)) f h.0, subst (λ z. IsNarrow s (tree_of z)) g h.1)

  pub select-PartDown : HasNarrowObjects s → (l r : Box Expression Global) → x ≡ PartDown l r → (i j : Expression) → i ≡ l.value → j ≡ r.value
      → IsNarrow s (tree_of i) × IsNarrow s (tree_of j) → IsSelectNarrow s (select_of x)
  select-PartDown o l r e i j f g h =
      subst (λ z. IsSelectNarrow s (select_of z)) (sym e) (o, subst (λ z. IsNarrow s (tree_of z)) f h.0, subst (λ z. IsNarrow s (tree_of z)) g h.1)

module _ (s : Scope) (x : Selects) where
  pub selects-Whole : x ≡ Whole → AreSelectsNarrow s (selects_of x)
  selects-Whole e = subst (λ z. AreSelectsNarrow s (selects_of z)) (sym e) tt

  pub selects-One : (a : Select) → x ≡ One a → IsSelectNarrow s (select_of a) → AreSelectsNarrow s (selects_of x)
  selects-One a e h = subst (λ z. AreSelectsNarrow s (selects_of z)) (sym e) h

  pub selects-Two : (a b : Select) → x ≡ Two a b → IsSelectNarrow s (select_of a) → IsSelectNarrow s (select_of b) → AreSelectsNarrow s (selects_of x)
  selects-Two a b e h k = subst (λ z. AreSelectsNarrow s (selects_of z)) (sym e) (h, k)

-- ---- items of a module

pub fit-block : (s : Scope) (i : Item) (ev : Events) (b : Box Statement Global) → i ≡ Always ev b → (x : Statement) → x ≡ b.value → ((n : Name) → is_memory (s n) ≡ false)
    → IsNarrowFlow s (statement_of x) → IsFitItem s (item_of i)
fit-block s i ev b e x g free h =
    subst (λ z. IsFitItem s (item_of z)) (sym e) (record {
      narrow = subst (λ z. IsNarrowFlow s (statement_of z)) g h;
      no_memory = λ c n k j m. absurd (true≢false (sym m ∙ free n));
    })
