-- What each form of a statement assigns on each path and reads from outside, by its parts.
use Rattle.std.proofs.Common.{◌≡◌, ◌∙◌, refl, ap, sym, Bool, true, false, List, ◌∷◌, Option, Some, None}
use Rattle.std.specs.Prelude.{ℕ, ◌&&◌, ◌||◌}
use Rattle.std.specs.declared.boxed.Box.{Box}
use Rattle.std.specs.declared.vec.Vec.{Vec}
use Rattle.std.specs.declared.alloc.Global.{Global}
use Rattle.std.specs.Borrow.{Bor}
use Rattle.verilog_trees.specs.Syntax as pure
use Rattle.verilog_meaning.specs.Expression.{Scope}
use Rattle.verilog_meaning.specs.Register.{is_bit_of}
use Rattle.verilog_designs.specs.Reads.{BitSet, no_bits, or_in, reads, target_reads, items_read, surely_reaches, surely_assigns, arms_read_after, reads_outside}
use Rattle.v_syntax.specs.declared.tree.Expression.{Expression}
use Rattle.v_syntax.specs.declared.tree.Target.{Target}
use Rattle.v_syntax.specs.declared.tree.Arm.{Arm}
use Rattle.v_syntax.specs.declared.tree.CaseItem.{CaseItem, Values, Default}
use Rattle.v_syntax.specs.declared.tree.CaseKind.{CaseKind as CodeKind}
use Rattle.v_syntax.specs.declared.tree.Statement.{Statement, Empty, Blocking, Nonblocking, If, Case, Block}
use Rattle.v_syntax.specs.Tree.{tree_of, target_of, statement_of, case_kind_of, or_empty}
use Rattle.v_statement.specs.Effects.{item_list}
use Rattle.v_statement.proofs.Runs.{last_statement, statement_of-If, statement_of-Case, statement_of-Block}
use Rattle.v_flow.specs.Spans.{existing}
use Rattle.v_flow.proofs.Sets.{or-assoc, or-none}
use Rattle.v_paths.specs.Cases.{full_at}
use Rattle.v_paths.specs.Walks.{item_reads, sure_at, outside_at, all_sure, all_outside, ladder_sure, ladder_outside, bodies_sure, bodies_outside, where_full}
use Rattle.v_paths.proofs.Walked.{nothing-done, or-comm, none-existing, outside-ladder, sure-ladder, outside-bodies, sure-case, sure-all, outside-all}

module _ (s : Scope) (x : Statement) where
  pub sure-Empty : x ≡ Empty → no_bits ≡ sure_at s (statement_of x)
  unfolding sure_at
  sure-Empty i = sym (none-existing s) ∙ sym (ap (λ z. existing s (surely_assigns s (statement_of z))) i)

  pub outside-Empty : x ≡ Empty → no_bits ≡ outside_at s (statement_of x)
  unfolding outside_at
  outside-Empty i = (λ j n k b. false) ∙ sym (ap (λ z. reads_outside s (statement_of z)) i)

  pub sure-Blocking : (t : Box Target Global) (e : Expression) → x ≡ Blocking t e → (u : Target) → u ≡ t.value → existing s (surely_reaches s (target_of u)) ≡ sure_at s (statement_of x)
  unfolding sure_at
  sure-Blocking t e i u is = ap (λ z. existing s (surely_reaches s (target_of z))) is ∙ (λ j n k b. is_bit_of (s n) k b && surely_reaches s (target_of t.value) n k b) ∙ sym (ap (λ z. existing s (surely_assigns s (statement_of z))) i)

  pub outside-Blocking : (t : Box Target Global) (e : Expression) → x ≡ Blocking t e → (u : Target) → u ≡ t.value → or_in (reads s (tree_of e)) (target_reads s (target_of u)) ≡ outside_at s (statement_of x)
  unfolding outside_at
  outside-Blocking t e i u is = ap (λ z. or_in (reads s (tree_of e)) (target_reads s (target_of z))) is ∙ sym (nothing-done (or_in (reads s (tree_of e)) (target_reads s (target_of t.value)))) ∙ sym (ap (λ z. reads_outside s (statement_of z)) i)

  pub sure-Nonblocking : (t : Box Target Global) (e : Expression) → x ≡ Nonblocking t e → no_bits ≡ sure_at s (statement_of x)
  unfolding sure_at
  sure-Nonblocking t e i = sym (none-existing s) ∙ sym (ap (λ z. existing s (surely_assigns s (statement_of z))) i)

  pub outside-Nonblocking : (t : Box Target Global) (e : Expression) → x ≡ Nonblocking t e → (u : Target) → u ≡ t.value → or_in (reads s (tree_of e)) (target_reads s (target_of u)) ≡ outside_at s (statement_of x)
  unfolding outside_at
  outside-Nonblocking t e i u is = ap (λ z. or_in (reads s (tree_of e)) (target_reads s (target_of z))) is ∙ sym (nothing-done (or_in (reads s (tree_of e)) (target_reads s (target_of t.value)))) ∙ sym (ap (λ z. reads_outside s (statement_of z)) i)

  -- what stands behind the last else is walked first
  pub sure-else : (v : Vec Arm Global) (l : Option (Box Statement Global)) (b : Box Statement Global) → x ≡ If v l → l ≡ Some b → (as_ : List Arm) → as_ ≡ v.items → (y : Statement) → y ≡ b.value
      → ladder_sure s as_ (sure_at s (statement_of y)) ≡ sure_at s (statement_of x)
  unfolding sure_at
  sure-else v l b i j as_ g y h =
      ap (λ z. ladder_sure s z (existing s (surely_assigns s (statement_of y)))) g ∙ ap (λ z. ladder_sure s v.items (existing s (surely_assigns s (statement_of z)))) h
      ∙ ap (λ o. ladder_sure s v.items (existing s (surely_assigns s (or_empty (last_statement o))))) (sym j)
      ∙ sym (sure-ladder s v.items (last_statement l)) ∙ sym (ap (λ z. existing s (surely_assigns s z)) (ap statement_of i ∙ statement_of-If v l))

  pub outside-else : (v : Vec Arm Global) (l : Option (Box Statement Global)) (b : Box Statement Global) → x ≡ If v l → l ≡ Some b → (as_ : List Arm) → as_ ≡ v.items → (y : Statement) → y ≡ b.value
      → or_in (outside_at s (statement_of y)) (ladder_outside s as_) ≡ outside_at s (statement_of x)
  unfolding outside_at
  outside-else v l b i j as_ g y h =
      or-comm (reads_outside s (statement_of y)) (ladder_outside s as_)
      ∙ ap (λ z. or_in (ladder_outside s z) (reads_outside s (statement_of y))) g ∙ ap (λ z. or_in (ladder_outside s v.items) (reads_outside s (statement_of z))) h
      ∙ ap (λ o. or_in (ladder_outside s v.items) (reads_outside s (or_empty (last_statement o)))) (sym j)
      ∙ sym (outside-ladder s v.items (last_statement l)) ∙ sym (ap (reads_outside s) (ap statement_of i ∙ statement_of-If v l))

  pub sure-no_else : (v : Vec Arm Global) (l : Option (Box Statement Global)) → x ≡ If v l → l ≡ None → (as_ : List Arm) → as_ ≡ v.items
      → ladder_sure s as_ no_bits ≡ sure_at s (statement_of x)
  unfolding sure_at
  sure-no_else v l i j as_ g =
      ap (λ z. ladder_sure s z no_bits) g ∙ ap (ladder_sure s v.items) (sym (none-existing s))
      ∙ ap (λ o. ladder_sure s v.items (existing s (surely_assigns s (or_empty (last_statement o))))) (sym j)
      ∙ sym (sure-ladder s v.items (last_statement l)) ∙ sym (ap (λ z. existing s (surely_assigns s z)) (ap statement_of i ∙ statement_of-If v l))

  pub outside-no_else : (v : Vec Arm Global) (l : Option (Box Statement Global)) → x ≡ If v l → l ≡ None → (as_ : List Arm) → as_ ≡ v.items
      → ladder_outside s as_ ≡ outside_at s (statement_of x)
  unfolding outside_at
  outside-no_else v l i j as_ g =
      ap (ladder_outside s) g ∙ sym (or-none (ladder_outside s v.items)) ∙ (λ t n k b. ladder_outside s v.items n k b || reads_outside s pure.empty n k b)
      ∙ ap (λ o. or_in (ladder_outside s v.items) (reads_outside s (or_empty (last_statement o)))) (sym j)
      ∙ sym (outside-ladder s v.items (last_statement l)) ∙ sym (ap (reads_outside s) (ap statement_of i ∙ statement_of-If v l))

  pub sure-Case : (kind : CodeKind) (e : Expression) (v : Vec CaseItem Global) → x ≡ Case kind e v → (items others : List CaseItem) → items ≡ v.items → others ≡ v.items
      → (full : Bool) → full ≡ full_at s (case_kind_of kind) (tree_of e) (item_list items) → where_full full (bodies_sure s others true no_bits) ≡ sure_at s (statement_of x)
  unfolding sure_at
  sure-Case kind e v i items others g h full f =
      ap (λ z. where_full full (bodies_sure s z true no_bits)) h
      ∙ sure-case s (case_kind_of kind) (tree_of e) v.items full (f ∙ ap (λ z. full_at s (case_kind_of kind) (tree_of e) (item_list z)) g)
      ∙ sym (ap (λ z. existing s (surely_assigns s z)) (ap statement_of i ∙ statement_of-Case kind e v))

  pub outside-Case : (kind : CodeKind) (e : Expression) (v : Vec CaseItem Global) → x ≡ Case kind e v → (items others : List CaseItem) → items ≡ v.items → others ≡ v.items
      → or_in (reads s (tree_of e)) (or_in (items_read s (item_list items)) (bodies_outside s others)) ≡ outside_at s (statement_of x)
  unfolding outside_at
  outside-Case kind e v i items others g h =
      let p = reads s (tree_of e) in
      ap (λ z. or_in p (or_in (items_read s (item_list z)) (bodies_outside s others))) g
      ∙ ap (λ z. or_in p (or_in (items_read s (item_list v.items)) (bodies_outside s z))) h
      ∙ ap (λ (z : BitSet). or_in p (or_in (items_read s (item_list v.items)) z)) (sym (outside-bodies s v.items))
      ∙ sym (or-assoc p (items_read s (item_list v.items)) (arms_read_after s no_bits (item_list v.items)))
      ∙ ap (λ (z : BitSet). or_in z (arms_read_after s no_bits (item_list v.items))) (sym (nothing-done (or_in p (items_read s (item_list v.items)))))
      ∙ sym (ap (reads_outside s) (ap statement_of i ∙ statement_of-Case kind e v))

  pub sure-Block : (m : Option (Bor (List ℕ))) (v : Vec Statement Global) → x ≡ Block m v → (xs : List Statement) → xs ≡ v.items → all_sure s xs ≡ sure_at s (statement_of x)
  unfolding sure_at
  sure-Block m v i xs g =
      ap (all_sure s) g ∙ sym (sure-all s v.items) ∙ sym (ap (λ z. existing s (surely_assigns s z)) (ap statement_of i ∙ statement_of-Block m v))

  pub outside-Block : (m : Option (Bor (List ℕ))) (v : Vec Statement Global) → x ≡ Block m v → (xs : List Statement) → xs ≡ v.items → all_outside s xs ≡ outside_at s (statement_of x)
  unfolding outside_at
  outside-Block m v i xs g =
      ap (all_outside s) g ∙ sym (outside-all s v.items) ∙ sym (ap (reads_outside s) (ap statement_of i ∙ statement_of-Block m v))

-- ---- labels

-- an item of a case before others
pub labels-more : (s : Scope) (i : CaseItem) (items : List CaseItem) → items_read s (item_list (i ∷ items)) ≡ or_in (item_reads s i) (items_read s (item_list items))
labels-more s (Values es x) items = refl
labels-more s (Default x) items = refl
