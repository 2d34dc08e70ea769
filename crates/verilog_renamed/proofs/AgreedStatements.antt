-- Scopes that agree on each name in a target or a statement give it one meaning.
use Rattle.std.proofs.Common.{◌≡◌, ◌↔◌, ℕ, ◌+◌, ◌/◌, ◌%◌, ◌^◌, max, Bool, cond, ◌&&◌, ◌||◌, List, [], ◌∷◌, ◌++◌, refl, sym, ◌∙◌}
use Rattle.wb_values.specs.Value.{Name, Valuation, with_value}
use Rattle.verilog_trees.specs.Syntax.{Expression, Expressions, no_expressions, expression, Selects, whole, one, two, Target, place, joined, Targets, no_targets, target, CaseKind, Statement, empty, blocking, nonblocking, if_then, if_else, case, block, Statements, no_statements, statement, CaseItems, no_items, arm, default_arm}
use Rattle.verilog_meaning.specs.Expression.{Scope, is_memory, is_nonzero, sign_of, width_of, assigned_value}
use Rattle.verilog_meaning.specs.Statement.{variable_cell, Place, indexed_cell, all_bits, named_place, places, all_places, places_width, target_width, targets_width, written_cell, written, Update, Effect, unchanged, followed_by, greatest_width, all_signed, items_width, items_signed, wild_bits, matches, any_matches, run, run_all, run_case, with_updates}
use Rattle.verilog_meaning.specs.Register.{updates_of_blocks, after_edge}
use Rattle.verilog_meaning.specs.Settled.{Has, HasAssigned, HasRun, HasRunAll}
use Rattle.verilog_renamed.specs.EachName.{EachIn, EachInAll, EachInSelects, EachInTarget, EachInTargets, EachInStatement, EachInStatements, EachInItems, EachInAssignments, EachInBlocks, EachPlaced, EachUpdated}
use Rattle.verilog_renamed.specs.Agreement.{IsSameIn}
use Rattle.verilog_renamed.proofs.EachName.{updated_after, each_placed, each_updated}
use Rattle.verilog_renamed.proofs.AgreedExpressions.{Agreed, AgreedSelect, AgreedSelects, agreed, agreed_select, agreed_selects, agreed_self, agreed_assigned}

-- ---- targets

module _ (s t : Scope) where
  pub agreed_named : (v : Valuation) (n : Name) (x : Selects) → IsSameIn s t n → EachInSelects (IsSameIn s t) x → named_place t v n x ≡ named_place s v n x
  agreed_named v n whole a b = λ i. record { of_name = n; cell = variable_cell; bits = all_bits (a i) }
  agreed_named v n (one x) a b =
      let h : AgreedSelect s t x = agreed_select s t x b in
      λ i. cond (is_memory (a i)) (record { of_name = n; cell = indexed_cell (a i) (h.place v i); bits = all_bits (a i) })
      (record { of_name = n; cell = variable_cell; bits = h.bits v (a i) i })
  agreed_named v n (two x y) a b =
      let h : AgreedSelect s t x = agreed_select s t x b.0 in
      let k : AgreedSelect s t y = agreed_select s t y b.1 in
      λ i. record { of_name = n; cell = indexed_cell (a i) (h.place v i); bits = k.bits v (a i) i }

  mutual
    pub agreed_places : (v : Valuation) (x : Target) → EachInTarget (IsSameIn s t) x → places t v x ≡ places s v x
    agreed_places v (place n x) a = λ i. agreed_named v n x a.0 a.1 i ∷ []
    agreed_places v (joined xs) a = agreed_all_places v xs a

    agreed_all_places : (v : Valuation) (xs : Targets) → EachInTargets (IsSameIn s t) xs → all_places t v xs ≡ all_places s v xs
    agreed_all_places v no_targets a = refl
    agreed_all_places v (target x xs) a = λ i. agreed_places v x a.0 i ++ agreed_all_places v xs a.1 i

  mutual
    pub agreed_target_width : (x : Target) → EachInTarget (IsSameIn s t) x → target_width t x ≡ target_width s x
    agreed_target_width (place n x) a =
        let h : AgreedSelects s t x = agreed_selects s t x a.1 in
        λ i. h.width (a.0 i) i
    agreed_target_width (joined xs) a = agreed_targets_width xs a

    pub agreed_targets_width : (xs : Targets) → EachInTargets (IsSameIn s t) xs → targets_width t xs ≡ targets_width s xs
    agreed_targets_width no_targets a = refl
    agreed_targets_width (target x xs) a = λ i. agreed_target_width x a.0 i + agreed_targets_width xs a.1 i

  -- ---- writes

  pub agreed_written : (v : Valuation) (ps : List Place) (x : ℕ) → EachPlaced (IsSameIn s t) ps → written t v ps x ≡ written s v ps x
  agreed_written v [] x a = refl
  agreed_written v (p ∷ ps) x a =
      let h : written t v ps (x % 2 ^ places_width ps) ≡ written s v ps (x % 2 ^ places_width ps) = agreed_written v ps (x % 2 ^ places_width ps) a.1 in
      λ i. with_value (h i) p.of_name (written_cell (a.0 i) (h i p.of_name) p.cell p.bits (x / 2 ^ places_width ps))

  pub agreed_updates : (v : Valuation) (us : List Update) → EachUpdated (IsSameIn s t) us → with_updates t v us ≡ with_updates s v us
  agreed_updates v [] a = refl
  agreed_updates v (u ∷ us) a = λ i. agreed_updates (agreed_written v u.places u.value a.0 i) us a.1 i

  -- ---- what cases compare

  agreed_greatest : (es : Expressions) → EachInAll (IsSameIn s t) es → greatest_width t es ≡ greatest_width s es
  agreed_greatest no_expressions a = refl
  agreed_greatest (expression e es) a =
      let h : Agreed s t e = agreed s t e a.0 in
      λ i. max (h.width i) (agreed_greatest es a.1 i)

  agreed_signed : (es : Expressions) → EachInAll (IsSameIn s t) es → all_signed t es ≡ all_signed s es
  agreed_signed no_expressions a = refl
  agreed_signed (expression e es) a =
      let h : Agreed s t e = agreed s t e a.0 in
      λ i. h.sign i && agreed_signed es a.1 i

  pub agreed_items_width : (items : CaseItems) → EachInItems (IsSameIn s t) items → items_width t items ≡ items_width s items
  agreed_items_width no_items a = refl
  agreed_items_width (arm es x items) a = λ i. max (agreed_greatest es a.0 i) (agreed_items_width items a.2 i)
  agreed_items_width (default_arm x items) a = agreed_items_width items a.1

  pub agreed_items_signed : (items : CaseItems) → EachInItems (IsSameIn s t) items → items_signed t items ≡ items_signed s items
  agreed_items_signed no_items a = refl
  agreed_items_signed (arm es x items) a = λ i. agreed_signed es a.0 i && agreed_items_signed items a.2 i
  agreed_items_signed (default_arm x items) a = agreed_items_signed items a.1

  agreed_matches : (v : Valuation) (kind : CaseKind) (w : ℕ) (g : Bool) (y : ℕ) (es : Expressions) → EachInAll (IsSameIn s t) es
      → any_matches t v kind w g y es ≡ any_matches s v kind w g y es
  agreed_matches v kind w g y no_expressions a = refl
  agreed_matches v kind w g y (expression e es) a =
      let h : Agreed s t e = agreed s t e a.0 in
      λ i. matches kind (wild_bits e) y (h.value v w g i) || agreed_matches v kind w g y es a.1 i

  -- ---- runs

  pub agreed_given : (v : Valuation) (x : Target) (e : Expression) → EachInTarget (IsSameIn s t) x → EachIn (IsSameIn s t) e
      → assigned_value t v (target_width t x) e ≡ assigned_value s v (target_width s x) e
  agreed_given v x e a b = λ i. agreed_assigned s t e v (agreed_target_width x a i) (agreed s t e b) i

  pub agreed_write : (v : Valuation) (x : Target) (y z : ℕ) → y ≡ z → EachInTarget (IsSameIn s t) x
      → written t v (places t v x) y ≡ written s v (places s v x) z
  agreed_write v x y z e a = (λ i. written t v (agreed_places v x a i) (e i)) ∙ agreed_written v (places s v x) z (each_placed (IsSameIn s t) s v x a)

  mutual
    pub agreed_run : (x : Statement) (v : Valuation) → EachInStatement (IsSameIn s t) x → run t x v ≡ run s x v
    agreed_run empty v a = refl
    agreed_run (blocking x e) v a =
        λ i. unchanged
        (agreed_write v x (assigned_value t v (target_width t x) e) (assigned_value s v (target_width s x) e) (agreed_given v x e a.0 a.1) a.0 i)
    agreed_run (nonblocking x e) v a =
        λ i. record { valuation = v; updates = record { places = agreed_places v x a.0 i; value = agreed_given v x e a.0 a.1 i } ∷ [] }
    agreed_run (if_then c x) v a =
        λ i. cond (is_nonzero (agreed_self s t c v (agreed s t c a.0) i)) (agreed_run x v a.1 i) (unchanged v)
    agreed_run (if_else c x y) v a =
        λ i. cond (is_nonzero (agreed_self s t c v (agreed s t c a.0) i)) (agreed_run x v a.1 i) (agreed_run y v a.2 i)
    agreed_run (case kind e items) v a =
        let h : Agreed s t e = agreed s t e a.0 in
        let w : max (width_of t e) (items_width t items) ≡ max (width_of s e) (items_width s items) = λ i. max (h.width i) (agreed_items_width items a.1 i) in
        let g : (sign_of t e && items_signed t items) ≡ (sign_of s e && items_signed s items) = λ i. h.sign i && agreed_items_signed items a.1 i in
        λ i. agreed_run_case items v kind (w i) (g i) (h.value v (w i) (g i) i) (unchanged v) a.1 i
    agreed_run (block n xs) v a = agreed_run_all xs v a

    agreed_run_all : (xs : Statements) (v : Valuation) → EachInStatements (IsSameIn s t) xs → run_all t xs v ≡ run_all s xs v
    agreed_run_all no_statements v a = refl
    agreed_run_all (statement x xs) v a = λ i. followed_by (agreed_run x v a.0 i) (λ u. agreed_run_all xs u a.1 i)

    agreed_run_case : (items : CaseItems) (v : Valuation) (kind : CaseKind) (w : ℕ) (g : Bool) (y : ℕ) (otherwise : Effect) → EachInItems (IsSameIn s t) items
        → run_case t v kind w g y items otherwise ≡ run_case s v kind w g y items otherwise
    agreed_run_case no_items v kind w g y otherwise a = refl
    agreed_run_case (arm es x items) v kind w g y otherwise a =
        λ i. cond (agreed_matches v kind w g y es a.0 i) (agreed_run x v a.1 i) (agreed_run_case items v kind w g y otherwise a.2 i)
    agreed_run_case (default_arm x items) v kind w g y otherwise a = λ i. agreed_run_case items v kind w g y (agreed_run x v a.0 i) a.1 i

  -- ---- the clock's edge

  agreed_block_updates : (v : Valuation) (xs : List Statement) → EachInBlocks (IsSameIn s t) xs → updates_of_blocks t v xs ≡ updates_of_blocks s v xs
  agreed_block_updates v [] a = refl
  agreed_block_updates v (x ∷ xs) a = λ i. (agreed_run x v a.0 i).updates ++ agreed_block_updates v xs a.1 i

  blocks_updated : (v : Valuation) (xs : List Statement) → EachInBlocks (IsSameIn s t) xs → EachUpdated (IsSameIn s t) (updates_of_blocks s v xs)
  blocks_updated v [] a = tt
  blocks_updated v (x ∷ xs) a =
      updated_after (IsSameIn s t) (run s x v).updates (updates_of_blocks s v xs) (each_updated (IsSameIn s t) s v x a.0) (blocks_updated v xs a.1)

  pub agreed_edge : (v : Valuation) (xs : List Statement) → EachInBlocks (IsSameIn s t) xs → after_edge t xs v ≡ after_edge s xs v
  agreed_edge v xs a =
      (λ i. with_updates t v (agreed_block_updates v xs a i)) ∙ agreed_updates v (updates_of_blocks s v xs) (blocks_updated v xs a)

  -- ---- equations

  -- what one of two equal valuations gives back, the other one gives back
  give_back : (v u w : Valuation) → u ≡ w → ((n : Name) → u n ≡ v n) ↔ ((n : Name) → w n ≡ v n)
  give_back v u w e = (λ h n. (λ i. sym e i n) ∙ h n, λ h n. (λ i. e i n) ∙ h n)

  both_hold : {A B C D : Type 0} → A ↔ B → C ↔ D → (A × C) ↔ (B × D)
  both_hold h k = (λ p. (h.0 p.0, k.0 p.1), λ p. (h.1 p.0, k.1 p.1))

  pub agreed_has : (v : Valuation) (x : Target) (y z : ℕ) → y ≡ z → EachInTarget (IsSameIn s t) x → Has t v x y ↔ Has s v x z
  agreed_has v x y z e a = give_back v (written t v (places t v x) y) (written s v (places s v x) z) (agreed_write v x y z e a)

  pub agreed_has_assigned : (v : Valuation) (xs : List (Target × Expression)) → EachInAssignments (IsSameIn s t) xs → HasAssigned t v xs ↔ HasAssigned s v xs
  agreed_has_assigned v [] a = (λ h. h, λ h. h)
  agreed_has_assigned v (x ∷ xs) a =
      both_hold (agreed_has v x.0 _ _ (agreed_given v x.0 x.1 a.0.0 a.0.1) a.0.0) (agreed_has_assigned v xs a.1)

  pub agreed_has_run : (v : Valuation) (x : Statement) → EachInStatement (IsSameIn s t) x → HasRun t v x ↔ HasRun s v x
  agreed_has_run v x a = give_back v (run t x v).valuation (run s x v).valuation (λ i. (agreed_run x v a i).valuation)

  pub agreed_has_runs : (v : Valuation) (xs : List Statement) → EachInBlocks (IsSameIn s t) xs → HasRunAll t v xs ↔ HasRunAll s v xs
  agreed_has_runs v [] a = (λ h. h, λ h. h)
  agreed_has_runs v (x ∷ xs) a = both_hold (agreed_has_run v x a.0) (agreed_has_runs v xs a.1)
