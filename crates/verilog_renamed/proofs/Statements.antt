-- Targets and statements with other names do the same, under the new names.
use Rattle.std.proofs.Common.{◌≡◌, ℕ, ◌+◌, ◌/◌, ◌%◌, ◌^◌, max, Bool, true, false, cond, ◌&&◌, ◌||◌, List, [], ◌∷◌, ◌++◌, ◌⊎◌, inl, inr, refl, sym, ap, ◌∙◌, subst}
use Rattle.std.proofs.lemmas.List.{map-append}
use Rattle.wb_values.specs.Value.{Name, same_name, Valuation}
use Rattle.verilog_trees.specs.Syntax.{Expression, number, name, concatenation, replication, as_signed, as_unsigned, unary, reduction, binary, shift, power, comparison, logical, conditional, Expressions, no_expressions, expression, Selects, whole, one, two, Target, place, joined, Targets, no_targets, target, CaseKind, Statement, empty, blocking, nonblocking, if_then, if_else, case, block, Statements, no_statements, statement, CaseItems, no_items, arm, default_arm}
use Rattle.verilog_meaning.specs.Expression.{Scope, is_memory, sign_of, width_of, value_of, assigned_value}
use Rattle.verilog_meaning.specs.Statement.{variable_cell, Place, indexed_cell, all_bits, named_place, places, all_places, places_width, target_width, targets_width, written_cell, written_place, written, Update, Effect, unchanged, greatest_width, all_signed, items_width, items_signed, wild_bits, matches, any_matches, run, run_all, run_case, with_update, with_updates}
use Rattle.verilog_renamed.specs.Renamed.{renamed_expression, renamed_expressions, renamed_selects, renamed_target, renamed_targets, renamed_statement, renamed_statements, renamed_case_items, renamed_place, renamed_places, renamed_update, renamed_updates}
use Rattle.verilog_renamed.specs.Laws.{IsOneToOne, IsNewName, KeepsOthers}
use Rattle.verilog_renamed.proofs.Paths.{ap2, ap3, through, is_name}
use Rattle.verilog_renamed.proofs.Expressions.{SameSelect, same, same_select, same_selects, condition, assigned}

-- ---- targets

module _ (f : Name → Name) (t : Scope) where
  pub named_same : (v : Valuation) (n : Name) (x : Selects)
      → named_place t v (f n) (renamed_selects f x) ≡ renamed_place f (named_place (through f t) (through f v) n x)
  named_same v n whole = refl
  named_same v n (one x) =
      let h : SameSelect f t x = same_select f t x in
      ap2 (λ i b. cond (is_memory (t (f n))) (record { of_name = f n; cell = indexed_cell (t (f n)) i; bits = all_bits (t (f n)) })
      (record { of_name = f n; cell = variable_cell; bits = b })) (h.place v) (h.bits v (t (f n)))
      ∙ chosen (is_memory (t (f n))) _ _
    where
      chosen : (b : Bool) (p q : Place) → cond b (renamed_place f p) (renamed_place f q) ≡ renamed_place f (cond b p q)
      chosen true p q = refl
      chosen false p q = refl
  named_same v n (two x y) =
      let h : SameSelect f t x = same_select f t x in
      let k : SameSelect f t y = same_select f t y in
      ap2 (λ i b. record { of_name = f n; cell = indexed_cell (t (f n)) i; bits = b }) (h.place v) (k.bits v (t (f n)))

  mutual
    pub same_places : (v : Valuation) (x : Target) → places t v (renamed_target f x) ≡ renamed_places f (places (through f t) (through f v) x)
    same_places v (place n x) = ap (λ p. p ∷ []) (named_same v n x)
    same_places v (joined xs) = same_all_places v xs

    same_all_places : (v : Valuation) (xs : Targets)
        → all_places t v (renamed_targets f xs) ≡ renamed_places f (all_places (through f t) (through f v) xs)
    same_all_places v no_targets = refl
    same_all_places v (target x xs) =
        ap2 (λ p q. p ++ q) (same_places v x) (same_all_places v xs)
        ∙ sym (map-append (renamed_place f) (places (through f t) (through f v) x) (all_places (through f t) (through f v) xs))

  mutual
    pub same_target_width : (x : Target) → target_width t (renamed_target f x) ≡ target_width (through f t) x
    same_target_width (place n x) = (same_selects f t x).width (t (f n))
    same_target_width (joined xs) = same_targets_width xs

    pub same_targets_width : (xs : Targets) → targets_width t (renamed_targets f xs) ≡ targets_width (through f t) xs
    same_targets_width no_targets = refl
    same_targets_width (target x xs) = ap2 (λ a b. a + b) (same_target_width x) (same_targets_width xs)

pub same_places_width : (f : Name → Name) (ps : List Place) → places_width (renamed_places f ps) ≡ places_width ps
same_places_width f [] = refl
same_places_width f (p ∷ ps) = ap (λ k. p.bits.count + k) (same_places_width f ps)

-- ---- writes

module _ (f : Name → Name) (apart : IsOneToOne f) (t : Scope) where
  place_written : (w : Valuation) (p : Place) (x : ℕ) → through f (written_place t w (renamed_place f p) x) ≡ written_place (through f t) (through f w) p x
  place_written w p x = λ i n. at n i
    where
      at : (n : Name) → written_place t w (renamed_place f p) x (f n) ≡ written_place (through f t) (through f w) p x n
      at n = ap (λ b. cond b (written_cell (t (f p.of_name)) (w (f p.of_name)) p.cell p.bits x) (w (f n))) (apart p.of_name n)

  pub same_written : (w : Valuation) (ps : List Place) (x : ℕ) → through f (written t w (renamed_places f ps) x) ≡ written (through f t) (through f w) ps x
  same_written w [] x = refl
  same_written w (p ∷ ps) x =
      place_written (written t w (renamed_places f ps) (x % 2 ^ places_width (renamed_places f ps))) p (x / 2 ^ places_width (renamed_places f ps))
      ∙ ap (λ u. written_place (through f t) u p (x / 2 ^ places_width (renamed_places f ps)))
      (same_written w ps (x % 2 ^ places_width (renamed_places f ps)))
      ∙ ap (λ k. written_place (through f t) (written (through f t) (through f w) ps (x % 2 ^ k)) p (x / 2 ^ k)) (same_places_width f ps)

  pub same_updated : (w : Valuation) (us : List Update) → through f (with_updates t w (renamed_updates f us)) ≡ with_updates (through f t) (through f w) us
  same_updated w [] = refl
  same_updated w (u ∷ us) =
      same_updated (with_update t w (renamed_update f u)) us
      ∙ ap (λ z. with_updates (through f t) z us) (same_written w u.places u.value)

pub keeps_then : (f : Name → Name) (v w u : Valuation) → KeepsOthers f v w → KeepsOthers f w u → KeepsOthers f v u
keeps_then f v w u h k n = by_second (h n) (k n)
  where
    by_second : IsNewName f n ⊎ (w n ≡ v n) → IsNewName f n ⊎ (u n ≡ w n) → IsNewName f n ⊎ (u n ≡ v n)
    by_second (inl a) b = inl a
    by_second (inr a) (inl b) = inl b
    by_second (inr a) (inr b) = inr (b ∙ a)

module _ (f : Name → Name) (t : Scope) where
  pub place_keeps : (w : Valuation) (p : Place) (x : ℕ) → KeepsOthers f w (written_place t w (renamed_place f p) x)
  place_keeps w p x n = by_test (same_name (f p.of_name) n) refl
    where
      by_test : (b : Bool) → same_name (f p.of_name) n ≡ b
          → IsNewName f n ⊎ (cond b (written_cell (t (f p.of_name)) (w (f p.of_name)) p.cell p.bits x) (w n) ≡ w n)
      by_test true e = inl (record { old = p.of_name; is_new = is_name (f p.of_name) n e })
      by_test false e = inr refl

  pub written_keeps : (w : Valuation) (ps : List Place) (x : ℕ) → KeepsOthers f w (written t w (renamed_places f ps) x)
  written_keeps w [] x = λ n. inr refl
  written_keeps w (p ∷ ps) x =
      keeps_then f w (written t w (renamed_places f ps) (x % 2 ^ places_width (renamed_places f ps))) _
      (written_keeps w ps (x % 2 ^ places_width (renamed_places f ps)))
      (place_keeps (written t w (renamed_places f ps) (x % 2 ^ places_width (renamed_places f ps))) p (x / 2 ^ places_width (renamed_places f ps)))

  pub updated_keeps : (w : Valuation) (us : List Update) → KeepsOthers f w (with_updates t w (renamed_updates f us))
  updated_keeps w [] = λ n. inr refl
  updated_keeps w (u ∷ us) =
      keeps_then f w (with_update t w (renamed_update f u)) _ (written_keeps w u.places u.value)
      (updated_keeps (with_update t w (renamed_update f u)) us)

-- ---- what cases compare

module _ (f : Name → Name) (t : Scope) where
  same_wild : (e : Expression) → wild_bits (renamed_expression f e) ≡ wild_bits e
  same_wild (number k) = refl
  same_wild (name n x) = refl
  same_wild (concatenation es) = refl
  same_wild (replication k es) = refl
  same_wild (as_signed x) = refl
  same_wild (as_unsigned x) = refl
  same_wild (unary op x) = refl
  same_wild (reduction op x) = refl
  same_wild (binary op x y) = refl
  same_wild (shift op x n) = refl
  same_wild (power x n) = refl
  same_wild (comparison op x y) = refl
  same_wild (logical op x y) = refl
  same_wild (conditional c x y) = refl

  same_greatest : (es : Expressions) → greatest_width t (renamed_expressions f es) ≡ greatest_width (through f t) es
  same_greatest no_expressions = refl
  same_greatest (expression e es) = ap2 max (same f t e).width (same_greatest es)

  same_all_signed : (es : Expressions) → all_signed t (renamed_expressions f es) ≡ all_signed (through f t) es
  same_all_signed no_expressions = refl
  same_all_signed (expression e es) = ap2 (λ a b. a && b) (same f t e).sign (same_all_signed es)

  pub same_items_width : (items : CaseItems) → items_width t (renamed_case_items f items) ≡ items_width (through f t) items
  same_items_width no_items = refl
  same_items_width (arm es x items) = ap2 max (same_greatest es) (same_items_width items)
  same_items_width (default_arm x items) = same_items_width items

  pub same_items_signed : (items : CaseItems) → items_signed t (renamed_case_items f items) ≡ items_signed (through f t) items
  same_items_signed no_items = refl
  same_items_signed (arm es x items) = ap2 (λ a b. a && b) (same_all_signed es) (same_items_signed items)
  same_items_signed (default_arm x items) = same_items_signed items

  same_matches : (w : Valuation) (kind : CaseKind) (m : ℕ) (g : Bool) (x : ℕ) (es : Expressions)
      → any_matches t w kind m g x (renamed_expressions f es) ≡ any_matches (through f t) (through f w) kind m g x es
  same_matches w kind m g x no_expressions = refl
  same_matches w kind m g x (expression e es) =
      ap3 (λ a b c. matches kind a x b || c) (same_wild e) ((same f t e).value w m g) (same_matches w kind m g x es)

-- ---- runs

-- What the renamed statement does on a valuation: under the new names the same, and to others nothing.
pub record SameEffect (f : Name → Name) (w : Valuation) (new old : Effect) : Type 0 where
  pub valuation : through f new.valuation ≡ old.valuation
  pub kept : KeepsOthers f w new.valuation
  pub updates : new.updates ≡ renamed_updates f old.updates

by_condition : (f : Name → Name) (w : Valuation) (b c : Bool) (x y z u : Effect) → b ≡ c → SameEffect f w x z → SameEffect f w y u
    → SameEffect f w (cond b x y) (cond c z u)
by_condition f w b c x y z u e h k = subst (λ d. SameEffect f w (cond b x y) (cond d z u)) e (chosen b)
  where
    chosen : (d : Bool) → SameEffect f w (cond d x y) (cond d z u)
    chosen true = h
    chosen false = k

module _ (f : Name → Name) (apart : IsOneToOne f) (t : Scope) where
  pub value_given : (w : Valuation) (x : Target) (e : Expression)
      → assigned_value t w (target_width t (renamed_target f x)) (renamed_expression f e)
      ≡ assigned_value (through f t) (through f w) (target_width (through f t) x) e
  value_given w x e =
      assigned f t e w (target_width t (renamed_target f x))
      ∙ ap (λ k. assigned_value (through f t) (through f w) k e) (same_target_width f t x)

  mutual
    pub same_run : (x : Statement) (w : Valuation) → SameEffect f w (run t (renamed_statement f x) w) (run (through f t) x (through f w))
    same_run empty w = record { valuation = refl; kept = λ n. inr refl; updates = refl }
    same_run (blocking x e) w =
        record {
          valuation =
              ap2 (λ ps y. through f (written t w ps y)) (same_places f t w x) (value_given w x e)
              ∙ same_written f apart t w (places (through f t) (through f w) x)
              (assigned_value (through f t) (through f w) (target_width (through f t) x) e);
          kept =
              subst (λ ps. KeepsOthers f w (written t w ps (assigned_value t w (target_width t (renamed_target f x)) (renamed_expression f e))))
              (sym (same_places f t w x))
              (written_keeps f t w (places (through f t) (through f w) x) (assigned_value t w (target_width t (renamed_target f x)) (renamed_expression f e)));
          updates = refl;
        }
    same_run (nonblocking x e) w =
        record {
          valuation = refl;
          kept = λ n. inr refl;
          updates = ap2 (λ ps y. record { places = ps; value = y } ∷ []) (same_places f t w x) (value_given w x e);
        }
    same_run (if_then c x) w = by_condition f w _ _ _ _ _ _ (condition f t c w) (same_run x w) (record { valuation = refl; kept = λ n. inr refl; updates = refl })
    same_run (if_else c x y) w = by_condition f w _ _ _ _ _ _ (condition f t c w) (same_run x w) (same_run y w)
    same_run (case kind e items) w =
        let m : ℕ = max (width_of t (renamed_expression f e)) (items_width t (renamed_case_items f items)) in
        let g : Bool = sign_of t (renamed_expression f e) && items_signed t (renamed_case_items f items) in
        subst (λ z. SameEffect f w (run t (renamed_statement f (case kind e items)) w) z)
        (ap (λ x. run_case (through f t) (through f w) kind m g x items (unchanged (through f w))) ((same f t e).value w m g)
        ∙ ap2 (λ a b. run_case (through f t) (through f w) kind a b (value_of (through f t) (through f w) e a b) items (unchanged (through f w)))
        (ap2 max (same f t e).width (same_items_width f t items)) (ap2 (λ a b. a && b) (same f t e).sign (same_items_signed f t items)))
        (same_run_case items w kind m g (value_of t w (renamed_expression f e) m g) (unchanged w) (unchanged (through f w))
        (record { valuation = refl; kept = λ n. inr refl; updates = refl }))
    same_run (block n xs) w = same_run_all xs w

    same_run_all : (xs : Statements) (w : Valuation) → SameEffect f w (run_all t (renamed_statements f xs) w) (run_all (through f t) xs (through f w))
    same_run_all no_statements w = record { valuation = refl; kept = λ n. inr refl; updates = refl }
    same_run_all (statement x xs) w =
        let h : SameEffect f w (run t (renamed_statement f x) w) (run (through f t) x (through f w)) = same_run x w in
        let u : Valuation = (run t (renamed_statement f x) w).valuation in
        let k : SameEffect f u (run_all t (renamed_statements f xs) u) (run_all (through f t) xs (through f u)) = same_run_all xs u in
        record {
          valuation = k.valuation ∙ ap (λ z. (run_all (through f t) xs z).valuation) h.valuation;
          kept = keeps_then f w u (run_all t (renamed_statements f xs) u).valuation h.kept k.kept;
          updates =
              ap2 (λ a b. a ++ b) h.updates (k.updates ∙ ap (λ z. renamed_updates f (run_all (through f t) xs z).updates) h.valuation)
              ∙ sym (map-append (renamed_update f) (run (through f t) x (through f w)).updates
              (run_all (through f t) xs (run (through f t) x (through f w)).valuation).updates);
        }

    same_run_case : (items : CaseItems) (w : Valuation) (kind : CaseKind) (m : ℕ) (g : Bool) (x : ℕ) (new old : Effect) → SameEffect f w new old
        → SameEffect f w (run_case t w kind m g x (renamed_case_items f items) new) (run_case (through f t) (through f w) kind m g x items old)
    same_run_case no_items w kind m g x new old h = h
    same_run_case (arm es y items) w kind m g x new old h =
        by_condition f w _ _ _ _ _ _ (same_matches f t w kind m g x es) (same_run y w) (same_run_case items w kind m g x new old h)
    same_run_case (default_arm y items) w kind m g x new old h =
        same_run_case items w kind m g x (run t (renamed_statement f y) w) (run (through f t) y (through f w)) (same_run y w)
