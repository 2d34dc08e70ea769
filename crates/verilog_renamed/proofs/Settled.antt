-- Equations on a settled valuation hold under the new names where they hold under the old ones.
use Rattle.std.proofs.Common.{◌≡◌, ◌↔◌, ℕ, ◌&&◌, List, [], ◌∷◌, ◌⊎◌, inl, inr, refl, sym, ap, ◌∙◌, subst, Option, Some, None, option_map, option_and_then}
use Rattle.wb_values.specs.Value.{Name, Valuation}
use Rattle.verilog_trees.specs.Syntax.{Expression, number, name, concatenation, replication, as_signed, as_unsigned, unary, reduction, binary, shift, power, comparison, logical, conditional, Expressions, no_expressions, expression, Target, place, joined, Targets, no_targets, target, Statement}
use Rattle.verilog_meaning.specs.Expression.{Scope, assigned_value}
use Rattle.verilog_meaning.specs.Statement.{places, target_width, written, run}
use Rattle.verilog_meaning.specs.Settled.{Has, HasAssigned, HasRun, HasRunAll, as_target, all_as_targets}
use Rattle.verilog_settled.specs.Locality.{has_constant_selects, all_have_constant_selects}
use Rattle.verilog_renamed.specs.Renamed.{renamed_expression, renamed_expressions, renamed_target, renamed_targets, renamed_statement, renamed_assignments, renamed_blocks}
use Rattle.verilog_renamed.specs.Laws.{IsOneToOne, IsNewName, KeepsOthers}
use Rattle.verilog_renamed.proofs.Paths.{ap2, through}
use Rattle.verilog_renamed.proofs.Statements.{SameEffect, same_places, same_written, written_keeps, value_given, same_run}
use Rattle.verilog_renamed.proofs.Registers.{same_selects_constant}

-- A change that keeps other names gives the valuation back where the same change under the old names does.
gives_back : (f : Name → Name) (w u x : Valuation) → through f u ≡ x → KeepsOthers f w u → ((n : Name) → u n ≡ w n) ↔ ((n : Name) → x n ≡ w (f n))
gives_back f w u x e kept = (λ h n. sym (λ i. e i n) ∙ h (f n), λ h n. by_name h n (kept n))
  where
    by_name : ((m : Name) → x m ≡ w (f m)) → (n : Name) → IsNewName f n ⊎ (u n ≡ w n) → u n ≡ w n
    by_name h n (inl k) = subst (λ m. u m ≡ w m) k.is_new ((λ i. e i k.old) ∙ h k.old)
    by_name h n (inr k) = k

both_ways : {A B C D : Type 0} → A ↔ B → C ↔ D → (A × C) ↔ (B × D)
both_ways h k = (λ p. (h.0 p.0, k.0 p.1), λ p. (h.1 p.0, k.1 p.1))

module _ (f : Name → Name) (apart : IsOneToOne f) (t : Scope) (w : Valuation) where
  pub has_same : (x : Target) (y : ℕ) → Has t w (renamed_target f x) y ↔ Has (through f t) (through f w) x y
  has_same x y =
      gives_back f w (written t w (places t w (renamed_target f x)) y) (written (through f t) (through f w) (places (through f t) (through f w) x) y)
      (ap (λ ps. through f (written t w ps y)) (same_places f t w x) ∙ same_written f apart t w (places (through f t) (through f w) x) y)
      (subst (λ ps. KeepsOthers f w (written t w ps y)) (sym (same_places f t w x)) (written_keeps f t w (places (through f t) (through f w) x) y))

  pub has_same_assigned : (xs : List (Target × Expression)) → HasAssigned t w (renamed_assignments f xs) ↔ HasAssigned (through f t) (through f w) xs
  has_same_assigned [] = (λ h. h, λ h. h)
  has_same_assigned (x ∷ xs) =
      both_ways
      (subst (λ y. Has t w (renamed_target f x.0) (assigned_value t w (target_width t (renamed_target f x.0)) (renamed_expression f x.1))
      ↔ Has (through f t) (through f w) x.0 y) (value_given f apart t w x.0 x.1)
      (has_same x.0 (assigned_value t w (target_width t (renamed_target f x.0)) (renamed_expression f x.1))))
      (has_same_assigned xs)

  pub has_same_run : (x : Statement) → HasRun t w (renamed_statement f x) ↔ HasRun (through f t) (through f w) x
  has_same_run x =
      let h : SameEffect f w (run t (renamed_statement f x) w) (run (through f t) x (through f w)) = same_run f apart t x w in
      gives_back f w (run t (renamed_statement f x) w).valuation (run (through f t) x (through f w)).valuation h.valuation h.kept

  pub has_same_runs : (xs : List Statement) → HasRunAll t w (renamed_blocks f xs) ↔ HasRunAll (through f t) (through f w) xs
  has_same_runs [] = (λ h. h, λ h. h)
  has_same_runs (x ∷ xs) = both_ways (has_same_run x) (has_same_runs xs)

-- ---- expressions that are targets

module _ (f : Name → Name) where
  joined_renamed : (o : Option Targets) → option_map joined (option_map (renamed_targets f) o) ≡ option_map (renamed_target f) (option_map joined o)
  joined_renamed None = refl
  joined_renamed (Some x) = refl

  first_renamed : (a : Option Target) (b : Option Targets)
      → option_and_then (λ x. option_map (target x) (option_map (renamed_targets f) b)) (option_map (renamed_target f) a)
      ≡ option_map (renamed_targets f) (option_and_then (λ x. option_map (target x) b) a)
  first_renamed None b = refl
  first_renamed (Some x) None = refl
  first_renamed (Some x) (Some xs) = refl

  mutual
    pub same_as_target : (e : Expression) → as_target (renamed_expression f e) ≡ option_map (renamed_target f) (as_target e)
    same_as_target (number k) = refl
    same_as_target (name n x) = refl
    same_as_target (concatenation es) = ap (option_map joined) (same_all_as_targets es) ∙ joined_renamed (all_as_targets es)
    same_as_target (replication k es) = refl
    same_as_target (as_signed x) = refl
    same_as_target (as_unsigned x) = refl
    same_as_target (unary op x) = refl
    same_as_target (reduction op x) = refl
    same_as_target (binary op x y) = refl
    same_as_target (shift op x n) = refl
    same_as_target (power x n) = refl
    same_as_target (comparison op x y) = refl
    same_as_target (logical op x y) = refl
    same_as_target (conditional c x y) = refl

    same_all_as_targets : (es : Expressions) → all_as_targets (renamed_expressions f es) ≡ option_map (renamed_targets f) (all_as_targets es)
    same_all_as_targets no_expressions = refl
    same_all_as_targets (expression e es) =
        ap2 (λ b a. option_and_then (λ x. option_map (target x) b) a) (same_all_as_targets es) (same_as_target e)
        ∙ first_renamed (as_target e) (all_as_targets es)

-- ---- targets whose indexes are constant

module _ (f : Name → Name) (t : Scope) where
  mutual
    pub same_constant_selects : (x : Target) → has_constant_selects t (renamed_target f x) ≡ has_constant_selects (through f t) x
    same_constant_selects (place n x) = same_selects_constant f t x
    same_constant_selects (joined xs) = same_all_constant_selects xs

    same_all_constant_selects : (xs : Targets) → all_have_constant_selects t (renamed_targets f xs) ≡ all_have_constant_selects (through f t) xs
    same_all_constant_selects no_targets = refl
    same_all_constant_selects (target x xs) = ap2 (λ a b. a && b) (same_constant_selects x) (same_all_constant_selects xs)
