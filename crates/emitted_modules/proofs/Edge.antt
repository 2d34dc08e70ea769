-- What the clock's edge leaves in registers: the last thing that each takes.
use Rattle.std.proofs.Common.{◌≡◌, ℕ, ◌<◌, ◌^◌, ◌/◌, false, cond, inl, inr, List, [], ◌∷◌, ◌++◌, map, refl, sym, ◌∙◌, ap, subst}
use Rattle.wb_values.specs.Value.{Name, same_name, Value, number, as_number, Valuation, Entries}
use Rattle.verilog_trees.specs.Syntax.{Expression}
use Rattle.verilog_meaning.specs.Expression.{Scope, object_width, assigned_value}
use Rattle.verilog_meaning.specs.Statement.{Update, with_update, with_updates, with_bits_from}
use Rattle.term_expressions.specs.Expressions.{IsAssigned}
use Rattle.term_expressions.proofs.Assigned.{all_replaced}
use Rattle.ila_model.proofs.Names.{same-sym}
use Rattle.emitted_designs.proofs.Named.{same_of}
use Rattle.emitted_modules.proofs.Names.{Among, AreDistinct, among_map, differs_in}
use Rattle.emitted_modules.proofs.Running.{update_by, updates_by}

-- ---- what registers hold after updates

abbrev pub names_in : Entries Expression → List Name
names_in us = map (λ u. u.0) us

pub apart_from : (j k : Name) → same_name j k ≡ false → same_name k j ≡ false
apart_from j k h = same-sym k j ∙ h

-- what a register holds after its update
abbrev after_one : Scope → Valuation → Valuation → Name × Expression → Value
after_one s v z u =
    number (with_bits_from (object_width (s u.0)) (as_number (z u.0)) 0 (object_width (s u.0)) (assigned_value s v (object_width (s u.0)) u.1 / 2 ^ 0))

-- an update of another name
left_by_one : (s : Scope) (v z : Valuation) (u : Name × Expression) (n : Name) → same_name u.0 n ≡ false → with_update s z (update_by s v u) n ≡ z n
left_by_one s v z u n h = ap (λ b. cond b (after_one s v z u) (z n)) h

pub left_alone : (s : Scope) (v z : Valuation) (us : Entries Expression) (n : Name) → ((k : Name) → Among k (names_in us) → same_name k n ≡ false)
    → with_updates s z (updates_by s v us) n ≡ z n
left_alone s v z [] n h = refl
left_alone s v z (u ∷ us) n h =
    left_alone s v (with_update s z (update_by s v u)) us n (λ k g. h k (inr g)) ∙ left_by_one s v z u n (h u.0 (inl refl))

-- an update of the name
written_by_one : (s : Scope) (v z : Valuation) (n : Name) (e : Expression) (w x old : ℕ) → object_width (s n) ≡ w → IsAssigned s v e w x → x < 2 ^ w
    → z n ≡ number old → old < 2 ^ w → with_update s z (update_by s v (n, e)) n ≡ number x
written_by_one s v z n e w x old width given low held fits =
    ap (λ b. cond b (after_one s v z (n, e)) (z n)) (same_of n n refl)
    ∙ (ap (λ u. number (with_bits_from u (as_number (z n)) 0 u (assigned_value s v u e / 2 ^ 0))) width
    ∙ (ap (λ y. number (with_bits_from w (as_number y) 0 w (assigned_value s v w e / 2 ^ 0))) held
    ∙ (ap (λ a. number (with_bits_from w old 0 w (a / 2 ^ 0))) given ∙ ap number (all_replaced w old x fits low))))

pub takes_its_own : (s : Scope) (v z : Valuation) (us : Entries Expression) (n : Name) (e : Expression) (w x old : ℕ) → AreDistinct (names_in us)
    → Among (n, e) us → object_width (s n) ≡ w → IsAssigned s v e w x → x < 2 ^ w → z n ≡ number old → old < 2 ^ w
    → with_updates s z (updates_by s v us) n ≡ number x
takes_its_own s v z [] n e w x old d at width given low held fits = absurd at
takes_its_own s v z (u ∷ us) n e w x old d (inl f) width given low held fits =
    left_alone s v (with_update s z (update_by s v u)) us n
    (λ k g. apart_from n k (subst (λ (m : Name). same_name m k ≡ false) (ap (λ y. y.0) f) (differs_in u.0 k (names_in us) d.0 g)))
    ∙ subst (λ (y : Name × Expression). with_update s z (update_by s v y) n ≡ number x) (sym f) (written_by_one s v z n e w x old width given low held fits)
takes_its_own s v z (u ∷ us) n e w x old d (inr at) width given low held fits =
    takes_its_own s v (with_update s z (update_by s v u)) us n e w x old d.1 at width given low
    (left_by_one s v z u n (differs_in u.0 n (names_in us) d.0 (among_map (λ (y : Name × Expression). y.0) (n, e) us at)) ∙ held) fits

-- ---- one list of updates behind another

pub updates_joined : (s : Scope) (z : Valuation) (us ws : List Update) → with_updates s z (us ++ ws) ≡ with_updates s (with_updates s z us) ws
updates_joined s z [] ws = refl
updates_joined s z (u ∷ us) ws = updates_joined s (with_update s z u) us ws
