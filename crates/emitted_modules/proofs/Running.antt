-- What the statements of a clocked block have waiting.
use Rattle.std.proofs.Common.{◌≡◌, ◌≢◌, ℕ, zero, suc, Bool, true, false, cond, List, [], ◌∷◌, ◌++◌, map, Option, Some, None, refl, sym, ◌∙◌, ap, subst, arith, append_assoc}
use Rattle.std.specs.Prelude.{slice_get}
use Rattle.std.proofs.lemmas.List.{append-nil}
use Rattle.wb_values.specs.Value.{Name, Valuation, Entries}
use Rattle.verilog_trees.specs.Syntax.{Expression, whole, one, index, place, Statement, nonblocking, if_then}
use Rattle.verilog_meaning.specs.Expression.{Scope, object_width, is_true, assigned_value}
use Rattle.verilog_meaning.specs.Statement.{Effect, Update, run, run_all, named_place, target_width, after_updates, unchanged}
use Rattle.emitted_modules.specs.Rtl.{Stored, Guarded, in_order, in_block, takes, under, writes, all_guarded}

-- the waiting assignment of what a register takes
abbrev pub update_by : Scope → Valuation → Name × Expression → Update
update_by s v u = record { places = named_place s v u.0 whole ∷ []; value = assigned_value s v (object_width (s u.0)) u.1 }

abbrev pub updates_by : Scope → Valuation → Entries Expression → List Update
updates_by s v us = map (update_by s v) us

abbrev pub leaving : Valuation → List Update → Effect
leaving v us = record { valuation = v; updates = us }

abbrev pub after_first : Scope → Valuation → List Statement → Effect → Effect
after_first s v xs e = after_updates e.updates (run_all s (in_order xs) e.valuation)

pub taking_runs : (s : Scope) (v : Valuation) (us : Entries Expression) (xs : List Statement) (later : List Update)
    → run s (in_block xs) v ≡ leaving v later → run s (in_block (map takes us ++ xs)) v ≡ leaving v (updates_by s v us ++ later)
taking_runs s v [] xs later e = e
taking_runs s v (u ∷ us) xs later e = ap (λ f. after_updates (update_by s v u ∷ []) f) (taking_runs s v us xs later e)

-- ---- stores

-- the waiting assignment of a store
abbrev pub store_update : Scope → Valuation → Stored → Update
store_update s v w = record {
  places = named_place s v w.memory_name (one (index w.address)) ∷ [];
  value = assigned_value s v (target_width s (place w.memory_name (one (index w.address)))) w.value;
}

-- the condition holds, if there is one
abbrev pub meets : Scope → Valuation → Option Expression → Bool
meets s v None = true
meets s v (Some c) = is_true s v c

-- those whose conditions hold
abbrev pub stores_by : Scope → Valuation → List Stored → List Update
stores_by s v [] = []
stores_by s v (w ∷ ws) = cond (meets s v w.condition) (store_update s v w ∷ []) [] ++ stores_by s v ws

pub under_runs : (s : Scope) (v : Valuation) (o : Option Expression) (x : Statement) → run s (under o x) v ≡ cond (meets s v o) (run s x v) (unchanged v)
under_runs s v None x = refl
under_runs s v (Some c) x = refl

pub write_runs : (s : Scope) (v : Valuation) (w : Stored)
    → run s (writes w) v ≡ cond (meets s v w.condition) (leaving v (store_update s v w ∷ [])) (unchanged v)
write_runs s v w = under_runs s v w.condition (nonblocking (place w.memory_name (one (index w.address))) w.value)

-- one store before others
pub first_store : (s : Scope) (v : Valuation) (xs : List Statement) (u : Update) (us later : List Update) (b : Bool)
    → run s (in_block xs) v ≡ leaving v (us ++ later)
    → after_first s v xs (cond b (leaving v (u ∷ [])) (unchanged v)) ≡ leaving v ((cond b (u ∷ []) [] ++ us) ++ later)
first_store s v xs u us later true e = ap (λ f. after_updates (u ∷ []) f) e
first_store s v xs u us later false e = ap (λ f. after_updates [] f) e

pub storing_runs : (s : Scope) (v : Valuation) (ws : List Stored) (xs : List Statement) (later : List Update)
    → run s (in_block xs) v ≡ leaving v later → run s (in_block (map writes ws ++ xs)) v ≡ leaving v (stores_by s v ws ++ later)
storing_runs s v [] xs later e = e
storing_runs s v (w ∷ ws) xs later e =
    ap (λ f. after_first s v (map writes ws ++ xs) f) (write_runs s v w)
    ∙ first_store s v (map writes ws ++ xs) (store_update s v w) (stores_by s v ws) later (meets s v w.condition) (storing_runs s v ws xs later e)

pub stores_run : (s : Scope) (v : Valuation) (ws : List Stored) → run s (in_block (map writes ws)) v ≡ leaving v (stores_by s v ws)
stores_run s v ws =
    ap (λ xs. run s (in_block xs) v) (sym (append-nil (map writes ws)))
    ∙ (storing_runs s v ws [] [] refl ∙ ap (leaving v) (append-nil (stores_by s v ws)))

-- ---- under guards

abbrev pub guarded_by : Expression → Entries Expression → List Statement
guarded_by c us = map (λ u. if_then c (takes u)) us

-- statements under a guard that holds, and under one that does not, with others behind them
pub held_runs : (s : Scope) (v : Valuation) (c : Expression) (us : Entries Expression) (xs : List Statement) (later : List Update)
    → is_true s v c ≡ true → run s (in_block xs) v ≡ leaving v later
    → run s (in_block (guarded_by c us ++ xs)) v ≡ leaving v (updates_by s v us ++ later)
held_runs s v c [] xs later holds e = e
held_runs s v c (u ∷ us) xs later holds e =
    ap (λ b. after_first s v (guarded_by c us ++ xs) (cond b (leaving v (update_by s v u ∷ [])) (unchanged v))) holds
    ∙ ap (λ f. after_updates (update_by s v u ∷ []) f) (held_runs s v c us xs later holds e)

pub skipped_runs : (s : Scope) (v : Valuation) (c : Expression) (us : Entries Expression) (xs : List Statement) (later : List Update)
    → is_true s v c ≡ false → run s (in_block xs) v ≡ leaving v later
    → run s (in_block (guarded_by c us ++ xs)) v ≡ leaving v later
skipped_runs s v c [] xs later fails e = e
skipped_runs s v c (u ∷ us) xs later fails e =
    ap (λ b. after_first s v (guarded_by c us ++ xs) (cond b (leaving v (update_by s v u ∷ [])) (unchanged v))) fails
    ∙ ap (λ f. after_updates [] f) (skipped_runs s v c us xs later fails e)

-- the updates of those whose guard holds, and the stores of all
abbrev pub chosen : Scope → Valuation → List Guarded → List Update
chosen s v [] = []
chosen s v (g ∷ gs) = cond (is_true s v g.guard) (updates_by s v g.updates) [] ++ (stores_by s v g.stores ++ chosen s v gs)

pub guarded_runs : (s : Scope) (v : Valuation) (gs : List Guarded) → run s (in_block (all_guarded gs)) v ≡ leaving v (chosen s v gs)
guarded_runs s v [] = refl
guarded_runs s v (g ∷ gs) =
    ap (λ xs. run s (in_block xs) v) (append_assoc (guarded_by g.guard g.updates) (map writes g.stores) (all_guarded gs))
    ∙ by_test (is_true s v g.guard) refl (storing_runs s v g.stores (all_guarded gs) (chosen s v gs) (guarded_runs s v gs))
  where
    by_test : (b : Bool) → is_true s v g.guard ≡ b
        → run s (in_block (map writes g.stores ++ all_guarded gs)) v ≡ leaving v (stores_by s v g.stores ++ chosen s v gs)
        → run s (in_block (guarded_by g.guard g.updates ++ (map writes g.stores ++ all_guarded gs))) v
        ≡ leaving v (cond b (updates_by s v g.updates) [] ++ (stores_by s v g.stores ++ chosen s v gs))
    by_test true holds e =
        held_runs s v g.guard g.updates (map writes g.stores ++ all_guarded gs) (stores_by s v g.stores ++ chosen s v gs) holds e
    by_test false fails e =
        skipped_runs s v g.guard g.updates (map writes g.stores ++ all_guarded gs) (stores_by s v g.stores ++ chosen s v gs) fails e

-- ---- which are chosen

-- the guard does not hold, and no store is made
abbrev pub IsIdle : Scope → Valuation → Guarded → Type 0
IsIdle s v g = (is_true s v g.guard ≡ false) × (stores_by s v g.stores ≡ [])

-- what a guarded part does where its guard holds
abbrev pub effect_of : Scope → Valuation → Guarded → List Update
effect_of s v g = updates_by s v g.updates ++ stores_by s v g.stores

first_chosen : (s : Scope) (v : Valuation) (g : Guarded) (later : List Update) → is_true s v g.guard ≡ true → later ≡ []
    → cond (is_true s v g.guard) (updates_by s v g.updates) [] ++ (stores_by s v g.stores ++ later) ≡ effect_of s v g
first_chosen s v g later holds none =
    ap (λ b. cond b (updates_by s v g.updates) [] ++ (stores_by s v g.stores ++ later)) holds
    ∙ ap (λ us. updates_by s v g.updates ++ us) (ap (λ us. stores_by s v g.stores ++ us) none ∙ append-nil (stores_by s v g.stores))

not_chosen : (s : Scope) (v : Valuation) (g : Guarded) (later : List Update) → IsIdle s v g
    → cond (is_true s v g.guard) (updates_by s v g.updates) [] ++ (stores_by s v g.stores ++ later) ≡ later
not_chosen s v g later idle =
    ap (λ b. cond b (updates_by s v g.updates) [] ++ (stores_by s v g.stores ++ later)) idle.0 ∙ ap (λ us. us ++ later) idle.1

pub none_chosen : (s : Scope) (v : Valuation) (gs : List Guarded) → ((k : ℕ) (h : Guarded) → slice_get gs k ≡ Some h → IsIdle s v h) → chosen s v gs ≡ []
none_chosen s v [] idle = refl
none_chosen s v (g ∷ gs) idle = not_chosen s v g (chosen s v gs) (idle 0 g refl) ∙ none_chosen s v gs (λ k h e. idle (suc k) h e)

pub one_chosen : (s : Scope) (v : Valuation) (gs : List Guarded) (j : ℕ) (g : Guarded) → slice_get gs j ≡ Some g → is_true s v g.guard ≡ true
    → ((k : ℕ) (h : Guarded) → slice_get gs k ≡ Some h → k ≢ j → IsIdle s v h) → chosen s v gs ≡ effect_of s v g
one_chosen s v [] j g e holds idle = cc
one_chosen s v (h ∷ gs) zero g e holds idle =
    let same : h ≡ g = cc in
    first_chosen s v h (chosen s v gs) (subst (λ k. is_true s v k.guard ≡ true) (sym same) holds)
    (none_chosen s v gs (λ k o f. idle (suc k) o f (λ z. absurd (omega (arith, z)))))
    ∙ ap (λ k. effect_of s v k) same
one_chosen s v (h ∷ gs) (suc j) g e holds idle =
    not_chosen s v h (chosen s v gs) (idle 0 h refl (λ z. absurd (omega (arith, z))))
    ∙ one_chosen s v gs j g e holds (λ k o f apart. idle (suc k) o f (λ z. apart (omega (arith, z))))
