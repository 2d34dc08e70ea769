-- Declarations in the order of the text, where a port that is a variable besides stands as that: each declared name is among them.
use Rattle.std.proofs.Common.{◌≡◌, refl, ap, sym, subst, Bool, true, false, cond, ◌&&◌, List, [], ◌∷◌, ◌++◌, append-nil, ◌⊎◌, inl, inr, Option, Some, None, is_some, is_none}
use Rattle.std.specs.Prelude.{◌||◌}
use Rattle.std.proofs.lemmas.Bool.{and_parts, false≢true}
use Rattle.wb_values.specs.Value.{Name, same_name}
use Rattle.verilog_trees.specs.Syntax.{Direction, Item, port, parameter, wires, variables, assign, always, instances}
use Rattle.verilog_meaning.specs.Hierarchy.{Declaration, each_port, wire_declarations, variable_declarations, item_declarations}
use Rattle.verilog_registers.specs.Order.{declares_variable, is_variable_among, is_passed_over, placed_among}
use Rattle.verilog_unique.proofs.Options.{same_is}
use Rattle.verilog_unique.proofs.Descent.{IsAmong}
use Rattle.v_elab.specs.Elaborated.{names_in}

-- ---- names that are declared

pub placed_declared : (all ds : List Declaration) (n : Name) → IsAmong (names_in (placed_among all ds)) n → IsAmong (names_in ds) n
placed_declared all [] n h = absurd h
placed_declared all (d ∷ ds) n h = by (is_passed_over all d) h (placed_declared all ds n)
  where
    by : (t : Bool) → IsAmong (names_in (cond t (placed_among all ds) (d ∷ placed_among all ds))) n → (IsAmong (names_in (placed_among all ds)) n → IsAmong (names_in ds) n)
        → (d.of_name ≡ n) ⊎ IsAmong (names_in ds) n
    by true k g = inr (g k)
    by false (inl e) g = inl e
    by false (inr k) g = inr (g k)

-- the declaration of a variable is not passed over
variable_placed : (all ds : List Declaration) (n : Name) → is_variable_among ds n ≡ true → IsAmong (names_in (placed_among all ds)) n
variable_placed all [] n h = absurd (false≢true h)
variable_placed all (d ∷ ds) n h = first (same_name d.of_name n && declares_variable d) refl h (variable_placed all ds n)
  where
    no_port : (o : Option Direction) (t : Bool) → is_none o ≡ true → (is_some o && t) ≡ false
    no_port None t e = refl
    no_port (Some x) t e = absurd (false≢true e)

    later : (t : Bool) → IsAmong (names_in (placed_among all ds)) n → IsAmong (names_in (cond t (placed_among all ds) (d ∷ placed_among all ds))) n
    later true k = k
    later false k = inr k

    here : (t : Bool) → t ≡ false → d.of_name ≡ n → IsAmong (names_in (cond t (placed_among all ds) (d ∷ placed_among all ds))) n
    here true e i = absurd (false≢true (sym e))
    here false e i = inl i

    first : (t : Bool) → (same_name d.of_name n && declares_variable d) ≡ t → (t || is_variable_among ds n) ≡ true
        → (is_variable_among ds n ≡ true → IsAmong (names_in (placed_among all ds)) n) → IsAmong (names_in (cond (is_passed_over all d) (placed_among all ds) (d ∷ placed_among all ds))) n
    first true e k g =
        let p = and_parts (same_name d.of_name n) (declares_variable d) e in
        here (is_passed_over all d) (no_port d.direction (is_variable_among all d.of_name) (and_parts (is_none d.direction) _ p.1).0) (same_is d.of_name n p.0)
    first false e k g = later (is_passed_over all d) (g k)

placed_or_variable : (all ds : List Declaration) (n : Name) → IsAmong (names_in ds) n → IsAmong (names_in (placed_among all ds)) n ⊎ (is_variable_among all n ≡ true)
placed_or_variable all [] n h = absurd h
placed_or_variable all (d ∷ ds) n (inl e) = by (is_passed_over all d) refl
  where
    by : (t : Bool) → is_passed_over all d ≡ t → IsAmong (names_in (cond t (placed_among all ds) (d ∷ placed_among all ds))) n ⊎ (is_variable_among all n ≡ true)
    by true i = inr (subst (λ k. is_variable_among all k ≡ true) e (and_parts (is_some d.direction) (is_variable_among all d.of_name) i).1)
    by false i = inl (inl e)
placed_or_variable all (d ∷ ds) n (inr h) = by (is_passed_over all d) (placed_or_variable all ds n h)
  where
    by : (t : Bool) → IsAmong (names_in (placed_among all ds)) n ⊎ (is_variable_among all n ≡ true)
        → IsAmong (names_in (cond t (placed_among all ds) (d ∷ placed_among all ds))) n ⊎ (is_variable_among all n ≡ true)
    by true k = k
    by false (inl k) = inl (inr k)
    by false (inr k) = inr k

pub declared_placed : (ds : List Declaration) (n : Name) → IsAmong (names_in ds) n → IsAmong (names_in (placed_among ds ds)) n
declared_placed ds n h =
    elim (placed_or_variable ds ds n h) as (λ _. IsAmong (names_in (placed_among ds ds)) n) [ inl k ↦ k | inr e ↦ variable_placed ds ds n e ]

pub placed_append : (all ds es : List Declaration) → placed_among all (ds ++ es) ≡ placed_among all ds ++ placed_among all es
placed_append all [] es = refl
placed_append all (d ∷ ds) es = by (is_passed_over all d) (placed_append all ds es)
  where
    by : (t : Bool) → placed_among all (ds ++ es) ≡ placed_among all ds ++ placed_among all es
        → cond t (placed_among all (ds ++ es)) (d ∷ placed_among all (ds ++ es)) ≡ cond t (placed_among all ds) (d ∷ placed_among all ds) ++ placed_among all es
    by true e = e
    by false e = ap (λ xs. d ∷ xs) e

-- ---- items

pub one_item : (i : Item) (items : List Item) → item_declarations (i ∷ items) ≡ item_declarations (i ∷ []) ++ item_declarations items
one_item (port d) items = ap (λ xs. xs ++ item_declarations items) (sym (append-nil (each_port d d.names)))
one_item (parameter d) items = refl
one_item (wires signed r ws) items = ap (λ xs. xs ++ item_declarations items) (sym (append-nil (wire_declarations signed r ws)))
one_item (variables signed r vs) items = ap (λ xs. xs ++ item_declarations items) (sym (append-nil (variable_declarations signed r vs)))
one_item (assign ts) items = refl
one_item (always es x) items = refl
one_item (instances k given is) items = refl
