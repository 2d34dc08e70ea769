-- Values that are listed by the names of states and inputs, as valuations.
use Rattle.std.proofs.Common.{◌≡◌, Bool, true, false, cond, List, [], ◌∷◌, map, Option, Some, None, refl, sym, ap, ◌∙◌}
use mathlib.Core.Path.{fun_ext}
use Rattle.wb_values.specs.Value.{Name, same_name, Sort, Value, number, Valuation, entry_of, value_or_zero, valuation_of}
use Rattle.verilog_trees.specs.Syntax.{Expression}
use Rattle.model_meaning.specs.Model.{StateDeclaration, InputDeclaration, states_of, state_named}
use Rattle.refinement.specs.Map.{Setting, mapped_or_zero, mapped_state, mapped_inputs, sort_of_state, sort_of_input}
use Rattle.wb_terms.specs.Environment.{values_by_name}
use Rattle.ila_child.specs.State.{sorts_of_states, sorts_of_inputs, state_valuation, input_valuation}
use Rattle.mapped_runs.proofs.Lists.{same_is}

unnamed : (s : Setting) (v : Valuation) (o : Option Sort) (e : Option Expression) → o ≡ None → mapped_or_zero s v o e ≡ number 0
unnamed s v None None h = refl
unnamed s v None (Some e) h = refl
unnamed s v (Some t) e h = absurd (let c : Some t ≡ None = h in cc)

-- a value that is listed first, or what follows
one_more : (f : Valuation) (m n : Name) (o : Option Value) (t : Bool) → same_name m n ≡ t → (t ≡ false → value_or_zero o ≡ f n)
    → value_or_zero (cond t (Some (f m)) o) ≡ f n
one_more f m n o true e h = ap f (same_is m n e)
one_more f m n o false e h = h refl

states_are : (ds : List StateDeclaration) (f : Valuation) (n : Name) → (state_named ds n ≡ None → f n ≡ number 0)
    → valuation_of (values_by_name (sorts_of_states ds) (map (λ d. f d.state_name) ds)) n ≡ f n
states_are [] f n h = sym (h refl)
states_are (d ∷ ds) f n h =
    one_more f d.state_name n (entry_of (values_by_name (sorts_of_states ds) (map (λ c. f c.state_name) ds)) n) (same_name d.state_name n) refl
    (λ e. states_are ds f n (λ none. h (passed (same_name d.state_name n) e none)))
  where
    passed : (t : Bool) → t ≡ false → state_named ds n ≡ None → cond t (Some d) (state_named ds n) ≡ None
    passed true e none = absurd (let c : true ≡ false = e in cc)
    passed false e none = none

inputs_are : (is : List InputDeclaration) (f : Valuation) (n : Name) → (sort_of_input is n ≡ None → f n ≡ number 0)
    → valuation_of (values_by_name (sorts_of_inputs is) (map (λ i. f i.input_name) is)) n ≡ f n
inputs_are [] f n h = sym (h refl)
inputs_are (d ∷ is) f n h =
    one_more f d.input_name n (entry_of (values_by_name (sorts_of_inputs is) (map (λ c. f c.input_name) is)) n) (same_name d.input_name n) refl
    (λ e. inputs_are is f n (λ none. h (passed (same_name d.input_name n) e none)))
  where
    passed : (t : Bool) → t ≡ false → sort_of_input is n ≡ None → cond t (Some d.sort) (sort_of_input is n) ≡ None
    passed true e none = absurd (let c : true ≡ false = e in cc)
    passed false e none = none

-- The mapped state is that of its listed values, and so are the mapped inputs.
pub state_listed : (s : Setting) (v : Valuation) (xs : List Value) → xs ≡ map (λ d. mapped_state s v d.state_name) (states_of s.model.top)
    → state_valuation s.model xs ≡ mapped_state s v
state_listed s v xs e =
    fun_ext (λ n.
    ap (λ ys. state_valuation s.model ys n) e
    ∙ states_are (states_of s.model.top) (mapped_state s v) n
    (λ none. unnamed s v (sort_of_state (state_named (states_of s.model.top) n)) (entry_of s.map.states n) (ap sort_of_state none)))

pub inputs_listed : (s : Setting) (v : Valuation) (xs : List Value) → xs ≡ map (λ i. mapped_inputs s v i.input_name) s.model.inputs
    → input_valuation s.model xs ≡ mapped_inputs s v
inputs_listed s v xs e =
    fun_ext (λ n.
    ap (λ ys. input_valuation s.model ys n) e
    ∙ inputs_are s.model.inputs (mapped_inputs s v) n
    (λ none. unnamed s v (sort_of_input s.model.inputs n) (entry_of s.map.inputs n) none))
