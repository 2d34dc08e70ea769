-- Lemmas on one step of a model whose names have values: what each answer says of its state and inputs.
use Rattle.std.proofs.Common.{◌≡◌, ◌∙◌, ℕ, ◌≤◌, Bool, true, false, List, length, take, None, sym, ap, subst, arith}
use Rattle.std.proofs.lemmas.Bool.{and_parts, false≢true}
use Rattle.wb_values.specs.Value as meaning
use Rattle.wb_values.specs.Value.{Name, Valuation}
use Rattle.model_meaning.specs.Model.{holds, point_of}
use Rattle.wb_terms.specs.Graph.{tree}
use Rattle.wb_terms.specs.Environment.{AreOfSorts}
use Rattle.term_evaluation.specs.Links.{valuation_at}
use Rattle.ila_model.specs.declared.parts.Parts.{Parts}
use Rattle.ila_model.specs.Scope.{nesting}
use Rattle.ila_model.specs.Sorted.{is_condition}
use Rattle.ila_model.specs.Meaning.{model_from}
use Rattle.ila_model.proofs.Declarations.{AreSorted}
use Rattle.ila_child.specs.declared.decoding.Decoded.TheVariants.{Several}
use Rattle.ila_child.specs.declared.stepping.Stepped.{Stepped}
use Rattle.ila_child.specs.declared.stepping.Stepped.TheVariants.{NotValid, NoInstruction}
use Rattle.ila_child.specs.declared.stepping.Stepped.TheVariants.{Several as SeveralDecode}
use Rattle.ila_child.specs.Decoding.{decodes, IsFound, IsOnlyFound, AreDecoded}
use Rattle.ila_child.specs.State.{IsStateOf, AreInputsOf, state_valuation, input_valuation}
use Rattle.ila_child.specs.Step.{IsStepped}
use Rattle.ila_child.specs.Running.{seen, point_at}
use Rattle.ila_child.specs.Start.{IsStart}
use Rattle.ila_child.specs.Runs.{with_values}
use Rattle.ila_child.proofs.Machines.{holds_same, decodes_same}
use Rattle.ila_child.proofs.Starts.{given, start_point, first_values, state_sorted}
use Rattle.ila_child.proofs.Movement.{point_set, with_values-front}
use Rattle.ila_child.proofs.Answers.{none_decode, first_two, answered}

-- the state of a model whose names have values of their sorts
pub state_there : (p : Parts) (s : AreSorted p) (name : Name) (xs : List meaning.Value) → AreOfSorts p.terms.names xs → IsStateOf (model_from name p) (take (length p.initial_values.items) xs)
state_there p s name xs a = state_sorted p s name (take (length p.initial_values.items) xs) (point_at p None xs) (first_values p s xs a)

-- the point that the top sees once inputs were set
pub seen_there : (p : Parts) (s : AreSorted p) (name : Name) (w xs ys zs : List meaning.Value) → AreOfSorts p.terms.names xs → AreOfSorts p.terms.names ys → AreInputsOf (model_from name p) w
    → ys ≡ with_values (length p.initial_values.items) w xs → zs ≡ ys
    → seen p None zs ≡ point_of (model_from name p) (state_valuation (model_from name p) (take (length p.initial_values.items) xs)) (input_valuation (model_from name p) w)
seen_there p s name w xs ys zs a b i e f =
    let q = take (length p.initial_values.items) xs in
    let g = given p s name q w (state_there p s name xs a) i in
    ap (seen p None) f ∙ start_point p s name q w ys g (point_set p s w xs ys a b g.inputs_count e)

-- its state, which setting inputs leaves
pub state_left : (p : Parts) (w xs ys zs : List meaning.Value) → ys ≡ with_values (length p.initial_values.items) w xs → zs ≡ ys
    → take (length p.initial_values.items) zs ≡ take (length p.initial_values.items) xs
state_left p w xs ys zs e f =
    let n = length p.initial_values.items in
    ap (take n) (f ∙ e) ∙ with_values-front n w xs n (omega arith)

module _ (p : Parts) (s : AreSorted p) (name : Name) (q w e : List meaning.Value)
    (at : seen p None e ≡ point_of (model_from name p) (state_valuation (model_from name p) q) (input_valuation (model_from name p) w))
    (b : Bool) (valid : b ≡ holds (tree p.terms p.valid.0) (valuation_at p.terms e)) where
  low : 0 ≤ nesting
  low = omega arith

  here : holds (tree p.terms p.valid.0) (point_of (model_from name p) (state_valuation (model_from name p) q) (input_valuation (model_from name p) w)) ≡ b
  here =
      let top = and_parts (is_condition p None p.valid.0) _ s.top in
      subst (λ v. holds (tree p.terms p.valid.0) v ≡ b) at (sym (holds_same p None 0 e p.valid.0 tt low top.0) ∙ sym valid)

  by : decodes p.terms (valuation_at p.terms e) p.instructions.items
      ≡ decodes p.terms (point_of (model_from name p) (state_valuation (model_from name p) q) (input_valuation (model_from name p) w)) p.instructions.items
  by =
      let top = and_parts (is_condition p None p.valid.0) _ s.top in
      decodes_same p None 0 e p.instructions.items tt low top.1 ∙ ap (λ v. decodes p.terms v p.instructions.items) at

  pub not_valid_step : b ≡ false → IsStepped (model_from name p) q w NotValid
  not_valid_step f = (λ t. false≢true (sym f ∙ sym here ∙ t), tt)

  pub none_step : b ≡ true → IsFound (decodes p.terms (valuation_at p.terms e) p.instructions.items) (length p.instructions.items) None → IsStepped (model_from name p) q w NoInstruction
  none_step t f =
      ((here ∙ t, none_decode name p (state_valuation (model_from name p) q) (input_valuation (model_from name p) w) (subst (λ g. IsFound g (length p.instructions.items) None) by f)), tt)

  pub several_step : (j k : ℕ) → b ≡ true → AreDecoded (decodes p.terms (valuation_at p.terms e) p.instructions.items) (length p.instructions.items) (Several j k) → IsStepped (model_from name p) q w (SeveralDecode j k)
  several_step j k t f =
      ((here ∙ t, first_two name p (state_valuation (model_from name p) q) (input_valuation (model_from name p) w) j k (subst (λ g. AreDecoded g (length p.instructions.items) (Several j k)) by f)), tt)

  pub one_step : (k : ℕ) (a : Stepped) → b ≡ true → IsOnlyFound (decodes p.terms (valuation_at p.terms e) p.instructions.items) (length p.instructions.items) k → IsStart p (seen p None e) k a → IsStepped (model_from name p) q w a
  one_step k a t f st =
      answered name p s (state_valuation (model_from name p) q) (input_valuation (model_from name p) w) k a (here ∙ t)
      (subst (λ g. IsOnlyFound g (length p.instructions.items) k) by f) (subst (λ v. IsStart p v k a) at st)
