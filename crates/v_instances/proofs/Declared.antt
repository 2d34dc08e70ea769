-- What the rules say of declarations of parameters, one after the other, is what they say of them together.
use Rattle.std.proofs.Common.{◌≡◌, ◌∙◌, refl, ap, sym, ℕ, ◌+◌, Bool, List, [], ◌∷◌, ◌++◌, Option, Some, None, option_map}
use Rattle.std.specs.Prelude.{ℤ}
use Rattle.wb_values.specs.Value.{Name}
use Rattle.wb_values.specs.Choice.{some_if}
use Rattle.verilog_trees.specs.Syntax.{Expression, Range, ParameterDeclaration, Item, port, parameter, wires, variables, assign, always, instances}
use Rattle.verilog_meaning.specs.Expression.{Scope, distance, sign_of, width_of}
use Rattle.verilog_meaning.specs.Hierarchy.{body_parameters}
use Rattle.verilog_rules.specs.Expression as rules
use Rattle.verilog_designs.specs.Known.{as_bound, both_bounds, known_bound, known_range_width, value_position}
use Rattle.verilog_designs.specs.Expressions as designs
use Rattle.v_size.specs.declared.rule.Broken.{Broken}
use Rattle.v_size.specs.Rule.{coded, both}
use Rattle.v_size.proofs.Chains.{both-none, both-assoc}
use Rattle.v_instances.specs.declared.parameter.Bound.{Bound}
use Rattle.v_instances.specs.declared.parameter.RangeWidth.{RangeWidth}
use Rattle.v_instances.specs.Outputs.{none}
use Rattle.v_instances.specs.Parameters.{bound_at, width_between, of_width, is_wide, range_at, value_place, value_at, values_from, declaration_at, declarations_from, parameter_items_from}

abbrev made : Broken → Option ℕ → Bound
made b v = record { broken = b; value = v }

pub bound_by : (s : Scope) (e : Expression) (n : Option ℤ) → n ≡ rules.constant_number s e → (o : Bool) → o ≡ designs.is_outside n → (c : Broken) → c ≡ coded (rules.constant_if o)
    → (b : Broken) → b ≡ coded (rules.broken_constant s e) → (r : Broken) → r ≡ both c b → (v : Option ℕ) → v ≡ as_bound n → made r v ≡ bound_at s e
unfolding bound_at
bound_by s e n is_n o is_o c is_c b is_b r is_r v is_v = λ i. record {
  broken = (is_r ∙ ap (λ z. both z b) (is_c ∙ ap (λ z. coded (rules.constant_if z)) (is_o ∙ ap designs.is_outside is_n))
      ∙ ap (both (coded (rules.constant_if (designs.is_outside (rules.constant_number s e))))) is_b) i;
  value = (is_v ∙ ap as_bound is_n) i;
}

pub value_by : (s : Scope) (w : RangeWidth) (e : Expression) (own : Option ℕ) → own ≡ some_if (rules.has_width s e) (width_of s e) → (t : Bool) → t ≡ sign_of s e
    → (p : rules.Position) → p ≡ value_place w own t → (r : Broken) → r ≡ coded (rules.broken s p e) → r ≡ value_at s w e
unfolding value_at
value_by s w e own is_own t is_t p is_p r h =
    h ∙ ap (λ q. coded (rules.broken s q e)) (is_p ∙ ap (λ v. value_place w v t) is_own ∙ ap (value_place w (some_if (rules.has_width s e) (width_of s e))) is_t)

-- ---- ranges

both-width : (l r : Option ℕ) → width_between l r ≡ option_map (λ b. distance b.0 b.1 + 1) (both_bounds l r)
both-width (Some l) (Some r) = refl
both-width (Some l) None = refl
both-width None r = refl

range-width : (s : Scope) (r : Range) → (range_at s (Some r)).width ≡ of_width (known_range_width s r)
unfolding bound_at
range-width s r = ap of_width (both-width (known_bound s r.left) (known_bound s r.right))

range-told : (s : Scope) (r : Option Range) → (range_at s r).broken ≡ coded (designs.broken_range s r)
unfolding bound_at
range-told s None = refl
range-told s (Some r) = refl

wide-so : (w : Option ℕ) → is_wide (of_width w) ≡ rules.is_over_128 w
wide-so None = refl
wide-so (Some w) = refl

width-told : (s : Scope) (r : Option Range) → coded (rules.width_if (is_wide (range_at s r).width)) ≡ coded (designs.broken_width s r)
width-told s None = refl
width-told s (Some r) = ap (λ b. coded (rules.width_if b)) (ap is_wide (range-width s r) ∙ wide-so (known_range_width s r))

place-so : (w own : Option ℕ) (t : Bool) → value_place (of_width w) own t ≡ rules.constant (rules.wider w own) t
place-so None own t = refl
place-so (Some w) own t = refl

place-told : (s : Scope) (r : Option Range) (e : Expression) → value_place (range_at s r).width (some_if (rules.has_width s e) (width_of s e)) (sign_of s e) ≡ value_position s r e
place-told s None e = refl
place-told s (Some r) e =
    ap (λ w. value_place w (some_if (rules.has_width s e) (width_of s e)) (sign_of s e)) (range-width s r)
    ∙ place-so (known_range_width s r) (some_if (rules.has_width s e) (width_of s e)) (sign_of s e)

-- ---- values and declarations

value-told : (s : Scope) (r : Option Range) (e : Expression) → value_at s (range_at s r).width e ≡ coded (rules.broken s (value_position s r e) e)
unfolding value_at
value-told s r e = ap (λ p. coded (rules.broken s p e)) (place-told s r e)

values-told : (s : Scope) (r : Option Range) (vs : List (Name × Expression)) (a : Broken) → values_from s (range_at s r).width a vs ≡ both a (coded (designs.broken_values s r vs))
values-told s r [] a = both-none a
values-told s r (v ∷ vs) a =
    values-told s r vs (both a (value_at s (range_at s r).width v.1))
    ∙ ap (λ z. both (both a z) (coded (designs.broken_values s r vs))) (value-told s r v.1)
    ∙ sym (both-assoc a (coded (rules.broken s (value_position s r v.1) v.1)) (coded (designs.broken_values s r vs)))

module _ (s : Scope) where
  declaration-told : (d : ParameterDeclaration) → declaration_at s d ≡ coded (designs.broken_parameters s d)
  declaration-told d = λ i. both (range-told s d.range i) (both (width-told s d.range i) (values-told s d.range d.values none i))

  pub declarations-told : (ds : List ParameterDeclaration) (a : Broken) → declarations_from s a ds ≡ both a (coded (designs.broken_header s ds))
  declarations-told [] a = both-none a
  declarations-told (d ∷ ds) a =
      declarations-told ds (both a (declaration_at s d))
      ∙ ap (λ z. both (both a z) (coded (designs.broken_header s ds))) (declaration-told d)
      ∙ sym (both-assoc a (coded (designs.broken_parameters s d)) (coded (designs.broken_header s ds)))

  pub parameter_items-told : (items : List Item) (a : Broken) → parameter_items_from s a items ≡ both a (coded (designs.broken_header s (body_parameters items)))
  parameter_items-told [] a = both-none a
  parameter_items-told (port d ∷ items) a = parameter_items-told items (both a none) ∙ ap (λ z. both z (coded (designs.broken_header s (body_parameters items)))) (sym (both-none a))
  parameter_items-told (parameter d ∷ items) a =
      parameter_items-told items (both a (declaration_at s d))
      ∙ ap (λ z. both (both a z) (coded (designs.broken_header s (body_parameters items)))) (declaration-told d)
      ∙ sym (both-assoc a (coded (designs.broken_parameters s d)) (coded (designs.broken_header s (body_parameters items))))
  parameter_items-told (wires signed r ws ∷ items) a = parameter_items-told items (both a none) ∙ ap (λ z. both z (coded (designs.broken_header s (body_parameters items)))) (sym (both-none a))
  parameter_items-told (variables signed r vs ∷ items) a = parameter_items-told items (both a none) ∙ ap (λ z. both z (coded (designs.broken_header s (body_parameters items)))) (sym (both-none a))
  parameter_items-told (assign ts ∷ items) a = parameter_items-told items (both a none) ∙ ap (λ z. both z (coded (designs.broken_header s (body_parameters items)))) (sym (both-none a))
  parameter_items-told (always es x ∷ items) a = parameter_items-told items (both a none) ∙ ap (λ z. both z (coded (designs.broken_header s (body_parameters items)))) (sym (both-none a))
  parameter_items-told (instances m given is ∷ items) a = parameter_items-told items (both a none) ∙ ap (λ z. both z (coded (designs.broken_header s (body_parameters items)))) (sym (both-none a))

  -- the header and the body are one list
  pub header-both : (ds es : List ParameterDeclaration) → both (coded (designs.broken_header s ds)) (coded (designs.broken_header s es)) ≡ coded (designs.broken_header s (ds ++ es))
  header-both [] es = refl
  header-both (d ∷ ds) es =
      sym (both-assoc (coded (designs.broken_parameters s d)) (coded (designs.broken_header s ds)) (coded (designs.broken_header s es)))
      ∙ ap (both (coded (designs.broken_parameters s d))) (header-both ds es)

  pub parameters-told : (ds : List ParameterDeclaration) (items : List Item) (a : Broken) → a ≡ declarations_from s none ds → (b : Broken) → b ≡ parameter_items_from s none items
      → both a b ≡ coded (designs.broken_header s (ds ++ body_parameters items))
  parameters-told ds items a is_a b is_b =
      ap (λ z. both z b) (is_a ∙ declarations-told ds none)
      ∙ ap (both (coded (designs.broken_header s ds))) (is_b ∙ parameter_items-told items none)
      ∙ header-both ds (body_parameters items)
