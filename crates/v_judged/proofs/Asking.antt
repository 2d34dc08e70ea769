-- What is asked of a place, and what is told of it, where the code has the same scope and the same items in its own form.
use Rattle.std.proofs.Common.{◌≡◌, ◌∙◌, refl, ap, sym, subst, Bool, true, false, true≢false, inl, inr, List, map, length}
use mathlib.Core.Path.{fun_ext}
use Rattle.std.specs.Prelude.{◌↔◌, ◌⊎◌, IsTrue}
use Rattle.std.proofs.lemmas.List.{length-map}
use Rattle.verilog_trees.specs.Syntax.{Item}
use Rattle.verilog_meaning.specs.Expression.{Scope}
use Rattle.v_syntax.specs.declared.module.Item.{Item as CodeItem}
use Rattle.v_syntax.specs.Source.{item_of}
use Rattle.v_value.specs.Scope.{scope_at}
use Rattle.v_scopes.specs.declared.table.ModuleScope.{ModuleScope}
use Rattle.v_drivers.specs.Sets.{drivers, TwoMeet}
use Rattle.v_assigned.specs.Names.{HasNamesOf}
use Rattle.v_assigned.specs.Assigned.{names_are_bad}
use Rattle.v_places.specs.Below.{Spot}
use Rattle.place_kinds.specs.Places.{spot_scope, assigns_bad_name, HasBadDriverAt}
use Rattle.place_kinds.specs.Drivers.{BadNamesAreFound}
use Rattle.v_judged.specs.declared.place.PlaceScope.{PlaceScope}
use Rattle.v_judged.specs.Spots.{spot_in}

-- ---- the same scope and items

module _ (P : Scope → List Item → Type 0) (s t : Scope) (same : s ≡ t) (xs ys : List CodeItem) (items : xs ≡ ys) where
  pub asked_of : P t (map item_of ys) → P s (map item_of xs)
  asked_of h = subst (λ zs. P s (map item_of zs)) (sym items) (subst (λ u. P u (map item_of ys)) (sym same) h)

  pub told_of : P s (map item_of xs) → P t (map item_of ys)
  told_of h = subst (λ u. P u (map item_of ys)) same (subst (λ zs. P s (map item_of zs)) items h)

-- the scope of a place
pub own_scope : (x : PlaceScope) → scope_at x.scope ≡ spot_scope (spot_in x)
own_scope x = fun_ext (λ n. x.scope_so n)

-- as many of each
pub as_many : {A B C D : Type 0} (f : A → C) (g : B → D) (xs : List A) (ys : List B) → length (map f xs) ≡ length (map g ys) → length xs ≡ length ys
as_many f g xs ys e = sym (length-map xs f) ∙ (e ∙ length-map ys g)

-- ---- drivers of a place

module _ (x : Spot) (items : List Item) (names : ModuleScope) (s : Scope) (same : s ≡ spot_scope x) (known : HasNamesOf names x.of_module) (law : BadNamesAreFound)
    (b : Bool) (told : b ≡ names_are_bad names s items) where
  bad : b ≡ assigns_bad_name x.of_module (spot_scope x) items
  bad = told ∙ (law x.of_module s names items known ∙ ap (λ t. assigns_bad_name x.of_module t items) same)

  pub name_found : b ≡ true → IsTrue true ↔ HasBadDriverAt items x
  name_found e = ((λ t. inr (sym bad ∙ e)), (λ a. refl))

  pub two_asked : b ≡ false → (q : Bool) → (IsTrue q ↔ TwoMeet s (drivers s items)) → IsTrue q ↔ HasBadDriverAt items x
  two_asked e q two = ((λ t. inl (subst (λ u. TwoMeet u (drivers u items)) same (two.0 t))), back)
    where
      back : (TwoMeet (spot_scope x) (drivers (spot_scope x) items) ⊎ IsTrue (assigns_bad_name x.of_module (spot_scope x) items)) → IsTrue q
      back (inl m) = two.1 (subst (λ u. TwoMeet u (drivers u items)) (sym same) m)
      back (inr n) = absurd (true≢false (sym n ∙ (sym bad ∙ e)))
