-- Whether a name is that of a reset, by the module at the top of the list.
use Rattle.std.proofs.Common.{◌≡◌, ◌∙◌, ◌==◌, refl, ap, sym, subst, Bool, false, List, [], Option, Some, None}
use Rattle.std.specs.Prelude.{slice_get, ◌&&◌, not}
use Rattle.wb_values.specs.Value.{Name, same_name}
use Rattle.verilog_meaning.specs.Expression.{object_width}
use Rattle.verilog_meaning.specs.Hierarchy.{Placed}
use Rattle.verilog_meaning.specs.Settled.{Design, at_path}
use Rattle.verilog_designs.specs.Accepted.{is_input_port}
use Rattle.verilog_unique.proofs.Paths.{stands_at, placed_in}
use Rattle.flat_rules.specs.Sound.{ModulesAreKnown}
use Rattle.map_rules.specs.Expressions.{is_one_bit_input, is_reset}
use Rattle.v_places.specs.Below.{Spot}
use Rattle.v_places.specs.Places.{IsPathOf, placed_by, IsPlaceAt}
use Rattle.map_judged.specs.Known.{StandsAt}
use Rattle.map_judged.specs.Resets.{is_one_bit_input_there}
use Rattle.map_judged.proofs.Standing.{standing}

module _ (law : ModulesAreKnown) (d : Design) (spots : List Spot) (h : StandsAt d spots) where
  -- the first of the list stands at the top
  top_input : (x : Spot) (n : Name) → slice_get spots 0 ≡ Some x → is_one_bit_input (at_path d []) n ≡ is_one_bit_input_there x n
  top_input x n e =
      let place : IsPlaceAt spots 0 [] (placed_by [] x) = record { stands = refl; spot = x; is_spot = e; is_placed = refl } in
      let top : at_path d [] ≡ Some (placed_by [] x) = (standing d spots h law).stands 0 [] (placed_by [] x) place in
      ap (λ o. is_one_bit_input o n) top
      ∙ (λ i. is_input_port x.of_module n && (object_width (sym ((standing d spots h law).scope 0 [] x place) i n) == 1))

  pub reset_told : (x : Spot) (clock n : Name) (b : Bool) → slice_get spots 0 ≡ Some x → d.clock ≡ clock → b ≡ (is_one_bit_input_there x n && not (same_name n clock))
      → b ≡ is_reset d n
  reset_told x clock n b e same told = told ∙ (λ i. sym (top_input x n e) i && not (same_name n (sym same i)))

  -- an empty list has no top
  no_top_input : (n : Name) → slice_get spots 0 ≡ None → is_one_bit_input (at_path d []) n ≡ false
  no_top_input n e = by (at_path d []) refl where
    by : (o : Option Placed) → at_path d [] ≡ o → is_one_bit_input o n ≡ false
    by None g = refl
    by (Some p) g =
        let path : p.path ≡ [] = stands_at d [] p g in
        let f = (standing d spots h law).number p (placed_in d [] p g) in
        let first : f.0 ≡ 0 = subst (IsPathOf spots f.0) path f.1.stands in
        let there : None ≡ Some f.1.spot = sym e ∙ (ap (slice_get spots) (sym first) ∙ f.1.is_spot) in cc

  pub no_reset : (n : Name) → slice_get spots 0 ≡ None → false ≡ is_reset d n
  no_reset n e = sym (ap (λ b. b && not (same_name n d.clock)) (no_top_input n e))
