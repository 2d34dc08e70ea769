use Rattle.std.proofs.Common.{◌∙◌, ap, sym, subst, map}
use Rattle.std.specs.Prelude.{Contains}
use Rattle.verilog_meaning.specs.Expression.{scope_of}
use Rattle.v_value.specs.Narrow.{HasNarrowObjects}
use Rattle.v_instances.specs.Interface.{AreInterfacesOf}
use Rattle.v_places.specs.Views.{spots_of}
use Rattle.map_paths.specs.Tables.{numbers_in}
use Rattle.map_judged.proofs.Standing.{known_places, standing, narrow_there, clock_is_input}
use Rattle.map_judged.proofs.Telling.{named_all}
use Rattle.map_judged.proofs.making.known_names.Goals as goal

pub invariant_of-result : goal.invariant_of-result
invariant_of-result c =
    let law = c.sound_modules_are_known.ensures in
    record {
      narrow = subst (λ es. HasNarrowObjects (scope_of es)) (sym c.in_ok-scope.ensures)
          (c.scopes_of_names_are_those_of_the_design.ensures.narrow (spots_of c.args.places.now) (numbers_in c.in_ok-instances.instances)
          (narrow_there c.requires.0 (spots_of c.args.places.now) c.requires.1 law c.objects_of_sound_modules_are_in_bounds.ensures) _);
    }

pub returns : goal.returns
returns c = λ d stands source clock named.
    let law = c.sound_modules_are_known.ensures in
    let spots = spots_of c.args.places.now in
    let names = ap (map (λ n. n.now)) c.deref.ensures.value ∙ (c.in_ok-names.ensures ∙ named_all c.args.expressions.now named) in
    record {
      means = λ n k.
          (λ i. scope_of (c.in_ok-scope.ensures i) n)
          ∙ c.scopes_of_names_are_those_of_the_design.ensures.agree d spots (numbers_in c.in_ok-instances.instances) (standing d spots stands law) c.in_ok-instances.ensures
          (map (λ m. m.now) c.deref.result.now) n (subst (λ ns. Contains ns n) (sym names) k);
      spots = spots;
      clocks =
          record {
            standing = standing d spots stands law;
            are_below = c.in_ok-instances.ensures;
            are_nets =
                c.in_ok-nets.ensures d (known_places d spots stands law)
                (subst (AreInterfacesOf c.in_ok-interfaces.interfaces) (sym source) c.in_ok-interfaces.ensures) clock;
            no_dots = stands.of_text.no_dots;
            clock = clock_is_input d spots stands law;
          };
    }
