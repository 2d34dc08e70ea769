use Rattle.v_places.specs.Views.{spots_of}
use Rattle.map_paths.specs.Tables.{numbers_in}
use Rattle.read_cases.specs.Named.{names_of_texts}
use Rattle.read_cases.proofs.Scopes.{scope_told}
use Rattle.read_cases.proofs.scope.scope_of_names.Goals as goal

pub returns : goal.returns
returns c =
    scope_told c.sound_modules_are_known.ensures c.objects_of_sound_modules_are_in_bounds.ensures c.scopes_of_names_are_those_of_the_design.ensures.agree
    c.scopes_of_names_are_those_of_the_design.ensures.narrow (spots_of c.args.places.now) (numbers_in c.in_ok-instances.instances) c.in_ok-instances.ensures
    (names_of_texts c.args.names.now) c.in_ok-scope.scope c.in_ok-scope.ensures
