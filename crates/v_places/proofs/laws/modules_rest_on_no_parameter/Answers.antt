use Rattle.v_places.proofs.AtPaths.{same_modules}
use Rattle.v_places.proofs.laws.modules_rest_on_no_parameter.Goals as goal

pub returns : goal.returns
returns c = same_modules
