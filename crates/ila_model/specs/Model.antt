-- The model that the code's record of its parts stands for.
use Rattle.std.specs.String.{string_bytes}
use Rattle.model_meaning.specs.Model.{Model}
use Rattle.ila_model.specs.declared.model.IlaModel.{IlaModel}
use Rattle.ila_model.specs.Meaning.{model_from}

abbrev pub model_of : IlaModel → Model
model_of m = model_from (string_bytes m.name) m.parts
