-- Which answers of a step come only where an instruction starts.
use Rattle.std.specs.Prelude.{Bool, true, false}
use Rattle.ila_child.specs.declared.stepping.Stepped.{Stepped}
use Rattle.ila_child.specs.declared.stepping.Stepped.TheVariants.{Next, NotValid, NoInstruction, Several, ChildStuck, ChildTooLong}

abbrev pub is_begun : Stepped → Bool
is_begun (Next j r) = true
is_begun NotValid = false
is_begun NoInstruction = false
is_begun (Several j k) = false
is_begun (ChildStuck d s) = true
is_begun (ChildTooLong d) = true
