-- Where a source is refused.
use Rattle.std.specs.Prelude.{List}
use Rattle.verilog_text.specs.Token.{Token}
use Rattle.v_place.specs.Place.{IsSourceText, IsFirstWrong}
use Rattle.v_parse.specs.declared.stop.ParseStop.{ParseStop}
use Rattle.v_parse.specs.declared.stop.ParseStop.TheVariants.{NoMemory, Refused}

-- The place, told by how many tokens are left there, is the first token with which no source goes on.
abbrev pub IsPlace : ParseStop → List Token → Type 0
IsPlace NoMemory text = Unit {0}
IsPlace (Refused left) text = IsFirstWrong IsSourceText left text
