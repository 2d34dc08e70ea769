-- What the modules up to the end of the tokens say of the whole source.
use Rattle.std.proofs.Common.{◌≡◌, List, Some, None, refl}
use Rattle.verilog_text.specs.Token.{Token}
use Rattle.verilog_trees.specs.Syntax.{Source}
use Rattle.verilog_text.specs.Grammar.{IsSource}
use Rattle.v_parse.specs.Reading.{modules_at, source_at}
use Rattle.v_parse.proofs.SpelledItems.{source_spelled}
use Rattle.v_parse.proofs.AgainItems.{no_source}

pub modules_spelled : (text : List Token) (ms : Source) (rest : List Token) → modules_at text ≡ Some (ms, rest) → IsSource ms text
unfolding source_at
modules_spelled text ms rest h = source_spelled ms text (rw h refl)

pub no_modules : (text : List Token) → modules_at text ≡ None → (ms : Source) → IsSource ms text → ⊥
unfolding source_at
no_modules text h = no_source text (rw h refl)
