-- What a text that is being written has for tokens, whatever comes after it.
use Rattle.std.specs.Prelude.{◌≡◌, ℕ, true, List, ◌++◌}
use Rattle.std.specs.String.{string_bytes}
use Rattle.verilog_text.specs.Token.{Token}
use Rattle.v_print.specs.declared.last.Last.{Last}
use Rattle.v_print.specs.declared.writer.Writer.{Writer}
use Rattle.v_print.specs.Reads.{may_go_on, are_printed, HasTokens, ReadsAs}

-- tokens in front of those that follow
abbrev pub Front : Type 0
Front = List Token → List Token

-- Where the tokens are such as are printed, a text has them, and it may stand behind what stands last.
abbrev pub GoesOn : Last → List ℕ → List Token → Type 0
GoesOn last rest r = are_printed r ≡ true → (may_go_on last rest ≡ true) × HasTokens rest r

-- A text has these tokens in front of those of any text that goes on behind it.
abbrev pub IsWriting : List ℕ → Last → Front → Type 0
IsWriting text last f = (rest : List ℕ) (r : List Token) → GoesOn last rest r → ReadsAs (text ++ rest) (f r)

-- These tokens were written.
pub record Writes (old new : Writer) (g : Front) : Type 0 where
  pub goes_on : (f : Front) → IsWriting (string_bytes old.text) old.last f → IsWriting (string_bytes new.text) new.last (λ r. f (g r))
