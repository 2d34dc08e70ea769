-- What a list of tokens must meet to be the tokens of a text.
use Rattle.std.specs.Prelude.{Bool, false, ◌&&◌, ◌||◌, List, [], ◌∷◌}
use Rattle.verilog_text.specs.Token.{Token}
use Rattle.verilog_text.specs.Text.{is_zero, is_based}

abbrev pub begins_based : List Token → Bool
begins_based [] = false
begins_based (t ∷ ts) = is_based t

-- a plain decimal of value 0 directly before a based number
abbrev pub has_zero_size : List Token → Bool
has_zero_size [] = false
has_zero_size (t ∷ ts) = is_zero t && begins_based ts || has_zero_size ts
