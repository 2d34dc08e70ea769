-- An expression that a text is read as is shapely.
use Rattle.std.proofs.Common.{◌≡◌, ◌≤◌, Bool, true, false, List, [], ◌∷◌, Some, refl, arith}
use Rattle.verilog_trees.specs.Syntax.{Number}
use Rattle.verilog_rules.specs.Expression.{anywhere}
use Rattle.verilog_text.specs.Token.{Token, word, system, decimal, based, mark}
use Rattle.verilog_text.specs.Spelling.{decimal_value, based_number, of_size}
use Rattle.verilog_text.specs.Grammar.{with_dotted_names}
use Rattle.v_print.specs.Printable.{IsPrintableNumber}
use Rattle.v_print_source.proofs.Lexed.{AreLexed}
use Rattle.v_print_source.proofs.Worth.{number_printable}
use Rattle.v_print_source.proofs.Read.{are_lexed}
use Rattle.ready_maps.specs.Solid.{IsSizedBefore, AreSized}
use Rattle.ready_maps.specs.Accepted.{TextsAreShapely}
use Rattle.ready_maps.proofs.Shapely.{shapely}
use Rattle.ready_maps.proofs.Spelled.{solid}
use Rattle.ready_maps.proofs.Dotted.{dotted_sized}

some_width : (k : Number) → IsPrintableNumber k → 1 ≤ k.width
some_width k h = by k.sized refl
  where
    by : (b : Bool) → k.sized ≡ b → 1 ≤ k.width
    by true e = h.some_bits e
    by false e = let w : k.width ≡ 32 = h.plain_width e in omega (arith, w)

sized_before : (t : Token) (ts : List Token) → AreLexed (t ∷ ts) → IsSizedBefore t ts
sized_before (word n) ts l = tt
sized_before (system n) ts l = tt
sized_before (based text) ts l = tt
sized_before (mark m) ts l = tt
sized_before (decimal size) [] l = tt
sized_before (decimal size) (word n ∷ ts) l = tt
sized_before (decimal size) (system n ∷ ts) l = tt
sized_before (decimal size) (decimal text ∷ ts) l = tt
sized_before (decimal size) (mark m ∷ ts) l = tt
sized_before (decimal size) (based text ∷ ts) l =
    some_width (based_number (Some (decimal_value size)) text)
    (number_printable (based_number (Some (decimal_value size)) text) (decimal size ∷ based text ∷ ts) ts (of_size size text ts) l).is

sized : (ts : List Token) → AreLexed ts → AreSized ts
sized [] l = tt
sized (t ∷ ts) l = (sized_before t ts l, sized ts l.2)

pub texts_shapely : TextsAreShapely
texts_shapely t e s r =
    shapely s anywhere e
    (solid 0 e (with_dotted_names r.tokens) [] r.is_spelled (dotted_sized r.tokens (sized r.tokens (are_lexed (t ∷ []) r.tokens r.are_tokens)))).is
