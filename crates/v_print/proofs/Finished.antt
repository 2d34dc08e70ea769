-- A text that was written reads as what was written.
use Rattle.std.proofs.Common.{◌≡◌, ℕ, ◌+◌, ◌≤◌, false, List, [], ◌∷◌, length, refl, sym, subst, arith, append-nil, le-ltb}
use Rattle.std.specs.Prelude.{nat_lt}
use Rattle.std.specs.String.{string_bytes}
use Rattle.verilog_text.specs.Text.{with_parts, most_tokens, is_too_deep}
use Rattle.verilog_trees.specs.Syntax.{Expression}
use Rattle.v_print.specs.declared.writer.Writer.{Writer}
use Rattle.v_print.specs.Reads.{after_text, HasTokens, ReadsAs}
use Rattle.v_print.specs.Writes.{Front, IsWriting, Writes}
use Rattle.v_print.specs.Spelled.{bare, printed}
use Rattle.v_print.specs.Depth.{depth_of}
use Rattle.v_print.specs.Printable.{IsPrintable}
use Rattle.v_print.specs.Reading.{IsExpressionOf}
use Rattle.v_print.proofs.Texts.{text_read}
use Rattle.v_print.proofs.Clean.{IsClean, bare_clean}
use Rattle.v_print.proofs.Open.{IsShallow, bare_fits}
use Rattle.v_print.proofs.Statements.{whole_spelled}

nothing_has : HasTokens [] []
unfolding after_text with_parts
nothing_has = record { is_plain = refl; is_calm = λ before h. h; tokens = λ before h. sym (append-nil _); are_few = omega arith }

-- from nothing on
pub finished : (start end : Writer) (g : Front) → string_bytes start.text ≡ [] → Writes start end g → ReadsAs (string_bytes end.text) (g [])
finished start end g e w =
    let begun : IsWriting (string_bytes start.text) start.last (λ r. r) = subst (λ t. IsWriting t start.last (λ r. r)) (sym e) (λ rest r has p. (has p).1) in
    subst (λ t. ReadsAs t (g [])) (append-nil (string_bytes end.text)) (w.goes_on (λ r. r) begun [] [] (λ p. (refl, nothing_has)))

-- few enough
pub few : (n : ℕ) → n ≤ most_tokens → nat_lt most_tokens n ≡ false
few n h = le-ltb most_tokens n h

nothing_clean : IsClean []
nothing_clean = record { printed = refl; sized = refl }

nothing_open : IsShallow [] []
unfolding is_too_deep
nothing_open = refl

pub expression_reads : (e : Expression) (text : List ℕ) → ReadsAs text (printed e []) → IsPrintable e → depth_of e ≤ 200 → length (printed e []) ≤ most_tokens → IsExpressionOf (text ∷ []) e
unfolding printed
expression_reads e text has p d n =
    let clean = bare_clean e p [] nothing_clean refl in
    record {
      tokens = bare e [];
      are_tokens = text_read text (bare e []) (has clean.printed) (few (length (bare e [])) n) clean.sized (bare_fits e p [] [] (from_none (depth_of e) d) nothing_open);
      is_expression = whole_spelled e p [];
    }
  where
    from_none : (k : ℕ) → k ≤ 200 → 0 + k ≤ 200
    from_none k h = omega (arith, h)
