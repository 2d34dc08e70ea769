-- A source that was written reads as what was written.
use Rattle.std.proofs.Common.{◌≡◌, ℕ, ◌≤◌, Bool, true, false, List, [], ◌∷◌, length, sym, ◌∙◌, subst, arith}
use Rattle.std.specs.Prelude.{nat_le}
use Rattle.std.proofs.lemmas.Bool.{leb-true}
use Rattle.std.specs.String.{string_bytes}
use Rattle.verilog_text.specs.Text.{most_tokens, is_too_deep}
use Rattle.verilog_text.specs.Grammar.{IsTreeOf}
use Rattle.verilog_trees.specs.Syntax.{Source}
use Rattle.v_print.specs.declared.writer.Writer.{Writer}
use Rattle.v_print.specs.Reads.{ReadsAs}
use Rattle.v_print.specs.Writes.{Writes}
use Rattle.v_print.specs.Bodies.{source_before}
use Rattle.v_print.specs.Printable.{IsPrintableSource}
use Rattle.v_print.proofs.Texts.{text_read}
use Rattle.v_print.proofs.Finished.{few, finished}
use Rattle.v_print.proofs.Items.{source_spelled}
use Rattle.v_print_source.specs.Shown.{printed_modules}
use Rattle.v_print_source.specs.Limits.{ArePrintedWithin}
use Rattle.v_print_source.proofs.Tidy.{source_clean}
use Rattle.v_print_source.proofs.Read.{are_lexed, read_bounds}
use Rattle.v_print_source.proofs.DerivedModules.{source_printable}
use Rattle.v_print_source.proofs.FollowedModules.{source_shallow, source_small}

-- what was written from nothing on
pub written_so : (c : Bool) (ms : Source) (start end : Writer) (text : List ℕ) → string_bytes start.text ≡ [] → Writes start end (λ r. printed_modules c ms r) → text ≡ string_bytes end.text → ReadsAs text (printed_modules c ms [])
written_so c ms start end text none w e = subst (λ t. ReadsAs t (printed_modules c ms [])) (sym e) (finished start end (λ r. printed_modules c ms r) none w)

reads : (c : Bool) (ms : Source) (text : List ℕ) → ReadsAs text (printed_modules c ms []) → IsPrintableSource ms → is_too_deep [] (printed_modules c ms []) ≡ false → length (printed_modules c ms []) ≤ most_tokens → IsTreeOf (text ∷ []) ms
unfolding printed_modules
reads c ms text has p shallow n =
    let clean = source_clean c ms p in
    record {
      tokens = source_before c ms [];
      are_tokens = text_read text (source_before c ms []) (has clean.printed) (few (length (source_before c ms [])) n) clean.sized shallow;
      is_source = source_spelled c ms p;
    }

-- a text has no more tokens than bytes
tokens_few : (c : Bool) (ms : Source) (text : List ℕ) → ReadsAs text (printed_modules c ms []) → IsPrintableSource ms → length text ≤ 4194304 → length (printed_modules c ms []) ≤ most_tokens
unfolding printed_modules most_tokens
tokens_few c ms text has p n = by (length (source_before c ms [])) (length text) (has (source_clean c ms p).printed).are_few n
  where
    by : (a b : ℕ) → a ≤ b → b ≤ 4194304 → a ≤ 4194304
    by a b h g = omega (arith, h, g)

pub few_bytes : (bytes seen : List ℕ) (few : Bool) → seen ≡ bytes → few ≡ nat_le (length seen) 4194304 → few ≡ true → length bytes ≤ 4194304
few_bytes bytes seen few is e h = subst (λ bs. length bs ≤ 4194304) is (leb-true (length seen) 4194304 (sym e ∙ h))

pub short_reads : (ms : Source) (text : List ℕ) → ReadsAs text (printed_modules true ms []) → length text ≤ 4194304 → IsPrintableSource ms → ArePrintedWithin ms → IsTreeOf (text ∷ []) ms
short_reads ms text has n p within = reads true ms text has p (within.are_shallow true) (tokens_few true ms text has p n)

pub long_reads : (ms : Source) (text : List ℕ) → ReadsAs text (printed_modules false ms []) → IsPrintableSource ms → ArePrintedWithin ms → IsTreeOf (text ∷ []) ms
long_reads ms text has p within = reads false ms text has p (within.are_shallow false) within.are_few

pub read_printable : (files : List (List ℕ)) (ms : Source) → IsTreeOf files ms → IsPrintableSource ms
read_printable files ms h = source_printable ms h.tokens h.is_source (are_lexed files h.tokens h.are_tokens)

pub read_within : (files : List (List ℕ)) (ms : Source) → IsTreeOf files ms → ArePrintedWithin ms
unfolding printed_modules
read_within files ms h =
    let p = read_printable files ms h in
    let bounds = read_bounds files h.tokens h.are_tokens in
    record {
      are_few = by (length (source_before false ms [])) (length h.tokens) most_tokens (source_small ms h.tokens h.is_source p bounds.1) bounds.0;
      are_shallow = λ c. source_shallow c ms h.tokens h.is_source p bounds.1;
    }
  where
    by : (a b m : ℕ) → a ≤ b → b ≤ m → a ≤ m
    by a b m h g = omega (arith, h, g)
