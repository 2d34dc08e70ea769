-- The limits within which a printed source is read.
use Rattle.std.specs.Prelude.{◌≡◌, ◌≤◌, Bool, false, [], length}
use Rattle.verilog_text.specs.Text.{most_tokens, is_too_deep}
use Rattle.verilog_trees.specs.Syntax.{Source}
use Rattle.v_print_source.specs.Shown.{printed_modules}

-- Without colons behind the words default the printed tokens are no more than files may have; and with them or without, nowhere are
-- more than 200 constructs open.
pub record ArePrintedWithin (ms : Source) : Type 0 where
  pub are_few : length (printed_modules false ms []) ≤ most_tokens
  pub are_shallow : (c : Bool) → is_too_deep [] (printed_modules c ms []) ≡ false
