use Rattle.std.specs.String.{string_bytes}
use Rattle.v_syntax.specs.Source.{source_of}
use Rattle.v_print_source.proofs.Ended.{few_bytes, short_reads, long_reads, read_printable, read_within}
use Rattle.v_print_source.proofs.print.print.Goals as goal

pub returns-then-few-clause-printed : goal.returns-then-few-clause-printed
returns-then-few-clause-printed c = short_reads (source_of c.args.tree.now) (string_bytes c.in_ok-text.text) c.in_ok-text.ensures (few_bytes (string_bytes c.in_ok-text.text) c.as_str.result.now c.is_short-few.result c.as_str.ensures.value c.is_short-few.ensures c.if-few.true)

pub returns-then-few-clause-read : goal.returns-then-few-clause-read
returns-then-few-clause-read c = λ files h. short_reads (source_of c.args.tree.now) (string_bytes c.in_ok-text.text) c.in_ok-text.ensures (few_bytes (string_bytes c.in_ok-text.text) c.as_str.result.now c.is_short-few.result c.as_str.ensures.value c.is_short-few.ensures c.if-few.true) (read_printable files (source_of c.args.tree.now) h) (read_within files (source_of c.args.tree.now) h)

pub returns-clause-printed : goal.returns-clause-printed
returns-clause-printed c = long_reads (source_of c.args.tree.now) (string_bytes c.in_ok-shorter.shorter) c.in_ok-shorter.ensures

pub returns-clause-read : goal.returns-clause-read
returns-clause-read c = λ files h. long_reads (source_of c.args.tree.now) (string_bytes c.in_ok-shorter.shorter) c.in_ok-shorter.ensures (read_printable files (source_of c.args.tree.now) h) (read_within files (source_of c.args.tree.now) h)
