use Rattle.std.proofs.Common.{◌≡◌, map, drop}
use Rattle.std.specs.List.{list_all}
use Rattle.std.specs.Str.{is_utf8}
use Rattle.v_lex.proofs.answer.broken_text.Given as goal

abbrev pub invariant-loop-number : goal.invariant-loop-number
invariant-loop-number l = list_all is_utf8 (map (λ f. f.items) l.files) ≡ list_all is_utf8 (map (λ f. f.items) (drop l.number l.files))
