use Rattle.std.proofs.Common.{◌∙◌, ◌||◌, sym, ap, Bool}
use Rattle.std.specs.Str.{bytes_eq}
use Rattle.std.specs.List.{list_any}
use Rattle.wb_values.specs.ReservedWords.{is_reserved, other_words}
use Rattle.wb_names.proofs.Fronts.{unreserved}
use Rattle.wb_names.proofs.words.is_reserved_word.Goals as goal

pub returns-then-is_among : goal.returns-then-is_among
unfolding is_reserved
returns-then-is_among c =
    c.if-is_among.true ∙ sym (ap (λ (b : Bool). b || list_any (bytes_eq c.args.word.now) other_words) (sym c.is_among.ensures ∙ c.if-is_among.true))

pub returns-else-is_among : goal.returns-else-is_among
unfolding is_reserved
returns-else-is_among c =
    c.is_among-else-is_among.ensures
    ∙ sym (ap (λ (b : Bool). b || list_any (bytes_eq c.args.word.now) other_words) (sym c.is_among.ensures ∙ c.if-is_among.false))

pub returns-else-begins_as_reserved : goal.returns-else-begins_as_reserved
returns-else-begins_as_reserved c =
    c.if-begins_as_reserved.false ∙ sym (unreserved c.args.word.now (sym c.begins_as_reserved.ensures ∙ c.if-begins_as_reserved.false))
