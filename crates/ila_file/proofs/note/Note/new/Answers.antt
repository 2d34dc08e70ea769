use Rattle.std.proofs.Common.{◌≡◌, ◌<◌, ◌≤◌, List, ℕ, length, map, take, sym, ap, ◌∙◌, subst}
use Rattle.std.specs.List.{list_all}
use Rattle.model_places.specs.Notes.{shown, is_printable, or_quotes, note_of}
use Rattle.ila_file.proofs.Shown.{all_printable, few, some_shown}
use Rattle.ila_file.proofs.note.Note.new.Goals as goal

is_note : (text first quoted shown_text : List ℕ) → quoted ≡ or_quotes text → first ≡ take 80 quoted → shown_text ≡ map shown first → shown_text ≡ note_of text
is_note text first quoted shown_text a b c = c ∙ ap (map shown) (b ∙ ap (take 80) a)

pub invariant_of-result : goal.invariant_of-result
invariant_of-result c =
    let is : c.in_ok-text.text.items ≡ note_of c.args.text.now = is_note _ _ _ _ c.or_quotes.ensures c.first_bytes.ensures c.in_ok-text.ensures in
    record {
      some = subst (λ (bs : List ℕ). 0 < length bs) (sym is) (some_shown c.args.text.now);
      short = subst (λ (bs : List ℕ). length bs ≤ 80) (sym is) (few 80 (or_quotes c.args.text.now));
      printable = ap (list_all is_printable) is ∙ all_printable (take 80 (or_quotes c.args.text.now));
    }

pub returns : goal.returns
returns c = is_note _ _ _ _ c.or_quotes.ensures c.first_bytes.ensures c.in_ok-text.ensures
