use Rattle.std.proofs.Common.{◌≡◌, ◌≤◌, List, ℕ, length, map, take, sym, ap, ◌∙◌, subst}
use Rattle.std.specs.List.{list_all}
use Rattle.v_lex.specs.Notes.{shown, is_printable}
use Rattle.v_lex.proofs.Shown.{all_printable, few}
use Rattle.v_lex.proofs.note.Note.new.Goals as goal

pub invariant_of-result : goal.invariant_of-result
invariant_of-result c =
    let is : c.in_ok-text.text.items ≡ map shown (take 80 c.args.text.now) = c.in_ok-text.ensures ∙ ap (map shown) c.first_bytes.ensures in
    record {
      short = subst (λ (bs : List ℕ). length bs ≤ 80) (sym is) (few 80 c.args.text.now);
      printable = ap (list_all is_printable) is ∙ all_printable (take 80 c.args.text.now);
    }
