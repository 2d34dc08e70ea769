use Rattle.std.proofs.Common.{◌≡◌, ◌++◌, List, ℕ, ◌∙◌, ap, subst}
use Rattle.std.specs.Prelude.{OnOk}
use Rattle.term_evaluation.specs.Slots.{IsShownAs}
use Rattle.ila_sim.specs.Texts.{number_text, set_words_text}
use Rattle.ila_sim.proofs.Told.{truth_told, number_told, words_told}
use Rattle.ila_sim.proofs.text.append_value.Goals as goal

pub returns-in-Truth : goal.returns-in-Truth
returns-in-Truth c = λ v h.
    let n = c.args.name.now in
    let e = ap (number_text n) c.bit.ensures ∙ truth_told n v c.in-Truth.truth (subst (IsShownAs v) c.in-Truth.is h) in
    subst (λ (t : List ℕ). OnOk c.append_number.result (c.append_number.new.out.items ≡ c.args.out.now.items ++ t)) e c.append_number.ensures

pub returns-in-Number : goal.returns-in-Number
returns-in-Number c = λ v h.
    let e = number_told c.args.name.now v c.in-Number.number (subst (IsShownAs v) c.in-Number.is h) in
    subst (λ (t : List ℕ). OnOk c.append_number-in-Number.result (c.append_number-in-Number.new.out.items ≡ c.args.out.now.items ++ t)) e c.append_number-in-Number.ensures

pub returns-in-Words : goal.returns-in-Words
returns-in-Words c = λ v h.
    let n = c.args.name.now in
    let e = ap (set_words_text n) c.deref.ensures.value ∙ words_told n v c.in-Words.words (subst (IsShownAs v) c.in-Words.is h) in
    subst (λ (t : List ℕ). OnOk c.append_words.result (c.append_words.new.out.items ≡ c.args.out.now.items ++ t)) e c.append_words.ensures
