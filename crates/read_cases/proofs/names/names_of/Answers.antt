use Rattle.std.proofs.Common.{subst}
use Rattle.read_cases.specs.Named.{AreNamesInText, AreNamesInState, AreNamesInInput, AreNamesInCommit, AreNamesInAll, HasAdded}
use Rattle.read_cases.proofs.Naming.{map_named}
use Rattle.read_cases.proofs.names.names_of.Goals as goal

pub returns : goal.returns
returns c =
    let x = c.args.tokens.now in
    map_named x c.new-names.result.items c.add_texts.new.names.items c.add_texts-2.new.names.items c.add_text.new.names.items c.add_states.new.names.items
    c.add_inputs.new.names.items c.add_commits.new.names.items c.new-names.ensures.items
    (subst (λ xs. HasAdded (AreNamesInAll AreNamesInText xs) c.new-names.result.items c.add_texts.new.names.items) c.deref.ensures.value c.in_ok-add_texts.ensures)
    (subst (λ xs. HasAdded (AreNamesInAll AreNamesInText xs) c.add_texts.new.names.items c.add_texts-2.new.names.items) c.deref-2.ensures.value c.in_ok-add_texts-2.ensures)
    c.in_ok-add_text.ensures
    (subst (λ xs. HasAdded (AreNamesInAll AreNamesInState xs) c.add_text.new.names.items c.add_states.new.names.items) c.deref-3.ensures.value c.in_ok-add_states.ensures)
    (subst (λ xs. HasAdded (AreNamesInAll AreNamesInInput xs) c.add_states.new.names.items c.add_inputs.new.names.items) c.deref-4.ensures.value c.in_ok-add_inputs.ensures)
    (subst (λ xs. HasAdded (AreNamesInAll AreNamesInCommit xs) c.add_inputs.new.names.items c.add_commits.new.names.items) c.deref-5.ensures.value c.in_ok-add_commits.ensures)
