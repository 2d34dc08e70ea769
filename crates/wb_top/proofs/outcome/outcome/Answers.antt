use Rattle.std.proofs.Common.{◌≡◌, ◌∙◌, ap, map, length, string_bytes, Ok, Err, OnErr}
use Rattle.wb_top.specs.Words.{command_of, is_command}
use Rattle.wb_top.specs.Showing.{told_of}
use Rattle.wb_top.specs.Verbs.{verb_view}
use Rattle.wb_top.specs.Wanted.{command_view}
use Rattle.wb_top.specs.Asked.{AskedSome}
use Rattle.wb_top.proofs.Told.{AsksFor, asks_for, asked_all, asked_some, asked_prefix, outcome_of_answer}
use Rattle.wb_top.proofs.outcome.outcome.Goals as goal

pub answer-requires : goal.answer-requires
answer-requires g c =
    let count : length c.deref-in-Some-2.result.now ≡ length c.in-Some.wanted.files.items =
    ap length c.deref-in-Some-2.ensures.value ∙ c.in_ok-contents-in-Some.ensures.count ∙ ap length c.deref.ensures.value in
    ap (is_command (verb_view c.in-Some.wanted.verb)) count ∙ c.in-Some.wanted.counted

pub returns-in_err-outcome-in-Some-clause-err_asked : goal.returns-in_err-outcome-in-Some-clause-err_asked
returns-in_err-outcome-in-Some-clause-err_asked g c =
    let found = rw c.in-Some.is at c.in_ok-wanted.ensures.wanted in
    let asks : AsksFor (map string_bytes c.args.words.now) (verb_view c.in-Some.wanted.verb) (map string_bytes c.in-Some.wanted.files.items) = asks_for _ (command_view c.in-Some.wanted) found in
    let asked = rw c.deref.ensures.value at c.in_ok-contents-in-Some.ensures.ok_asked in
    elim c.from_residual-in_err-outcome-in-Some.result as (λ r. OnErr r (AskedSome (command_of (map string_bytes c.args.words.now))
    (g.S.Shelf.asked c.args.shelf.now) (g.S.Shelf.asked c.read_all.new.shelf)))
    [ Ok _ ↦ tt | Err _ ↦ asked_prefix _ _ _ _ _ asks asked ]

pub returns-in_ok-outcome-in-Some-clause-outcome : goal.returns-in_ok-outcome-in-Some-clause-outcome
returns-in_ok-outcome-in-Some-clause-outcome g c =
    let found = rw c.in-Some.is at c.in_ok-wanted.ensures.wanted in
    let asks : AsksFor (map string_bytes c.args.words.now) (verb_view c.in-Some.wanted.verb) (map string_bytes c.in-Some.wanted.files.items) = asks_for _ (command_view c.in-Some.wanted) found in
    let read = rw c.deref.ensures.value at c.in_ok-contents-in-Some.ensures.first_bytes in
    let answer = rw c.deref-in-Some-2.ensures.value at c.in_ok-outcome-in-Some.ensures in
    outcome_of_answer (g.S.Shelf.holds c.args.shelf.now) (map string_bytes c.args.words.now) (verb_view c.in-Some.wanted.verb) (map string_bytes c.in-Some.wanted.files.items) _ c.in_ok-outcome-in-Some.outcome.status (told_of c.in_ok-outcome-in-Some.outcome) asks read answer

pub returns-in_ok-outcome-in-Some-clause-ok_asked : goal.returns-in_ok-outcome-in-Some-clause-ok_asked
returns-in_ok-outcome-in-Some-clause-ok_asked g c =
    let found = rw c.in-Some.is at c.in_ok-wanted.ensures.wanted in
    let asks : AsksFor (map string_bytes c.args.words.now) (verb_view c.in-Some.wanted.verb) (map string_bytes c.in-Some.wanted.files.items) = asks_for _ (command_view c.in-Some.wanted) found in
    let asked = rw c.deref.ensures.value at c.in_ok-contents-in-Some.ensures.ok_asked in
    asked_all _ _ _ _ _ asks asked

pub returns-in_err-contents-in-Some-clause-err_asked : goal.returns-in_err-contents-in-Some-clause-err_asked
returns-in_err-contents-in-Some-clause-err_asked g c =
    let found = rw c.in-Some.is at c.in_ok-wanted.ensures.wanted in
    let asks : AsksFor (map string_bytes c.args.words.now) (verb_view c.in-Some.wanted.verb) (map string_bytes c.in-Some.wanted.files.items) = asks_for _ (command_view c.in-Some.wanted) found in
    let asked = rw c.deref.ensures.value at c.in_err-contents-in-Some.ensures.err_asked in
    elim c.from_residual-in_err-contents-in-Some.result as (λ r. OnErr r (AskedSome (command_of (map string_bytes c.args.words.now))
    (g.S.Shelf.asked c.args.shelf.now) (g.S.Shelf.asked c.read_all.new.shelf)))
    [ Ok _ ↦ tt | Err _ ↦ asked_some _ _ _ _ _ asks asked ]
