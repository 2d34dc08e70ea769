use Rattle.std.proofs.Common.{◌∙◌, sym, ap, map, string_bytes}
use Rattle.clap.specs.Simple.{is_simple, subcommand_of}
use Rattle.clap.specs.Takes.{takes}
use Rattle.clap.specs.Words.{kind_of}
use Rattle.clap.specs.Faults.{fault_of, is_simple_and_free}
use Rattle.wb_words.specs.Application.{workbench_app}
use Rattle.wb_words.proofs.Taken.{is_free, is_simple_too, no_fault, refused_by}
use Rattle.wb_words.proofs.words.taken.Goals as goal

pub returns-in-Ok-clause-taken : goal.returns-in-Ok-clause-taken
returns-in-Ok-clause-taken c =
    let is = c.in_ok-command.ensures in
    let none = c.in-Ok.ensures.kinds (ap is_simple_and_free is ∙ is_free) in
    no_fault (map string_bytes c.args.words.now) (ap (λ a. fault_of a (map string_bytes c.args.words.now)) (sym is) ∙ none)

pub returns-in-Ok-clause-found : goal.returns-in-Ok-clause-found
returns-in-Ok-clause-found c =
    let is = c.in_ok-command.ensures in
    (c.in-Ok.ensures.matches (ap is_simple is ∙ is_simple_too)).1 ∙ ap (λ a. subcommand_of a (map string_bytes c.args.words.now)) is

pub returns-in-Err-clause-refused : goal.returns-in-Err-clause-refused
returns-in-Err-clause-refused c usage =
    let is = c.in_ok-command.ensures in
    refused_by (takes workbench_app (map string_bytes c.args.words.now)) (kind_of c.in-Err.error)
    (λ taken. c.in-Err.ensures.passes (ap (λ a. takes a (map string_bytes c.args.words.now)) is ∙ taken)) (sym c.stop_for.ensures ∙ usage)
