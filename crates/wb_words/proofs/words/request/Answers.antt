use Rattle.std.proofs.Common.{map, string_bytes}
use Rattle.clap.specs.Words.{subcommand_rows_of}
use Rattle.wb_words.proofs.Taken.{asked, not_asked, refused_up, refuses}
use Rattle.wb_words.proofs.words.request.Goals as goal

pub returns-in_err-matches : goal.returns-in_err-matches
returns-in_err-matches c =
    let none = refused_up c.from_residual.result c.in_err-matches.field-0.0 _ c.from_residual.ensures.1 (λ is. not_asked (map string_bytes c.args.words.now) (c.in_err-matches.ensures.refused is)) in
    record { request = none; refused = refuses _ c.from_residual.result none }

pub returns : goal.returns
returns c =
    let answer = asked (map string_bytes c.args.words.now) (subcommand_rows_of c.in_ok-matches.matches) c.entered.result c.in_ok-matches.ensures.taken c.in_ok-matches.ensures.found c.entered.ensures in
    record { request = answer; refused = refuses _ c.entered.result answer }
