use Rattle.std.proofs.Common.{map, string_bytes}
use Rattle.wb_top.specs.Showing.{told_of}
use Rattle.wb_top.specs.Words.{command_of}
use Rattle.wb_top.proofs.Headline.{headline_at}
use Rattle.wb_top.proofs.Told.{some_of_all}
use Rattle.wb_top.proofs.top.workbench.Goals as goal

pub returns-in-Ok-clause-headline : goal.returns-in-Ok-clause-headline
returns-in-Ok-clause-headline g c =
    headline_at (g.S.Shelf.holds c.args.shelf.now) (map string_bytes c.args.words.now) c.in-Ok.outcome.status c.written-status.result (told_of c.in-Ok.outcome)
    c.in-Ok.ensures.outcome c.written-status.ensures.status

pub returns-in-Ok-clause-asked : goal.returns-in-Ok-clause-asked
returns-in-Ok-clause-asked g c =
    some_of_all (command_of (map string_bytes c.args.words.now)) (g.S.Shelf.asked c.args.shelf.now) (g.S.Shelf.asked c.outcome.new.shelf) c.in-Ok.ensures.ok_asked
