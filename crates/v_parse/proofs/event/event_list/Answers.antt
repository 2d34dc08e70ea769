use Rattle.std.proofs.Common.{map}
use Rattle.std.proofs.lemmas.Result.{err_from_is_err_and}
use Rattle.v_token.specs.View.{tokens_of}
use Rattle.v_parse.specs.Reading.{next_event, event_at, event_list_at}
use Rattle.v_parse.specs.View.{event_of}
use Rattle.v_parse.proofs.Lists.{keeps, list_begins, list_is_none, list_goes_on, list_shrinks, list_ends, list_fails}
use Rattle.verilog_text.specs.Grammar.{IsEvent}
use Rattle.v_parse.proofs.Spelled.{next_event_advances, event_read}
use Rattle.v_parse.proofs.event.event_list.Goals as goal

pub returns-in_err-first : goal.returns-in_err-first
unfolding event_list_at
returns-in_err-first c =
    let p = err_from_is_err_and c.from_residual.result c.from_residual.ensures.1 in
    rw (p.1, p.2) (list_is_none next_event event_at c.in_err-first.field-0.0 (tokens_of c.args.tokens.now) c.in_err-first.ensures)

pub loop-events-init : goal.loop-events-init
unfolding event_list_at
loop-events-init c =
    list_begins event_of next_event event_at (tokens_of c.args.tokens.now) c.in_ok-first.first (tokens_of c.in_ok-first.rest.now) c.in_ok-events.events.items c.in_ok-events.ensures c.in_ok-first.ensures

pub returns-in-None : goal.returns-in-None
returns-in-None c = list_ends next_event event_at (map event_of c.loop-events.events.items) (tokens_of c.loop-events.rest.now) (event_list_at (tokens_of c.args.tokens.now)) c.in-None.ensures c.loop-events.invariant

pub returns-in_err-next-in-Some : goal.returns-in_err-next-in-Some
returns-in_err-next-in-Some c =
    let p = err_from_is_err_and c.from_residual-in_err-next-in-Some.result c.from_residual-in_err-next-in-Some.ensures.1 in
    rw (p.1, p.2) (list_fails next_event event_at c.in_err-next-in-Some.field-0.0 (map event_of c.loop-events.events.items) (tokens_of c.loop-events.rest.now) (tokens_of c.in-Some.more.now) (event_list_at (tokens_of c.args.tokens.now)) c.in-Some.ensures c.in_err-next-in-Some.ensures c.loop-events.invariant)

pub loop-events-smaller : goal.loop-events-smaller
loop-events-smaller c =
    list_shrinks next_event event_at next_event_advances (keeps IsEvent event_read) (tokens_of c.loop-events.rest.now) (tokens_of c.in-Some.more.now) _ (tokens_of c.in_ok-next-in-Some.after.now) c.in-Some.ensures c.in_ok-next-in-Some.ensures

pub loop-events-preserved : goal.loop-events-preserved
loop-events-preserved c =
    list_goes_on event_of next_event event_at next_event_advances (keeps IsEvent event_read) c.loop-events.events.items c.push.new.self.items (tokens_of c.loop-events.rest.now) (tokens_of c.in-Some.more.now) c.in_ok-next-in-Some.next (tokens_of c.in_ok-next-in-Some.after.now)
    (event_list_at (tokens_of c.args.tokens.now)) c.in_ok-push-in-Some.ensures.items c.in-Some.ensures c.in_ok-next-in-Some.ensures c.loop-events.invariant
