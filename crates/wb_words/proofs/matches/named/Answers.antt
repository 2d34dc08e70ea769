use Rattle.std.proofs.Common.{◌∙◌, sym}
use Rattle.clap.specs.Words.{found_of, rows_of}
use Rattle.wb_words.proofs.Readings.{asks_check, asks_emit, asks_nothing, asks_replay, asks_simulate, asks_simulate_both, asks_simulate_rtl}
use Rattle.wb_words.proofs.matches.named.Goals as goal

pub returns-then-eq : goal.returns-then-eq
returns-then-eq c = asks_check c.args.name.now (rows_of (found_of c.args.matches.now)) c.check.result (sym c.eq.ensures ∙ c.if-eq.true) c.check.ensures

pub returns-then-eq-2 : goal.returns-then-eq-2
returns-then-eq-2 c = asks_simulate c.args.name.now (rows_of (found_of c.args.matches.now)) c.simulate.result (sym c.eq.ensures ∙ c.if-eq.false) (sym c.eq-2.ensures ∙ c.if-eq-2.true) c.simulate.ensures

pub returns-then-eq-3 : goal.returns-then-eq-3
returns-then-eq-3 c =
    asks_simulate_rtl c.args.name.now (rows_of (found_of c.args.matches.now)) c.simulate_rtl.result (sym c.eq.ensures ∙ c.if-eq.false) (sym c.eq-2.ensures ∙ c.if-eq-2.false)
    (sym c.eq-3.ensures ∙ c.if-eq-3.true) c.simulate_rtl.ensures

pub returns-then-eq-4 : goal.returns-then-eq-4
returns-then-eq-4 c =
    asks_replay c.args.name.now (rows_of (found_of c.args.matches.now)) c.replay.result (sym c.eq.ensures ∙ c.if-eq.false) (sym c.eq-2.ensures ∙ c.if-eq-2.false)
    (sym c.eq-3.ensures ∙ c.if-eq-3.false) (sym c.eq-4.ensures ∙ c.if-eq-4.true) c.replay.ensures

pub returns-then-eq-5 : goal.returns-then-eq-5
returns-then-eq-5 c =
    asks_simulate_both c.args.name.now (rows_of (found_of c.args.matches.now)) c.simulate_both.result (sym c.eq.ensures ∙ c.if-eq.false) (sym c.eq-2.ensures ∙ c.if-eq-2.false)
    (sym c.eq-3.ensures ∙ c.if-eq-3.false) (sym c.eq-4.ensures ∙ c.if-eq-4.false) (sym c.eq-5.ensures ∙ c.if-eq-5.true) c.simulate_both.ensures

pub returns-then-eq-6 : goal.returns-then-eq-6
returns-then-eq-6 c =
    asks_emit c.args.name.now (rows_of (found_of c.args.matches.now)) c.emit.result (sym c.eq.ensures ∙ c.if-eq.false) (sym c.eq-2.ensures ∙ c.if-eq-2.false)
    (sym c.eq-3.ensures ∙ c.if-eq-3.false) (sym c.eq-4.ensures ∙ c.if-eq-4.false) (sym c.eq-5.ensures ∙ c.if-eq-5.false) (sym c.eq-6.ensures ∙ c.if-eq-6.true) c.emit.ensures

pub returns : goal.returns
returns c =
    asks_nothing c.args.name.now (rows_of (found_of c.args.matches.now)) (sym c.eq.ensures ∙ c.if-eq.false) (sym c.eq-2.ensures ∙ c.if-eq-2.false) (sym c.eq-3.ensures ∙ c.if-eq-3.false)
    (sym c.eq-4.ensures ∙ c.if-eq-4.false) (sym c.eq-5.ensures ∙ c.if-eq-5.false) (sym c.eq-6.ensures ∙ c.if-eq-6.false)
