use Rattle.std.proofs.Common.{◌∙◌, sym, ap, subst}
use Rattle.watched_runs.specs.Watched.{IsWatchedLine}
use Rattle.ila_model.specs.Model.{model_of}
use Rattle.run_watch.specs.declared.answers.Watched.{Watched}
use Rattle.run_watch.specs.View.{watched_of}
use Rattle.run_watch.specs.Texts.{line_of}
use Rattle.run_watch.proofs.Telling.{line_told}
use Rattle.run_watch.proofs.text.watched_text.Goals as goal

pub returns-in_ok-line-in-Agrees-clause-text : goal.returns-in_ok-line-in-Agrees-clause-text
returns-in_ok-line-in-Agrees-clause-text c =
    c.in_ok-line-in-Agrees.ensures ∙ ap (λ (w : Watched). line_of (model_of c.args.model.now) (watched_of w)) (sym c.in-Agrees.is)

pub returns-in_ok-line-in-Agrees-clause-line : goal.returns-in_ok-line-in-Agrees-clause-line
returns-in_ok-line-in-Agrees-clause-line c s run cycles is_model x =
    let m = model_of c.args.model.now in
    let w = watched_of c.args.watched.now in
    let told = c.in_ok-line-in-Agrees.ensures ∙ ap (λ (y : Watched). line_of m (watched_of y)) (sym c.in-Agrees.is) in
    subst (IsWatchedLine s w) (sym told) (line_told m s run cycles w is_model x)

pub returns-in_ok-line-in-Outside-clause-text : goal.returns-in_ok-line-in-Outside-clause-text
returns-in_ok-line-in-Outside-clause-text c =
    c.in_ok-line-in-Outside.ensures ∙ ap (λ (w : Watched). line_of (model_of c.args.model.now) (watched_of w)) (sym c.in-Outside.is)

pub returns-in_ok-line-in-Outside-clause-line : goal.returns-in_ok-line-in-Outside-clause-line
returns-in_ok-line-in-Outside-clause-line c s run cycles is_model x =
    let m = model_of c.args.model.now in
    let w = watched_of c.args.watched.now in
    let told = c.in_ok-line-in-Outside.ensures ∙ ap (λ (y : Watched). line_of m (watched_of y)) (sym c.in-Outside.is) in
    subst (IsWatchedLine s w) (sym told) (line_told m s run cycles w is_model x)

pub returns-in_ok-line-in-Disagrees-clause-text : goal.returns-in_ok-line-in-Disagrees-clause-text
returns-in_ok-line-in-Disagrees-clause-text c =
    c.in_ok-line-in-Disagrees.ensures ∙ ap (λ (w : Watched). line_of (model_of c.args.model.now) (watched_of w)) (sym c.in-Disagrees.is)

pub returns-in_ok-line-in-Disagrees-clause-line : goal.returns-in_ok-line-in-Disagrees-clause-line
returns-in_ok-line-in-Disagrees-clause-line c s run cycles is_model x =
    let m = model_of c.args.model.now in
    let w = watched_of c.args.watched.now in
    let told = c.in_ok-line-in-Disagrees.ensures ∙ ap (λ (y : Watched). line_of m (watched_of y)) (sym c.in-Disagrees.is) in
    subst (IsWatchedLine s w) (sym told) (line_told m s run cycles w is_model x)
