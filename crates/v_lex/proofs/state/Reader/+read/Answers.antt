use Rattle.std.proofs.Common.{ℕ, ◌-◌, length, Some, Ok, arith, sym, ap, ◌∙◌, subst}
use Rattle.std.specs.Prelude.{option_map, ⊤, IfSome}
use Rattle.std.proofs.lemmas.Result.{err_from_is_err_and}
use Rattle.v_lex.specs.Walk.{Reading, Outcome, macro_read}
use Rattle.v_lex.specs.Reading.{reading_of, IsOutcome, span_front}
use Rattle.v_lex.specs.View.{piece_of}
use Rattle.v_lex.specs.Sites.{piece_sites, sites_from, macro_sites}
use Rattle.v_lex.specs.Sited.{site_of, sites_of, LeavesSites}
use Rattle.v_lex.proofs.Sited.{sites_turn, sites_end, one_level_sites, no_level_sites, kept_sites, if_ok_on}
use Rattle.v_lex.specs.Placed.{IsTakenAt, IsFrontPart}
use Rattle.v_lex.proofs.Turns.{read_on, read_over, read_shorter, nothing_left, one_level, no_level, bad_front, bad_piece}
use Rattle.v_lex.proofs.Placed.{kept, site_behind, sited, next_piece, unless}
use Rattle.v_lex.proofs.state.Reader.+read.Goals as goal

pub read_macro-returns-then-levels-eq0-clause-outcome : goal.read_macro-returns-then-levels-eq0-clause-outcome
read_macro-returns-then-levels-eq0-clause-outcome t c =
    ap (λ (k : ℕ). macro_read k c.args.text.text.now (reading_of c.args.self.now)) c.if-levels-eq0.true
    ∙ no_level _ _ ∙ ap (λ (r : Reading). Ok r) (sym c.pass_levels.ensures.reading)

pub read_macro-returns-clause-outcome : goal.read_macro-returns-clause-outcome
read_macro-returns-clause-outcome t c =
    subst (λ (o : Outcome). IsOutcome c.read_text.result (reading_of c.read_text.new.self) o)
    (sym (one_level c.args.levels c.args.text.text.now (reading_of c.args.self.now) (omega (arith, c.if-levels-eq0.false)))) c.read_text.ensures.outcome

pub read_text-returns-in_err-piece-clause-outcome : goal.read_text-returns-in_err-piece-clause-outcome
read_text-returns-in_err-piece-clause-outcome t c =
    let p = err_from_is_err_and c.from_residual.result c.from_residual.ensures.1 in
    rw (p.1, p.2) (bad_front ⊤ c.in_err-piece.field-0.0 _ (reading_of c.loop-piece.self) c.args.is_macro (macro_read c.args.levels) c.loop-piece.rest.text.now _ c.in_err-piece.ensures.front c.loop-piece.invariant.0)

pub read_text-returns-in_default-clause-outcome : goal.read_text-returns-in_default-clause-outcome
read_text-returns-in_default-clause-outcome t c =
    c.loop-piece.invariant.0
    ∙ read_over c.args.is_macro (macro_read c.args.levels) c.loop-piece.rest.text.now (reading_of c.loop-piece.self)
    (c.in_ok-piece.ensures.front ∙ ap (λ x. Some (option_map span_front x)) c.in_default.is)

pub read_text-returns-in_err-taken-clause-outcome : goal.read_text-returns-in_err-taken-clause-outcome
read_text-returns-in_err-taken-clause-outcome t c =
    let p = err_from_is_err_and c.from_residual-in_err-taken.result c.from_residual-in_err-taken.ensures.1 in
    rw (p.1, p.2) (bad_piece ⊤ ⊤ c.in_err-taken.field-0.0 _ _ (reading_of c.loop-piece.self) c.args.is_macro (macro_read c.args.levels) c.loop-piece.rest.text.now _ _ _
    (c.in_ok-piece.ensures.front ∙ ap (λ x. Some (option_map span_front x)) c.in-Some.is) c.in_err-taken.ensures.outcome c.loop-piece.invariant.0)

pub read_macro-returns-then-levels-eq0-clause-places : goal.read_macro-returns-then-levels-eq0-clause-places
read_macro-returns-then-levels-eq0-clause-places t c = λ files s m p. kept files c.args.self.now c.pass_levels.new.self c.pass_levels.ensures.kept p

pub read_macro-returns-clause-places : goal.read_macro-returns-clause-places
read_macro-returns-clause-places t c = λ files s m p. c.read_text.ensures.places files s m p

pub read_text-returns-in_err-piece-clause-places : goal.read_text-returns-in_err-piece-clause-places
read_text-returns-in_err-piece-clause-places t c =
    let p = err_from_is_err_and c.from_residual.result c.from_residual.ensures.1 in
    λ files s i q. unless _ _ _ p.1

pub read_text-returns-in_err-taken-clause-places : goal.read_text-returns-in_err-taken-clause-places
read_text-returns-in_err-taken-clause-places t c =
    let p = err_from_is_err_and c.from_residual-in_err-taken.result c.from_residual-in_err-taken.ensures.1 in
    λ files s i q. unless _ _ _ p.1

pub read_text-returns-in_default-clause-places : goal.read_text-returns-in_default-clause-places
read_text-returns-in_default-clause-places t c = λ files s i q. (c.loop-piece.invariant.2 files s i q).1

pub read_text-loop-piece-preserved : goal.read_text-loop-piece-preserved
read_text-loop-piece-preserved t c =
    let front = c.in_ok-piece.ensures.front ∙ ap (λ x. Some (option_map span_front x)) c.in-Some.is in
    let part : IsFrontPart c.loop-piece.rest c.in-Some.piece c.in-Some.behind =
    subst (λ o. IfSome o (λ f. IsFrontPart c.loop-piece.rest f.0 f.1)) c.in-Some.is c.in_ok-piece.ensures.part in
    let shorter = read_shorter c.args.is_macro c.loop-piece.rest.text.now c.in-Some.behind.text.now _ (reading_of c.loop-piece.self) front in (
      c.loop-piece.invariant.0
          ∙ read_on c.args.is_macro (macro_read c.args.levels) c.loop-piece.rest.text.now c.in-Some.behind.text.now _ (reading_of c.loop-piece.self) (reading_of c.taken.new.self)
          front c.in_ok-taken.ensures.outcome,
      omega (arith, shorter, c.loop-piece.invariant.1),
      λ files s i q.
          let so_far = c.loop-piece.invariant.2 files s i q in
          let next = next_piece c.args.is_macro files c.in-Some.piece c.loop-piece.rest c.in-Some.behind (reading_of c.loop-piece.self) s so_far.0 front part in (
            next.1,
            c.in_ok-taken.ensures.places files s next.0 so_far.1,
            so_far.2
                ∙ sites_turn c.args.is_macro (macro_read c.args.levels) (macro_sites c.args.levels) c.loop-piece.rest.text.now c.in-Some.behind.text.now (piece_of c.in-Some.piece)
                (reading_of c.loop-piece.self) (reading_of c.taken.new.self) (site_of c.loop-piece.rest.place) (sites_of c.loop-piece.self) front c.in_ok-taken.ensures.outcome
                ∙ (λ i.
                sites_from c.args.is_macro (macro_read c.args.levels) (macro_sites c.args.levels) 0 (site_behind files c.in-Some.piece c.loop-piece.rest c.in-Some.behind s so_far.0 part i)
                c.in-Some.behind.text.now (reading_of c.taken.new.self)
                (c.in_ok-taken.ensures.sites files (length c.loop-piece.rest.text.now - length c.in-Some.behind.text.now) s next.0 so_far.1
                (sited c.args.is_macro files c.in-Some.piece c.loop-piece.rest c.in-Some.behind (reading_of c.loop-piece.self) s so_far.0 front part) i)),
          ),
    )

pub read_macro-returns-then-levels-eq0-clause-sites : goal.read_macro-returns-then-levels-eq0-clause-sites
read_macro-returns-then-levels-eq0-clause-sites t c = λ files s m p.
    ap (λ (k : ℕ). macro_sites k (site_of c.args.text.place) c.args.text.text.now (reading_of c.args.self.now) (sites_of c.args.self.now)) c.if-levels-eq0.true
    ∙ no_level_sites _ _ _ _ ∙ kept_sites c.args.self.now c.pass_levels.new.self c.pass_levels.ensures.kept

pub read_macro-returns-clause-sites : goal.read_macro-returns-clause-sites
read_macro-returns-clause-sites t c = λ files s m p.
    if_ok_on c.read_text.result _ _ _
    (one_level_sites c.args.levels (site_of c.args.text.place) c.args.text.text.now (reading_of c.args.self.now) (sites_of c.args.self.now) (omega (arith, c.if-levels-eq0.false)))
    (c.read_text.ensures.sites files s m p)

pub read_text-returns-in_err-piece-clause-sites : goal.read_text-returns-in_err-piece-clause-sites
read_text-returns-in_err-piece-clause-sites t c =
    let p = err_from_is_err_and c.from_residual.result c.from_residual.ensures.1 in
    λ files s i q. unless _ _ _ p.1

pub read_text-returns-in_err-taken-clause-sites : goal.read_text-returns-in_err-taken-clause-sites
read_text-returns-in_err-taken-clause-sites t c =
    let p = err_from_is_err_and c.from_residual-in_err-taken.result c.from_residual-in_err-taken.ensures.1 in
    λ files s i q. unless _ _ _ p.1

pub read_text-returns-in_default-clause-sites : goal.read_text-returns-in_default-clause-sites
read_text-returns-in_default-clause-sites t c = λ files s i q.
    let none = nothing_left c.args.is_macro c.loop-piece.rest.text.now (reading_of c.loop-piece.self)
    (c.in_ok-piece.ensures.front ∙ ap (λ x. Some (option_map span_front x)) c.in_default.is) in
    (c.loop-piece.invariant.2 files s i q).2
    ∙ sites_end c.args.is_macro (macro_read c.args.levels) (macro_sites c.args.levels) c.loop-piece.rest.text.now (reading_of c.loop-piece.self) (site_of c.loop-piece.rest.place) (sites_of c.loop-piece.self) none

pub taken-returns-in-Some-clause-sites : goal.taken-returns-in-Some-clause-sites
taken-returns-in-Some-clause-sites t c = λ files count s i p h.
    let at = subst (λ o. IsTakenAt (Ok o) files c.take.new.self) c.in-Some.is (c.in_ok-text.ensures.places files s i p) in
    let left = subst (λ o. LeavesSites (macro_sites c.args.levels) (Ok o) c.take.new.self
    (piece_sites (macro_sites c.args.levels) (piece_of c.args.piece) (site_of c.args.here) count (reading_of c.args.self.now) (sites_of c.args.self.now)))
    c.in-Some.is (c.in_ok-text.ensures.sites (macro_sites c.args.levels) count h) in
    if_ok_on c.read_macro.result _ _ _ left (c.read_macro.ensures.sites files s at.1 at.0)
