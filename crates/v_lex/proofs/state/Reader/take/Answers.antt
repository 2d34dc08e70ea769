use Rattle.std.proofs.Common.{◌-◌, length, Some, None, refl, sym, ap, ◌∙◌, subst}
use Rattle.v_lex.proofs.Placed.{kept, pushed_placed, span_placed, undefined_placed, used_placed}
use Rattle.v_lex.specs.Placed.{IsPieceAt}
use Rattle.v_lex.specs.Reading.{reading_of}
use Rattle.v_lex.specs.View.{piece_of}
use Rattle.v_lex.specs.Sites.{piece_sites}
use Rattle.v_lex.specs.Spots.{moved_on}
use Rattle.v_lex.specs.Sited.{site_of, sites_of, IsSited}
use Rattle.v_lex.proofs.Sited.{kept_piece, pushed_sites, defined_sites, used_sites, use_left}
use Rattle.v_lex.proofs.state.Reader.take.Goals as goal

pub returns-in-Nothing-clause-places : goal.returns-in-Nothing-clause-places
returns-in-Nothing-clause-places c = λ files s at p.
    (p, tt)

pub returns-in_ok-push-in-Token-clause-places : goal.returns-in_ok-push-in-Token-clause-places
returns-in_ok-push-in-Token-clause-places c = λ files s at p.
    let there = subst (λ x. IsPieceAt files x c.args.here c.args.behind) c.in-Token.is at in
    (pushed_placed files c.args.self.now c.push.new.self _ c.in_ok-push-in-Token.ensures.tokens c.push.ensures.macros there p, tt)

pub returns-in-LeftOut-clause-places : goal.returns-in-LeftOut-clause-places
returns-in-LeftOut-clause-places c = λ files s at p.
    (kept files c.args.self.now c.leave_out.new.self c.leave_out.ensures.kept p, tt)

pub returns-in-Misdirected-clause-places : goal.returns-in-Misdirected-clause-places
returns-in-Misdirected-clause-places c = λ files s at p.
    (kept files c.args.self.now c.misdirect.new.self c.misdirect.ensures.kept p, tt)

pub returns-in_ok-define-in-Define-clause-places : goal.returns-in_ok-define-in-Define-clause-places
returns-in_ok-define-in-Define-clause-places c = λ files s at p.
    let there = subst (λ x. IsPieceAt files x c.args.here c.args.behind) c.in-Define.is at in (
      span_placed files c.args.self.now c.define.new.self c.in-Define.name.now c.whole_span.result c.in-Define.text.now c.moved_back-place.result c.args.behind
          c.whole_span.ensures.text c.whole_span.ensures.place s there c.moved_back-place.ensures.file c.moved_back-place.ensures.start c.define.ensures.tokens
          c.in_ok-define-in-Define.ensures.spans p,
      tt,
    )

pub returns-in_ok-define-in-Undefine-clause-places : goal.returns-in_ok-define-in-Undefine-clause-places
returns-in_ok-define-in-Undefine-clause-places c = λ files s at p.
    (undefined_placed files c.args.self.now c.define-in-Undefine.new.self _ c.define-in-Undefine.ensures.tokens c.in_ok-define-in-Undefine.ensures.spans p, tt)

pub returns-in_ok-begin-in-IfDefined-clause-places : goal.returns-in_ok-begin-in-IfDefined-clause-places
returns-in_ok-begin-in-IfDefined-clause-places c = λ files s at p.
    (kept files c.args.self.now c.begin.new.self c.begin.ensures.kept p, tt)

pub returns-in_ok-go_on-in-ElseIf-clause-places : goal.returns-in_ok-go_on-in-ElseIf-clause-places
returns-in_ok-go_on-in-ElseIf-clause-places c = λ files s at p.
    (kept files c.args.self.now c.go_on.new.self c.go_on.ensures.kept p, tt)

pub returns-in_ok-go_on-in-Otherwise-clause-places : goal.returns-in_ok-go_on-in-Otherwise-clause-places
returns-in_ok-go_on-in-Otherwise-clause-places c = λ files s at p.
    (kept files c.args.self.now c.go_on-in-Otherwise.new.self c.go_on-in-Otherwise.ensures.kept p, tt)

pub returns-in-EndIf-clause-places : goal.returns-in-EndIf-clause-places
returns-in-EndIf-clause-places c = λ files s at p.
    (kept files c.args.self.now c.end.new.self c.end.ensures.kept p, tt)

pub returns-in-Use-clause-places : goal.returns-in-Use-clause-places
returns-in-Use-clause-places c = λ files s at p.
    used_placed files c.use_macro.new.self c.use_macro.result _ c.use_macro.ensures.span (p.texts _) (kept files c.args.self.now c.use_macro.new.self c.use_macro.ensures.kept p)

pub returns-in-Nothing-clause-sites : goal.returns-in-Nothing-clause-sites
unfolding piece_sites
returns-in-Nothing-clause-sites c = λ add count h.
    kept_piece add c.args.piece _ (site_of c.args.here) count (reading_of c.args.self.now) c.args.self.now c.args.self.now c.in-Nothing.is refl (refl, refl)

pub returns-in_ok-push-in-Token-clause-sites : goal.returns-in_ok-push-in-Token-clause-sites
unfolding piece_sites
returns-in_ok-push-in-Token-clause-sites c = λ add count h.
    let is = subst (λ x. IsSited x c.args.here c.args.behind count) c.in-Token.is h in
    ap (λ x. piece_sites add (piece_of x) (site_of c.args.here) count (reading_of c.args.self.now) (sites_of c.args.self.now)) c.in-Token.is
    ∙ pushed_sites c.args.self.now c.push.new.self _ (site_of c.args.here) count c.in_ok-push-in-Token.ensures.tokens c.push.ensures.macros
    (λ i. record { site = site_of c.args.here; count = is i })

pub returns-in-LeftOut-clause-sites : goal.returns-in-LeftOut-clause-sites
unfolding piece_sites
returns-in-LeftOut-clause-sites c = λ add count h.
    kept_piece add c.args.piece _ (site_of c.args.here) count (reading_of c.args.self.now) c.args.self.now c.leave_out.new.self c.in-LeftOut.is refl c.leave_out.ensures.kept

pub returns-in-Misdirected-clause-sites : goal.returns-in-Misdirected-clause-sites
unfolding piece_sites
returns-in-Misdirected-clause-sites c = λ add count h.
    kept_piece add c.args.piece _ (site_of c.args.here) count (reading_of c.args.self.now) c.args.self.now c.misdirect.new.self c.in-Misdirected.is refl c.misdirect.ensures.kept

pub returns-in_ok-define-in-Define-clause-sites : goal.returns-in_ok-define-in-Define-clause-sites
unfolding piece_sites
returns-in_ok-define-in-Define-clause-sites c = λ add count h.
    let is = subst (λ x. IsSited x c.args.here c.args.behind count) c.in-Define.is h in
    let file = is.0 ∙ sym c.moved_back-place.ensures.file ∙ sym (ap (λ x. x.file) c.whole_span.ensures.place) in
    let start = is.1 ∙ sym c.moved_back-place.ensures.start ∙ sym (ap (λ x. x.start) c.whole_span.ensures.place) in
    ap (λ x. piece_sites add (piece_of x) (site_of c.args.here) count (reading_of c.args.self.now) (sites_of c.args.self.now)) c.in-Define.is
    ∙ defined_sites c.args.self.now c.define.new.self c.in-Define.name.now (Some c.whole_span.result) (Some (moved_on (count - length c.in-Define.text.now) (site_of c.args.here)))
    c.define.ensures.tokens c.in_ok-define-in-Define.ensures.spans (λ i. Some (record { file = file i; start = start i }))

pub returns-in_ok-define-in-Undefine-clause-sites : goal.returns-in_ok-define-in-Undefine-clause-sites
unfolding piece_sites
returns-in_ok-define-in-Undefine-clause-sites c = λ add count h.
    ap (λ x. piece_sites add (piece_of x) (site_of c.args.here) count (reading_of c.args.self.now) (sites_of c.args.self.now)) c.in-Undefine.is
    ∙ defined_sites c.args.self.now c.define-in-Undefine.new.self c.in-Undefine.name.now None None c.define-in-Undefine.ensures.tokens c.in_ok-define-in-Undefine.ensures.spans refl

pub returns-in_ok-begin-in-IfDefined-clause-sites : goal.returns-in_ok-begin-in-IfDefined-clause-sites
unfolding piece_sites
returns-in_ok-begin-in-IfDefined-clause-sites c = λ add count h.
    kept_piece add c.args.piece _ (site_of c.args.here) count (reading_of c.args.self.now) c.args.self.now c.begin.new.self c.in-IfDefined.is refl c.begin.ensures.kept

pub returns-in_ok-go_on-in-ElseIf-clause-sites : goal.returns-in_ok-go_on-in-ElseIf-clause-sites
unfolding piece_sites
returns-in_ok-go_on-in-ElseIf-clause-sites c = λ add count h.
    kept_piece add c.args.piece _ (site_of c.args.here) count (reading_of c.args.self.now) c.args.self.now c.go_on.new.self c.in-ElseIf.is refl c.go_on.ensures.kept

pub returns-in_ok-go_on-in-Otherwise-clause-sites : goal.returns-in_ok-go_on-in-Otherwise-clause-sites
unfolding piece_sites
returns-in_ok-go_on-in-Otherwise-clause-sites c = λ add count h.
    kept_piece add c.args.piece _ (site_of c.args.here) count (reading_of c.args.self.now) c.args.self.now c.go_on-in-Otherwise.new.self c.in-Otherwise.is refl c.go_on-in-Otherwise.ensures.kept

pub returns-in-EndIf-clause-sites : goal.returns-in-EndIf-clause-sites
unfolding piece_sites
returns-in-EndIf-clause-sites c = λ add count h.
    kept_piece add c.args.piece _ (site_of c.args.here) count (reading_of c.args.self.now) c.args.self.now c.end.new.self c.in-EndIf.is refl c.end.ensures.kept

pub returns-in-Use-clause-sites : goal.returns-in-Use-clause-sites
unfolding piece_sites
returns-in-Use-clause-sites c = λ add count h.
    use_left add c.args.self.now c.use_macro.new.self c.args.piece _ (site_of c.args.here) count c.use_macro.result c.in-Use.is
    (used_sites add c.args.self.now c.use_macro.new.self c.in-Use.name.now c.use_macro.result c.use_macro.ensures.span c.use_macro.ensures.kept c.use_macro.ensures.taken)
