use Rattle.std.proofs.Common.{◌≡◌, ◌∙◌, ◌+◌, ap, length, arith}
use Rattle.ila_model.specs.Scope.{tops, name_scopes}
use Rattle.ila_model.proofs.Declarations.{declared}
use Rattle.ila_model.proofs.Names.{are_name_scopes}
use Rattle.ila_model.proofs.scopes.scopes_of.Goals as goal

pub overflow_add-tops : goal.overflow_add-tops
overflow_add-tops c =
    let d = declared c.args.parts.now c.requires.declared in
    let within = d.within in
    omega arith

pub term_scopes-requires : goal.term_scopes-requires
term_scopes-requires c =
    let p = c.args.parts.now in
    let n : c.len.result ≡ length p.initial_values.items = omega (arith, c.len.ensures) in
    let e = c.deref-2.ensures.value ∙ c.in_ok-names.ensures
    ∙ ap (name_scopes (c.len.result + p.inputs)) c.deref.ensures.value
    ∙ ap (λ k. name_scopes (k + p.inputs) p.children.items) n in
    record { names = are_name_scopes p c.deref-2.result.now c.requires.distinct (declared p c.requires.declared).placed e }

pub returns : goal.returns
returns c =
    let p = c.args.parts.now in
    let n : c.len.result ≡ length p.initial_values.items = omega (arith, c.len.ensures) in
    let e = c.in_ok-names.ensures
    ∙ ap (name_scopes (c.len.result + p.inputs)) c.deref.ensures.value
    ∙ ap (λ k. name_scopes (k + p.inputs) p.children.items) n in
    record {
      names = are_name_scopes p c.in_ok-names.names.items c.requires.distinct (declared p c.requires.declared).placed e;
      terms = c.in_ok-terms.ensures;
    }
