use Rattle.std.proofs.Common.{◌∙◌, ◌-◌, List, length, take, sym, subst, arith}
use Rattle.wb_terms.specs.declared.nodes.TermId.{TermId}
use Rattle.wb_terms.specs.Graph.{operands_of}
use Rattle.term_evaluation.specs.Pending.{AreNotAfter, ArePending}
use Rattle.term_evaluation.proofs.PendingLemmas.{first_open, none_open, below_more, past_set, top_below, after_push, after_pop}
use Rattle.term_evaluation.proofs.evaluating.go_on.Goals as goal

pub node-node-requires : goal.node-node-requires
node-node-requires c =
    let xs = c.args.pending.now.items in
    let p = subst (λ (ys : List TermId). ArePending c.args.stamps.now c.args.time (length c.args.terms.now.nodes) ys) c.last_of-top.ensures c.requires.pending in
    (top_below c.args.stamps.now c.args.time (length c.args.terms.now.nodes) (take (length xs - 1) xs) c.last_of-top.result p).0

pub first_open-requires : goal.first_open-requires
first_open-requires c =
    let xs = c.args.pending.now.items in
    let p = subst (λ (ys : List TermId). ArePending c.args.stamps.now c.args.time (length c.args.terms.now.nodes) ys) c.last_of-top.ensures c.requires.pending in
    let low = (top_below c.args.stamps.now c.args.time (length c.args.terms.now.nodes) (take (length xs - 1) xs) c.last_of-top.result p).0 in
    let room = c.requires.kept.2 in
    below_more c.last_of-top.result.0 (length c.args.stamps.now) (operands_of c.node-node.result.now) (omega (arith, room, low)) c.node-node.ensures.over.operands

pub evaluate-requires-clause-id : goal.evaluate-requires-clause-id
evaluate-requires-clause-id c =
    let xs = c.args.pending.now.items in
    let p = subst (λ (ys : List TermId). ArePending c.args.stamps.now c.args.time (length c.args.terms.now.nodes) ys) c.last_of-top.ensures c.requires.pending in
    (top_below c.args.stamps.now c.args.time (length c.args.terms.now.nodes) (take (length xs - 1) xs) c.last_of-top.result p).0

pub evaluate-requires-clause-operands : goal.evaluate-requires-clause-operands
evaluate-requires-clause-operands c = none_open c.args.stamps.now c.args.time (operands_of c.node-node.result.now) (sym c.first_open.ensures ∙ c.in-None.is)

pub returns-in_ok-push-in-Some-clause-pending : goal.returns-in_ok-push-in-Some-clause-pending
returns-in_ok-push-in-Some-clause-pending c =
    let xs = c.args.pending.now.items in
    let o = c.in-Some.operand in
    let f = first_open c.args.stamps.now c.args.time (operands_of c.node-node.result.now) c.last_of-top.result.0 o (sym c.first_open.ensures ∙ c.in-Some.is) c.node-node.ensures.over.operands in
    (after_push c.args.stamps.now c.args.time (length c.args.terms.now.nodes) xs c.push.new.self.items (take (length xs - 1) xs) c.last_of-top.result o c.last_of-top.ensures c.in_ok-push-in-Some.ensures.items c.requires.pending f).pending

pub returns-in_ok-push-in-Some-clause-first : goal.returns-in_ok-push-in-Some-clause-first
returns-in_ok-push-in-Some-clause-first c =
    let xs = c.args.pending.now.items in
    let o = c.in-Some.operand in
    let f = first_open c.args.stamps.now c.args.time (operands_of c.node-node.result.now) c.last_of-top.result.0 o (sym c.first_open.ensures ∙ c.in-Some.is) c.node-node.ensures.over.operands in
    (after_push c.args.stamps.now c.args.time (length c.args.terms.now.nodes) xs c.push.new.self.items (take (length xs - 1) xs) c.last_of-top.result o c.last_of-top.ensures c.in_ok-push-in-Some.ensures.items c.requires.pending f).first

pub returns-in_ok-push-in-Some-clause-less : goal.returns-in_ok-push-in-Some-clause-less
returns-in_ok-push-in-Some-clause-less c =
    let xs = c.args.pending.now.items in
    let o = c.in-Some.operand in
    let f = first_open c.args.stamps.now c.args.time (operands_of c.node-node.result.now) c.last_of-top.result.0 o (sym c.first_open.ensures ∙ c.in-Some.is) c.node-node.ensures.over.operands in
    (after_push c.args.stamps.now c.args.time (length c.args.terms.now.nodes) xs c.push.new.self.items (take (length xs - 1) xs) c.last_of-top.result o c.last_of-top.ensures c.in_ok-push-in-Some.ensures.items c.requires.pending f).less

pub returns-in_ok-evaluate-in-None-clause-pending : goal.returns-in_ok-evaluate-in-None-clause-pending
returns-in_ok-evaluate-in-None-clause-pending c =
    let xs = c.args.pending.now.items in
    (after_pop c.args.stamps.now c.evaluate.new.stamps c.args.time (length c.args.terms.now.nodes) xs c.drop_last.new.pending.items (take (length xs - 1) xs) c.last_of-top.result c.last_of-top.ensures c.drop_last.ensures
    c.in_ok-evaluate-in-None.ensures.ok c.requires.kept.2 c.requires.pending).pending

pub returns-in_ok-evaluate-in-None-clause-first : goal.returns-in_ok-evaluate-in-None-clause-first
returns-in_ok-evaluate-in-None-clause-first c =
    let xs = c.args.pending.now.items in
    (after_pop c.args.stamps.now c.evaluate.new.stamps c.args.time (length c.args.terms.now.nodes) xs c.drop_last.new.pending.items (take (length xs - 1) xs) c.last_of-top.result c.last_of-top.ensures c.drop_last.ensures
    c.in_ok-evaluate-in-None.ensures.ok c.requires.kept.2 c.requires.pending).first

pub returns-in_ok-evaluate-in-None-clause-less : goal.returns-in_ok-evaluate-in-None-clause-less
returns-in_ok-evaluate-in-None-clause-less c =
    let xs = c.args.pending.now.items in
    (after_pop c.args.stamps.now c.evaluate.new.stamps c.args.time (length c.args.terms.now.nodes) xs c.drop_last.new.pending.items (take (length xs - 1) xs) c.last_of-top.result c.last_of-top.ensures c.drop_last.ensures
    c.in_ok-evaluate-in-None.ensures.ok c.requires.kept.2 c.requires.pending).less

pub returns-in_ok-evaluate-in-None-clause-past : goal.returns-in_ok-evaluate-in-None-clause-past
returns-in_ok-evaluate-in-None-clause-past c h =
    let xs = c.args.pending.now.items in
    let p = subst (λ (ys : List TermId). ArePending c.args.stamps.now c.args.time (length c.args.terms.now.nodes) ys) c.last_of-top.ensures c.requires.pending in
    let low = (top_below c.args.stamps.now c.args.time (length c.args.terms.now.nodes) (take (length xs - 1) xs) c.last_of-top.result p).0 in
    let room = c.requires.kept.2 in
    subst (AreNotAfter c.args.time) (sym c.in_ok-evaluate-in-None.ensures.ok) (past_set c.args.stamps.now c.args.time c.last_of-top.result.0 (omega (arith, room, low)) h)
