use Rattle.std.proofs.Common.{◌≡◌, ◌∙◌, ℕ, List, None, Some, cond, not, ap, sym, subst}
use Rattle.std.specs.Prelude.{is_some}
use Rattle.std.specs.String.{string_bytes}
use Rattle.wb_values.specs.Value.{same_name, entry_of}
use Rattle.wb_terms.specs.declared.nodes.Node.TheVariants.{Name as NameNode}
use Rattle.wb_terms.specs.Graph.{tree_of_node}
use Rattle.wb_terms.specs.Sort.{as_sort}
use Rattle.ila_build.specs.Standing.{under_name}
use Rattle.ila_build.proofs.Definitions.{on_ok, kept, none_of}
use Rattle.ila_build.proofs.Growing.{are_in-wider}
use Rattle.ila_build.proofs.LeavingLemmas.{left_same, left_equal, left_declared, left_named, last_in, one_added}
use Rattle.ila_build.proofs.Declared.{absent, in_table, wide_declared, table_declared}
use Rattle.ila_build.proofs.declaring.declare.Goals as goal

pub declare-requires : goal.declare-requires
declare-requires c =
    let gone = none_of (under_name c.args.known.now c.args.name.now) (ap is_some (sym c.under_name.ensures) ∙ (sym c.is_some.ensures ∙ c.if-is_some.false)) in
    subst (λ n. entry_of c.args.terms.now.names n ≡ None) (sym c.in-Ok.ensures.ok) (absent c.args.terms.now c.args.known.now c.args.name.now c.requires gone)

pub returns-clause-table : goal.returns-clause-table
returns-clause-table c =
    let ok = c.is_err.ensures.negation ∙ ap not c.if-is_err.false in
    let new = on_ok c.remember.result _ ok c.remember.ensures.ok in
    let keep = kept c.args.known.now c.remember.new.known c.args.name.now c.in_ok-term.term (ap is_some (sym c.under_name.ensures) ∙ (sym c.is_some.ensures ∙ c.if-is_some.false)) new in
    table_declared c.args.terms.now c.declare.new.self c.put.new.self c.args.known.now c.remember.new.known (string_bytes c.in-Ok.text) (as_sort c.in-Some.sort) c.in_ok-id.id c.in_ok-term.term
    c.requires keep c.in_ok-id.ensures.ok c.in_ok-id.ensures.trees c.in_ok-id.ensures.id c.in_ok-term.ensures.ok c.in_ok-term.ensures.trees c.in_ok-term.ensures.id
    (subst (λ n. (q : List ℕ) → under_name c.remember.new.known q ≡ cond (same_name n q) (Some c.in_ok-term.term) (under_name c.args.known.now q)) (sym c.in-Ok.ensures.ok) new)

pub returns-then-is_some-clause-left : goal.returns-then-is_some-clause-left
returns-then-is_some-clause-left c = left_same c.args.terms.now c.args.known.now _ _ (in_table c.args.terms.now c.args.known.now c.requires)

pub returns-in_default-clause-left : goal.returns-in_default-clause-left
returns-in_default-clause-left c = left_same c.args.terms.now c.args.known.now _ _ (in_table c.args.terms.now c.args.known.now c.requires)

pub returns-in_err-id-clause-left : goal.returns-in_err-id-clause-left
returns-in_err-id-clause-left c = left_equal c.args.terms.now c.declare.new.self c.args.known.now _ _ (in_table c.args.terms.now c.args.known.now c.requires) c.in_err-id.ensures.err

pub returns-in_err-term-clause-left : goal.returns-in_err-term-clause-left
returns-in_err-term-clause-left c = left_declared c.args.terms.now c.declare.new.self c.put.new.self c.args.known.now _ (string_bytes c.in-Ok.text) (as_sort c.in-Some.sort) 1 (in_table c.args.terms.now c.args.known.now c.requires) c.in_ok-id.ensures.ok c.in_ok-id.ensures.trees c.in_err-term.ensures.err

pub returns-then-is_err-clause-left : goal.returns-then-is_err-clause-left
returns-then-is_err-clause-left c =
    let absent = none_of (under_name c.args.known.now c.args.name.now) (ap is_some (sym c.under_name.ensures) ∙ (sym c.is_some.ensures ∙ c.if-is_some.false)) in
    let w = wide_declared c.args.terms.now c.declare.new.self c.put.new.self (string_bytes c.in-Ok.text) (as_sort c.in-Some.sort) (NameNode c.in_ok-id.id) (tree_of_node c.declare.new.self (NameNode c.in_ok-id.id)) c.in_ok-id.ensures.ok c.in_ok-id.ensures.trees c.in_ok-term.ensures.ok c.in_ok-term.ensures.trees in
    left_named c.args.terms.now c.put.new.self c.args.known.now c.remember.new.known c.args.name.now 1 w (c.remember.ensures.kept absent) c.remember.ensures.aside
    (c.remember.ensures.in_store c.put.new.self (are_in-wider c.args.terms.now c.put.new.self c.args.known.now None w (in_table c.args.terms.now c.args.known.now c.requires)) (last_in c.declare.new.self c.put.new.self (NameNode c.in_ok-id.id) c.in_ok-term.term c.in_ok-term.ensures.ok c.in_ok-term.ensures.id))
    (one_added c.args.terms.now c.declare.new.self c.put.new.self (string_bytes c.in-Ok.text) (as_sort c.in-Some.sort) (NameNode c.in_ok-id.id) c.in_ok-id.ensures.ok c.in_ok-term.ensures.ok)

pub returns-clause-left : goal.returns-clause-left
returns-clause-left c =
    let absent = none_of (under_name c.args.known.now c.args.name.now) (ap is_some (sym c.under_name.ensures) ∙ (sym c.is_some.ensures ∙ c.if-is_some.false)) in
    let w = wide_declared c.args.terms.now c.declare.new.self c.put.new.self (string_bytes c.in-Ok.text) (as_sort c.in-Some.sort) (NameNode c.in_ok-id.id) (tree_of_node c.declare.new.self (NameNode c.in_ok-id.id)) c.in_ok-id.ensures.ok c.in_ok-id.ensures.trees c.in_ok-term.ensures.ok c.in_ok-term.ensures.trees in
    left_named c.args.terms.now c.put.new.self c.args.known.now c.remember.new.known c.args.name.now 1 w (c.remember.ensures.kept absent) c.remember.ensures.aside
    (c.remember.ensures.in_store c.put.new.self (are_in-wider c.args.terms.now c.put.new.self c.args.known.now None w (in_table c.args.terms.now c.args.known.now c.requires)) (last_in c.declare.new.self c.put.new.self (NameNode c.in_ok-id.id) c.in_ok-term.term c.in_ok-term.ensures.ok c.in_ok-term.ensures.id))
    (one_added c.args.terms.now c.declare.new.self c.put.new.self (string_bytes c.in-Ok.text) (as_sort c.in-Some.sort) (NameNode c.in_ok-id.id) c.in_ok-id.ensures.ok c.in_ok-term.ensures.ok)

pub returns-in_default-from_str-clause-left : goal.returns-in_default-from_str-clause-left
returns-in_default-from_str-clause-left c = left_same c.args.terms.now c.args.known.now _ _ (in_table c.args.terms.now c.args.known.now c.requires)
