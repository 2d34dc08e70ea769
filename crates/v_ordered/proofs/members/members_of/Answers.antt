use Rattle.std.proofs.Common.{◌≡◌, ◌∙◌, ◌++◌, [], ap, sym, subst, map, false}
use Rattle.std.proofs.lemmas.List.{append-nil}
use Rattle.std.proofs.Common.{Bool}
use Rattle.wb_values.specs.Value.{Name}
use Rattle.verilog_meaning.specs.Hierarchy.{header_ports, item_declarations}
use Rattle.verilog_registers.specs.Order.{Member, net, instance, is_variable_among, each_once}
use Rattle.v_hier.specs.Tables.{has_name}
use Rattle.v_syntax.specs.Source.{ports_of, item_of, module_of}
use Rattle.v_ordered.specs.declared.members.Members.{Members}
use Rattle.v_ordered.specs.Membership.{member_of, header_nets, all_item_nets, is_seen, unseen, with_new, Adds}
use Rattle.v_ordered.proofs.Adding.{then}
use Rattle.v_ordered.proofs.Texts.{members_so, none_unseen}
use Rattle.v_ordered.proofs.members.members_of.Goals as goal

pub returns : goal.returns
returns c =
    let v = has_name c.in_ok-variables.variables in
    let m = module_of c.args.within.now in
    let h = header_nets v (header_ports (ports_of c.args.within.now.ports)) in
    let items = all_item_nets v (map item_of c.args.within.now.items.items) in
    let start : Members = record { list = c.new.result; nets = c.no_names.result; instances = c.no_names-2.result } in
    let none : (x : Member) → is_seen (has_name c.no_names.result) (has_name c.no_names-2.result) x ≡ false
    = λ x. nothing (has_name c.no_names.result) (has_name c.no_names-2.result) c.no_names.ensures c.no_names-2.ensures x in
    sym (append-nil (map member_of c.add_items.new.members.list.items))
    ∙ sym (then start c.add_list.new.members c.add_items.new.members h items c.in_ok-add_list.ensures
    (subst (λ xs. Adds c.add_list.new.members (all_item_nets v (map item_of xs)) c.add_items.new.members) c.deref-2.ensures.value c.in_ok-add_items.ensures) [])
    ∙ ap (λ xs. with_new start xs) (append-nil (h ++ items))
    ∙ ap (λ xs. map member_of xs ++ unseen (is_seen (has_name c.no_names.result) (has_name c.no_names-2.result)) (each_once (h ++ items))) c.new.ensures.items
    ∙ none_unseen (is_seen (has_name c.no_names.result) (has_name c.no_names-2.result)) none (each_once (h ++ items))
    ∙ members_so m v (λ q. c.in_ok-variables.ensures q ∙ ap (λ xs. is_variable_among (item_declarations (map item_of xs)) q) c.deref.ensures.value)
  where
    nothing : (f g : Name → Bool) → ((q : Name) → f q ≡ false) → ((q : Name) → g q ≡ false) → (x : Member) → is_seen f g x ≡ false
    nothing f g h k (net n) = h n
    nothing f g h k (instance n) = k n
