use Rattle.std.proofs.Common.{◌∙◌, ◌++◌, ap, sym}
use Rattle.verilog_registers.specs.Order.{members_in}
use Rattle.v_hier.specs.Tables.{under_name}
use Rattle.v_syntax.specs.Source.{module_of}
use Rattle.v_ordered.specs.Lines.{line}
use Rattle.v_ordered.specs.Tables.{text_under}
use Rattle.v_ordered.specs.Left.{names_left}
use Rattle.v_ordered.proofs.Told.{one_put, all_put}
use Rattle.v_ordered.proofs.order.put_members.Goals as goal

pub loop-member-init : goal.loop-member-init
loop-member-init c = λ lists.
    ap (λ xs. line (text_under c.args.names.now) (under_name c.args.below.now) lists xs ++ names_left lists c.args.stack.now.items) c.in_ok-members.ensures

pub loop-member-preserved : goal.loop-member-preserved
loop-member-preserved c = λ lists.
    one_put lists (text_under c.args.names.now) (under_name c.args.below.now) c.loop-member.members.items c.pop.new.self.items c.in-Some.member
    (names_left lists c.loop-member.stack.items) (names_left lists c.put_member.new.stack.items)
    (line (text_under c.args.names.now) (under_name c.args.below.now) lists (members_in (module_of c.args.within.now)) ++ names_left lists c.args.stack.now.items)
    c.in-Some.ensures.items (c.in_ok-put_member.ensures lists) (c.loop-member.invariant lists)

pub returns : goal.returns
returns c = λ lists.
    all_put lists (text_under c.args.names.now) (under_name c.args.below.now) c.loop-member.members.items (names_left lists c.loop-member.stack.items)
    (line (text_under c.args.names.now) (under_name c.args.below.now) lists (members_in (module_of c.args.within.now)) ++ names_left lists c.args.stack.now.items)
    (sym c.loop-member.members.ok.0 ∙ c.in_default.ensures.cases.0) (c.loop-member.invariant lists)
