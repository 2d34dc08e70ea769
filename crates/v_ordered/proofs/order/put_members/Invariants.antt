use Rattle.std.proofs.Common.{◌≡◌, ◌++◌, ℕ, List, map, vec_len}
use Rattle.wb_values.specs.Value.{Name}
use Rattle.verilog_registers.specs.Order.{members_in}
use Rattle.v_hier.specs.Tables.{under_name}
use Rattle.v_syntax.specs.Source.{module_of}
use Rattle.v_ordered.specs.Membership.{member_of}
use Rattle.v_ordered.specs.Lines.{line}
use Rattle.v_ordered.specs.Tables.{text_under}
use Rattle.v_ordered.specs.Left.{names_left}
use Rattle.v_ordered.proofs.order.put_members.Given as goal

abbrev pub invariant-loop-member : goal.invariant-loop-member
invariant-loop-member l =
    (lists : ℕ → List Name) → line (text_under l.names) (under_name l.below) lists (map member_of l.members.items) ++ names_left lists l.stack.items
    ≡ line (text_under l.names) (under_name l.below) lists (members_in (module_of l.within)) ++ names_left lists l.initial.stack.items

abbrev pub decreases-loop-member : goal.decreases-loop-member
decreases-loop-member l = vec_len l.members
