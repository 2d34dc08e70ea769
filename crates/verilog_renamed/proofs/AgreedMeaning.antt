-- The laws on scopes that agree.
use Rattle.std.proofs.Common.{refl}
use Rattle.verilog_renamed.specs.Agreement.{ExpressionsAreAgreedOn, PartsAreAgreedOn, EachSelectIsAgreedOn, SelectsAreAgreedOn, TargetsAreAgreedOn, StatementsAreAgreedOn, AssignmentsAreAgreedOn, BlocksAreAgreedOn, GivenBitsAreAgreedOn}
use Rattle.verilog_renamed.proofs.AgreedExpressions.{Agreed, AgreedParts, AgreedSelect, AgreedSelects, agreed, agreed_parts, agreed_select, agreed_selects, agreed_self, agreed_integer, agreed_condition, agreed_assigned}
use Rattle.verilog_renamed.proofs.AgreedStatements.{agreed_places, agreed_target_width, agreed_has, agreed_run, agreed_has_run, agreed_has_assigned, agreed_edge, agreed_has_runs}
use Rattle.verilog_renamed.proofs.AgreedBits.{agreed_constant, agreed_selects_constant, agreed_may_mean, agreed_constant_selects, agreed_reach, agreed_reads, agreed_target_reads, agreed_surely, agreed_reach_any, agreed_assign, agreed_assign_any, agreed_counts, agreed_surely_assigns, agreed_reads_after}
use Rattle.verilog_renamed.proofs.AgreedDependence.{given_both_ways, after_both_ways}
use Rattle.verilog_designs.specs.Reads.{no_bits}

pub expressions_are_agreed_on : ExpressionsAreAgreedOn
expressions_are_agreed_on s t e a =
    let h : Agreed s t e = agreed s t e a in
    record {
      sign = h.sign;
      width = h.width;
      value = h.value;
      self = λ v. agreed_self s t e v h;
      integer = λ v. agreed_integer s t e v h;
      condition = λ v. agreed_condition s t e v h;
      assigned = λ v w. agreed_assigned s t e v w h;
      constant = agreed_constant s t e a;
      reads = agreed_reads s t e a;
    }

pub parts_are_agreed_on : PartsAreAgreedOn
parts_are_agreed_on s t es a =
    let h : AgreedParts s t es = agreed_parts s t es a in
    record { widths = h.widths; joined = h.joined }

pub each_select_is_agreed_on : EachSelectIsAgreedOn
each_select_is_agreed_on s t x a =
    let h : AgreedSelect s t x = agreed_select s t x a in
    record { index = h.place; bits = h.bits }

pub selects_are_agreed_on : SelectsAreAgreedOn
selects_are_agreed_on s t x a =
    let h : AgreedSelects s t x = agreed_selects s t x a in
    record { width = h.width; selected = h.value; constant = agreed_selects_constant s t x a; may_mean = agreed_may_mean s t x a }

pub targets_are_agreed_on : TargetsAreAgreedOn
targets_are_agreed_on s t x a =
    record {
      width = agreed_target_width s t x a;
      places = λ v. agreed_places s t v x a;
      has = λ v y. agreed_has s t v x y y refl a;
      constant = agreed_constant_selects s t x a;
      may_reach = agreed_reach s t x a;
      surely_reaches = agreed_surely s t x a;
      reads = agreed_target_reads s t x a;
    }

pub statements_are_agreed_on : StatementsAreAgreedOn
statements_are_agreed_on s t x a =
    record {
      run = λ v. agreed_run s t x v a;
      has_run = λ v. agreed_has_run s t v x a;
      may_assign = agreed_assign s t x a;
      surely_assigns = agreed_surely_assigns s t x a;
      reads_after = λ done. agreed_reads_after s t done x a;
      reads_outside = agreed_reads_after s t no_bits x a;
      rests_on = after_both_ways s t x a;
    }

pub assignments_are_agreed_on : AssignmentsAreAgreedOn
assignments_are_agreed_on s t xs a = record { may_reach = agreed_reach_any s t xs a; has = λ v. agreed_has_assigned s t v xs a }

pub blocks_are_agreed_on : BlocksAreAgreedOn
blocks_are_agreed_on s t xs a =
    record {
      may_assign = agreed_assign_any s t xs a;
      registers = agreed_counts s t xs a;
      edge = λ v. agreed_edge s t v xs a;
      has_run = λ v. agreed_has_runs s t v xs a;
    }

pub given_bits_are_agreed_on : GivenBitsAreAgreedOn
given_bits_are_agreed_on around new_around inner new_inner x e u y a b = given_both_ways around new_around inner new_inner x e u y a b
