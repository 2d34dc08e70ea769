-- The code's record of broken rules, its places and kinds, and the definitions that they stand for.
use Rattle.std.specs.Prelude.{ℕ, Bool, not, cond, ◌&&◌, ◌||◌, Option, Some, None, ℤ}
use Rattle.wb_values.specs.Choice.{some_if}
use Rattle.verilog_rules.specs.Expression as rules
use Rattle.verilog_rules.specs.Expression.{anywhere, constant, undeclared_name, has_xz_digit, bad_constant_expression, wider_than_128, bad_select_of_name, bad_use_of_memory}
use Rattle.v_value.specs.declared.select.Integer.{Integer}
use Rattle.v_value.specs.Index.{integer_at}
use Rattle.v_size.specs.declared.rule.Broken.{Broken}
use Rattle.v_size.specs.declared.rule.Position.{Position}
use Rattle.v_size.specs.declared.rule.Position.TheVariants.{Anywhere, Constant}
use Rattle.v_size.specs.declared.rule.Kind.{Kind}
use Rattle.v_size.specs.declared.rule.Kind.TheVariants.{Undeclared, HasXz, BadConstant, WidthOver128, BadSelect, MemoryUse}

abbrev pub coded : rules.Broken → Broken
coded b =
    record {
      undeclared = b.undeclared;
      has_xz = b.has_xz;
      bad_constant = b.bad_constant;
      width_over_128 = b.width_over_128;
      bad_select = b.bad_select;
      memory_use = b.memory_use;
      misshapen = b.misshapen;
    }

abbrev pub both : Broken → Broken → Broken
both a b =
    record {
      undeclared = a.undeclared || b.undeclared;
      has_xz = a.has_xz || b.has_xz;
      bad_constant = a.bad_constant || b.bad_constant;
      width_over_128 = a.width_over_128 || b.width_over_128;
      bad_select = a.bad_select || b.bad_select;
      memory_use = a.memory_use || b.memory_use;
      misshapen = a.misshapen || b.misshapen;
    }

abbrev pub unbroken : Broken → Bool
unbroken b =
    not b.undeclared && (not b.has_xz && (not b.bad_constant && (not b.width_over_128 && (not b.bad_select && (not b.memory_use && not b.misshapen)))))

abbrev pub kind_of : Kind → rules.Kind
kind_of Undeclared = undeclared_name
kind_of HasXz = has_xz_digit
kind_of BadConstant = bad_constant_expression
kind_of WidthOver128 = wider_than_128
kind_of BadSelect = bad_select_of_name
kind_of MemoryUse = bad_use_of_memory

abbrev pub kind_option : Option Kind → Option rules.Kind
kind_option None = None
kind_option (Some k) = Some (kind_of k)

abbrev pub first_kind : Broken → Option rules.Kind
first_kind b =
    cond b.undeclared (Some undeclared_name)
    (cond b.has_xz (Some has_xz_digit)
    (cond b.bad_constant (Some bad_constant_expression)
    (cond b.width_over_128 (Some wider_than_128)
    (cond b.bad_select (Some bad_select_of_name)
    (some_if b.memory_use bad_use_of_memory)))))

abbrev pub position_of : Position → rules.Position
position_of Anywhere = anywhere
position_of (Constant w t) = constant w t

-- the numbers of constants
abbrev pub number_at : Option Integer → Option ℤ
number_at None = None
number_at (Some i) = Some (integer_at i)
