-- The names of the kinds by which files are refused. (Those of rules on model files and on map files are named with these rules.)
use Rattle.std.specs.Prelude.{ℕ, List, codes}
use Rattle.verilog_text.specs.Text.{Refusal, not_text, bad_token, bad_directive, unsupported, too_deep}
use Rattle.verilog_designs.specs.Accepted.{DesignKind, no_top, undeclared, duplicate_name, bad_hierarchy, has_xz, bad_port, bad_constant, width_over_128, bad_select, memory_use, clock_as_data, bad_event_list, blocking_in_clocked, nonblocking_in_comb, latch, bad_driver, undriven, comb_loop}

-- of texts that have no tokens
abbrev pub text_kind : Refusal → List ℕ
text_kind not_text = codes "V1 NotText"
text_kind bad_token = codes "V2 BadToken"
text_kind bad_directive = codes "V3 BadDirective"
text_kind unsupported = codes "V4 Unsupported"
text_kind too_deep = codes "V5 TooDeep"

-- of tokens that have no tree
abbrev pub tree_kind : List ℕ
tree_kind = codes "V6 Syntax"

-- of designs
abbrev pub kind_name : DesignKind → List ℕ
kind_name no_top = codes "V7 NoTop"
kind_name undeclared = codes "V8 Undeclared"
kind_name duplicate_name = codes "V9 DuplicateName"
kind_name bad_hierarchy = codes "V10 BadHierarchy"
kind_name has_xz = codes "V11 HasXZ"
kind_name bad_port = codes "V12 BadPort"
kind_name bad_constant = codes "V13 BadConstant"
kind_name width_over_128 = codes "V14 WidthOver128"
kind_name bad_select = codes "V15 BadSelect"
kind_name memory_use = codes "V16 MemoryUse"
kind_name clock_as_data = codes "V17 ClockAsData"
kind_name bad_event_list = codes "V18 BadEventList"
kind_name blocking_in_clocked = codes "V19 BlockingInClocked"
kind_name nonblocking_in_comb = codes "V20 NonblockingInComb"
kind_name latch = codes "V21 Latch"
kind_name bad_driver = codes "V22 BadDriver"
kind_name undriven = codes "V23 Undriven"
kind_name comb_loop = codes "V24 CombLoop"
