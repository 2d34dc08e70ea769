-- The written model that the code's stands for.
use Rattle.std.specs.Prelude.{List, [], ◌∷◌, map, Option, Some, None, option_map, Vec, Box}
use Rattle.std.specs.Global.{Global}
use Rattle.wb_values.specs.Value.{Name, Sort, truth, word, memory, Value, truth_value, number, Entries}
use Rattle.model_meaning.specs.Model.{StateDeclaration, InputDeclaration}
use Rattle.model_files.specs.Written as pure
use Rattle.ila_file.specs.declared.written.UnaryOperator.{UnaryOperator}
use Rattle.ila_file.specs.declared.written.UnaryOperator.TheVariants.{Not, Neg}
use Rattle.ila_file.specs.declared.written.BinaryOperator.{BinaryOperator}
use Rattle.ila_file.specs.declared.written.BinaryOperator.TheVariants.{And, Or, Xor, Add, Sub, Mul, Shl, Lshr, Ashr, Eq, Ult, Ule, Slt, Sle, Concat, Load}
use Rattle.ila_file.specs.declared.written.Widening.{Widening}
use Rattle.ila_file.specs.declared.written.Widening.TheVariants.{Zext, Sext}
use Rattle.ila_file.specs.declared.written.WrittenTerm.{WrittenTerm, Name as NameOf, Truth, Const, Unary', Binary', Extract', Widen', Ite', Store'}
use Rattle.ila_file.specs.declared.written.WrittenSort.{WrittenSort}
use Rattle.ila_file.specs.declared.written.WrittenSort.TheVariants as sorts
use Rattle.ila_file.specs.declared.written.WrittenValue.{WrittenValue}
use Rattle.ila_file.specs.declared.written.WrittenValue.TheVariants as values
use Rattle.ila_file.specs.declared.written.WrittenState.{WrittenState}
use Rattle.ila_file.specs.declared.written.WrittenInput.{WrittenInput}
use Rattle.ila_file.specs.declared.written.Definition.{Definition}
use Rattle.ila_file.specs.declared.written.WrittenUpdate.{WrittenUpdate}
use Rattle.ila_file.specs.declared.written.WrittenChild.{WrittenChild, WrittenChild-F, fold-WrittenChild}
use Rattle.ila_file.specs.declared.written.WrittenInstruction.{WrittenInstruction, WrittenInstruction-F, fold-WrittenInstruction}
use Rattle.ila_file.specs.declared.written.WrittenMachine.{WrittenMachine, WrittenMachine-F, fold-WrittenMachine}
use Rattle.ila_file.specs.declared.written.WrittenModel.{WrittenModel}

abbrev pub unary_view : UnaryOperator → pure.UnaryForm
unary_view Not = pure.not
unary_view Neg = pure.neg

abbrev pub binary_view : BinaryOperator → pure.BinaryForm
binary_view And = pure.and
binary_view Or = pure.or
binary_view Xor = pure.xor
binary_view Add = pure.add
binary_view Sub = pure.sub
binary_view Mul = pure.mul
binary_view Shl = pure.shl
binary_view Lshr = pure.lshr
binary_view Ashr = pure.ashr
binary_view Eq = pure.eq
binary_view Ult = pure.ult
binary_view Ule = pure.ule
binary_view Slt = pure.slt
binary_view Sle = pure.sle
binary_view Concat = pure.concat
binary_view Load = pure.load

abbrev pub widening_view : Widening → pure.Widening
widening_view Zext = pure.zext
widening_view Sext = pure.sext

abbrev pub term_view : WrittenTerm → pure.WrittenTerm
term_view (NameOf n) = pure.name n.now
term_view (Truth b) = pure.constant_truth b
term_view (Const w x) = pure.const w x
term_view (Unary' op _ x) = pure.unary (unary_view op) (term_view x)
term_view (Binary' op _ x _ y) = pure.binary (binary_view op) (term_view x) (term_view y)
term_view (Extract' h l _ x) = pure.extract h l (term_view x)
term_view (Widen' z w _ x) = pure.widen (widening_view z) w (term_view x)
term_view (Ite' _ c _ x _ y) = pure.ite (term_view c) (term_view x) (term_view y)
term_view (Store' _ m _ i _ x) = pure.store (term_view m) (term_view i) (term_view x)

abbrev pub boxed_view : Box WrittenTerm Global → pure.WrittenTerm
boxed_view b = term_view b.value

abbrev pub sort_view : WrittenSort → Sort
sort_view sorts.Truth = truth
sort_view (sorts.Word w) = word w
sort_view (sorts.Memory a d) = memory a d

abbrev pub value_view : WrittenValue → Value
value_view (values.Truth b) = truth_value b
value_view (values.Number n) = number n

abbrev pub initial_view : Option WrittenValue → Option Value
initial_view i = option_map value_view i

abbrev pub state_view : WrittenState → StateDeclaration
state_view s = record { state_name = s.name.now; sort = sort_view s.sort; init = initial_view s.initial }

abbrev pub input_view : WrittenInput → InputDeclaration
input_view i = record { input_name = i.name.now; sort = sort_view i.sort }

abbrev pub definition_view : Definition → Name × pure.WrittenTerm
definition_view d = (d.name.now, term_view d.term)

abbrev pub update_view : WrittenUpdate → Name × pure.WrittenTerm
update_view u = (u.state.now, term_view u.term)

abbrev pub states_view : Vec WrittenState Global → List StateDeclaration
states_view v = map state_view v.items

abbrev pub inputs_view : Vec WrittenInput Global → List InputDeclaration
inputs_view v = map input_view v.items

abbrev pub definitions_view : Vec Definition Global → Entries pure.WrittenTerm
definitions_view v = map definition_view v.items

abbrev pub updates_view : Vec WrittenUpdate Global → Entries pure.WrittenTerm
updates_view v = map update_view v.items

abbrev pub fetch_view : Option WrittenTerm → Option pure.WrittenTerm
fetch_view f = option_map term_view f

-- ---- machines: one level of each type, with what it contains already seen as its pure value

abbrev pub instructions_from : List pure.WrittenInstruction → pure.WrittenInstructions
instructions_from [] = pure.no_instructions
instructions_from (i ∷ is) = pure.and_then i (instructions_from is)

abbrev pub child_or_none : Option (Box pure.WrittenChild Global) → pure.WrittenChild
child_or_none None = pure.no_child
child_or_none (Some b) = b.value

abbrev pub child_step : WrittenChild-F pure.WrittenChild pure.WrittenInstruction pure.WrittenMachine → pure.WrittenChild
child_step c = pure.child c.steps c.machine

abbrev pub instruction_step : WrittenInstruction-F pure.WrittenChild pure.WrittenInstruction pure.WrittenMachine → pure.WrittenInstruction
instruction_step i = pure.instruction i.name.now (term_view i.decode) (updates_view i.updates) (child_or_none i.child)

abbrev pub machine_step : WrittenMachine-F pure.WrittenChild pure.WrittenInstruction pure.WrittenMachine → pure.WrittenMachine
machine_step m = pure.machine (states_view m.states) (definitions_view m.definitions) (fetch_view m.fetch) (term_view m.valid) (instructions_from m.instructions.items)

abbrev pub child_view : WrittenChild → pure.WrittenChild
child_view = fold-WrittenChild pure.WrittenChild pure.WrittenInstruction pure.WrittenMachine child_step instruction_step machine_step

abbrev pub instruction_view : WrittenInstruction → pure.WrittenInstruction
instruction_view = fold-WrittenInstruction pure.WrittenChild pure.WrittenInstruction pure.WrittenMachine child_step instruction_step machine_step

abbrev pub machine_view : WrittenMachine → pure.WrittenMachine
machine_view = fold-WrittenMachine pure.WrittenChild pure.WrittenInstruction pure.WrittenMachine child_step instruction_step machine_step

-- the instructions of a list
abbrev pub instructions_view : List WrittenInstruction → pure.WrittenInstructions
instructions_view is = instructions_from (map instruction_view is)

abbrev pub instruction_list_view : Vec WrittenInstruction Global → pure.WrittenInstructions
instruction_list_view v = instructions_view v.items

-- the child of an instruction, where there is one
abbrev pub held_child_view : Option (Box WrittenChild Global) → pure.WrittenChild
held_child_view None = pure.no_child
held_child_view (Some b) = child_view b.value

abbrev pub model_view : WrittenModel → pure.WrittenModel
model_view m = record { model_name = m.name.now; inputs = inputs_view m.inputs; top = machine_view m.machine }
