-- The written model that a file's data has the shape of: each value is of the kind that its place wants, each required key is
-- there, and each operator is known and has its number of operands. Data of another shape is no written model.
use Rattle.std.specs.Prelude.{ℕ, ◌+◌, ◌*◌, ◌-◌, Bool, cond, ◌&&◌, ◌||◌, ◌==◌, nat_le, List, [], ◌∷◌, length, Option, Some, None, option_map, option_and_then, codes}
use Rattle.std.specs.List.{list_all}
use Rattle.std.specs.Str.{is_utf8}
use Rattle.wb_values.specs.Value.{Name, same_name, Sort, truth, word, memory, Value, truth_value, number as number_value, Entries}
use Rattle.wb_values.specs.Choice.{some_if}
use Rattle.model_meaning.specs.Model.{StateDeclaration, InputDeclaration}
use Rattle.model_files.specs.Written.{UnaryForm, not, neg, BinaryForm, and, or, xor, add, sub, mul, shl, lshr, ashr, eq, ult, ule, slt, sle, concat, load, Widening, zext, sext, WrittenTerm, name, constant_truth, const, unary, binary, extract, widen, ite, store, WrittenMachine, machine, WrittenInstruction, instruction, WrittenInstructions, no_instructions, and_then, WrittenChild, no_child, child, WrittenModel}
use Rattle.serde_json.specs.Data.{Data, boolean, number, string, array, object, Items, no_items, item, Members, no_members, member}
use Rattle.serde_json.specs.Read.{read}
use Rattle.serde_json.specs.Find.{get_member, as_number, as_u64, as_str, as_bool, as_array, as_object}

-- The data of a file. Bytes that are not UTF-8 stand for nothing, as does text in which arrays and objects nest past 127.
-- Of a key that is given twice in an object the last entry counts.
abbrev pub document : List ℕ → Option Data
document bytes = cond (is_utf8 bytes) (read bytes) None

-- ---- what stands under a key

-- under one that must be there
abbrev pub required : {A : Type 0} → (Data → Option A) → Name → Members → Option A
required f k ms = option_and_then f (get_member k ms)

abbrev pub if_there : {A : Type 0} → (Data → Option A) → Option Data → Option (Option A)
if_there f None = Some None
if_there f (Some d) = option_map Some (f d)

-- under one that may be absent
abbrev pub optional : {A : Type 0} → (Data → Option A) → Name → Members → Option (Option A)
optional f k ms = if_there f (get_member k ms)

abbrev pub with_first : {A : Type 0} → Option A → Option (List A) → Option (List A)
with_first (Some x) (Some xs) = Some (x ∷ xs)
with_first (Some x) None = None
with_first None xs = None

-- each item of a list, by the same reading
abbrev pub all_in : {A : Type 0} → (Data → Option A) → Items → Option (List A)
all_in f no_items = Some []
all_in f (item d ds) = with_first (f d) (all_in f ds)

-- a list, each item by the same reading
abbrev pub list_in : {A : Type 0} → (Data → Option A) → Data → Option (List A)
list_in f d = option_and_then (all_in f) (as_array d)

-- ---- numbers and sorts

-- an unsigned number below 2^64
abbrev pub unsigned_in : Data → Option ℕ
unsigned_in d = option_and_then as_u64 (as_number d)

abbrev pub is_lower_digit : ℕ → Bool
is_lower_digit b = nat_le 48 b && nat_le b 57 || nat_le 97 b && nat_le b 102

-- the value of a decimal digit or of one of the letters a to f
abbrev pub lower_digit_value : ℕ → ℕ
lower_digit_value b = cond (nat_le 97 b) (b - 87) (b - 48)

-- the number with these hexadecimal digits behind its own
abbrev pub with_hexadecimal_digits : ℕ → List ℕ → ℕ
with_hexadecimal_digits n [] = n
with_hexadecimal_digits n (b ∷ bs) = with_hexadecimal_digits (n * 16 + lower_digit_value b) bs

-- one to 32 lower-case hexadecimal digits
abbrev pub are_hexadecimal_digits : List ℕ → Bool
are_hexadecimal_digits ds = nat_le 1 (length ds) && nat_le (length ds) 32 && list_all is_lower_digit ds

-- 0x and one to 32 lower-case hexadecimal digits
abbrev pub number_of_text : List ℕ → Option ℕ
number_of_text (a ∷ b ∷ digits) = some_if ((a == 48) && (b == 120) && are_hexadecimal_digits digits) (with_hexadecimal_digits 0 digits)
number_of_text _ = None

abbrev pub number_from : Option Name → Option ℕ → Option ℕ
number_from (Some text) n = number_of_text text
number_from None n = n

-- the number of a constant or of an initial value: an unsigned number, or such a text
abbrev pub constant_in : Data → Option ℕ
constant_in d = number_from (as_str d) (unsigned_in d)

abbrev pub memory_of : Option ℕ → Option ℕ → Option Sort
memory_of (Some a) (Some d) = Some (memory a d)
memory_of _ _ = None

-- "bool", the width of a word, or [a, d] for a memory of 2^a words of d bits
abbrev pub sort_in : Data → Option Sort
sort_in (string text) = some_if (same_name text (codes "bool")) truth
sort_in (number n) = option_map word (as_u64 n)
sort_in (array (item a (item d no_items))) = memory_of (unsigned_in a) (unsigned_in d)
sort_in _ = None

-- ---- terms

abbrev pub unary_of : Name → Option UnaryForm
unary_of op = cond (same_name op (codes "not")) (Some not) (some_if (same_name op (codes "neg")) neg)

abbrev pub binary_of : Name → Option BinaryForm
binary_of op =
    cond (same_name op (codes "and")) (Some and)
    (cond (same_name op (codes "or")) (Some or)
    (cond (same_name op (codes "xor")) (Some xor)
    (cond (same_name op (codes "add")) (Some add)
    (cond (same_name op (codes "sub")) (Some sub)
    (cond (same_name op (codes "mul")) (Some mul)
    (cond (same_name op (codes "shl")) (Some shl)
    (cond (same_name op (codes "lshr")) (Some lshr)
    (cond (same_name op (codes "ashr")) (Some ashr)
    (cond (same_name op (codes "eq")) (Some eq)
    (cond (same_name op (codes "ult")) (Some ult)
    (cond (same_name op (codes "ule")) (Some ule)
    (cond (same_name op (codes "slt")) (Some slt)
    (cond (same_name op (codes "sle")) (Some sle)
    (cond (same_name op (codes "concat")) (Some concat)
    (some_if (same_name op (codes "load")) load)))))))))))))))

abbrev pub with_unary : Option UnaryForm → Option WrittenTerm → Option WrittenTerm
with_unary (Some op) (Some x) = Some (unary op x)
with_unary _ _ = None

abbrev pub with_binary : Option BinaryForm → Option WrittenTerm → Option WrittenTerm → Option WrittenTerm
with_binary (Some op) (Some x) (Some y) = Some (binary op x y)
with_binary _ _ _ = None

abbrev pub with_const : Option ℕ → Option ℕ → Option WrittenTerm
with_const (Some w) (Some v) = Some (const w v)
with_const _ _ = None

abbrev pub with_widening : Widening → Option ℕ → Option WrittenTerm → Option WrittenTerm
with_widening z (Some n) (Some x) = Some (widen z n x)
with_widening z _ _ = None

abbrev pub with_extract : Option ℕ → Option ℕ → Option WrittenTerm → Option WrittenTerm
with_extract (Some h) (Some l) (Some x) = Some (extract h l x)
with_extract _ _ _ = None

abbrev pub with_three : (WrittenTerm → WrittenTerm → WrittenTerm → WrittenTerm) → Option WrittenTerm → Option WrittenTerm → Option WrittenTerm → Option WrittenTerm
with_three f (Some x) (Some y) (Some z) = Some (f x y z)
with_three f _ _ _ = None

-- An operator with the data of its operands and with the terms that these are, where they are terms:
-- ["not", x], ["neg", x]
abbrev pub of_one : (operator : Name) → Option WrittenTerm → Option WrittenTerm
of_one op x = with_unary (unary_of op) x

-- ["const", w, v], ["zext", n, x], ["sext", n, x], ["add", x, y] and so on
abbrev pub of_two : (operator : Name) → (a b : Data) → (x y : Option WrittenTerm) → Option WrittenTerm
of_two op a b x y =
    cond (same_name op (codes "const")) (with_const (unsigned_in a) (constant_in b))
    (cond (same_name op (codes "zext")) (with_widening zext (unsigned_in a) y)
    (cond (same_name op (codes "sext")) (with_widening sext (unsigned_in a) y) (with_binary (binary_of op) x y)))

-- ["extract", h, l, x], ["ite", c, x, y], ["store", m, i, x]
abbrev pub of_three : (operator : Name) → (a b : Data) → (x y z : Option WrittenTerm) → Option WrittenTerm
of_three op a b x y z =
    cond (same_name op (codes "extract")) (with_extract (unsigned_in a) (unsigned_in b) z)
    (cond (same_name op (codes "ite")) (with_three ite x y z)
    (cond (same_name op (codes "store")) (with_three store x y z) None))

-- A term: true, false, a name, or a list of an operator and its operands.
abbrev pub term_in : Data → Option WrittenTerm
term_in (boolean b) = Some (constant_truth b)
term_in (string n) = Some (name n)
term_in (array (item (string op) (item a no_items))) = of_one op (term_in a)
term_in (array (item (string op) (item a (item b no_items)))) = of_two op a b (term_in a) (term_in b)
term_in (array (item (string op) (item a (item b (item c no_items))))) = of_three op a b (term_in a) (term_in b) (term_in c)
term_in _ = None

-- ---- declarations

-- The initial value of a state, of the kind that the written form of its sort wants. A memory has none: under the key stands
-- whatever stands under an unknown key.
abbrev pub initial_in : Sort → Option Data → Option (Option Value)
initial_in (memory a w) d = Some None
initial_in truth None = Some None
initial_in truth (Some d) = option_map (λ b. Some (truth_value b)) (as_bool d)
initial_in (word w) None = Some None
initial_in (word w) (Some d) = option_map (λ n. Some (number_value n)) (constant_in d)

-- A private state is a truth value or a word, and has an initial value.
abbrev pub private_initial_in : Sort → Option Data → Option (Option Value)
private_initial_in (memory a w) d = None
private_initial_in s None = None
private_initial_in s (Some d) = initial_in s (Some d)

abbrev pub with_initial : Name → Sort → Option (Option Value) → Option StateDeclaration
with_initial n s (Some i) = Some (record { state_name = n; sort = s; init = i })
with_initial n s None = None

abbrev pub state_from : (Sort → Option Data → Option (Option Value)) → Option Name → Option Sort → Option Data → Option StateDeclaration
state_from initial (Some n) (Some s) d = with_initial n s (initial s d)
state_from initial _ _ d = None

-- a state, by what its initial value may be
abbrev pub declaration_in : (Sort → Option Data → Option (Option Value)) → Members → Option StateDeclaration
declaration_in initial ms = state_from initial (required as_str (codes "name") ms) (required sort_in (codes "sort") ms) (get_member (codes "init") ms)

abbrev pub state_declared_in : Data → Option StateDeclaration
state_declared_in d = option_and_then (declaration_in initial_in) (as_object d)

abbrev pub private_state_in : Data → Option StateDeclaration
private_state_in d = option_and_then (declaration_in private_initial_in) (as_object d)

abbrev pub input_from : Option Name → Option Sort → Option InputDeclaration
input_from (Some n) (Some truth) = Some (record { input_name = n; sort = truth })
input_from (Some n) (Some (word w)) = Some (record { input_name = n; sort = word w })
input_from _ _ = None

-- an input: a truth value or a word
abbrev pub input_in : Data → Option InputDeclaration
input_in d = option_and_then (λ ms. input_from (required as_str (codes "name") ms) (required sort_in (codes "sort") ms)) (as_object d)

abbrev pub entry_named : Name → Option WrittenTerm → Option (Name × WrittenTerm)
entry_named n (Some e) = Some (n, e)
entry_named n None = None

-- a definition: the list of its name and its term
abbrev pub definition_in : Data → Option (Name × WrittenTerm)
definition_in (array (item (string n) (item e no_items))) = entry_named n (term_in e)
definition_in _ = None

-- ---- instructions and machines

-- an object from names to terms
abbrev pub entries_in : Members → Option (Entries WrittenTerm)
entries_in no_members = Some []
entries_in (member k d ms) = with_first (entry_named k (term_in d)) (entries_in ms)

abbrev pub update_in : Data → Option (Entries WrittenTerm)
update_in d = option_and_then entries_in (as_object d)

abbrev pub instruction_from : Option Name → Option WrittenTerm → Option (Entries WrittenTerm) → Option WrittenChild → Option WrittenInstruction
instruction_from (Some n) (Some e) (Some us) (Some c) = Some (instruction n e us c)
instruction_from _ _ _ _ = None

abbrev pub with_instruction : Option WrittenInstruction → Option WrittenInstructions → Option WrittenInstructions
with_instruction (Some i) (Some is) = Some (and_then i is)
with_instruction _ _ = None

abbrev pub machine_from : Option (List StateDeclaration) → Option (Option (Entries WrittenTerm)) → Option (Option WrittenTerm) → Option WrittenTerm → Option WrittenInstructions → Option WrittenMachine
machine_from (Some ss) (Some None) (Some f) (Some v) (Some is) = Some (machine ss [] f v is)
machine_from (Some ss) (Some (Some ds)) (Some f) (Some v) (Some is) = Some (machine ss ds f v is)
machine_from _ _ _ _ _ = None

-- A machine by its states, its other keys, and its instructions.
abbrev pub machine_in : (Data → Option StateDeclaration) → Members → Option WrittenInstructions → Option WrittenMachine
machine_in state ms is =
    machine_from (required (list_in state) (codes "states") ms) (optional (list_in definition_in) (codes "define") ms)
    (optional term_in (codes "fetch") ms) (required term_in (codes "valid") ms) is

abbrev pub child_from : Option ℕ → Option WrittenMachine → Option WrittenChild
child_from (Some n) (Some m) = Some (child n m)
child_from _ _ = None

abbrev mutual
  pub instruction_in : Data → Option WrittenInstruction
  instruction_in (object ms) =
      instruction_from (required as_str (codes "name") ms) (required term_in (codes "decode") ms) (required update_in (codes "update") ms) (child_under ms)
  instruction_in _ = None

  -- what stands under the key child, which may be absent
  pub child_under : Members → Option WrittenChild
  child_under no_members = Some no_child
  child_under (member k d ms) = cond (same_name k (codes "child")) (child_in d) (child_under ms)

  pub child_in : Data → Option WrittenChild
  child_in (object ms) = child_from (required unsigned_in (codes "steps") ms) (machine_in private_state_in ms (instructions_under ms))
  child_in _ = None

  -- what stands under the key instructions, which must be there
  pub instructions_under : Members → Option WrittenInstructions
  instructions_under no_members = None
  instructions_under (member k d ms) = cond (same_name k (codes "instructions")) (written_instructions_in d) (instructions_under ms)

  pub written_instructions_in : Data → Option WrittenInstructions
  written_instructions_in (array ds) = all_instructions ds
  written_instructions_in _ = None

  pub all_instructions : Items → Option WrittenInstructions
  all_instructions no_items = Some no_instructions
  all_instructions (item d ds) = with_instruction (instruction_in d) (all_instructions ds)

abbrev pub model_from : Option Name → Option (List InputDeclaration) → Option WrittenMachine → Option WrittenModel
model_from (Some n) (Some is) (Some m) = Some (record { model_name = n; inputs = is; top = m })
model_from _ _ _ = None

-- The written model that data has the shape of.
abbrev pub model_in : Data → Option WrittenModel
model_in (object ms) =
    model_from (required as_str (codes "name") ms) (required (list_in input_in) (codes "inputs") ms) (machine_in state_declared_in ms (instructions_under ms))
model_in _ = None
