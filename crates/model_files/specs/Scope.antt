-- What is visible in a model file, and where: the terms of a file with the names that each may use.
use Rattle.std.specs.Prelude.{ℕ, false, List, [], ◌∷◌, ◌++◌, Option, Some, None, option_and_then, codes}
use Rattle.wb_values.specs.Value.{Name, Sort, truth, word, Entries, entry_of}
use Rattle.model_meaning.specs.Term as terms
use Rattle.wb_values.specs.Choice.{some_if}
use Rattle.model_meaning.specs.Term.{Term, is_sort, is_width, bits_sort, same_bits_sort, word_sort, same_word_sort, compared, concat_sort, extract_sort, extended_sort, ite_sort, load_sort, store_sort}
use Rattle.model_meaning.specs.Model.{StateDeclaration, InputDeclaration, state_named}
use Rattle.model_files.specs.Written.{UnaryForm, not, neg, BinaryForm, and, or, xor, add, sub, mul, shl, lshr, ashr, eq, ult, ule, slt, sle, concat, load, Widening, zext, sext, WrittenTerm, name, constant_truth, const, unary, binary, extract, widen, ite, store, WrittenMachine, machine, WrittenInstruction, instruction, WrittenInstructions, no_instructions, and_then, WrittenChild, no_child, child, WrittenModel}

-- What a visible name stands for: a term, with definitions put in, and its sort where it has one.
pub record Visible : Type 0 where
  pub term : Term
  pub sort : Option Sort

abbrev pub unary_term : UnaryForm → Term → Term
unary_term not x = terms.not x
unary_term neg x = terms.neg x

abbrev pub binary_term : BinaryForm → Term → Term → Term
binary_term and x y = terms.and x y
binary_term or x y = terms.or x y
binary_term xor x y = terms.xor x y
binary_term add x y = terms.add x y
binary_term sub x y = terms.sub x y
binary_term mul x y = terms.mul x y
binary_term shl x y = terms.shl x y
binary_term lshr x y = terms.lshr x y
binary_term ashr x y = terms.ashr x y
binary_term eq x y = terms.eq x y
binary_term ult x y = terms.ult x y
binary_term ule x y = terms.ule x y
binary_term slt x y = terms.slt x y
binary_term sle x y = terms.sle x y
binary_term concat x y = terms.concat x y
binary_term load x y = terms.load x y

abbrev pub widened_term : Widening → ℕ → Term → Term
widened_term zext n x = terms.zext n x
widened_term sext n x = terms.sext n x

-- the term of a visible name; no rule but the one on unknown names looks at what an unknown one stands for
abbrev pub term_named : Option Visible → Term
term_named (Some v) = v.term
term_named None = terms.constant_truth false

-- The term that a written one stands for, with definitions put in.
abbrev pub term_of : Entries Visible → WrittenTerm → Term
term_of names (name n) = term_named (entry_of names n)
term_of names (constant_truth b) = terms.constant_truth b
term_of names (const w x) = terms.const w x
term_of names (unary op x) = unary_term op (term_of names x)
term_of names (binary op x y) = binary_term op (term_of names x) (term_of names y)
term_of names (extract h l x) = terms.extract h l (term_of names x)
term_of names (widen z n x) = widened_term z n (term_of names x)
term_of names (ite c x y) = terms.ite (term_of names c) (term_of names x) (term_of names y)
term_of names (store m i x) = terms.store (term_of names m) (term_of names i) (term_of names x)

abbrev pub unary_sort : UnaryForm → Option Sort → Option Sort
unary_sort not x = bits_sort x
unary_sort neg x = word_sort x

abbrev pub binary_sort : BinaryForm → Option Sort → Option Sort → Option Sort
binary_sort and x y = same_bits_sort x y
binary_sort or x y = same_bits_sort x y
binary_sort xor x y = same_bits_sort x y
binary_sort add x y = same_word_sort x y
binary_sort sub x y = same_word_sort x y
binary_sort mul x y = same_word_sort x y
binary_sort shl x y = same_word_sort x y
binary_sort lshr x y = same_word_sort x y
binary_sort ashr x y = same_word_sort x y
binary_sort eq x y = compared (same_bits_sort x y)
binary_sort ult x y = compared (same_word_sort x y)
binary_sort ule x y = compared (same_word_sort x y)
binary_sort slt x y = compared (same_word_sort x y)
binary_sort sle x y = compared (same_word_sort x y)
binary_sort concat x y = concat_sort x y
binary_sort load x y = load_sort x y

-- The sort of a written term, where it has one. A constant has the sort of its stated width, whether its number fits or not.
abbrev pub written_sort : Entries Visible → WrittenTerm → Option Sort
written_sort names (name n) = option_and_then (λ v. v.sort) (entry_of names n)
written_sort names (constant_truth b) = Some truth
written_sort names (const w x) = some_if (is_width w) (word w)
written_sort names (unary op x) = unary_sort op (written_sort names x)
written_sort names (binary op x y) = binary_sort op (written_sort names x) (written_sort names y)
written_sort names (extract h l x) = extract_sort h l (written_sort names x)
written_sort names (widen z n x) = extended_sort n (written_sort names x)
written_sort names (ite c x y) = ite_sort (written_sort names c) (written_sort names x) (written_sort names y)
written_sort names (store m i x) = store_sort (written_sort names m) (written_sort names i) (written_sort names x)

abbrev pub declared : Name → Sort → Visible
declared n s = record { term = terms.name n s; sort = some_if (is_sort s) s }

abbrev pub defined : Entries Visible → WrittenTerm → Visible
defined names e = record { term = term_of names e; sort = written_sort names e }

-- What stands around a machine: the visible names, and the states that an update may set, the outermost first.
pub record MachineScope : Type 0 where
  pub names : Entries Visible
  pub states : List StateDeclaration

abbrev pub with_inputs : Entries Visible → List InputDeclaration → Entries Visible
with_inputs names [] = names
with_inputs names (i ∷ is) = with_inputs ((i.input_name, declared i.input_name i.sort) ∷ names) is

abbrev pub with_states : Entries Visible → List StateDeclaration → Entries Visible
with_states names [] = names
with_states names (s ∷ ss) = with_states ((s.state_name, declared s.state_name s.sort) ∷ names) ss

-- Each definition sees those before it.
abbrev pub with_definitions : Entries Visible → Entries WrittenTerm → Entries Visible
with_definitions names [] = names
with_definitions names (d ∷ ds) = with_definitions ((d.0, defined names d.1) ∷ names) ds

abbrev pub with_fetch : Entries Visible → Option WrittenTerm → Entries Visible
with_fetch names None = names
with_fetch names (Some e) = (codes "fetch", defined names e) ∷ names

-- Where a term stands, and so which sort it must have: a definition any; fetch a truth value or a word; valid and decode
-- conditions a truth value; an update that of its state, if it names one.
pub data TermPlace : Type 0 where
  of_definition : TermPlace
  of_fetch : TermPlace
  of_condition : TermPlace
  of_update : (called : Name) → (state : Option StateDeclaration) → TermPlace

-- A term of the file with what is visible there.
pub record PlacedTerm : Type 0 where
  pub names : Entries Visible
  pub written : WrittenTerm
  pub place : TermPlace

abbrev pub placed : Entries Visible → WrittenTerm → TermPlace → PlacedTerm
placed ns e p = record { names = ns; written = e; place = p }

abbrev pub placed_definitions : Entries Visible → Entries WrittenTerm → List PlacedTerm
placed_definitions names [] = []
placed_definitions names (d ∷ ds) = placed names d.1 of_definition ∷ placed_definitions ((d.0, defined names d.1) ∷ names) ds

abbrev pub placed_fetch : Entries Visible → Option WrittenTerm → List PlacedTerm
placed_fetch names None = []
placed_fetch names (Some e) = placed names e of_fetch ∷ []

abbrev pub placed_updates : Entries Visible → List StateDeclaration → Entries WrittenTerm → List PlacedTerm
placed_updates names states [] = []
placed_updates names states (u ∷ us) = placed names u.1 (of_update u.0 (state_named states u.0)) ∷ placed_updates names states us

-- What a child program of a machine stands in: the machine's scope with its states and definitions, without its fetch.
abbrev pub scope_within : MachineScope → List StateDeclaration → Entries WrittenTerm → MachineScope
scope_within around ss ds = record { names = with_definitions (with_states around.names ss) ds; states = around.states ++ ss }

abbrev mutual
  -- The terms of a machine and of the child programs in it, in the order of the file. Its valid and decode conditions and its
  -- updates see its fetch besides.
  pub terms_in : MachineScope → WrittenMachine → List PlacedTerm
  terms_in around (machine ss ds fetch valid is) =
      let inner : MachineScope = scope_within around ss ds in
      placed_definitions (with_states around.names ss) ds ++ (placed_fetch inner.names fetch
      ++ (placed (with_fetch inner.names fetch) valid of_condition ∷ terms_below inner (with_fetch inner.names fetch) is))

  pub terms_below : MachineScope → Entries Visible → WrittenInstructions → List PlacedTerm
  terms_below inner names no_instructions = []
  terms_below inner names (and_then i is) = terms_of_instruction inner names i ++ terms_below inner names is

  pub terms_of_instruction : MachineScope → Entries Visible → WrittenInstruction → List PlacedTerm
  terms_of_instruction inner names (instruction called decode update program) =
      placed names decode of_condition ∷ (placed_updates names inner.states update ++ terms_of_child inner program)

  pub terms_of_child : MachineScope → WrittenChild → List PlacedTerm
  terms_of_child inner no_child = []
  terms_of_child inner (child steps program) = terms_in inner program

-- what stands around the top: the inputs
abbrev pub outermost : WrittenModel → MachineScope
outermost m = record { names = with_inputs [] m.inputs; states = [] }

-- every term of a file
abbrev pub all_terms : WrittenModel → List PlacedTerm
all_terms m = terms_in (outermost m) m.top
