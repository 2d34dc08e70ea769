-- What bytes say is one trace.
use Rattle.std.proofs.Common.{◌≡◌, ◌∙◌, ℕ, List, [], ◌∷◌, Option, Some, None, sym, ap, subst}
use Rattle.wb_values.specs.Value.{Name, Value, number, words, Entries}
use Rattle.serde_json.specs.Data.{Data, null, boolean, string, array, object, Items, no_items, item, Members, no_members, member}
use Rattle.serde_json.specs.Data as data_form
use Rattle.serde_json.specs.Find.{as_str, as_array, as_object}
use Rattle.reports.specs.Report.{Trace, hexadecimal}
use Rattle.trace_files.specs.Shape.{IsNumeral, AreNumerals, IsValueIn, of_number, of_words, AreEntriesIn, IsObjectOf, AreObjectsOf, IsShapeOf}
use Rattle.printed_traces.specs.Printed.{TracesAreReadOneWay}
use Rattle.printed_traces.proofs.Digits.{one_number}

some_same : {A : Type 0} (x y : A) → Some x ≡ Some y → x ≡ y
some_same x y e = cc

none_some : {A : Type 0} (x : A) → None ≡ Some x → ⊥
none_some x e = cc

-- what two equations say of one option
one_answer : {A : Type 0} (o : Option A) (x y : A) → o ≡ Some x → o ≡ Some y → x ≡ y
one_answer o x y e f = some_same x y (sym e ∙ f)

one_numeral : (d : Data) (x y : ℕ) → IsNumeral d x → IsNumeral d y → x ≡ y
one_numeral d x y h k = one_number x y h.0 k.0 (one_answer (as_str d) (hexadecimal x) (hexadecimal y) h.1 k.1)

one_list : (ds : Items) (xs ys : List ℕ) → AreNumerals ds xs → AreNumerals ds ys → xs ≡ ys
one_list no_items xs ys h k = h ∙ sym k
one_list (item d ds) [] ys h k = absurd h
one_list (item d ds) (x ∷ xs) [] h k = absurd k
one_list (item d ds) (x ∷ xs) (y ∷ ys) h k =
    let first = one_numeral d x y h.0 k.0 in
    let rest = one_list ds xs ys h.1 k.1 in
    λ i. first i ∷ rest i

-- a text is no list
text_or_list : (d : Data) (text : List ℕ) (ds : Items) → as_str d ≡ Some text → as_array d ≡ Some ds → ⊥
text_or_list null text ds e f = none_some text e
text_or_list (boolean b) text ds e f = none_some text e
text_or_list (data_form.number n) text ds e f = none_some text e
text_or_list (string s) text ds e f = none_some ds f
text_or_list (array es) text ds e f = none_some text e
text_or_list (object ms) text ds e f = none_some text e

one_value : (d : Data) (x y : Value) → IsValueIn d x → IsValueIn d y → x ≡ y
one_value d _ _ (of_number x h) (of_number y k) = ap number (one_numeral d x y h k)
one_value d _ _ (of_number x h) (of_words ds ys e k) = absurd (text_or_list d (hexadecimal x) ds h.1 e)
one_value d _ _ (of_words ds xs e h) (of_number y k) = absurd (text_or_list d (hexadecimal y) ds k.1 e)
one_value d _ _ (of_words ds xs e h) (of_words es ys f k) =
    ap words (one_list ds xs ys h (subst (λ (z : Items). AreNumerals z ys) (one_answer (as_array d) es ds f e) k))

one_entry : (a b : Name × Value) → a.0 ≡ b.0 → a.1 ≡ b.1 → a ≡ b
one_entry a b e f = λ i. (e i, f i)

one_object_body : (ms : Members) (es fs : Entries Value) → AreEntriesIn ms es → AreEntriesIn ms fs → es ≡ fs
one_object_body no_members es fs h k = h ∙ sym k
one_object_body (member n d ms) [] fs h k = absurd h
one_object_body (member n d ms) (e ∷ es) [] h k = absurd k
one_object_body (member n d ms) (e ∷ es) (f ∷ fs) h k =
    let first = one_entry e f (h.0 ∙ sym k.0) (one_value d e.1 f.1 h.1 k.1) in
    let rest = one_object_body ms es fs h.2 k.2 in
    λ i. first i ∷ rest i

one_object : (d : Data) (es fs : Entries Value) → IsObjectOf d es → IsObjectOf d fs → es ≡ fs
one_object d es fs h k =
    one_object_body h.0 es fs h.2 (subst (λ (ms : Members). AreEntriesIn ms fs) (one_answer (as_object d) k.0 h.0 k.1 h.1) k.2)

one_run : (ds : Items) (xs ys : List (Entries Value)) → AreObjectsOf ds xs → AreObjectsOf ds ys → xs ≡ ys
one_run no_items xs ys h k = h ∙ sym k
one_run (item d ds) [] ys h k = absurd h
one_run (item d ds) (x ∷ xs) [] h k = absurd k
one_run (item d ds) (x ∷ xs) (y ∷ ys) h k =
    let first = one_object d x y h.0 k.0 in
    let rest = one_run ds xs ys h.1 k.1 in
    λ i. first i ∷ rest i

one_trace : (d : Data) (t u : Trace) → IsShapeOf d t → IsShapeOf d u → t ≡ u
one_trace d t u h k =
    let name : h.name ≡ k.name = one_answer _ h.name k.name h.has_name k.has_name in
    let registers : h.registers ≡ k.registers = one_answer _ h.registers k.registers h.has_registers k.has_registers in
    let inputs : h.inputs ≡ k.inputs = one_answer _ h.inputs k.inputs h.has_inputs k.has_inputs in
    let cycles : h.cycles ≡ k.cycles = one_answer _ h.cycles k.cycles (ap as_array (sym inputs) ∙ h.are_cycles) k.are_cycles in
    let same_name : t.obligation ≡ u.obligation = one_answer _ t.obligation u.obligation (ap as_str (sym name) ∙ h.is_name) k.is_name in
    let same_registers : t.registers ≡ u.registers =
    one_object k.registers t.registers u.registers (subst (λ (e : Data). IsObjectOf e t.registers) registers h.are_registers) k.are_registers in
    let same_inputs : t.inputs ≡ u.inputs =
    one_run k.cycles t.inputs u.inputs (subst (λ (ds : Items). AreObjectsOf ds t.inputs) cycles h.are_inputs) k.are_inputs in
    λ i. record { obligation = same_name i; registers = same_registers i; inputs = same_inputs i }

pub read_one_way : TracesAreReadOneWay
read_one_way s bytes t u h k =
    one_trace k.data_in t u (subst (λ (d : Data). IsShapeOf d t) (one_answer _ h.data_in k.data_in h.is_document k.is_document) h.is_shape) k.is_shape
