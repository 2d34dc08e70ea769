-- The text of a trace is its data as compact JSON, in ASCII, where the names are plain.
use Rattle.std.proofs.Common.{◌≡◌, ◌∙◌, ℕ, suc, ◌<◌, ◌≤◌, Bool, true, false, not, ◌&&◌, List, [], ◌∷◌, ◌++◌, refl, sym, ap, append_assoc, arith}
use Rattle.std.specs.Prelude.{◌==◌, nat_le, nat_lt, codes, Contains}
use Rattle.std.specs.Str.{is_utf8}
use Rattle.std.proofs.lemmas.Bool.{and_parts, and_from, eq-eqb, leb-true, lt-ltb, not-true, true≢false}
use Rattle.std.proofs.lemmas.Str.{is_utf8-from_IsUtf8}
use Rattle.json.specs.Print.{escape_byte, escape, quoted as json_quoted}
use Rattle.json.proofs.Printed.Strings.{escape_byte_plain}
use Rattle.json.proofs.Printed.Utf8.{are_ascii, IsUtf8-are_ascii}
use Rattle.serde_json.specs.Data.{Data, string, array, object}
use Rattle.serde_json.specs.Written.{comma_if, compact_text, items_text, members_text}
use Rattle.wb_values.specs.Value.{Name, Value, truth_value, number, words, numeral_of, Entries}
use Rattle.verilog_meaning.specs.Settled.{names_of}
use Rattle.reports.specs.Report.{Trace, quoted, hexadecimal, with_commas, in_brackets, in_braces, number_texts, value_text, member_text, member_texts, object_text, object_texts, trace_text}
use Rattle.printed_traces.specs.Printed.{is_plain_byte, is_plain_name, are_plain_names, HasPlainNames}
use Rattle.printed_traces.proofs.Data.{number_items, value_data, entry_members, cycle_items, data_of}
use Rattle.printed_traces.proofs.Digits.{hexadecimal_plain}

-- ---- plain names are written as they are

record IsPlainCode (b : ℕ) : Type 0 where
  low : 32 ≤ b
  high : b ≤ 126
  quote : b ≡ 34 → ⊥
  slash : b ≡ 92 → ⊥

plain_code : (b : ℕ) → is_plain_byte b ≡ true → IsPlainCode b
plain_code b h =
    let p = and_parts (nat_le 32 b && nat_le b 126) (not (b == 34) && not (b == 92)) h in
    let q = and_parts (nat_le 32 b) (nat_le b 126) p.0 in
    let r = and_parts (not (b == 34)) (not (b == 92)) p.1 in
    record {
      low = leb-true 32 b q.0;
      high = leb-true b 126 q.1;
      quote = λ e. true≢false (sym (eq-eqb b 34 e) ∙ not-true (b == 34) r.0);
      slash = λ e. true≢false (sym (eq-eqb b 92 e) ∙ not-true (b == 92) r.1);
    }

escape_plain : (n : Name) → is_plain_name n ≡ true → escape n ≡ n
escape_plain [] h = refl
escape_plain (b ∷ n) h =
    let p = and_parts (is_plain_byte b) (is_plain_name n) h in
    let c = plain_code b p.0 in
    let first : escape_byte b ≡ b ∷ [] = escape_byte_plain b c.quote c.slash c.low in
    let rest = escape_plain n p.1 in
    λ i. first i ++ rest i

pub quoted_plain : (n : Name) → is_plain_name n ≡ true → json_quoted n ≡ quoted n
quoted_plain n h = ap (λ text. 34 ∷ (text ++ 34 ∷ [])) (escape_plain n h)

-- ---- texts with commas between them

-- the texts, each with a comma before it where something stands before, and a closing bracket
abbrev closed : ℕ → Bool → List (List ℕ) → List ℕ
closed c later [] = c ∷ []
closed c later (text ∷ texts) = comma_if later ++ (text ++ closed c true texts)

after_first : (c : ℕ) (text : List ℕ) (texts : List (List ℕ)) → with_commas (text ∷ texts) ++ c ∷ [] ≡ text ++ closed c true texts
after_first c text [] = refl
after_first c text (next ∷ texts) = append_assoc text (44 ∷ with_commas (next ∷ texts)) (c ∷ []) ∙ ap (λ rest. text ++ 44 ∷ rest) (after_first c next texts)

commas : (c : ℕ) (texts : List (List ℕ)) → with_commas texts ++ c ∷ [] ≡ closed c false texts
commas c [] = refl
commas c (text ∷ texts) = after_first c text texts

-- ---- values

numbers_written : (later : Bool) (xs : List ℕ) → items_text later (number_items xs) ≡ closed 93 later (number_texts xs)
numbers_written later [] = refl
numbers_written later (x ∷ xs) =
    let first = quoted_plain (hexadecimal x) (hexadecimal_plain x) in
    let rest = numbers_written true xs in
    λ i. comma_if later ++ (first i ++ rest i)

value_written : (x : Value) → compact_text (value_data x) ≡ value_text x
value_written (truth_value b) = quoted_plain (hexadecimal (numeral_of (truth_value b))) (hexadecimal_plain (numeral_of (truth_value b)))
value_written (number x) = quoted_plain (hexadecimal x) (hexadecimal_plain x)
value_written (words xs) = ap (λ text. 91 ∷ text) (numbers_written false xs ∙ sym (commas 93 (number_texts xs)))

-- ---- members

member_written : (later : Bool) (n : Name) (text rest more : List ℕ) (d : Data) → is_plain_name n ≡ true → compact_text d ≡ text → rest ≡ more
    → comma_if later ++ (json_quoted n ++ 58 ∷ (compact_text d ++ rest)) ≡ comma_if later ++ (member_text n text ++ more)
member_written later n text rest more d plain written same =
    (λ i. comma_if later ++ (quoted_plain n plain i ++ 58 ∷ (written i ++ same i)))
    ∙ ap (λ all. comma_if later ++ all) (sym (append_assoc (quoted n) (58 ∷ text) more))

members_written : (later : Bool) (es : Entries Value) → are_plain_names (names_of es) ≡ true → members_text later (entry_members es) ≡ closed 125 later (member_texts es)
members_written later [] h = refl
members_written later (e ∷ es) h =
    let p = and_parts (is_plain_name e.0) (are_plain_names (names_of es)) h in
    member_written later e.0 (value_text e.1) (members_text true (entry_members es)) (closed 125 true (member_texts es)) (value_data e.1)
    p.0 (value_written e.1) (members_written true es p.1)

object_written : (es : Entries Value) → are_plain_names (names_of es) ≡ true → compact_text (object (entry_members es)) ≡ object_text es
object_written es h = ap (λ text. 123 ∷ text) (members_written false es h ∙ sym (commas 125 (member_texts es)))

abbrev AllPlain : List (Entries Value) → Type 0
AllPlain cycles = (es : Entries Value) → Contains cycles es → are_plain_names (names_of es) ≡ true

first_plain : (es : Entries Value) (cycles : List (Entries Value)) → AllPlain (es ∷ cycles) → are_plain_names (names_of es) ≡ true
first_plain es cycles h = h es (0, omega arith, refl)

rest_plain : (es : Entries Value) (cycles : List (Entries Value)) → AllPlain (es ∷ cycles) → AllPlain cycles
rest_plain es cycles h = λ fs c. h fs (suc c.0, omega (arith, c.1), c.2)

cycles_written : (later : Bool) (cycles : List (Entries Value)) → AllPlain cycles → items_text later (cycle_items cycles) ≡ closed 93 later (object_texts cycles)
cycles_written later [] h = refl
cycles_written later (es ∷ cycles) h =
    let first = object_written es (first_plain es cycles h) in
    let rest = cycles_written true cycles (rest_plain es cycles h) in
    λ i. comma_if later ++ (first i ++ rest i)

-- The text of a trace is its data as JSON.
pub text_written : (t : Trace) → HasPlainNames t → compact_text (data_of t) ≡ trace_text t
text_written t plain =
    ap (λ text. 123 ∷ text)
    (member_written false (codes "inputs") (in_brackets (object_texts t.inputs)) _ _ (array (cycle_items t.inputs)) refl
    (ap (λ text. 91 ∷ text) (cycles_written false t.inputs plain.inputs ∙ sym (commas 93 (object_texts t.inputs))))
    (member_written true (codes "obligation") (quoted t.obligation) _ _ (string t.obligation) refl (quoted_plain t.obligation plain.obligation)
    (member_written true (codes "registers") (object_text t.registers) _ _ (object (entry_members t.registers)) refl (object_written t.registers plain.registers) refl))
    ∙ sym
    (commas 125
    (member_text (codes "inputs") (in_brackets (object_texts t.inputs))
    ∷ member_text (codes "obligation") (quoted t.obligation) ∷ member_text (codes "registers") (object_text t.registers) ∷ [])))

-- ---- it is ASCII

plain_ascii : (n : Name) → is_plain_name n ≡ true → are_ascii n ≡ true
plain_ascii [] h = refl
plain_ascii (b ∷ n) h =
    let p = and_parts (is_plain_byte b) (is_plain_name n) h in
    let small : b < 128 = omega (arith, (plain_code b p.0).high) in
    and_from (nat_lt b 128) (are_ascii n) (lt-ltb b 128 small) (plain_ascii n p.1)

both_ascii : (xs ys : List ℕ) → are_ascii xs ≡ true → are_ascii ys ≡ true → are_ascii (xs ++ ys) ≡ true
both_ascii [] ys h k = k
both_ascii (x ∷ xs) ys h k =
    let p = and_parts (nat_lt x 128) (are_ascii xs) h in
    and_from (nat_lt x 128) (are_ascii (xs ++ ys)) p.0 (both_ascii xs ys p.1 k)

quoted_ascii : (text : List ℕ) → are_ascii text ≡ true → are_ascii (quoted text) ≡ true
quoted_ascii text h = both_ascii text (34 ∷ []) h refl

abbrev AllAscii : List (List ℕ) → Type 0
AllAscii [] = Unit {0}
AllAscii (text ∷ texts) = (are_ascii text ≡ true) × AllAscii texts

commas_ascii : (texts : List (List ℕ)) → AllAscii texts → are_ascii (with_commas texts) ≡ true
commas_ascii [] h = refl
commas_ascii (text ∷ []) h = h.0
commas_ascii (text ∷ next ∷ texts) h = both_ascii text (44 ∷ with_commas (next ∷ texts)) h.0 (commas_ascii (next ∷ texts) h.1)

brackets_ascii : (texts : List (List ℕ)) → AllAscii texts → are_ascii (in_brackets texts) ≡ true
brackets_ascii texts h = both_ascii (with_commas texts) (93 ∷ []) (commas_ascii texts h) refl

braces_ascii : (texts : List (List ℕ)) → AllAscii texts → are_ascii (in_braces texts) ≡ true
braces_ascii texts h = both_ascii (with_commas texts) (125 ∷ []) (commas_ascii texts h) refl

hexadecimal_ascii : (x : ℕ) → are_ascii (quoted (hexadecimal x)) ≡ true
hexadecimal_ascii x = quoted_ascii (hexadecimal x) (plain_ascii (hexadecimal x) (hexadecimal_plain x))

numbers_ascii : (xs : List ℕ) → AllAscii (number_texts xs)
numbers_ascii [] = tt
numbers_ascii (x ∷ xs) = (hexadecimal_ascii x, numbers_ascii xs)

value_ascii : (x : Value) → are_ascii (value_text x) ≡ true
value_ascii (truth_value b) = hexadecimal_ascii (numeral_of (truth_value b))
value_ascii (number x) = hexadecimal_ascii x
value_ascii (words xs) = brackets_ascii (number_texts xs) (numbers_ascii xs)

member_ascii : (n : Name) (text : List ℕ) → is_plain_name n ≡ true → are_ascii text ≡ true → are_ascii (member_text n text) ≡ true
member_ascii n text h k = both_ascii (quoted n) (58 ∷ text) (quoted_ascii n (plain_ascii n h)) k

members_ascii : (es : Entries Value) → are_plain_names (names_of es) ≡ true → AllAscii (member_texts es)
members_ascii [] h = tt
members_ascii (e ∷ es) h =
    let p = and_parts (is_plain_name e.0) (are_plain_names (names_of es)) h in
    (member_ascii e.0 (value_text e.1) p.0 (value_ascii e.1), members_ascii es p.1)

object_ascii : (es : Entries Value) → are_plain_names (names_of es) ≡ true → are_ascii (object_text es) ≡ true
object_ascii es h = braces_ascii (member_texts es) (members_ascii es h)

objects_ascii : (cycles : List (Entries Value)) → AllPlain cycles → AllAscii (object_texts cycles)
objects_ascii [] h = tt
objects_ascii (es ∷ cycles) h = (object_ascii es (first_plain es cycles h), objects_ascii cycles (rest_plain es cycles h))

trace_ascii : (t : Trace) → HasPlainNames t → are_ascii (trace_text t) ≡ true
trace_ascii t plain =
    braces_ascii
    (member_text (codes "inputs") (in_brackets (object_texts t.inputs))
    ∷ member_text (codes "obligation") (quoted t.obligation) ∷ member_text (codes "registers") (object_text t.registers) ∷ []) (
      member_ascii (codes "inputs") (in_brackets (object_texts t.inputs)) refl (brackets_ascii (object_texts t.inputs) (objects_ascii t.inputs plain.inputs)),
      (
        member_ascii (codes "obligation") (quoted t.obligation) refl (quoted_ascii t.obligation (plain_ascii t.obligation plain.obligation)),
        (member_ascii (codes "registers") (object_text t.registers) refl (object_ascii t.registers plain.registers), tt),
      ),
    )

pub text_utf8 : (t : Trace) → HasPlainNames t → is_utf8 (trace_text t) ≡ true
text_utf8 t plain = is_utf8-from_IsUtf8 (trace_text t) (IsUtf8-are_ascii (trace_text t) (trace_ascii t plain))
