-- The compact text of a written map's data is the text of the map, in ASCII, where its texts are bare.
use Rattle.std.proofs.Common.{◌≡◌, ◌∙◌, ℕ, ◌≤◌, Bool, true, false, not, ◌&&◌, List, [], ◌∷◌, ◌++◌, map, refl, sym, ap, append_assoc}
use Rattle.std.specs.Prelude.{◌==◌, nat_le, codes, decimal}
use Rattle.std.proofs.lemmas.Bool.{and_parts, eq-eqb, leb-true, not-true, true≢false}
use Rattle.json.specs.Print.{escape_byte, escape, quoted as json_quoted}
use Rattle.json.proofs.Printed.Strings.{escape_byte_plain}
use Rattle.serde_json.specs.Data.{unsigned, Data, number, string, array, object}
use Rattle.serde_json.specs.Written.{comma_if, compact_text, items_text, members_text}
use Rattle.wb_values.specs.Value.{Name, Entries}
use Rattle.map_files.specs.Written.{Text, WrittenReset, InstructionEntry, WrittenMap}
use Rattle.reports.specs.Report.{quoted, with_commas, in_brackets, in_braces, member_text}
use Rattle.emitted_designs.specs.Map.{text_members, entry_text, map_text}
use Rattle.map_texts.specs.Readable.{is_bare_byte, is_bare, AreBare, HasBareEntries, HasBareInstructions, IsReadable}
use Rattle.map_texts.proofs.Data.{text_items, mapped_members, entry_data, entry_items, reset_data, data_of}

pub record IsBareCode (b : ℕ) : Type 0 where
  pub low : 32 ≤ b
  pub high : b ≤ 126
  pub quote : b ≡ 34 → ⊥
  pub slash : b ≡ 92 → ⊥

pub bare_code : (b : ℕ) → is_bare_byte b ≡ true → IsBareCode b
bare_code b h =
    let p = and_parts (nat_le 32 b && nat_le b 126) (not (b == 34) && not (b == 92)) h in
    let q = and_parts (nat_le 32 b) (nat_le b 126) p.0 in
    let r = and_parts (not (b == 34)) (not (b == 92)) p.1 in
    record {
      low = leb-true 32 b q.0;
      high = leb-true b 126 q.1;
      quote = λ e. true≢false (sym (eq-eqb b 34 e) ∙ not-true (b == 34) r.0);
      slash = λ e. true≢false (sym (eq-eqb b 92 e) ∙ not-true (b == 92) r.1);
    }

escape_bare : (n : List ℕ) → is_bare n ≡ true → escape n ≡ n
escape_bare [] h = refl
escape_bare (b ∷ n) h =
    let p = and_parts (is_bare_byte b) (is_bare n) h in
    let c = bare_code b p.0 in
    let first : escape_byte b ≡ b ∷ [] = escape_byte_plain b c.quote c.slash c.low in
    let rest = escape_bare n p.1 in
    λ i. first i ++ rest i

quoted_bare : (n : List ℕ) → is_bare n ≡ true → json_quoted n ≡ quoted n
quoted_bare n h = ap (λ text. 34 ∷ (text ++ 34 ∷ [])) (escape_bare n h)

-- ---- texts with commas between them

abbrev closed : ℕ → Bool → List (List ℕ) → List ℕ
closed c later [] = c ∷ []
closed c later (text ∷ texts) = comma_if later ++ (text ++ closed c true texts)

after_first : (c : ℕ) (text : List ℕ) (texts : List (List ℕ)) → with_commas (text ∷ texts) ++ c ∷ [] ≡ text ++ closed c true texts
after_first c text [] = refl
after_first c text (next ∷ texts) = append_assoc text (44 ∷ with_commas (next ∷ texts)) (c ∷ []) ∙ ap (λ rest. text ++ 44 ∷ rest) (after_first c next texts)

commas : (c : ℕ) (texts : List (List ℕ)) → with_commas texts ++ c ∷ [] ≡ closed c false texts
commas c [] = refl
commas c (text ∷ texts) = after_first c text texts

texts_written : (later : Bool) (ts : List Text) → AreBare ts → items_text later (text_items ts) ≡ closed 93 later (map quoted ts)
texts_written later [] h = refl
texts_written later (t ∷ ts) h =
    let first = quoted_bare t h.0 in
    let rest = texts_written true ts h.1 in
    λ i. comma_if later ++ (first i ++ rest i)

list_written : (ts : List Text) → AreBare ts → compact_text (array (text_items ts)) ≡ in_brackets (map quoted ts)
list_written ts h = ap (λ text. 91 ∷ text) (texts_written false ts h ∙ sym (commas 93 (map quoted ts)))

member_written : (later : Bool) (n : Name) (text rest more : List ℕ) (d : Data) → is_bare n ≡ true → compact_text d ≡ text → rest ≡ more
    → comma_if later ++ (json_quoted n ++ 58 ∷ (compact_text d ++ rest)) ≡ comma_if later ++ (member_text n text ++ more)
member_written later n text rest more d bare written same =
    (λ i. comma_if later ++ (quoted_bare n bare i ++ 58 ∷ (written i ++ same i)))
    ∙ ap (λ all. comma_if later ++ all) (sym (append_assoc (quoted n) (58 ∷ text) more))

members_written : (later : Bool) (es : Entries Text) → HasBareEntries es → members_text later (mapped_members es) ≡ closed 125 later (text_members es)
members_written later [] h = refl
members_written later (e ∷ es) h =
    member_written later e.0 (quoted e.1) (members_text true (mapped_members es)) (closed 125 true (text_members es)) (string e.1) h.0 (quoted_bare e.1 h.1)
    (members_written true es h.2)

object_written : (es : Entries Text) → HasBareEntries es → compact_text (object (mapped_members es)) ≡ in_braces (text_members es)
object_written es h = ap (λ text. 123 ∷ text) (members_written false es h ∙ sym (commas 125 (text_members es)))

entry_written : (i : InstructionEntry) → is_bare i.called ≡ true → is_bare i.commit ≡ true → compact_text (entry_data i) ≡ entry_text i
entry_written i called commit =
    ap (λ text. 123 ∷ text)
    (member_written false (codes "bound") (decimal i.bound) _ _ (number (unsigned i.bound)) refl refl
    (member_written true (codes "commit") (quoted i.commit) _ _ (string i.commit) refl (quoted_bare i.commit commit)
    (member_written true (codes "name") (quoted i.called) _ _ (string i.called) refl (quoted_bare i.called called) refl))
    ∙ sym
    (commas 125
    (member_text (codes "bound") (decimal i.bound) ∷ member_text (codes "commit") (quoted i.commit) ∷ member_text (codes "name") (quoted i.called) ∷ [])))

entries_written : (later : Bool) (is : List InstructionEntry) → HasBareInstructions is → items_text later (entry_items is) ≡ closed 93 later (map entry_text is)
entries_written later [] h = refl
entries_written later (j ∷ js) h =
    let first = entry_written j h.0 h.1 in
    let rest = entries_written true js h.3 in
    λ i. comma_if later ++ (first i ++ rest i)

instructions_written : (is : List InstructionEntry) → HasBareInstructions is → compact_text (array (entry_items is)) ≡ in_brackets (map entry_text is)
instructions_written is h = ap (λ text. 91 ∷ text) (entries_written false is h ∙ sym (commas 93 (map entry_text is)))

abbrev pub reset_text : WrittenReset → List ℕ
reset_text r =
    in_braces
    (member_text (codes "active") (decimal r.active) ∷ member_text (codes "cycles") (decimal r.cycles) ∷ member_text (codes "signal") (quoted r.signal) ∷ [])

reset_written : (r : WrittenReset) → is_bare r.signal ≡ true → compact_text (reset_data r) ≡ reset_text r
reset_written r signal =
    ap (λ text. 123 ∷ text)
    (member_written false (codes "active") (decimal r.active) _ _ (number (unsigned r.active)) refl refl
    (member_written true (codes "cycles") (decimal r.cycles) _ _ (number (unsigned r.cycles)) refl refl
    (member_written true (codes "signal") (quoted r.signal) _ _ (string r.signal) refl (quoted_bare r.signal signal) refl))
    ∙ sym
    (commas 125
    (member_text (codes "active") (decimal r.active) ∷ member_text (codes "cycles") (decimal r.cycles) ∷ member_text (codes "signal") (quoted r.signal) ∷ [])))

-- the members of a map's text
abbrev pub map_members : WrittenMap → List (List ℕ)
map_members w =
    member_text (codes "assume") (in_brackets (map quoted w.assume))
    ∷ member_text (codes "clock") (quoted w.clock)
    ∷ member_text (codes "inputs") (in_braces (text_members w.inputs))
    ∷ member_text (codes "instructions") (in_brackets (map entry_text w.instructions))
    ∷ member_text (codes "invariants") (in_brackets (map quoted w.invariants))
    ∷ member_text (codes "reset") (reset_text w.reset)
    ∷ member_text (codes "start") (quoted w.start)
    ∷ member_text (codes "states") (in_braces (text_members w.states))
    ∷ member_text (codes "top") (quoted w.top)
    ∷ member_text (codes "version") (decimal 1)
    ∷ []

pub text_written : (w : WrittenMap) → IsReadable w → compact_text (data_of w) ≡ map_text w
text_written w h =
    ap (λ text. 123 ∷ text)
    (member_written false (codes "assume") (in_brackets (map quoted w.assume)) _ _ (array (text_items w.assume)) refl (list_written w.assume h.assume)
    (member_written true (codes "clock") (quoted w.clock) _ _ (string w.clock) refl (quoted_bare w.clock h.clock)
    (member_written true (codes "inputs") (in_braces (text_members w.inputs)) _ _ (object (mapped_members w.inputs)) refl (object_written w.inputs h.inputs)
    (member_written true (codes "instructions") (in_brackets (map entry_text w.instructions)) _ _ (array (entry_items w.instructions)) refl
    (instructions_written w.instructions h.instructions)
    (member_written true (codes "invariants") (in_brackets (map quoted w.invariants)) _ _ (array (text_items w.invariants)) refl
    (list_written w.invariants h.invariants)
    (member_written true (codes "reset") (reset_text w.reset) _ _ (reset_data w.reset) refl (reset_written w.reset h.signal)
    (member_written true (codes "start") (quoted w.start) _ _ (string w.start) refl (quoted_bare w.start h.start)
    (member_written true (codes "states") (in_braces (text_members w.states)) _ _ (object (mapped_members w.states)) refl (object_written w.states h.states)
    (member_written true (codes "top") (quoted w.top) _ _ (string w.top) refl (quoted_bare w.top h.top)
    (member_written true (codes "version") (decimal 1) _ _ (number (unsigned 1)) refl refl refl)))))))))
    ∙ sym (commas 125 (map_members w)))
