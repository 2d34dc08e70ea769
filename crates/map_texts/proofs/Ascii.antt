-- The text of a written map is ASCII, and so UTF-8.
use Rattle.std.proofs.Common.{◌≡◌, ℕ, ◌+◌, ◌<◌, ◌^◌, ◌%◌, true, List, [], ◌∷◌, ◌++◌, map, refl, arith}
use Rattle.std.specs.Prelude.{nat_lt, codes, decimal}
use Rattle.std.specs.Str.{is_utf8}
use Rattle.std.proofs.lemmas.Bool.{and_parts, and_from, lt-ltb}
use Rattle.std.proofs.lemmas.Fmt.{decimal_by_steps}
use Rattle.std.proofs.lemmas.Str.{is_utf8-from_IsUtf8}
use Rattle.json.proofs.Printed.Utf8.{are_ascii, IsUtf8-are_ascii}
use Rattle.wb_values.specs.Value.{Name, Entries}
use Rattle.map_files.specs.Written.{Text, InstructionEntry, WrittenMap}
use Rattle.reports.specs.Report.{quoted, with_commas, in_brackets, in_braces, member_text}
use Rattle.emitted_designs.specs.Map.{text_members, entry_text, map_text}
use Rattle.map_texts.specs.Readable.{is_bare_byte, is_bare, AreBare, HasBareEntries, HasBareInstructions, IsReadable}
use Rattle.map_texts.proofs.Texts.{bare_code, map_members, reset_text}

bare_ascii : (n : List ℕ) → is_bare n ≡ true → are_ascii n ≡ true
bare_ascii [] h = refl
bare_ascii (b ∷ n) h =
    let p = and_parts (is_bare_byte b) (is_bare n) h in
    let small : b < 128 = omega (arith, (bare_code b p.0).high) in
    and_from (nat_lt b 128) (are_ascii n) (lt-ltb b 128 small) (bare_ascii n p.1)

both_ascii : (xs ys : List ℕ) → are_ascii xs ≡ true → are_ascii ys ≡ true → are_ascii (xs ++ ys) ≡ true
both_ascii [] ys h k = k
both_ascii (x ∷ xs) ys h k =
    let p = and_parts (nat_lt x 128) (are_ascii xs) h in
    and_from (nat_lt x 128) (are_ascii (xs ++ ys)) p.0 (both_ascii xs ys p.1 k)

one_ascii : (x : ℕ) → x < 128 → are_ascii (x ∷ []) ≡ true
one_ascii x h = and_from (nat_lt x 128) true (lt-ltb x 128 h) refl

decimal_ascii : (n : ℕ) → n < 2 ^ 64 → are_ascii (decimal n) ≡ true
decimal_ascii n h =
    decimal_by_steps (λ n ds. are_ascii ds ≡ true) (λ n small. one_ascii (48 + n) (omega (arith, small)))
    (λ n ds big is. both_ascii ds ((48 + n % 10) ∷ []) is (one_ascii (48 + n % 10) (omega arith))) n h

quoted_ascii : (text : List ℕ) → is_bare text ≡ true → are_ascii (quoted text) ≡ true
quoted_ascii text h = both_ascii text (34 ∷ []) (bare_ascii text h) refl

abbrev AllAscii : List (List ℕ) → Type 0
AllAscii [] = Unit {0}
AllAscii (text ∷ texts) = (are_ascii text ≡ true) × AllAscii texts

commas_ascii : (texts : List (List ℕ)) → AllAscii texts → are_ascii (with_commas texts) ≡ true
commas_ascii [] h = refl
commas_ascii (text ∷ []) h = h.0
commas_ascii (text ∷ next ∷ texts) h = both_ascii text (44 ∷ with_commas (next ∷ texts)) h.0 (commas_ascii (next ∷ texts) h.1)

brackets_ascii : (texts : List (List ℕ)) → AllAscii texts → are_ascii (in_brackets texts) ≡ true
brackets_ascii texts h = both_ascii (with_commas texts) (93 ∷ []) (commas_ascii texts h) refl

braces_ascii : (texts : List (List ℕ)) → AllAscii texts → are_ascii (in_braces texts) ≡ true
braces_ascii texts h = both_ascii (with_commas texts) (125 ∷ []) (commas_ascii texts h) refl

member_ascii : (n : Name) (text : List ℕ) → is_bare n ≡ true → are_ascii text ≡ true → are_ascii (member_text n text) ≡ true
member_ascii n text h k = both_ascii (quoted n) (58 ∷ text) (quoted_ascii n h) k

texts_ascii : (ts : List Text) → AreBare ts → AllAscii (map quoted ts)
texts_ascii [] h = tt
texts_ascii (t ∷ ts) h = (quoted_ascii t h.0, texts_ascii ts h.1)

members_ascii : (es : Entries Text) → HasBareEntries es → AllAscii (text_members es)
members_ascii [] h = tt
members_ascii (e ∷ es) h = (member_ascii e.0 (quoted e.1) h.0 (quoted_ascii e.1 h.1), members_ascii es h.2)

entry_ascii : (i : InstructionEntry) → is_bare i.called ≡ true → is_bare i.commit ≡ true → i.bound < 2 ^ 64 → are_ascii (entry_text i) ≡ true
entry_ascii i called commit small =
    braces_ascii
    (member_text (codes "bound") (decimal i.bound) ∷ member_text (codes "commit") (quoted i.commit) ∷ member_text (codes "name") (quoted i.called) ∷ []) (
      member_ascii (codes "bound") (decimal i.bound) refl (decimal_ascii i.bound small),
      (
        member_ascii (codes "commit") (quoted i.commit) refl (quoted_ascii i.commit commit),
        (member_ascii (codes "name") (quoted i.called) refl (quoted_ascii i.called called), tt),
      ),
    )

entries_ascii : (is : List InstructionEntry) → HasBareInstructions is → AllAscii (map entry_text is)
entries_ascii [] h = tt
entries_ascii (j ∷ js) h = (entry_ascii j h.0 h.1 h.2, entries_ascii js h.3)

one_small : 1 < 2 ^ 64
one_small = omega arith

map_ascii : (w : WrittenMap) → IsReadable w → are_ascii (map_text w) ≡ true
map_ascii w h =
    let active : w.reset.active < 2 ^ 64 = omega (arith, h.active) in
    let reset =
    braces_ascii
    (member_text (codes "active") (decimal w.reset.active) ∷ member_text (codes "cycles") (decimal w.reset.cycles)
    ∷ member_text (codes "signal") (quoted w.reset.signal) ∷ []) (
      member_ascii (codes "active") (decimal w.reset.active) refl (decimal_ascii w.reset.active active),
      (
        member_ascii (codes "cycles") (decimal w.reset.cycles) refl (decimal_ascii w.reset.cycles h.cycles),
        (member_ascii (codes "signal") (quoted w.reset.signal) refl (quoted_ascii w.reset.signal h.signal), tt),
      ),
    ) in
    braces_ascii (map_members w) (
      member_ascii (codes "assume") (in_brackets (map quoted w.assume)) refl (brackets_ascii (map quoted w.assume) (texts_ascii w.assume h.assume)),
      (
        member_ascii (codes "clock") (quoted w.clock) refl (quoted_ascii w.clock h.clock),
        (
          member_ascii (codes "inputs") (in_braces (text_members w.inputs)) refl (braces_ascii (text_members w.inputs) (members_ascii w.inputs h.inputs)),
          (
            member_ascii (codes "instructions") (in_brackets (map entry_text w.instructions)) refl (brackets_ascii (map entry_text w.instructions) (entries_ascii w.instructions h.instructions)),
            (
              member_ascii (codes "invariants") (in_brackets (map quoted w.invariants)) refl (brackets_ascii (map quoted w.invariants) (texts_ascii w.invariants h.invariants)),
              (
                member_ascii (codes "reset") (reset_text w.reset) refl reset,
                (
                  member_ascii (codes "start") (quoted w.start) refl (quoted_ascii w.start h.start),
                  (
                    member_ascii (codes "states") (in_braces (text_members w.states)) refl (braces_ascii (text_members w.states) (members_ascii w.states h.states)),
                    (
                      member_ascii (codes "top") (quoted w.top) refl (quoted_ascii w.top h.top),
                      (member_ascii (codes "version") (decimal 1) refl (decimal_ascii 1 one_small), tt),
                    ),
                  ),
                ),
              ),
            ),
          ),
        ),
      ),
    )

pub text_utf8 : (w : WrittenMap) → IsReadable w → is_utf8 (map_text w ++ 10 ∷ []) ≡ true
text_utf8 w h =
    is_utf8-from_IsUtf8 (map_text w ++ 10 ∷ []) (IsUtf8-are_ascii (map_text w ++ 10 ∷ []) (both_ascii (map_text w) (10 ∷ []) (map_ascii w h) refl))
