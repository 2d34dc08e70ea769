-- The text of a written map says the map.
use Rattle.std.proofs.Common.{◌≡◌, ◌∙◌, ◌<◌, ◌≤◌, ◌^◌, true, List, [], ◌∷◌, ◌++◌, map, Some, None, cond, refl, sym, ap, arith}
use Rattle.std.proofs.lemmas.Bool.{and_parts}
use Rattle.serde_json.specs.Data.{string, object, Members, no_members, depth, items_depth, members_depth}
use Rattle.serde_json.specs.Read.{read, max_depth}
use Rattle.wb_values.specs.Value.{Name, Entries}
use Rattle.model_files.specs.Shape.{document}
use Rattle.map_files.specs.Written.{Text, WrittenReset, InstructionEntry, WrittenMap}
use Rattle.map_files.specs.Meaning.{says, refused_by, UnknownKey, judged_document, judged_shape}
use Rattle.reports.specs.Report.{is_before, is_in_order}
use Rattle.emitted_designs.specs.Map.{map_text}
use Rattle.map_texts.specs.Readable.{HasBareInstructions, IsReadable, MapTextsAreRead}
use Rattle.map_texts.proofs.Order.{less}
use Rattle.map_texts.proofs.Data.{text_items, mapped_members, entry_data, entry_items, reset_data, data_of}
use Rattle.map_texts.proofs.Shapes.{map_there, no_unknown_key}
use Rattle.map_texts.proofs.Texts.{text_written}
use Rattle.map_texts.proofs.Ascii.{text_utf8}
use Rattle.map_texts.proofs.Following.{AllBefore, with_last, before_last, Follows, IsWritten, AreWritten, AreMembersWritten, text_back}

texts_written : (ts : List Text) → AreWritten (text_items ts)
texts_written [] = tt
texts_written (t ∷ ts) = (tt, texts_written ts)

members_written : (es : Entries Text) → AreMembersWritten (mapped_members es)
members_written [] = tt
members_written (e ∷ es) = (tt, members_written es)

follow : (e : Name × Text) (es : Entries Text) (found : Members) → AllBefore e.0 found → is_in_order (map (λ f. f.0) (e ∷ es)) ≡ true
    → Follows found (mapped_members (e ∷ es))
follow e [] found h o = (h, tt)
follow e (f ∷ es) found h o =
    let p = and_parts (is_before e.0 f.0) (is_in_order (map (λ g. g.0) (f ∷ es))) o in
    (h, follow f es (with_last e.0 (string e.1) found) (before_last e.0 f.0 (string e.1) found h (less e.0 f.0 p.0)) p.1)

object_written : (es : Entries Text) → is_in_order (map (λ f. f.0) es) ≡ true → IsWritten (object (mapped_members es))
object_written [] o = (tt, tt)
object_written (e ∷ es) o = (follow e es no_members tt o, members_written (e ∷ es))

entry_written : (i : InstructionEntry) → i.bound < 2 ^ 64 → IsWritten (entry_data i)
entry_written i h = ((tt, ((refl, tt), ((refl, (refl, tt)), tt))), (h, (tt, (tt, tt))))

entries_written : (is : List InstructionEntry) → HasBareInstructions is → AreWritten (entry_items is)
entries_written [] h = tt
entries_written (j ∷ js) h = (entry_written j h.2, entries_written js h.3)

reset_written : (r : WrittenReset) → r.active < 2 ^ 64 → r.cycles < 2 ^ 64 → IsWritten (reset_data r)
reset_written r a c = ((tt, ((refl, tt), ((refl, (refl, tt)), tt))), (a, (c, (tt, tt))))

map_written : (w : WrittenMap) → IsReadable w → IsWritten (data_of w)
map_written w h =
    let active : w.reset.active < 2 ^ 64 = omega (arith, h.active) in
    let one : 1 < 2 ^ 64 = omega arith in (
      (
        tt,
        (
          (refl, tt),
          (
            (refl, (refl, tt)),
            (
              (refl, (refl, (refl, tt))),
              (
                (refl, (refl, (refl, (refl, tt)))),
                (
                  (refl, (refl, (refl, (refl, (refl, tt))))),
                  (
                    (refl, (refl, (refl, (refl, (refl, (refl, tt)))))),
                    (
                      (refl, (refl, (refl, (refl, (refl, (refl, (refl, tt))))))),
                      (
                        (refl, (refl, (refl, (refl, (refl, (refl, (refl, (refl, tt)))))))),
                        ((refl, (refl, (refl, (refl, (refl, (refl, (refl, (refl, (refl, tt))))))))), tt),
                      ),
                    ),
                  ),
                ),
              ),
            ),
          ),
        ),
      ),
      (
        texts_written w.assume,
        (
          tt,
          (
            object_written w.inputs h.inputs_in_order,
            (
              entries_written w.instructions h.instructions,
              (
                texts_written w.invariants,
                (reset_written w.reset active h.cycles, (tt, (object_written w.states h.states_in_order, (tt, (one, tt))))),
              ),
            ),
          ),
        ),
      ),
    )

texts_flat : (ts : List Text) → items_depth (text_items ts) ≤ 0
texts_flat [] = omega arith
texts_flat (t ∷ ts) = omega (arith, texts_flat ts)

members_flat : (es : Entries Text) → members_depth (mapped_members es) ≤ 0
members_flat [] = omega arith
members_flat (e ∷ es) = omega (arith, members_flat es)

entries_shallow : (is : List InstructionEntry) → items_depth (entry_items is) ≤ 1
entries_shallow [] = omega arith
entries_shallow (j ∷ js) = omega (arith, entries_shallow js)

map_shallow : (w : WrittenMap) → depth (data_of w) ≤ max_depth
map_shallow w =
    omega (arith, texts_flat w.assume, texts_flat w.invariants, members_flat w.states, members_flat w.inputs, entries_shallow w.instructions)

pub texts_are_read : MapTextsAreRead
texts_are_read w h =
    let text = map_text w ++ 10 ∷ [] in
    let is_read : read text ≡ Some (data_of w) =
    ap (λ t. read (t ++ 10 ∷ [])) (sym (text_written w h)) ∙ text_back (data_of w) (map_written w h) (map_shallow w) in
    let is_document : document text ≡ Some (data_of w) = ap (λ b. cond b (read text) None) (text_utf8 w h) ∙ is_read in
    ap judged_document is_document
    ∙ (ap (judged_shape (data_of w)) (map_there w h) ∙ ap (λ b. cond b (refused_by UnknownKey) (says w)) (no_unknown_key w))
