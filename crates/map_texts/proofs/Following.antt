-- Data whose keys follow one another and whose numbers are small is read back from its compact text with a line feed at its end.
use Rattle.std.proofs.Common.{◌≡◌, ◌∙◌, suc, ◌<◌, ◌≤◌, ◌^◌, max, List, [], ◌∷◌, ◌++◌, Ordering, Greater, Option, Some, option_map, option_and_then, Less, refl, sym, ap, subst, append-nil}
use Rattle.std.specs.Ordering.{match_ordering, nat_cmp, ordering_reverse}
use Rattle.std.specs.Cmp.Lexicographic.{slice_cmp}
use Rattle.std.proofs.lemmas.Cmp.{nat_list_cmp_total}
use Rattle.json.proofs.Printed.Decimals.{IsNumber-decimal}
use Rattle.json.specs.Token.{Token}
use Rattle.json.specs.Lex.{tokens}
use Rattle.json.specs.Json as json
use Rattle.json.specs.Tree as tree
use Rattle.map_texts.proofs.Lines.{tokens-print_line}
use Rattle.serde_json.proofs.Numbers.{number_of-decimal}
use Rattle.json.proofs.Printed.Trees.{value-json_tokens, ArePrintable-json_tokens}
use Rattle.serde_json.specs.Data.{unsigned, negative, float, Data, null, boolean, number, string, array, object, Items, no_items, item, Members, no_members, member, put, depth, items_depth, members_depth}
use Rattle.serde_json.specs.Read.{of_json, of_items, of_members, read, max_depth}
use Rattle.serde_json.specs.Written.{outline, items_outline, members_outline, compact_text}
use Rattle.serde_json.proofs.Texts.{print-outline}
use Rattle.wb_values.specs.Value.{Name}

abbrev pub compare : Name → Name → Ordering
compare m n = slice_cmp nat_cmp m n

before_trans : (a b c : Name) → compare a b ≡ Less → compare b c ≡ Less → compare a c ≡ Less
before_trans a b c p q = nat_list_cmp_total.trans a b c p q

turned : (k l : Name) → compare l k ≡ Less → compare k l ≡ Greater
turned k l e = nat_list_cmp_total.antisymm k l ∙ ap ordering_reverse e

-- ---- members whose keys follow one another

-- every key of the members is before k
abbrev pub AllBefore : Name → Members → Type 0
AllBefore k no_members = Unit {0}
AllBefore k (member l d ms) = (compare l k ≡ Less) × AllBefore k ms

-- the members with one more at their end
abbrev pub with_last : Name → Data → Members → Members
with_last k d no_members = member k d no_members
with_last k d (member l e ms) = member l e (with_last k d ms)

pub before_last : (m n : Name) (d : Data) (ms : Members) → AllBefore m ms → compare m n ≡ Less → AllBefore n (with_last m d ms)
before_last m n d no_members h e = (e, tt)
before_last m n d (member l x ms) h e = (before_trans l m n h.0 e, before_last m n d ms h.1 e)

put_last : (k : Name) (d : Data) (ms : Members) → AllBefore k ms → put k d ms ≡ with_last k d ms
put_last k d no_members h = refl
put_last k d (member l e ms) h =
    ap (λ o. match_ordering o (member k d (member l e ms)) (member l d ms) (member l e (put k d ms))) (turned k l h.0)
    ∙ ap (member l e) (put_last k d ms h.1)

-- Each key of the members is after all keys before it, and after those that are there already.
abbrev pub Follows : Members → Members → Type 0
Follows found no_members = Unit {0}
Follows found (member k d ms) = AllBefore k found × Follows (with_last k d found) ms

abbrev joined : Members → Members → Members
joined no_members ms = ms
joined (member k d found) ms = member k d (joined found ms)

join_last : (k : Name) (d : Data) (found ms : Members) → joined (with_last k d found) ms ≡ joined found (member k d ms)
join_last k d no_members ms = refl
join_last k d (member l e found) ms = ap (member l e) (join_last k d found ms)

join_nothing : (found : Members) → joined found no_members ≡ found
join_nothing no_members = refl
join_nothing (member k d found) = ap (member k d) (join_nothing found)

-- ---- data that is read back

abbrev mutual
  -- its numbers are unsigned ones of at most 64 bits, and the keys of each object follow one another
  pub IsWritten : Data → Type 0
  IsWritten null = Unit {0}
  IsWritten (boolean b) = Unit {0}
  IsWritten (number (unsigned n)) = n < 2 ^ 64
  IsWritten (number (negative z)) = ⊥
  IsWritten (number (float x)) = ⊥
  IsWritten (string s) = Unit {0}
  IsWritten (array ds) = AreWritten ds
  IsWritten (object ms) = Follows no_members ms × AreMembersWritten ms

  pub AreWritten : Items → Type 0
  AreWritten no_items = Unit {0}
  AreWritten (item d ds) = IsWritten d × AreWritten ds

  pub AreMembersWritten : Members → Type 0
  AreMembersWritten no_members = Unit {0}
  AreMembersWritten (member k d ms) = IsWritten d × AreMembersWritten ms

mutual
  numbers_of : (d : Data) → IsWritten d → tree.HasNumbers (outline d)
  numbers_of null h = tt
  numbers_of (boolean b) h = tt
  numbers_of (number (unsigned n)) h = IsNumber-decimal n h
  numbers_of (number (negative z)) h = absurd h
  numbers_of (number (float x)) h = absurd h
  numbers_of (string s) h = tt
  numbers_of (array ds) h = items_numbers ds h
  numbers_of (object ms) h = members_numbers ms h.1

  items_numbers : (ds : Items) → AreWritten ds → tree.ItemsHaveNumbers (items_outline ds)
  items_numbers no_items h = tt
  items_numbers (item d ds) h = (numbers_of d h.0, items_numbers ds h.1)

  members_numbers : (ms : Members) → AreMembersWritten ms → tree.MembersHaveNumbers (members_outline ms)
  members_numbers no_members h = tt
  members_numbers (member k d ms) h = (numbers_of d h.0, members_numbers ms h.1)

mutual
  depth_same : (d : Data) → tree.depth (outline d) ≡ depth d
  depth_same null = refl
  depth_same (boolean b) = refl
  depth_same (number n) = refl
  depth_same (string s) = refl
  depth_same (array ds) = ap suc (items_depth_same ds)
  depth_same (object ms) = ap suc (members_depth_same ms)

  items_depth_same : (ds : Items) → tree.items_depth (items_outline ds) ≡ items_depth ds
  items_depth_same no_items = refl
  items_depth_same (item d ds) = let first = depth_same d in let rest = items_depth_same ds in λ i. max (first i) (rest i)

  members_depth_same : (ms : Members) → tree.members_depth (members_outline ms) ≡ members_depth ms
  members_depth_same no_members = refl
  members_depth_same (member k d ms) = let first = depth_same d in let rest = members_depth_same ms in λ i. max (first i) (rest i)

mutual
  data_back : (d : Data) → IsWritten d → of_json (outline d) ≡ Some d
  data_back null h = refl
  data_back (boolean b) h = refl
  data_back (number (unsigned n)) h = ap (option_map number) (number_of-decimal n h)
  data_back (number (negative z)) h = absurd h
  data_back (number (float x)) h = absurd h
  data_back (string s) h = refl
  data_back (array ds) h = ap (option_map array) (items_back ds h)
  data_back (object ms) h = ap (option_map object) (members_back ms no_members h.1 h.0)

  items_back : (ds : Items) → AreWritten ds → of_items (items_outline ds) ≡ Some ds
  items_back no_items h = refl
  items_back (item d ds) h =
      ap (option_and_then (λ e. option_map (item e) (of_items (items_outline ds)))) (data_back d h.0) ∙ ap (option_map (item d)) (items_back ds h.1)

  members_back : (ms found : Members) → AreMembersWritten ms → Follows found ms → of_members (members_outline ms) found ≡ Some (joined found ms)
  members_back no_members found h f = ap Some (sym (join_nothing found))
  members_back (member k d ms) found h f =
      ap (option_and_then (λ e. of_members (members_outline ms) (put k e found))) (data_back d h.0)
      ∙ (ap (of_members (members_outline ms)) (put_last k d found f.0)
      ∙ (members_back ms (with_last k d found) h.1 f.1 ∙ ap Some (join_last k d found ms)))

-- ---- its text

abbrev whole : Option (json.Json × List Token) → Option Data
whole o = option_and_then of_json (option_and_then (λ p. json.if_last p.0 p.1) o)

pub text_back : (d : Data) → IsWritten d → depth d ≤ max_depth → read (compact_text d ++ 10 ∷ []) ≡ Some d
text_back d h shallow =
    let j = outline d in
    let printed : tokens (compact_text d ++ 10 ∷ []) ≡ tree.json_tokens j =
    ap (λ text. tokens (text ++ 10 ∷ [])) (sym (print-outline d)) ∙ tokens-print_line (tree.json_tokens j) (ArePrintable-json_tokens j (numbers_of d h)) in
    let level : tree.depth j ≤ max_depth = subst (λ n. n ≤ max_depth) (sym (depth_same d)) shallow in
    ap (λ ts. whole (json.value max_depth ts)) (printed ∙ sym (append-nil (tree.json_tokens j)))
    ∙ (ap whole (value-json_tokens j max_depth [] level) ∙ data_back d h)
