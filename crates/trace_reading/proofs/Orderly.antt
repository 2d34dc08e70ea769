-- An object that is read of a text has each key once.
use Rattle.std.proofs.Common.{◌≡◌, ◌∙◌, ℕ, Bool, true, false, cond, List, Option, Some, None, option_map, Ordering, Less, Equal, Greater, nat_cmp, is_eq, refl, sym, ap, subst}
use Rattle.std.specs.Prelude.{option_and_then}
use Rattle.std.specs.Ordering.{match_ordering, ordering_reverse}
use Rattle.std.specs.Cmp.Lexicographic.{slice_cmp}
use Rattle.std.specs.Str.{is_utf8}
use Rattle.std.proofs.lemmas.Cmp.{nat_list_cmp_total}
use Rattle.std.proofs.lemmas.Map.Text.{is_eq-slice_cmp}
use Rattle.std.proofs.lemmas.Slice.Eq.{bytes_eq-Decides}
use Rattle.json.specs.Json as json
use Rattle.serde_json.specs.Data.{Num, Data, null, boolean, number, string, array, object, Items, no_items, item, Members, no_members, member, put}
use Rattle.serde_json.specs.Read.{of_json, of_items, of_members, number_of, read, max_depth}
use Rattle.serde_json.specs.Find.{get, get_member, as_array, as_object}
use Rattle.json.specs.Lex.{tokens}
use Rattle.model_files.specs.Shape.{document}
use Rattle.wb_values.specs.Value.{Name}

abbrev compare : Name → Name → Ordering
compare k l = slice_cmp nat_cmp k l

-- every key of the members is after k
abbrev pub AllAfter : Name → Members → Type 0
AllAfter k no_members = Unit {0}
AllAfter k (member l d ms) = (compare k l ≡ Less) × AllAfter k ms

abbrev pub IsInOrder : Members → Type 0
IsInOrder no_members = Unit {0}
IsInOrder (member k d ms) = AllAfter k ms × IsInOrder ms

abbrev mutual
  -- each object has its keys in order
  pub IsOrderly : Data → Type 0
  IsOrderly null = Unit {0}
  IsOrderly (boolean b) = Unit {0}
  IsOrderly (number n) = Unit {0}
  IsOrderly (string s) = Unit {0}
  IsOrderly (array ds) = AreOrderly ds
  IsOrderly (object ms) = IsInOrder ms × AreOrderlyMembers ms

  pub AreOrderly : Items → Type 0
  AreOrderly no_items = Unit {0}
  AreOrderly (item d ds) = IsOrderly d × AreOrderly ds

  pub AreOrderlyMembers : Members → Type 0
  AreOrderlyMembers no_members = Unit {0}
  AreOrderlyMembers (member k d ms) = IsOrderly d × AreOrderlyMembers ms

-- ---- a member that is put in

before_trans : (a b c : Name) → compare a b ≡ Less → compare b c ≡ Less → compare a c ≡ Less
before_trans a b c p q = nat_list_cmp_total.trans a b c p q

after_trans : (a b : Name) (ms : Members) → compare a b ≡ Less → AllAfter b ms → AllAfter a ms
after_trans a b no_members p h = tt
after_trans a b (member l d ms) p h = (before_trans a b l p h.0, after_trans a b ms p h.1)

turned : (k l : Name) → compare k l ≡ Greater → compare l k ≡ Less
turned k l e = nat_list_cmp_total.antisymm l k ∙ ap ordering_reverse e

same_key : (k l : Name) → compare k l ≡ Equal → k ≡ l
same_key k l e = (bytes_eq-Decides k l).0 (sym (is_eq-slice_cmp k l) ∙ ap is_eq e)

put_after : (a k : Name) (d : Data) (ms : Members) → compare a k ≡ Less → AllAfter a ms → AllAfter a (put k d ms)
put_after a k d no_members p h = (p, tt)
put_after a k d (member l e ms) p h = by (compare k l) refl (put_after a k d ms p h.1)
  where
    by : (o : Ordering) → compare k l ≡ o → AllAfter a (put k d ms) → AllAfter a (match_ordering o (member k d (member l e ms)) (member l d ms) (member l e (put k d ms)))
    by Less q r = (p, h)
    by Equal q r = (h.0, h.1)
    by Greater q r = (h.0, r)

put_in_order : (k : Name) (d : Data) (ms : Members) → IsInOrder ms → IsInOrder (put k d ms)
put_in_order k d no_members h = (tt, tt)
put_in_order k d (member l e ms) h = by (compare k l) refl (put_in_order k d ms h.1)
  where
    by : (o : Ordering) → compare k l ≡ o → IsInOrder (put k d ms) → IsInOrder (match_ordering o (member k d (member l e ms)) (member l d ms) (member l e (put k d ms)))
    by Less q r = ((q, after_trans k l ms q h.0), h)
    by Equal q r = h
    by Greater q r = (put_after l k d ms (turned k l q) h.0, r)

put_orderly : (k : Name) (d : Data) (ms : Members) → IsOrderly d → AreOrderlyMembers ms → AreOrderlyMembers (put k d ms)
put_orderly k d no_members g h = (g, tt)
put_orderly k d (member l e ms) g h = by (compare k l) (put_orderly k d ms g h.1)
  where
    by : (o : Ordering) → AreOrderlyMembers (put k d ms) → AreOrderlyMembers (match_ordering o (member k d (member l e ms)) (member l d ms) (member l e (put k d ms)))
    by Less r = (g, h)
    by Equal r = (g, h.1)
    by Greater r = (h.0, r)

-- ---- what is read

abbrev Each : {A : Type 0} → (A → Type 0) → Option A → Type 0
Each P None = Unit {0}
Each P (Some x) = P x

abbrev AreBoth : Members → Type 0
AreBoth ms = IsInOrder ms × AreOrderlyMembers ms

numbers : (o : Option Num) → Each IsOrderly (option_map number o)
numbers None = tt
numbers (Some n) = tt

arrays : (o : Option Items) → Each AreOrderly o → Each IsOrderly (option_map array o)
arrays None h = tt
arrays (Some ds) h = h

objects : (o : Option Members) → Each AreBoth o → Each IsOrderly (option_map object o)
objects None h = tt
objects (Some ms) h = h

one_more : (d : Data) (o : Option Items) → IsOrderly d → Each AreOrderly o → Each AreOrderly (option_map (item d) o)
one_more d None g h = tt
one_more d (Some ds) g h = (g, h)

joined : (o : Option Data) (rest : Option Items) → Each IsOrderly o → Each AreOrderly rest → Each AreOrderly (option_and_then (λ d. option_map (item d) rest) o)
joined None rest g h = tt
joined (Some d) rest g h = one_more d rest g h

put_in : (k : Name) (o : Option Data) (found : Members) (f : Members → Option Members) → Each IsOrderly o → AreBoth found
    → ((ms : Members) → AreBoth ms → Each AreBoth (f ms)) → Each AreBoth (option_and_then (λ d. f (put k d found)) o)
put_in k None found f g h r = tt
put_in k (Some d) found f g h r = r (put k d found) (put_in_order k d found h.0, put_orderly k d found g h.1)

mutual
  of_json_orderly : (j : json.Json) → Each IsOrderly (of_json j)
  of_json_orderly json.null = tt
  of_json_orderly (json.boolean b) = tt
  of_json_orderly (json.number s) = numbers (number_of s)
  of_json_orderly (json.string s) = tt
  of_json_orderly (json.array js) = arrays (of_items js) (of_items_orderly js)
  of_json_orderly (json.object ms) = objects (of_members ms no_members) (of_members_orderly ms no_members (tt, tt))

  of_items_orderly : (js : json.Items) → Each AreOrderly (of_items js)
  of_items_orderly json.no_items = tt
  of_items_orderly (json.item j js) = joined (of_json j) (of_items js) (of_json_orderly j) (of_items_orderly js)

  of_members_orderly : (ms : json.Members) (found : Members) → AreBoth found → Each AreBoth (of_members ms found)
  of_members_orderly json.no_members found h = h
  of_members_orderly (json.member k j ms) found h = put_in k (of_json j) found (of_members ms) (of_json_orderly j) h (λ f g. of_members_orderly ms f g)

any_json : (o : Option json.Json) → Each IsOrderly (option_and_then of_json o)
any_json None = tt
any_json (Some j) = of_json_orderly j

pub document_orderly : (bytes : List ℕ) (d : Data) → document bytes ≡ Some d → IsOrderly d
document_orderly bytes d e = subst (Each IsOrderly) e (by (is_utf8 bytes))
  where
    by : (t : Bool) → Each IsOrderly (cond t (read bytes) None)
    by true = any_json (option_and_then (λ p. json.if_last p.0 p.1) (json.value max_depth (tokens bytes)))
    by false = tt

-- ---- what stands in an orderly value

under : (k : Name) (ms : Members) → AreOrderlyMembers ms → Each IsOrderly (get_member k ms)
under k no_members h = tt
under k (member l e ms) h = by (compare k l) (under k ms h.1)
  where
    by : (o : Ordering) → Each IsOrderly (get_member k ms) → Each IsOrderly (match_ordering o (get_member k ms) (Some e) (get_member k ms))
    by Less r = r
    by Equal r = h.0
    by Greater r = r

got : (k : Name) (d : Data) → IsOrderly d → Each IsOrderly (get k d)
got k null h = tt
got k (boolean b) h = tt
got k (number n) h = tt
got k (string s) h = tt
got k (array ds) h = tt
got k (object ms) h = under k ms h.1

pub get_orderly : (k : Name) (d e : Data) → IsOrderly d → get k d ≡ Some e → IsOrderly e
get_orderly k d e h is = subst (Each IsOrderly) is (got k d h)

listed : (d : Data) → IsOrderly d → Each AreOrderly (as_array d)
listed null h = tt
listed (boolean b) h = tt
listed (number n) h = tt
listed (string s) h = tt
listed (array ds) h = h
listed (object ms) h = tt

pub array_orderly : (d : Data) (ds : Items) → IsOrderly d → as_array d ≡ Some ds → AreOrderly ds
array_orderly d ds h is = subst (Each AreOrderly) is (listed d h)

ordered : (d : Data) → IsOrderly d → Each IsInOrder (as_object d)
ordered null h = tt
ordered (boolean b) h = tt
ordered (number n) h = tt
ordered (string s) h = tt
ordered (array ds) h = tt
ordered (object ms) h = h.0

pub object_in_order : (d : Data) (ms : Members) → IsOrderly d → as_object d ≡ Some ms → IsInOrder ms
object_in_order d ms h is = subst (Each IsInOrder) is (ordered d h)

-- a key that is after another is found where the other is left out
pub later : (k l : Name) (d : Data) (ms : Members) → compare l k ≡ Less → get_member k (member l d ms) ≡ get_member k ms
later k l d ms e = by (compare k l) (nat_list_cmp_total.antisymm k l ∙ ap ordering_reverse e)
  where
    by : (o : Ordering) → o ≡ ordering_reverse Less → match_ordering o (get_member k ms) (Some d) (get_member k ms) ≡ get_member k ms
    by o is = ap (λ q. match_ordering q (get_member k ms) (Some d) (get_member k ms)) is
