-- What stands in data is less deep than the data.
use Rattle.std.proofs.Common.{◌≡◌, ℕ, zero, suc, ◌<◌, ◌≤◌, List, [], ◌∷◌, Option, Some, None, option_and_then, Ordering, Less, Equal, Greater, nat_cmp, sym, subst, arith, length, get_or}
use Rattle.std.specs.Prelude.{⊤}
use Rattle.std.specs.Ordering.{match_ordering}
use Rattle.std.specs.Cmp.Lexicographic.{slice_cmp}
use Rattle.wb_values.specs.Value.{Name}
use Rattle.serde_json.specs.Data.{Data, null, boolean, number, string, array, object, Items, Members, no_members, member, depth, items_depth, members_depth}
use Rattle.serde_json.specs.Find.{get_member, get, as_array}
use Rattle.serde_json.specs.View.{view, items_view}
use Rattle.serde_json.specs.declared.value.Value.{Value}
use Rattle.model_places.specs.ShapePlaces.{under}

abbrev Below : ℕ → Option Data → Type 0
Below n None = ⊤
Below n (Some d) = depth d < n

abbrev ItemsBelow : ℕ → Option Items → Type 0
ItemsBelow n None = ⊤
ItemsBelow n (Some ds) = suc (items_depth ds) < n

below_either : (o : Ordering) (n : ℕ) (x rest : Option Data) → Below n x → Below n rest → Below n (match_ordering o rest x rest)
below_either Less n x rest p q = q
below_either Equal n x rest p q = p
below_either Greater n x rest p q = q

member_below : (k : Name) (ms : Members) (n : ℕ) → members_depth ms < n → Below n (get_member k ms)
member_below k no_members n h = tt
member_below k (member l d ms) n h =
    below_either (slice_cmp nat_cmp k l) n (Some d) (get_member k ms) (omega arith) (member_below k ms n (omega arith))

below : (k : Name) (d : Data) → Below (depth d) (get k d)
below k null = tt
below k (boolean b) = tt
below k (number n) = tt
below k (string s) = tt
below k (array ds) = tt
below k (object ms) = member_below k ms (suc (members_depth ms)) (omega arith)

items_below : (n : ℕ) (o : Option Data) → Below n o → ItemsBelow n (option_and_then as_array o)
items_below n None h = tt
items_below n (Some null) h = tt
items_below n (Some (boolean b)) h = tt
items_below n (Some (number x)) h = tt
items_below n (Some (string s)) h = tt
items_below n (Some (array ds)) h = h
items_below n (Some (object ms)) h = tt

pub found_below : (k : Name) (d e : Data) → get k d ≡ Some e → depth e < depth d
found_below k d e h = subst (Below (depth d)) h (below k d)

pub list_below : (k : Name) (d : Data) (ds : Items) → under as_array k d ≡ Some ds → suc (items_depth ds) < depth d
list_below k d ds h = subst (ItemsBelow (depth d)) h (items_below (depth d) (get k d) (below k d))

pub item_below : (xs : List Value) (i : ℕ) (x : Value) → i < length xs → x ≡ get_or xs i x → depth (view x) ≤ items_depth (items_view xs)
item_below [] i x h e = absurd (omega arith)
item_below (y ∷ xs) zero x h e = subst (λ (v : Value). depth (view v) ≤ items_depth (items_view (y ∷ xs))) (sym e) (omega arith)
item_below (y ∷ xs) (suc i) x h e = omega (arith, item_below xs i x (omega arith) e)
