-- The code's tables of names and of places by the names of their instances, and the lists of names that they give.
use Rattle.std.specs.Prelude.{◌≡◌, ◌≢◌, ◌<◌, ℕ, cond, List, map, get_or, Option, Some, None, option_map}
use Rattle.std.specs.Borrow.{Bor}
use Rattle.std.specs.BTreeMap.{BTreeMap}
use Rattle.wb_values.specs.Value.{Name, same_name}
use Rattle.v_hier.specs.Tables.{under_name}
use Rattle.verilog_registers.specs.Order.{Member, members_in}
use Rattle.v_places.specs.Below.{Spot, spot_in}
use Rattle.v_ordered.specs.Lines.{line}

-- what a table has for a name
abbrev pub text_under : BTreeMap (Bor (List ℕ)) (Bor (List ℕ)) → Name → Option Name
text_under t n = option_map (λ m. m.now) (under_name t n)

-- what the table of a place has for a name
abbrev pub text_at : List (BTreeMap (Bor (List ℕ)) (Bor (List ℕ))) → ℕ → Name → Option Name
text_at ts k = get_or (map text_under ts) k (λ n. None)

-- the number that the table of a place has under a name
abbrev pub number_at : List (BTreeMap (Bor (List ℕ)) ℕ) → ℕ → Name → Option ℕ
number_at ts k = get_or (map under_name ts) k (λ n. None)

-- A place is entered under the name of its instance into the table of the place that it stands in, if that comes before it.
pub record IsEntered (number : ℕ) (x : Spot) (before after : ℕ → Name → Option ℕ) : Type 0 where
  pub in_parent : x.parent < number → (n : Name) → after x.parent n ≡ cond (same_name x.instance n) (Some number) (before x.parent n)
  pub in_others : (k : ℕ) → (x.parent < number → k ≢ x.parent) → (n : Name) → after k n ≡ before k n

-- names that are lent
abbrev pub seen : List (Bor (List ℕ)) → List Name
seen ns = map (λ n. n.now) ns

-- the members of a place's module
abbrev pub members_at : List Spot → ℕ → List Member
members_at spots k = members_in (spot_in spots k).of_module

-- the names of a place's module, those of an instance where it stands, by these tables
abbrev pub line_at : List Spot → List (BTreeMap (Bor (List ℕ)) (Bor (List ℕ))) → List (BTreeMap (Bor (List ℕ)) ℕ) → (lists : ℕ → List Name) → ℕ → List Name
line_at spots ts bs lists k = line (text_at ts k) (number_at bs k) lists (members_at spots k)

-- The list of each place has them.
abbrev pub AreLines : List Spot → List (BTreeMap (Bor (List ℕ)) (Bor (List ℕ))) → List (BTreeMap (Bor (List ℕ)) ℕ) → (lists : ℕ → List Name) → Type 0
AreLines spots ts bs lists = (k : ℕ) → lists k ≡ line_at spots ts bs lists k
