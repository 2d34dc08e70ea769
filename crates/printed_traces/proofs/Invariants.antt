-- A map has no more invariants than its file has bytes.
use Rattle.std.proofs.Common.{◌≡◌, ℕ, suc, ◌+◌, ◌≤◌, Bool, true, false, cond, List, [], ◌∷◌, length, Option, Some, None, refl, ap, subst, arith}
use Rattle.std.specs.Prelude.{option_and_then, codes}
use Rattle.wb_values.specs.Value.{Name, Entries}
use Rattle.model_meaning.specs.Model.{Model}
use Rattle.verilog_trees.specs.Syntax.{Expression, Source}
use Rattle.serde_json.specs.Data.{Data, null, boolean, number, string, array, object, Items, no_items, item}
use Rattle.serde_json.specs.Find.{get, as_str}
use Rattle.model_files.specs.Shape.{document, with_first, all_in, list_in}
use Rattle.refinement.specs.Map.{Map}
use Rattle.map_files.specs.Written.{Text, WrittenReset, InstructionEntry, WrittenMap}
use Rattle.map_files.specs.Shape.{read_under, version_in, reset_in, mapped_in, entry_in, map_from, map_in}
use Rattle.map_files.specs.Keys.{map_has_unknown_key}
use Rattle.map_files.specs.Meaning.{UnknownKey, says, refused_by, judged_shape, judged_document, SaysMap}
use Rattle.map_rules.specs.Accepted.{AreRead, MapOf}
use Rattle.printed_traces.proofs.ShortFiles.{data_weight, listed_weight, document_within, under_within}

some_same : {A : Type 0} (x y : A) → Some x ≡ Some y → x ≡ y
some_same x y e = cc

-- ---- a list of texts

all_few : {A : Type 0} (f : Data → Option A) (ds : Items) (xs : List A) → all_in f ds ≡ Some xs → length xs ≤ listed_weight ds
all_few {A = A} f no_items xs e = subst (λ ys. length ys ≤ 0) (some_same [] xs e) (omega arith)
all_few {A = A} f (item d ds) xs e = by (f d) (all_in f ds) (all_few f ds) e
  where
    by : (x : Option A) (ys : Option (List A)) → ((zs : List A) → ys ≡ Some zs → length zs ≤ listed_weight ds) → with_first x ys ≡ Some xs
        → length xs ≤ suc (data_weight d + listed_weight ds)
    by None ys h k = cc
    by (Some x) None h k = cc
    by (Some x) (Some ys) h k = subst (λ zs. length zs ≤ suc (data_weight d + listed_weight ds)) (some_same (x ∷ ys) xs k) (omega (arith, h ys refl))

list_few : {A : Type 0} (f : Data → Option A) (d : Data) (xs : List A) → list_in f d ≡ Some xs → length xs ≤ data_weight d
list_few f null xs e = cc
list_few f (boolean b) xs e = cc
list_few f (number n) xs e = cc
list_few f (string s) xs e = cc
list_few f (array ds) xs e = all_few f ds xs e
list_few f (object ms) xs e = cc

under_few : (k : Name) (d : Data) (xs : List Text) → read_under (list_in as_str) k d ≡ Some xs → length xs ≤ data_weight d
under_few k d xs e = by (get k d) (λ x h. under_within k d x h) e
  where
    by : (o : Option Data) → ((x : Data) → o ≡ Some x → data_weight x ≤ data_weight d) → option_and_then (list_in as_str) o ≡ Some xs → length xs ≤ data_weight d
    by None h k = cc
    by (Some x) h k = omega (arith, h x refl, list_few as_str x xs k)

-- ---- a written map

invariants_from : (v : Option ℕ) (t c : Option Name) (r : Option WrittenReset) (a k : Option (List Text)) (s : Option Text) (ss ws : Option (Entries Text))
    (is : Option (List InstructionEntry)) (w : WrittenMap) → map_from v t c r a k s ss ws is ≡ Some w → k ≡ Some w.invariants
invariants_from None t c r a k s ss ws is w e = cc
invariants_from (Some v) None c r a k s ss ws is w e = cc
invariants_from (Some v) (Some t) None r a k s ss ws is w e = cc
invariants_from (Some v) (Some t) (Some c) None a k s ss ws is w e = cc
invariants_from (Some v) (Some t) (Some c) (Some r) None k s ss ws is w e = cc
invariants_from (Some v) (Some t) (Some c) (Some r) (Some a) None s ss ws is w e = cc
invariants_from (Some v) (Some t) (Some c) (Some r) (Some a) (Some k) None ss ws is w e = cc
invariants_from (Some v) (Some t) (Some c) (Some r) (Some a) (Some k) (Some s) None ws is w e = cc
invariants_from (Some v) (Some t) (Some c) (Some r) (Some a) (Some k) (Some s) (Some ss) None is w e = cc
invariants_from (Some v) (Some t) (Some c) (Some r) (Some a) (Some k) (Some s) (Some ss) (Some ws) None w e = cc
invariants_from (Some v) (Some t) (Some c) (Some r) (Some a) (Some k) (Some s) (Some ss) (Some ws) (Some is) w e =
    ap (λ (m : WrittenMap). Some m.invariants)
    (some_same (record { top = t; clock = c; reset = r; assume = a; invariants = k; start = s; states = ss; inputs = ws; instructions = is }) w e)

written_few : (d : Data) (w : WrittenMap) → map_in d ≡ Some w → length w.invariants ≤ data_weight d
written_few d w e =
    under_few (codes "invariants") d w.invariants
    (invariants_from (read_under version_in (codes "version") d) (read_under as_str (codes "top") d) (read_under as_str (codes "clock") d)
    (read_under reset_in (codes "reset") d) (read_under (list_in as_str) (codes "assume") d) (read_under (list_in as_str) (codes "invariants") d)
    (read_under as_str (codes "start") d) (read_under mapped_in (codes "states") d) (read_under mapped_in (codes "inputs") d)
    (read_under (list_in entry_in) (codes "instructions") d) w e)

module _ (bytes : List ℕ) (w : WrittenMap) where
  by_keys : (d : Data) (x : WrittenMap) (b : Bool) → document bytes ≡ Some d → map_in d ≡ Some x → cond b (refused_by UnknownKey) (says x) ≡ says w
      → length w.invariants ≤ length bytes
  by_keys d x true e f h = cc
  by_keys d x false e f h =
      let one : x ≡ w = cc in
      let few : length w.invariants ≤ data_weight d = written_few d w (subst (λ y. map_in d ≡ Some y) one f) in
      omega (arith, few, document_within bytes d e)

  by_shape : (d : Data) (o : Option WrittenMap) → document bytes ≡ Some d → map_in d ≡ o → judged_shape d o ≡ says w → length w.invariants ≤ length bytes
  by_shape d None e f h = cc
  by_shape d (Some x) e f h = by_keys d x (map_has_unknown_key d) e f h

  by_document : (o : Option Data) → document bytes ≡ o → judged_document o ≡ says w → length w.invariants ≤ length bytes
  by_document None e h = cc
  by_document (Some d) e h = by_shape d (map_in d) e refl h

  said_few : SaysMap bytes w → length w.invariants ≤ length bytes
  said_few h = by_document (document bytes) refl h

read_length : (ts : List Text) (es : List Expression) → AreRead ts es → length es ≡ length ts
read_length _ _ AreRead.none = refl
read_length _ _ (AreRead.read t e ts es r rest) = ap suc (read_length ts es rest)

pub few_invariants : (bytes : List ℕ) (m : Model) (source : Source) (p : Map) → MapOf bytes m source p → length p.invariants ≤ length bytes
few_invariants bytes m source p of =
    omega (arith, read_length of.written.invariants p.invariants of.stands_for.invariants, said_few bytes of.written of.says)
