-- Something of another kind stands somewhere, wherever data has not the shape of a map.
use Rattle.std.proofs.Common.{◌≡◌, ℕ, ◌+◌, true, false, List, Option, Some, None, option_and_then, is_some, is_none, refl, sym, ap, ◌∙◌}
use Rattle.std.specs.Prelude.{codes}
use Rattle.wb_values.specs.Value.{Name, Entries}
use Rattle.wb_values.specs.Choice.{first_of}
use Rattle.serde_json.specs.Data.{Data, Items, no_items, item, Members, no_members, member}
use Rattle.serde_json.specs.Find.{get, as_str, as_array, as_object}
use Rattle.model_files.specs.Shape.{with_first, all_in, list_in, unsigned_in}
use Rattle.model_places.specs.Sites.{Spot, key_spot, part_spot}
use Rattle.map_files.specs.Written.{Text, WrittenReset, InstructionEntry}
use Rattle.map_files.specs.Shape.{read_under, version_in, active_in, reset_from, reset_in, named, members_mapped_in, mapped_in, entry_from, entry_in, map_from, map_in}
use Rattle.map_file.specs.Places.{unless, misfit_in, key_misfit, part_misfit, text_misfits, list_misfit, entry_misfits, mapped_misfit, reset_misfit_in, reset_misfit, entry_spot, instruction_misfit, instruction_misfits, instructions_misfit, head_misfit, condition_misfit, entries_misfit, shape_misfit}

-- ---- what has no misfit is there

-- there is no misfit, so what is read is there
abbrev Fits : {A : Type 0} → Option Spot → Option A → Type 0
Fits m o = is_none m ≡ true → is_some o ≡ true

first : (a b : Option Spot) → is_none (first_of a b) ≡ true → is_none a ≡ true
first None b h = refl
first (Some s) b h = h

rest : (a b : Option Spot) → is_none (first_of a b) ≡ true → is_none b ≡ true
rest None b h = h
rest (Some s) None h = refl
rest (Some s) (Some t) h = h

at_key : {A : Type 0} (s : Spot) (o : Option A) → Fits (unless (is_some o) s) o
at_key s None h = h
at_key s (Some x) h = refl

-- ---- lists and objects

with_both : {A : Type 0} (o : Option A) (r : Option (List A)) → is_some o ≡ true → is_some r ≡ true → is_some (with_first o r) ≡ true
with_both (Some x) (Some xs) h g = refl
with_both (Some x) None h g = g
with_both None r h g = h

texts_fit : (k : Name) (i : ℕ) (ds : Items) → Fits (text_misfits k i ds) (all_in as_str ds)
texts_fit k i no_items h = refl
texts_fit k i (item d ds) h =
    with_both (as_str d) (all_in as_str ds) (at_key _ (as_str d) (first (unless (is_some (as_str d)) _) (text_misfits k (i + 1) ds) h))
    (texts_fit k (i + 1) ds (rest (unless (is_some (as_str d)) _) (text_misfits k (i + 1) ds) h))

named_there : (n : Name) (o : Option Text) → is_some o ≡ true → is_some (named n o) ≡ true
named_there n None h = h
named_there n (Some e) h = refl

entries_fit : (k : Name) (ms : Members) → Fits (entry_misfits k ms) (members_mapped_in ms)
entries_fit k no_members h = refl
entries_fit k (member n d ms) h =
    with_both (named n (as_str d)) (members_mapped_in ms)
    (named_there n (as_str d) (at_key _ (as_str d) (first (unless (is_some (as_str d)) _) (entry_misfits k ms) h)))
    (entries_fit k ms (rest (unless (is_some (as_str d)) _) (entry_misfits k ms) h))

-- what is found in what is there
found_in : {A B : Type 0} (s : Spot) (f : A → Option Spot) (g : A → Option B) (o : Option A) → ((x : A) → Fits (f x) (g x)) → Fits (misfit_in f s o) (option_and_then g o)
found_in s f g None h m = m
found_in s f g (Some x) h m = h x m

-- two readings, one behind the other
behind : {A B : Type 0} (f : Data → Option A) (g : A → Option B) (o : Option Data)
    → option_and_then g (option_and_then f o) ≡ option_and_then (λ d. option_and_then g (f d)) o
behind f g None = refl
behind f g (Some d) = refl

fits_under : {A B : Type 0} (s : Spot) (f : A → Option Spot) (r : Data → Option A) (g : A → Option B) (k : Name) (d : Data) → ((x : A) → Fits (f x) (g x))
    → Fits (misfit_in f s (read_under r k d)) (read_under (λ e. option_and_then g (r e)) k d)
fits_under s f r g k d h m = ap is_some (sym (behind r g (get k d))) ∙ found_in s f g (read_under r k d) h m

list_fits : (k : Name) (d : Data) → Fits (list_misfit k d) (read_under (list_in as_str) k d)
list_fits k d = fits_under (key_spot k) (text_misfits k 0) as_array (all_in as_str) k d (texts_fit k 0)

mapped_fits : (k : Name) (d : Data) → Fits (mapped_misfit k d) (read_under mapped_in k d)
mapped_fits k d = fits_under (key_spot k) (entry_misfits k) as_object members_mapped_in k d (entries_fit k)

-- ---- the reset and the instructions

reset_there : (s : Option Name) (a c : Option ℕ) → is_some s ≡ true → is_some a ≡ true → is_some c ≡ true → is_some (reset_from s a c) ≡ true
reset_there (Some s) (Some a) (Some c) x y z = refl
reset_there None a c x y z = x
reset_there (Some s) None c x y z = y
reset_there (Some s) (Some a) None x y z = z

-- the second, the third and the fourth of four
second : (a b c d : Option Spot) → is_none (first_of a (first_of b (first_of c d))) ≡ true → is_none b ≡ true
second a b c d h = first b (first_of c d) (rest a (first_of b (first_of c d)) h)

third : (a b c d : Option Spot) → is_none (first_of a (first_of b (first_of c d))) ≡ true → is_none c ≡ true
third a b c d h = first c d (rest b (first_of c d) (rest a (first_of b (first_of c d)) h))

fourth : (a b c d : Option Spot) → is_none (first_of a (first_of b (first_of c d))) ≡ true → is_none d ≡ true
fourth a b c d h = rest c d (rest b (first_of c d) (rest a (first_of b (first_of c d)) h))

reset_fits_in : (d : Data) → Fits (reset_misfit_in d) (reset_in d)
reset_fits_in d h =
    let s : Spot = key_spot (codes "reset") in
    let a : Option Spot = unless (is_some (as_object d)) s in
    let b : Option Spot = part_misfit as_str s (codes "signal") d in
    let c : Option Spot = part_misfit active_in s (codes "active") d in
    let e : Option Spot = part_misfit unsigned_in s (codes "cycles") d in
    reset_there (read_under as_str (codes "signal") d) (read_under active_in (codes "active") d) (read_under unsigned_in (codes "cycles") d)
    (at_key (part_spot s (codes "signal")) (read_under as_str (codes "signal") d) (second a b c e h))
    (at_key (part_spot s (codes "active")) (read_under active_in (codes "active") d) (third a b c e h))
    (at_key (part_spot s (codes "cycles")) (read_under unsigned_in (codes "cycles") d) (fourth a b c e h))

reset_fits : (d : Data) → Fits (reset_misfit d) (read_under reset_in (codes "reset") d)
reset_fits d = found_in (key_spot (codes "reset")) reset_misfit_in reset_in (get (codes "reset") d) reset_fits_in

instruction_there : (n : Option Name) (e : Option Text) (b : Option ℕ) → is_some n ≡ true → is_some e ≡ true → is_some b ≡ true → is_some (entry_from n e b) ≡ true
instruction_there (Some n) (Some e) (Some b) x y z = refl
instruction_there None e b x y z = x
instruction_there (Some n) None b x y z = y
instruction_there (Some n) (Some e) None x y z = z

instruction_fits : (s : Spot) (d : Data) → Fits (instruction_misfit s d) (entry_in d)
instruction_fits s d h =
    let a : Option Spot = unless (is_some (as_object d)) s in
    let b : Option Spot = part_misfit as_str s (codes "name") d in
    let c : Option Spot = part_misfit as_str s (codes "commit") d in
    let e : Option Spot = part_misfit unsigned_in s (codes "bound") d in
    instruction_there (read_under as_str (codes "name") d) (read_under as_str (codes "commit") d) (read_under unsigned_in (codes "bound") d)
    (at_key (part_spot s (codes "name")) (read_under as_str (codes "name") d) (second a b c e h))
    (at_key (part_spot s (codes "commit")) (read_under as_str (codes "commit") d) (third a b c e h))
    (at_key (part_spot s (codes "bound")) (read_under unsigned_in (codes "bound") d) (fourth a b c e h))

instructions_fit_in : (i : ℕ) (ds : Items) → Fits (instruction_misfits i ds) (all_in entry_in ds)
instructions_fit_in i no_items h = refl
instructions_fit_in i (item d ds) h =
    with_both (entry_in d) (all_in entry_in ds)
    (instruction_fits (entry_spot i d) d (first (instruction_misfit (entry_spot i d) d) (instruction_misfits (i + 1) ds) h))
    (instructions_fit_in (i + 1) ds (rest (instruction_misfit (entry_spot i d) d) (instruction_misfits (i + 1) ds) h))

instructions_fit : (d : Data) → Fits (instructions_misfit d) (read_under (list_in entry_in) (codes "instructions") d)
instructions_fit d = fits_under (key_spot (codes "instructions")) (instruction_misfits 0) as_array (all_in entry_in) (codes "instructions") d (instructions_fit_in 0)

-- ---- the map

head_there : (v : Option ℕ) (t c : Option Name) (r : Option WrittenReset) (a n : Option (List Text)) (s : Option Text) (q w : Option (Entries Text))
    (j : Option (List InstructionEntry)) → is_some v ≡ true → is_some t ≡ true → is_some c ≡ true → is_some r ≡ true → is_some a ≡ true → is_some n ≡ true
    → is_some s ≡ true → is_some q ≡ true → is_some w ≡ true → is_some j ≡ true → is_some (map_from v t c r a n s q w j) ≡ true
head_there (Some v) (Some t) (Some c) (Some r) (Some a) (Some n) (Some s) (Some q) (Some w) (Some j) h1 h2 h3 h4 h5 h6 h7 h8 h9 h10 = refl
head_there None t c r a n s q w j h1 h2 h3 h4 h5 h6 h7 h8 h9 h10 = h1
head_there (Some v) None c r a n s q w j h1 h2 h3 h4 h5 h6 h7 h8 h9 h10 = h2
head_there (Some v) (Some t) None r a n s q w j h1 h2 h3 h4 h5 h6 h7 h8 h9 h10 = h3
head_there (Some v) (Some t) (Some c) None a n s q w j h1 h2 h3 h4 h5 h6 h7 h8 h9 h10 = h4
head_there (Some v) (Some t) (Some c) (Some r) None n s q w j h1 h2 h3 h4 h5 h6 h7 h8 h9 h10 = h5
head_there (Some v) (Some t) (Some c) (Some r) (Some a) None s q w j h1 h2 h3 h4 h5 h6 h7 h8 h9 h10 = h6
head_there (Some v) (Some t) (Some c) (Some r) (Some a) (Some n) None q w j h1 h2 h3 h4 h5 h6 h7 h8 h9 h10 = h7
head_there (Some v) (Some t) (Some c) (Some r) (Some a) (Some n) (Some s) None w j h1 h2 h3 h4 h5 h6 h7 h8 h9 h10 = h8
head_there (Some v) (Some t) (Some c) (Some r) (Some a) (Some n) (Some s) (Some q) None j h1 h2 h3 h4 h5 h6 h7 h8 h9 h10 = h9
head_there (Some v) (Some t) (Some c) (Some r) (Some a) (Some n) (Some s) (Some q) (Some w) None h1 h2 h3 h4 h5 h6 h7 h8 h9 h10 = h10

map_fits : (d : Data) → Fits (shape_misfit d) (map_in d)
map_fits d h =
    let e : Option Spot = first_of (condition_misfit d) (entries_misfit d) in
    let o : Option Spot = unless (is_some (as_object d)) (key_spot (codes "map")) in
    let v : Option Spot = key_misfit version_in (codes "version") d in
    let t : Option Spot = key_misfit as_str (codes "top") d in
    let c : Option Spot = key_misfit as_str (codes "clock") d in
    let r : Option Spot = reset_misfit d in
    let l : Option Spot = list_misfit (codes "assume") d in
    let n : Option Spot = list_misfit (codes "invariants") d in
    let s : Option Spot = key_misfit as_str (codes "start") d in
    let q : Option Spot = mapped_misfit (codes "states") d in
    let w : Option Spot = mapped_misfit (codes "inputs") d in
    let j : Option Spot = instructions_misfit d in
    let heads : is_none (head_misfit d) ≡ true = first (head_misfit d) e h in
    let texts : is_none (first_of t (first_of c r)) ≡ true = rest v (first_of t (first_of c r)) (rest o (first_of v (first_of t (first_of c r))) heads) in
    let conditions : is_none (condition_misfit d) ≡ true = first (condition_misfit d) (entries_misfit d) (rest (head_misfit d) e h) in
    let entries : is_none (entries_misfit d) ≡ true = rest (condition_misfit d) (entries_misfit d) (rest (head_misfit d) e h) in
    head_there (read_under version_in (codes "version") d) (read_under as_str (codes "top") d) (read_under as_str (codes "clock") d) (read_under reset_in (codes "reset") d)
    (read_under (list_in as_str) (codes "assume") d) (read_under (list_in as_str) (codes "invariants") d) (read_under as_str (codes "start") d) (read_under mapped_in (codes "states") d)
    (read_under mapped_in (codes "inputs") d) (read_under (list_in entry_in) (codes "instructions") d)
    (at_key (key_spot (codes "version")) (read_under version_in (codes "version") d) (second o v t (first_of c r) heads))
    (at_key (key_spot (codes "top")) (read_under as_str (codes "top") d) (first t (first_of c r) texts))
    (at_key (key_spot (codes "clock")) (read_under as_str (codes "clock") d) (first c r (rest t (first_of c r) texts)))
    (reset_fits d (rest c r (rest t (first_of c r) texts)))
    (list_fits (codes "assume") d (first l (first_of n s) conditions))
    (list_fits (codes "invariants") d (first n s (rest l (first_of n s) conditions)))
    (at_key (key_spot (codes "start")) (read_under as_str (codes "start") d) (rest n s (rest l (first_of n s) conditions)))
    (mapped_fits (codes "states") d (first q (first_of w j) entries))
    (mapped_fits (codes "inputs") d (first w j (rest q (first_of w j) entries)))
    (instructions_fit d (rest w j (rest q (first_of w j) entries)))

-- ---- the other way round

by_absence : {A : Type 0} (m : Option Spot) (o : Option A) → Fits m o → o ≡ None → is_none m ≡ false
by_absence None o h e = sym (h refl) ∙ ap is_some e
by_absence (Some s) o h e = refl

-- Data that is no map has a first misfit.
pub misfit_of_no_map : (d : Data) → map_in d ≡ None → is_none (shape_misfit d) ≡ false
misfit_of_no_map d = by_absence (shape_misfit d) (map_in d) (map_fits d)
