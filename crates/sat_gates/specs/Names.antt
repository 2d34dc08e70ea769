-- The names that stand in a term, and the terms that become formulas.
use Rattle.std.specs.Prelude.{Bool, true, false, ◌&&◌, [], ◌∷◌, ◌++◌}
use Rattle.wb_values.specs.Value.{Sort, memory, Entries}
use Rattle.model_meaning.specs.Term.{Term, name, constant_truth, const, not, neg, and, or, xor, add, sub, mul, shl, lshr, ashr, eq, ult, ule, slt, sle, concat, extract, zext, sext, ite, load, store}

-- the names of a term with their sorts, from left to right, each as often as it stands there
abbrev pub names_in : Term → Entries Sort
names_in (name n s) = (n, s) ∷ []
names_in (constant_truth b) = []
names_in (const w x) = []
names_in (not x) = names_in x
names_in (neg x) = names_in x
names_in (and x y) = names_in x ++ names_in y
names_in (or x y) = names_in x ++ names_in y
names_in (xor x y) = names_in x ++ names_in y
names_in (add x y) = names_in x ++ names_in y
names_in (sub x y) = names_in x ++ names_in y
names_in (mul x y) = names_in x ++ names_in y
names_in (shl x y) = names_in x ++ names_in y
names_in (lshr x y) = names_in x ++ names_in y
names_in (ashr x y) = names_in x ++ names_in y
names_in (eq x y) = names_in x ++ names_in y
names_in (ult x y) = names_in x ++ names_in y
names_in (ule x y) = names_in x ++ names_in y
names_in (slt x y) = names_in x ++ names_in y
names_in (sle x y) = names_in x ++ names_in y
names_in (concat x y) = names_in x ++ names_in y
names_in (extract h l x) = names_in x
names_in (zext n x) = names_in x
names_in (sext n x) = names_in x
names_in (ite c x y) = names_in c ++ (names_in x ++ names_in y)
names_in (load m i) = names_in m ++ names_in i
names_in (store m i x) = names_in m ++ (names_in i ++ names_in x)

-- The terms that become formulas: no memory stands in them.
abbrev pub is_blastable : Term → Bool
is_blastable (name n (memory a d)) = false
is_blastable (name n s) = true
is_blastable (constant_truth b) = true
is_blastable (const w x) = true
is_blastable (not x) = is_blastable x
is_blastable (neg x) = is_blastable x
is_blastable (and x y) = is_blastable x && is_blastable y
is_blastable (or x y) = is_blastable x && is_blastable y
is_blastable (xor x y) = is_blastable x && is_blastable y
is_blastable (add x y) = is_blastable x && is_blastable y
is_blastable (sub x y) = is_blastable x && is_blastable y
is_blastable (mul x y) = is_blastable x && is_blastable y
is_blastable (shl x y) = is_blastable x && is_blastable y
is_blastable (lshr x y) = is_blastable x && is_blastable y
is_blastable (ashr x y) = is_blastable x && is_blastable y
is_blastable (eq x y) = is_blastable x && is_blastable y
is_blastable (ult x y) = is_blastable x && is_blastable y
is_blastable (ule x y) = is_blastable x && is_blastable y
is_blastable (slt x y) = is_blastable x && is_blastable y
is_blastable (sle x y) = is_blastable x && is_blastable y
is_blastable (concat x y) = is_blastable x && is_blastable y
is_blastable (extract h l x) = is_blastable x
is_blastable (zext n x) = is_blastable x
is_blastable (sext n x) = is_blastable x
is_blastable (ite c x y) = is_blastable c && (is_blastable x && is_blastable y)
is_blastable (load m i) = false
is_blastable (store m i x) = false
