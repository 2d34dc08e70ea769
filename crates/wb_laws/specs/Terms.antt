-- Values of terms and their sorts.
use Rattle.std.specs.Prelude.{◌≡◌, Some, ⊤}
use Rattle.wb_values.specs.Value.{Sort, HasSort, Valuation}
use Rattle.model_meaning.specs.Term.{Term, name, constant_truth, const, not, neg, and, or, xor, add, sub, mul, shl, lshr, ashr, eq, ult, ule, slt, sle, concat, extract, zext, sext, ite, load, store, sort_of, val}

-- Each name of the term stands for a value of the sort with which it occurs.
abbrev pub NamesFit : Valuation → Term → Type 0
NamesFit v (name n s) = HasSort (v n) s
NamesFit v (constant_truth b) = ⊤
NamesFit v (const w x) = ⊤
NamesFit v (not x) = NamesFit v x
NamesFit v (neg x) = NamesFit v x
NamesFit v (and x y) = NamesFit v x × NamesFit v y
NamesFit v (or x y) = NamesFit v x × NamesFit v y
NamesFit v (xor x y) = NamesFit v x × NamesFit v y
NamesFit v (add x y) = NamesFit v x × NamesFit v y
NamesFit v (sub x y) = NamesFit v x × NamesFit v y
NamesFit v (mul x y) = NamesFit v x × NamesFit v y
NamesFit v (shl x n) = NamesFit v x × NamesFit v n
NamesFit v (lshr x n) = NamesFit v x × NamesFit v n
NamesFit v (ashr x n) = NamesFit v x × NamesFit v n
NamesFit v (eq x y) = NamesFit v x × NamesFit v y
NamesFit v (ult x y) = NamesFit v x × NamesFit v y
NamesFit v (ule x y) = NamesFit v x × NamesFit v y
NamesFit v (slt x y) = NamesFit v x × NamesFit v y
NamesFit v (sle x y) = NamesFit v x × NamesFit v y
NamesFit v (concat x y) = NamesFit v x × NamesFit v y
NamesFit v (extract h l x) = NamesFit v x
NamesFit v (zext n x) = NamesFit v x
NamesFit v (sext n x) = NamesFit v x
NamesFit v (ite c x y) = NamesFit v c × NamesFit v x × NamesFit v y
NamesFit v (load m i) = NamesFit v m × NamesFit v i
NamesFit v (store m i x) = NamesFit v m × NamesFit v i × NamesFit v x

-- Where each name stands for a value of its sort, a term that has a sort has a value of that sort: a truth value, a number below
-- 2^w, or 2^a words below 2^d each.
abbrev pub TermFitsItsSort : Type 0
TermFitsItsSort = (e : Term) (s : Sort) (v : Valuation) → sort_of e ≡ Some s → NamesFit v e → HasSort (val e v) s
