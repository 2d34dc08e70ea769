-- A term has no sort where one of its operands has none.
use Rattle.std.proofs.Common.{◌≡◌, ℕ, Option, Some, None, refl, ap, ◌∙◌}
use Rattle.wb_values.specs.Value.{Sort, truth, word, memory}
use Rattle.model_meaning.specs.Term as terms
use Rattle.model_meaning.specs.Term.{Term, sort_of, bits_sort, word_sort, same_bits_sort, same_word_sort, compared, concat_sort, load_sort, extract_sort, extended_sort, ite_sort, store_sort}
use Rattle.model_files.specs.Written.{UnaryForm, not, neg, BinaryForm, and, or, xor, add, sub, mul, shl, lshr, ashr, eq, ult, ule, slt, sle, concat, load, Widening, zext, sext}
use Rattle.model_files.specs.Scope.{unary_term, binary_term, widened_term, unary_sort, binary_sort}

-- ---- the sort of an operator's term is what the operator makes of the operands' sorts

pub unary-sort : (op : UnaryForm) (x : Term) → sort_of (unary_term op x) ≡ unary_sort op (sort_of x)
unary-sort not x = refl
unary-sort neg x = refl

pub binary-sort : (op : BinaryForm) (x y : Term) → sort_of (binary_term op x y) ≡ binary_sort op (sort_of x) (sort_of y)
binary-sort and x y = refl
binary-sort or x y = refl
binary-sort xor x y = refl
binary-sort add x y = refl
binary-sort sub x y = refl
binary-sort mul x y = refl
binary-sort shl x y = refl
binary-sort lshr x y = refl
binary-sort ashr x y = refl
binary-sort eq x y = refl
binary-sort ult x y = refl
binary-sort ule x y = refl
binary-sort slt x y = refl
binary-sort sle x y = refl
binary-sort concat x y = refl
binary-sort load x y = refl

pub widened-sort : (z : Widening) (n : ℕ) (x : Term) → sort_of (widened_term z n x) ≡ extended_sort n (sort_of x)
widened-sort zext n x = refl
widened-sort sext n x = refl

-- ---- without one

bits_right : (s : Option Sort) → same_bits_sort s None ≡ None
bits_right None = refl
bits_right (Some truth) = refl
bits_right (Some (word w)) = refl
bits_right (Some (memory a d)) = refl

word_right : (s : Option Sort) → same_word_sort s None ≡ None
word_right None = refl
word_right (Some truth) = refl
word_right (Some (word w)) = refl
word_right (Some (memory a d)) = refl

concat_right : (s : Option Sort) → concat_sort s None ≡ None
concat_right None = refl
concat_right (Some truth) = refl
concat_right (Some (word w)) = refl
concat_right (Some (memory a d)) = refl

load_right : (s : Option Sort) → load_sort s None ≡ None
load_right None = refl
load_right (Some truth) = refl
load_right (Some (word w)) = refl
load_right (Some (memory a d)) = refl

ite_second : (s t : Option Sort) → ite_sort s None t ≡ None
ite_second None t = refl
ite_second (Some truth) t = refl
ite_second (Some (word w)) t = refl
ite_second (Some (memory a d)) t = refl

ite_third : (s t : Option Sort) → ite_sort s t None ≡ None
ite_third None t = refl
ite_third (Some truth) None = refl
ite_third (Some truth) (Some t) = refl
ite_third (Some (word w)) t = refl
ite_third (Some (memory a d)) t = refl

store_second : (s t : Option Sort) → store_sort s None t ≡ None
store_second None t = refl
store_second (Some truth) t = refl
store_second (Some (word w)) t = refl
store_second (Some (memory a d)) t = refl

store_third : (s t : Option Sort) → store_sort s t None ≡ None
store_third None t = refl
store_third (Some truth) t = refl
store_third (Some (word w)) t = refl
store_third (Some (memory a d)) None = refl
store_third (Some (memory a d)) (Some truth) = refl
store_third (Some (memory a d)) (Some (word w)) = refl
store_third (Some (memory a d)) (Some (memory b e)) = refl

unary_none : (op : UnaryForm) → unary_sort op None ≡ None
unary_none not = refl
unary_none neg = refl

binary_left : (op : BinaryForm) (s : Option Sort) → binary_sort op None s ≡ None
binary_left and s = refl
binary_left or s = refl
binary_left xor s = refl
binary_left add s = refl
binary_left sub s = refl
binary_left mul s = refl
binary_left shl s = refl
binary_left lshr s = refl
binary_left ashr s = refl
binary_left eq s = refl
binary_left ult s = refl
binary_left ule s = refl
binary_left slt s = refl
binary_left sle s = refl
binary_left concat s = refl
binary_left load s = refl

binary_right : (op : BinaryForm) (s : Option Sort) → binary_sort op s None ≡ None
binary_right and s = bits_right s
binary_right or s = bits_right s
binary_right xor s = bits_right s
binary_right add s = word_right s
binary_right sub s = word_right s
binary_right mul s = word_right s
binary_right shl s = word_right s
binary_right lshr s = word_right s
binary_right ashr s = word_right s
binary_right eq s = ap compared (bits_right s)
binary_right ult s = ap compared (word_right s)
binary_right ule s = ap compared (word_right s)
binary_right slt s = ap compared (word_right s)
binary_right sle s = ap compared (word_right s)
binary_right concat s = concat_right s
binary_right load s = load_right s

pub unary-none : (op : UnaryForm) (x : Term) → sort_of x ≡ None → sort_of (unary_term op x) ≡ None
unary-none op x h = unary-sort op x ∙ (ap (unary_sort op) h ∙ unary_none op)

pub first-none : (op : BinaryForm) (x y : Term) → sort_of x ≡ None → sort_of (binary_term op x y) ≡ None
first-none op x y h = binary-sort op x y ∙ (ap (λ s. binary_sort op s (sort_of y)) h ∙ binary_left op (sort_of y))

pub second-none : (op : BinaryForm) (x y : Term) → sort_of y ≡ None → sort_of (binary_term op x y) ≡ None
second-none op x y h = binary-sort op x y ∙ (ap (binary_sort op (sort_of x)) h ∙ binary_right op (sort_of x))

pub extract-none : (h l : ℕ) (x : Term) → sort_of x ≡ None → sort_of (terms.extract h l x) ≡ None
extract-none h l x e = ap (extract_sort h l) e

pub widened-none : (z : Widening) (n : ℕ) (x : Term) → sort_of x ≡ None → sort_of (widened_term z n x) ≡ None
widened-none z n x e = widened-sort z n x ∙ ap (extended_sort n) e

pub ite-first : (c x y : Term) → sort_of c ≡ None → sort_of (terms.ite c x y) ≡ None
ite-first c x y h = ap (λ s. ite_sort s (sort_of x) (sort_of y)) h

pub ite-second : (c x y : Term) → sort_of x ≡ None → sort_of (terms.ite c x y) ≡ None
ite-second c x y h = ap (λ s. ite_sort (sort_of c) s (sort_of y)) h ∙ ite_second (sort_of c) (sort_of y)

pub ite-third : (c x y : Term) → sort_of y ≡ None → sort_of (terms.ite c x y) ≡ None
ite-third c x y h = ap (λ s. ite_sort (sort_of c) (sort_of x) s) h ∙ ite_third (sort_of c) (sort_of x)

pub store-first : (m i x : Term) → sort_of m ≡ None → sort_of (terms.store m i x) ≡ None
store-first m i x h = ap (λ s. store_sort s (sort_of i) (sort_of x)) h

pub store-second : (m i x : Term) → sort_of i ≡ None → sort_of (terms.store m i x) ≡ None
store-second m i x h = ap (λ s. store_sort (sort_of m) s (sort_of x)) h ∙ store_second (sort_of m) (sort_of x)

pub store-third : (m i x : Term) → sort_of x ≡ None → sort_of (terms.store m i x) ≡ None
store-third m i x h = ap (λ s. store_sort (sort_of m) (sort_of i) s) h ∙ store_third (sort_of m) (sort_of i)
