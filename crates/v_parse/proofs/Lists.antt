-- What may be left out and lists: what is read is spelled so, and what is spelled so is read.
use Rattle.std.proofs.Common.{◌≡◌, suc, ◌<◌, ◌≤◌, Bool, List, [], ◌∷◌, ◌++◌, length, Option, Some, None, refl, sym, ap, ◌∙◌, subst, arith, map}
use Rattle.std.proofs.lemmas.List.{map_push}
use Rattle.wb_values.specs.Value.{Name}
use Rattle.verilog_text.specs.Token.{Mark, comma, Token, word, mark}
use Rattle.verilog_text.specs.Grammar.{AreParted, last_part, and_parts, AreInRow, no_more, one_more, IsPerhaps, left_out, given, IsFlag, absent, present, IsName, a_name}
use Rattle.v_expr.specs.Repeat.{choose, Read, repeated}
use Rattle.v_expr.specs.Reading.{after_mark}
use Rattle.v_expr.specs.View.{Fails}
use Rattle.v_expr.specs.declared.stop.ExpressionStop.{ExpressionStop}
use Rattle.v_expr.specs.declared.stop.ExpressionStop.TheVariants.{NoMemory, Refused}
use Rattle.v_expr.proofs.Repeat.{some_is, Shrinks, Chain, chain_of, many_of_chain, with_front, goes_on, is_over, is_lost}
use Rattle.v_expr.proofs.Places.{mark_spelled, mark_again}
use Rattle.v_expr.proofs.Spelled.{bound, either_way, lands}
use Rattle.v_parse.specs.Lists.{ReaderOf, Passes, flag_at, given_at, perhaps_at, past, next_part, others_at, more_at, parted_at}
use Rattle.v_body.specs.Words.{after_word, name_at}
use Rattle.v_body.proofs.Words.{word_spelled, word_again, name_spelled}
use Rattle.v_parse.proofs.Words.{word_length, mark_length}

-- what stands in front of what follows, for a kind
abbrev pub Spelling : Type 0 → Type 1
Spelling A = A → List Token → List Token → Type 0

-- what is read is spelled so, and nothing is put back
abbrev pub Reads : {A : Type 0} → ReaderOf A → Spelling A → Type 0
Reads {A = A} one Is = (ts : List Token) (y : A × List Token) → one ts ≡ Some y → Is y.0 ts y.1 × (length y.1 ≤ length ts)

-- and something is taken
abbrev pub Takes : {A : Type 0} → ReaderOf A → Spelling A → Type 0
Takes {A = A} one Is = (ts : List Token) (y : A × List Token) → one ts ≡ Some y → Is y.0 ts y.1 × (length y.1 < length ts)

-- the last step of a reading
pub is_read : {A : Type 0} {x y : A × List Token} (Is : Spelling A) (ts : List Token) → Some x ≡ Some y → Is x.0 ts x.1 → length x.1 ≤ length ts
    → Is y.0 ts y.1 × (length y.1 ≤ length ts)
is_read Is ts e p q = lands (λ a us. Is a ts us × (length us ≤ length ts)) e (p, q)

-- either way that a choice went whose value is not used
pub either : {A B C : Type 0} (o : Option A) {x y : Option B} {z : B} → choose o (λ w. x) y ≡ Some z → ((w : A) → o ≡ Some w → x ≡ Some z → C) → (o ≡ None → y ≡ Some z → C) → C
either (Some w) e first second = first w refl e
either None e first second = second refl e

-- a mark that was passed stands there
pub before : {A : Type 0} (Is : Spelling A) (m : Mark) {x : A} {text ts rest : List Token} → after_mark m ts ≡ Some rest → Is x text ts → Is x text (mark m ∷ rest)
before Is m {x = x} {text = text} e d = subst (Is x text) (mark_spelled m e) d

pub from_mark : {A : Type 0} (Is : Spelling A) (m : Mark) {x : A} {ts rest more : List Token} → after_mark m ts ≡ Some more → Is x (mark m ∷ more) rest → Is x ts rest
from_mark Is m {x = x} {rest = rest} e d = subst (λ us. Is x us rest) (sym (mark_spelled m e)) d

pub from_word : {A : Type 0} (Is : Spelling A) (w : Name) {x : A} {ts rest more : List Token} → after_word w ts ≡ Some more → Is x (word w ∷ more) rest → Is x ts rest
from_word Is w {x = x} {rest = rest} e d = subst (λ us. Is x us rest) (sym (word_spelled w e)) d

name_read_by : (ts : List Token) (y : Name × List Token) → ts ≡ word y.0 ∷ y.1 → IsName y.0 (word y.0 ∷ y.1) y.1 → IsName y.0 ts y.1 × (length y.1 ≤ length ts)
name_read_by ts y same d = (subst (λ us. IsName y.0 us y.1) (sym same) d, let taken : length ts ≡ suc (length y.1) = ap (λ (us : List Token). length us) same in omega (arith, taken))

pub name_read : Reads name_at IsName
name_read ts y e =
    let n = name_spelled ts y e in
    name_read_by ts y n.parts (a_name y.0 y.1 n.is_identifier)

-- ---- what may be left out

pub flag_read : (w : Name) → Reads (flag_at w) (IsFlag w)
unfolding flag_at
flag_read w ts y h =
    either_way h
    (λ x. is_read (IsFlag w) ts x.2 (from_word (IsFlag w) w x.1 (present x.0)) (omega (arith, word_length w ts x.1)))
    (λ x. is_read (IsFlag w) ts x.1 (absent ts) (omega arith))

pub flag_again : (w : Name) (b : Bool) (text rest : List Token) → IsFlag w b text rest → after_word w rest ≡ None → flag_at w text ≡ Some (b, rest)
unfolding flag_at
flag_again w _ _ _ (absent rest) ends = rw ends refl
flag_again w _ _ _ (present rest) ends = rw (word_again w rest) refl

pub perhaps_read : {A : Type 0} (m : Mark) (Is : Spelling A) (one : ReaderOf A) → Reads one Is → Reads (perhaps_at m one) (IsPerhaps (mark m) Is)
unfolding perhaps_at given_at
perhaps_read m Is one reads ts y h =
    either_way h
    (λ w.
    let x = bound w.2 in
    let d = reads w.0 x.0 x.1 in
    is_read (IsPerhaps (mark m) Is) ts x.2 (from_mark (IsPerhaps (mark m) Is) m w.1 (given x.0.0 w.0 x.0.1 d.0)) (omega (arith, d.1, mark_length m ts w.1)))
    (λ w. is_read (IsPerhaps (mark m) Is) ts w.1 (left_out ts) (omega arith))

pub perhaps_again : {A : Type 0} (m : Mark) (Is : Spelling A) (one : ReaderOf A) (Fits : List Token → Type 0)
    → ((x : A) (text rest : List Token) → Is x text rest → Fits rest → one text ≡ Some (x, rest))
    → (o : Option A) (text rest : List Token) → IsPerhaps (mark m) Is o text rest → after_mark m rest ≡ None → Fits rest → perhaps_at m one text ≡ Some (o, rest)
unfolding perhaps_at given_at
perhaps_again m Is one Fits again _ _ _ (left_out rest) ends fits = rw ends refl
perhaps_again m Is one Fits again _ _ _ (given x text rest d) ends fits = rw (mark_again m text, again x text rest d fits) refl

-- ---- lists with something between

-- what goes on with a list takes something
abbrev pub Advances : Passes → Type 0
Advances next = (ts more : List Token) → next ts ≡ Some more → length more < length ts

past_by : (o : Option (List Token)) (ts rest : List Token) → choose o (λ more. None) (Some ts) ≡ Some rest → (o ≡ None) × (ts ≡ rest)
past_by None ts rest e = (refl, some_is ts rest e)
past_by (Some more) ts rest e = absurd cc

pub past_is : (next : Passes) (ts rest : List Token) → past next ts ≡ Some rest → (next ts ≡ None) × (ts ≡ rest)
unfolding past
past_is next ts rest e = past_by (next ts) ts rest e

pub past_over : (next : Passes) (ts : List Token) → next ts ≡ None → past next ts ≡ Some ts
unfolding past
past_over next ts e = rw e refl

pub past_on : (next : Passes) (ts more : List Token) → next ts ≡ Some more → past next ts ≡ None
unfolding past
past_on next ts more e = rw e refl

pub next_part_at : {A : Type 0} (next : Passes) (one : ReaderOf A) (ts more : List Token) → next ts ≡ Some more → next_part next one ts ≡ one more
unfolding next_part
next_part_at next one ts more e = rw e refl

-- no part puts anything back
abbrev pub Keeps : {A : Type 0} → ReaderOf A → Type 0
Keeps {A = A} one = (ts : List Token) (x : A) (rest : List Token) → one ts ≡ Some (x, rest) → length rest ≤ length ts

pub keeps : {A : Type 0} (Is : Spelling A) {one : ReaderOf A} → Reads one Is → Keeps one
keeps Is reads ts x rest e = (reads ts (x, rest) e).1

pub next_part_shrinks : {A : Type 0} (next : Passes) (one : ReaderOf A) → Advances next → Keeps one → Shrinks (next_part next one)
unfolding next_part
next_part_shrinks next one advances keeping ts x rest e =
    let w = bound e in
    omega (arith, advances ts w.0 w.1, keeping w.0 x rest w.2)

-- the parts of a list as they are read
pub record AreRead {A : Type 0} (next : Passes) (one : ReaderOf A) (xs : List A) (text rest : List Token) : Type 0 where
  pub first : A
  pub more : List Token
  pub others : List A
  pub are : first ∷ others ≡ xs
  pub first_read : one text ≡ Some (first, more)
  pub others_read : Chain (past next) (next_part next one) others more rest

pub parts_of : {A : Type 0} (next : Passes) (one : ReaderOf A) (ts : List Token) (y : List A × List Token) → parted_at next one ts ≡ Some y → AreRead next one y.0 ts y.1
unfolding parted_at more_at others_at repeated
parts_of next one ts y h =
    let x = bound h in
    let o = bound x.2 in
    lands (λ xs us. AreRead next one xs ts us) o.2 (record {
      first = x.0.0;
      more = x.0.1;
      others = o.0.0;
      are = refl;
      first_read = x.1;
      others_read = chain_of (past next) (next_part next one) (suc (length x.0.1)) x.0.1 o.0 o.1;
    })

others_again : {A : Type 0} (next : Passes) (one : ReaderOf A) → Advances next → Keeps one → (xs : List A) (ts rest : List Token)
    → Chain (past next) (next_part next one) xs ts rest → others_at next one ts ≡ Some (xs, rest)
unfolding others_at repeated
others_again next one advances keeping xs ts rest c =
    many_of_chain (past next) (next_part next one) (next_part_shrinks next one advances keeping) (suc (length ts)) xs ts rest (omega arith) c

pub parts_again : {A : Type 0} (next : Passes) (one : ReaderOf A) → Advances next → Keeps one → (xs : List A) (text rest : List Token)
    → AreRead next one xs text rest → parted_at next one text ≡ Some (xs, rest)
unfolding parted_at more_at
parts_again next one advances keeping xs text rest r =
    let others = others_again next one advances keeping r.others r.more rest r.others_read in
    subst (λ ys. parted_at next one text ≡ Some (ys, rest)) r.are (rw (r.first_read, others) refl)

-- the last part
pub last_read : {A : Type 0} (next : Passes) (one : ReaderOf A) (x : A) (text rest : List Token) → one text ≡ Some (x, rest) → next rest ≡ None → AreRead next one (x ∷ []) text rest
last_read next one x text rest e ends = record { first = x; more = rest; others = []; are = refl; first_read = e; others_read = past_over next rest ends }

-- a part in front of others
pub one_read : {A : Type 0} (next : Passes) (one : ReaderOf A) (x : A) (xs : List A) (text middle more rest : List Token) → one text ≡ Some (x, middle) → next middle ≡ Some more
    → AreRead next one xs more rest → AreRead next one (x ∷ xs) text rest
one_read next one x xs text middle more rest e on r = record {
  first = x;
  more = middle;
  others = r.first ∷ r.others;
  are = ap (λ ys. x ∷ ys) r.are;
  first_read = e;
  others_read = (r.more, past_on next middle more on, next_part_at next one middle more on ∙ r.first_read, r.others_read);
}

parted_by : {A : Type 0} (Is : Spelling A) (next : Passes) (one : ReaderOf A) → Reads one Is → ((ts more : List Token) → next ts ≡ Some more → ts ≡ mark comma ∷ more)
    → (xs : List A) (x : A) (text ts rest : List Token) → Is x text ts → Chain (past next) (next_part next one) xs ts rest → AreParted Is (x ∷ xs) text rest × (length rest ≤ length ts)
unfolding next_part
parted_by Is next one reads passes [] x text ts rest d c =
    let same = past_is next ts rest c in
    (last_part x text rest (subst (Is x text) same.1 d), omega (arith, ap (λ (us : List Token). length us) same.1))
parted_by Is next one reads passes (y ∷ ys) x text ts rest d c =
    let w = bound c.2 in
    let part = reads w.0 (y, c.0) w.2 in
    let others = parted_by Is next one reads passes ys y w.0 c.0 rest part.0 c.3 in
    let parts : length ts ≡ suc (length w.0) = ap (λ (us : List Token). length us) (passes ts w.0 w.1) in
    (and_parts x (y ∷ ys) text w.0 rest (subst (Is x text) (passes ts w.0 w.1) d) others.0, omega (arith, others.1, part.1, parts))

pub parted_read : {A : Type 0} (Is : Spelling A) (next : Passes) (one : ReaderOf A) → Reads one Is → ((ts more : List Token) → next ts ≡ Some more → ts ≡ mark comma ∷ more)
    → Reads (parted_at next one) (AreParted Is)
parted_read Is next one reads passes ts y h =
    let r = parts_of next one ts y h in
    let first = reads ts (r.first, r.more) r.first_read in
    let all = parted_by Is next one reads passes r.others r.first ts r.more y.1 first.0 r.others_read in
    (subst (λ xs. AreParted Is xs ts y.1) r.are all.0, omega (arith, all.1, first.1))

-- something of the first part
pub first_part : {A : Type 0} (Is : Spelling A) (P : List Token → Type 0) → ((x : A) (text rest : List Token) → Is x text rest → P text)
    → (xs : List A) (text rest : List Token) → AreParted Is xs text rest → P text
first_part Is P holds _ _ _ (last_part x text rest d) = holds x text rest d
first_part Is P holds _ _ _ (and_parts x xs text more rest d ds) = holds x text (mark comma ∷ more) d

-- What may follow a part, and that the list goes on, is known in front of each part.
abbrev pub GoesOn : Passes → (List Token → Type 0) → List Token → Type 0
GoesOn next Fits text = Fits (mark comma ∷ text) × (next (mark comma ∷ text) ≡ Some text)

pub parted_again : {A : Type 0} (Is : Spelling A) (next : Passes) (one : ReaderOf A) (Fits : List Token → Type 0)
    → ((x : A) (text rest : List Token) → Is x text rest → Fits rest → one text ≡ Some (x, rest))
    → ((x : A) (text rest : List Token) → Is x text rest → Fits (mark comma ∷ text) × (next (mark comma ∷ text) ≡ Some text))
    → (xs : List A) (text rest : List Token) → AreParted Is xs text rest → Fits rest → next rest ≡ None → AreRead next one xs text rest
parted_again Is next one Fits again goes _ _ _ (last_part x text rest d) fits ends = last_read next one x text rest (again x text rest d fits) ends
parted_again Is next one Fits again goes _ _ _ (and_parts x xs text more rest d ds) fits ends =
    let on = first_part Is (GoesOn next Fits) goes xs more rest ds in
    one_read next one x xs text (mark comma ∷ more) more rest (again x text (mark comma ∷ more) d on.0) on.1 (parted_again Is next one Fits again goes xs more rest ds fits ends)

-- ---- the turns of a list's loop

-- the first part
pub list_begins : {A B : Type 0} (view : B → A) (next : Passes) (one : ReaderOf A) (ts : List Token) (x : B) (rest : List Token) (xs : List B) → xs ≡ x ∷ []
    → one ts ≡ Some (view x, rest) → with_front (map view xs) (others_at next one rest) ≡ parted_at next one ts
unfolding parted_at more_at
list_begins view next one ts x rest xs now e =
    let read : with_front (view x ∷ []) (others_at next one rest) ≡ parted_at next one ts = rw e refl in
    subst (λ ys. with_front (map view ys) (others_at next one rest) ≡ parted_at next one ts) (sym now) read

-- the first part is refused
pub list_is_none : {A : Type 0} (next : Passes) (one : ReaderOf A) (e : ExpressionStop) (ts : List Token) → Fails e (one ts) → Fails e (parted_at next one ts)
unfolding parted_at
list_is_none next one NoMemory ts f = tt
list_is_none next one (Refused left) ts f = rw f refl

-- the list goes on
pub list_goes_on : {A B : Type 0} (view : B → A) (next : Passes) (one : ReaderOf A) → Advances next → Keeps one → (front xs : List B) (ts more : List Token) (x : B) (rest : List Token)
    → (total : Read Token (List A)) → xs ≡ front ++ x ∷ [] → Some more ≡ next ts → one more ≡ Some (view x, rest) → with_front (map view front) (others_at next one ts) ≡ total
    → with_front (map view xs) (others_at next one rest) ≡ total
unfolding others_at
list_goes_on view next one advances keeping front xs ts more x rest total pushed on e so_far =
    let now : map view xs ≡ map view front ++ view x ∷ [] = ap (map view) pushed ∙ map_push view front x in
    let turn = goes_on (past next) (next_part next one) (next_part_shrinks next one advances keeping) (map view front) ts (view x) rest total (past_on next ts more (sym on)) (next_part_at next one ts more (sym on) ∙ e) so_far in
    subst (λ ys. with_front ys (others_at next one rest) ≡ total) (sym now) turn

pub list_shrinks : {A : Type 0} (next : Passes) (one : ReaderOf A) → Advances next → Keeps one → (ts more : List Token) (x : A) (rest : List Token)
    → Some more ≡ next ts → one more ≡ Some (x, rest) → length rest < length ts
list_shrinks next one advances keeping ts more x rest on e = omega (arith, advances ts more (sym on), keeping more x rest e)

-- it ends
pub list_ends : {A : Type 0} (next : Passes) (one : ReaderOf A) (front : List A) (ts : List Token) (total : Read Token (List A))
    → None ≡ next ts → with_front front (others_at next one ts) ≡ total → total ≡ Some (front, ts)
unfolding others_at
list_ends next one front ts total ends so_far = is_over (past next) (next_part next one) front ts ts total (past_over next ts (sym ends)) so_far

-- a part is refused
pub list_fails : {A : Type 0} (next : Passes) (one : ReaderOf A) (e : ExpressionStop) (front : List A) (ts more : List Token) (total : Read Token (List A))
    → Some more ≡ next ts → Fails e (one more) → with_front front (others_at next one ts) ≡ total → Fails e total
unfolding others_at
list_fails next one NoMemory front ts more total on f so_far = tt
list_fails next one (Refused left) front ts more total on f so_far =
    is_lost (past next) (next_part next one) front ts total (past_on next ts more (sym on)) (next_part_at next one ts more (sym on) ∙ f) so_far

-- ---- rows

row_by : {A : Type 0} (Is : Spelling A) (stop : Passes) (one : ReaderOf A) (end : List Token → List Token) → Takes one Is → ((ts rest : List Token) → stop ts ≡ Some rest → ts ≡ end rest)
    → (xs : List A) (ts rest : List Token) → Chain stop one xs ts rest → AreInRow Is xs ts (end rest)
row_by Is stop one end reads ends [] ts rest c = subst (λ us. AreInRow Is [] us (end rest)) (sym (ends ts rest c)) (no_more (end rest))
row_by Is stop one end reads ends (x ∷ xs) ts rest c =
    one_more x xs ts c.0 (end rest) (reads ts (x, c.0) c.2).0 (row_by Is stop one end reads ends xs c.0 rest c.3)

row_length : {A : Type 0} (Is : Spelling A) (stop : Passes) (one : ReaderOf A) → Takes one Is → ((ts rest : List Token) → stop ts ≡ Some rest → length rest ≤ length ts)
    → (xs : List A) (ts rest : List Token) → Chain stop one xs ts rest → length rest ≤ length ts
row_length Is stop one reads ends [] ts rest c = ends ts rest c
row_length Is stop one reads ends (x ∷ xs) ts rest c = omega (arith, (reads ts (x, c.0) c.2).1, row_length Is stop one reads ends xs c.0 rest c.3)

-- what is read up to an end, and the end
pub row_read : {A : Type 0} (Is : Spelling A) (stop : Passes) (one : ReaderOf A) (end : List Token → List Token) → Takes one Is
    → ((ts rest : List Token) → stop ts ≡ Some rest → (ts ≡ end rest) × (length rest ≤ length ts))
    → (ts : List Token) (y : List A × List Token) → repeated stop one ts ≡ Some y → AreInRow Is y.0 ts (end y.1) × (length y.1 ≤ length ts)
unfolding repeated
row_read Is stop one end reads ends ts y h =
    let c = chain_of stop one (suc (length ts)) ts y h in
    (row_by Is stop one end reads (λ us rest e. (ends us rest e).0) y.0 ts y.1 c, row_length Is stop one reads (λ us rest e. (ends us rest e).1) y.0 ts y.1 c)

-- what may follow holds in front of each of the row, and of its end
row_fits : {A : Type 0} (Is : Spelling A) (Fits : List Token → Type 0) → ((x : A) (text rest : List Token) → Is x text rest → Fits text)
    → (xs : List A) (text rest : List Token) → AreInRow Is xs text rest → Fits rest → Fits text
row_fits Is Fits fits _ _ _ (no_more rest) ends = ends
row_fits Is Fits fits _ _ _ (one_more x xs text more rest d ds) ends = fits x text more d

row_chain : {A : Type 0} (Is : Spelling A) (stop : Passes) (one : ReaderOf A) (Fits : List Token → Type 0)
    → ((x : A) (text rest : List Token) → Is x text rest → Fits rest → one text ≡ Some (x, rest))
    → ((x : A) (text rest : List Token) → Is x text rest → Fits text) → ((x : A) (text rest : List Token) → Is x text rest → stop text ≡ None)
    → (xs : List A) (text end rest : List Token) → AreInRow Is xs text end → Fits end → stop end ≡ Some rest → Chain stop one xs text rest
row_chain Is stop one Fits again fits goes _ _ _ rest (no_more end) ends over = over
row_chain Is stop one Fits again fits goes _ _ _ rest (one_more x xs text more end d ds) ends over =
    (more, goes x text more d, again x text more d (row_fits Is Fits fits xs more end ds ends), row_chain Is stop one Fits again fits goes xs more end rest ds ends over)

pub shrinking : {A : Type 0} (Is : Spelling A) {one : ReaderOf A} → Takes one Is → Shrinks one
shrinking Is reads ts x rest e = (reads ts (x, rest) e).1

pub row_again : {A : Type 0} (Is : Spelling A) (stop : Passes) (one : ReaderOf A) (Fits : List Token → Type 0) → Takes one Is
    → ((x : A) (text rest : List Token) → Is x text rest → Fits rest → one text ≡ Some (x, rest))
    → ((x : A) (text rest : List Token) → Is x text rest → Fits text) → ((x : A) (text rest : List Token) → Is x text rest → stop text ≡ None)
    → (xs : List A) (text end rest : List Token) → AreInRow Is xs text end → Fits end → stop end ≡ Some rest → repeated stop one text ≡ Some (xs, rest)
unfolding repeated
row_again Is stop one Fits reads again fits goes xs text end rest d ends over =
    many_of_chain stop one (shrinking Is reads) (suc (length text)) xs text rest (omega arith) (row_chain Is stop one Fits again fits goes xs text end rest d ends over)

-- a turn fails
pub row_fails : {A : Type 0} (stop : Passes) (one : ReaderOf A) (e : ExpressionStop) (front : List A) (ts : List Token) (total : Read Token (List A))
    → stop ts ≡ None → Fails e (one ts) → with_front front (repeated stop one ts) ≡ total → Fails e total
row_fails stop one NoMemory front ts total at_stop at_one so_far = tt
row_fails stop one (Refused left) front ts total at_stop at_one so_far = is_lost stop one front ts total at_stop at_one so_far
