-- Tokens with sizes keep them where identifiers with dots between them are one name.
use Rattle.std.proofs.Common.{Bool, true, false, cond, List, [], ◌∷◌, ◌++◌, Some, None}
use Prim.Native.Char.{code}
use Rattle.wb_values.specs.Value.{Name}
use Rattle.wb_values.specs.ReservedWords.{is_reserved}
use Rattle.verilog_text.specs.Token.{Token, Mark, word, system, decimal, based, mark, dot}
use Rattle.verilog_text.specs.Grammar.{dotted_from, with_dotted_names}
use Rattle.ready_maps.specs.Solid.{IsSizedBefore, AreSized}

-- Such tokens, and a size may stand before them where it may stand before those.
record AreSizedAfter (us ts : List Token) : Type 0 where
  sized : AreSized ts
  before : (t : Token) → IsSizedBefore t us → IsSizedBefore t ts

no_size : (n : Name) (t : Token) (ts : List Token) → IsSizedBefore t (word n ∷ ts)
no_size n (word m) ts = tt
no_size n (system m) ts = tt
no_size n (decimal size) ts = tt
no_size n (based text) ts = tt
no_size n (mark m) ts = tt

no_mark : (m : Mark) (t : Token) (ts : List Token) → IsSizedBefore t (mark m ∷ ts)
no_mark m (word n) ts = tt
no_mark m (system n) ts = tt
no_mark m (decimal size) ts = tt
no_mark m (based text) ts = tt
no_mark m (mark n) ts = tt

-- behind a token that stays, what stood behind it goes on alike
kept : (t : Token) (us ts : List Token) → IsSizedBefore t us → AreSizedAfter us ts → AreSized (t ∷ ts)
kept t us ts h r = (r.before t h, r.sized)

goes_on : (t : Token) (us ts : List Token) → (u : Token) → IsSizedBefore u (t ∷ us) → IsSizedBefore u (t ∷ ts)
goes_on (word n) us ts u h = no_size n u ts
goes_on (mark m) us ts u h = no_mark m u ts
goes_on (system n) us ts (decimal size) h = tt
goes_on (system n) us ts (word m) h = tt
goes_on (system n) us ts (system m) h = tt
goes_on (system n) us ts (based text) h = tt
goes_on (system n) us ts (mark m) h = tt
goes_on (decimal text) us ts (decimal size) h = tt
goes_on (decimal text) us ts (word m) h = tt
goes_on (decimal text) us ts (system m) h = tt
goes_on (decimal text) us ts (based other) h = tt
goes_on (decimal text) us ts (mark m) h = tt
goes_on (based text) us ts (decimal size) h = h
goes_on (based text) us ts (word m) h = tt
goes_on (based text) us ts (system m) h = tt
goes_on (based text) us ts (based other) h = tt
goes_on (based text) us ts (mark m) h = tt

stays : (t : Token) (us ts : List Token) → IsSizedBefore t us → AreSizedAfter us ts → AreSizedAfter (t ∷ us) (t ∷ ts)
stays t us ts h r = record { sized = kept t us ts h r; before = goes_on t us ts }

-- a name is put before
named : (n : Name) (us ts : List Token) → AreSized ts → AreSizedAfter us (word n ∷ ts)
named n us ts h = record { sized = (tt, h); before = λ t g. no_size n t ts }

either : (us : List Token) (b : Bool) (ts vs : List Token) → AreSizedAfter us ts → AreSizedAfter us vs → AreSizedAfter us (cond b ts vs)
either us true ts vs h g = h
either us false ts vs h g = g

mutual
  closed : (ts : List Token) → AreSized ts → AreSizedAfter ts (dotted_from None ts)
  closed [] h = record { sized = tt; before = λ t g. g }
  closed (word m ∷ rest) h =
      either (word m ∷ rest) (is_reserved m) (word m ∷ dotted_from None rest) (dotted_from (Some m) rest) (named m (word m ∷ rest) (dotted_from None rest) (closed rest h.1).sized)
      (opened m (word m ∷ rest) rest h.1)
  closed (system m ∷ rest) h = stays (system m) rest (dotted_from None rest) h.0 (closed rest h.1)
  closed (decimal m ∷ rest) h = stays (decimal m) rest (dotted_from None rest) h.0 (closed rest h.1)
  closed (based m ∷ rest) h = stays (based m) rest (dotted_from None rest) h.0 (closed rest h.1)
  closed (mark m ∷ rest) h = stays (mark m) rest (dotted_from None rest) h.0 (closed rest h.1)

  -- with a name that is open
  opened : (n : Name) (us ts : List Token) → AreSized ts → AreSizedAfter us (dotted_from (Some n) ts)
  opened n us [] h = named n us [] tt
  opened n us (mark dot ∷ word m ∷ rest) h =
      either us (is_reserved m) (word n ∷ mark dot ∷ word m ∷ dotted_from None rest) (dotted_from (Some (n ++ code "." ∷ m)) rest)
      (named n us (mark dot ∷ word m ∷ dotted_from None rest) (tt, (tt, (closed rest h.1.1).sized))) (opened (n ++ code "." ∷ m) us rest h.1.1)
  opened n us (word m ∷ rest) h =
      named n us (cond (is_reserved m) (word m ∷ dotted_from None rest) (dotted_from (Some m) rest))
      (either rest (is_reserved m) (word m ∷ dotted_from None rest) (dotted_from (Some m) rest) (named m rest (dotted_from None rest) (closed rest h.1).sized) (opened m rest rest h.1)).sized
  opened n us (t ∷ rest) h = named n us (t ∷ dotted_from None rest) (kept t rest (dotted_from None rest) h.0 (closed rest h.1))

pub dotted_sized : (ts : List Token) → AreSized ts → AreSized (with_dotted_names ts)
dotted_sized ts h = (closed ts h).sized
