-- A bit after an assignment or a choice in a block: the same, or the valuations outside differ at a bit on which it depends.
use Rattle.std.proofs.Common.{◌≡◌, ℕ, ◌<◌, Bool, true, false, cond, ◌||◌, ◌⊎◌, inl, inr, refl, sym, ◌∙◌, subst, IsTrue}
use Rattle.wb_values.specs.Value.{Name, Valuation}
use Rattle.verilog_trees.specs.Syntax.{Expression, Expressions, no_expressions, expression, Target, CaseKind, Statement, CaseItems, no_items, arm, default_arm}
use Rattle.verilog_meaning.specs.Expression.{Scope, assigned_value}
use Rattle.verilog_meaning.specs.Statement.{places, target_width, written, Effect, wild_bits, matches, any_matches}
use Rattle.verilog_meaning.specs.Register.{value_bit}
use Rattle.verilog_meaning.specs.Settled.{IsValueOf}
use Rattle.verilog_designs.specs.Reads.{BitSet, or_in, reads, reads_in_all, items_read}
use Rattle.verilog_designs.specs.Dependence.{Bit, takes, index_reads, IsGivenBy, Dependences, ThroughReads, AfterAssignment, kept, given, indexed, AfterChoice}
use Rattle.verilog_settled.specs.Locality.{IsSame, DifferAt, HasNoConstantMemory, Fits, AllFit, LeavesAre, AllLeavesAre, IndexesAre, ItemsAre}
use Rattle.verilog_settled.proofs.Values.{Alike, alike_values, alike_turned, alike_further}
use Rattle.verilog_settled.proofs.Found.{Found, In, SameOr, found_left, found_right, two_parts}
use Rattle.verilog_settled.proofs.Expressions.{AreReadable, value_local}
use Rattle.verilog_settled.proofs.Written.{Why, stays, takes_bit, by_index, NotSurely}
use Rattle.verilog_settled.proofs.Targets.{target_placed, target_why}
use Rattle.verilog_settled.proofs.Assigned.{given_found}

-- both valuations outside have a value of the object under the name
abbrev pub HasBoth : Scope → Valuation → Valuation → Name → Type 0
HasBoth s v w n = IsValueOf (s n) (v n) × IsValueOf (s n) (w n)

-- what a run has made of such a value is of its kind
abbrev pub Keeps : Scope → (outer_v outer_w start now : Valuation) → Type 0
Keeps s outer_v outer_w start now = (n : Name) → HasBoth s outer_v outer_w n → Alike (s n) (start n) (now n)

-- Each bit is the same now, or the valuations outside differ at a bit on which it depends.
abbrev pub Tracks : Scope → (outer_v outer_w v w : Valuation) → Dependences → Type 0
Tracks s outer_v outer_w v w before = (u : Bit) → HasBoth s outer_v outer_w u.of_name → IsSame v w u ⊎ DifferAt outer_v outer_w (before u)

pub differ_so : (v w : Valuation) (P Q : Bit → Type 0) → ((y : Bit) → P y → Q y) → DifferAt v w P → DifferAt v w Q
differ_so v w P Q k d = record { bit = d.bit; is_so = k d.bit d.is_so; differs = d.differs }

-- what is known of a run's two sides, in one place
pub record Sides (s : Scope) (outer_v outer_w : Valuation) (IsKnown : Name → Type 0) : Type 0 where
  pub scope : HasNoConstantMemory s
  pub fits_v : AllFit s IsKnown outer_v
  pub fits_w : AllFit s IsKnown outer_w

now_alike : (s : Scope) (a b v w : Valuation) → Keeps s a b a v → Keeps s a b b w → (n : Name) → HasBoth s a b n → Alike (s n) (v n) (w n)
now_alike s a b v w kv kw n h =
    alike_further (s n) (v n) (a n) (w n) (alike_turned (s n) (a n) (v n) (kv n h))
    (alike_further (s n) (a n) (b n) (w n) (alike_values (s n) (a n) (b n) h.0 h.1) (kw n h))

pub readable_now : (s : Scope) (a b v w : Valuation) (IsKnown : Name → Type 0) → Sides s a b IsKnown → Keeps s a b a v → Keeps s a b b w
    → AreReadable s v w (HasBoth s a b) IsKnown
readable_now s a b v w IsKnown g kv kw n k =
    record {
      small = λ c e. subst (λ q. Fits q (s n) (a n)) e (g.fits_v n k);
      alike = λ e. now_alike s a b v w kv kw n (subst (λ q. Fits q (s n) (a n)) e (g.fits_v n k), subst (λ q. Fits q (s n) (b n)) e (g.fits_w n k));
      has_value = λ e. (subst (λ q. Fits q (s n) (a n)) e (g.fits_v n k), subst (λ q. Fits q (s n) (b n)) e (g.fits_w n k));
    }

-- a bit that was found now rests on one outside
outside : (s : Scope) (a b v w : Valuation) (before : Dependences) (P : Bit → Type 0) → Tracks s a b v w before → Found v w (HasBoth s a b) P
    → DifferAt a b (λ y. (x : Bit) × P x × before x y)
outside s a b v w before P tracks f = by_track (tracks f.bit f.has_value)
  where
    by_track : IsSame v w f.bit ⊎ DifferAt a b (before f.bit) → DifferAt a b (λ y. (x : Bit) × P x × before x y)
    by_track (inl e) = absurd (f.differs e)
    by_track (inr d) = record { bit = d.bit; is_so = (f.bit, f.is_so, d.is_so); differs = d.differs }

-- ---- one assignment

pub after_assignment : (s : Scope) (a b v w : Valuation) (IsKnown : Name → Type 0) (before : Dependences) (t : Target) (e : Expression) → Sides s a b IsKnown
    → IndexesAre IsKnown t → LeavesAre IsKnown e → Keeps s a b a v → Keeps s a b b w
    → Keeps s a b a (written s v (places s v t) (assigned_value s v (target_width s t) e))
    → Keeps s a b b (written s w (places s w t) (assigned_value s w (target_width s t) e)) → Tracks s a b v w before
    → Tracks s a b (written s v (places s v t) (assigned_value s v (target_width s t) e)) (written s w (places s w t) (assigned_value s w (target_width s t) e))
    (AfterAssignment s before t e)
after_assignment s a b v w IsKnown before t e g lt le kv kw kv2 kw2 tracks u hu =
    over (target_why s v w (HasBoth s a b) g.scope u (now_alike s a b v w kv kw u.of_name hu) t
    (target_placed s v w (HasBoth s a b) IsKnown g.scope (readable_now s a b v w IsKnown g kv kw) t lt) (assigned_value s v (target_width s t) e)
    (assigned_value s w (target_width s t) e)
    (alike_further (s u.of_name) (v u.of_name) (a u.of_name) (written s v (places s v t) (assigned_value s v (target_width s t) e) u.of_name)
    (alike_turned (s u.of_name) (a u.of_name) (v u.of_name) (kv u.of_name hu)) (kv2 u.of_name hu))
    (alike_further (s u.of_name) (w u.of_name) (b u.of_name) (written s w (places s w t) (assigned_value s w (target_width s t) e) u.of_name)
    (alike_turned (s u.of_name) (b u.of_name) (w u.of_name) (kw u.of_name hu)) (kw2 u.of_name hu)))
  where
    because : Why v w (HasBoth s a b) (NotSurely s t u) (λ j. (j < target_width s t) × IsTrue (takes s t u j)) (In (index_reads s t u))
        (assigned_value s v (target_width s t) e) (assigned_value s w (target_width s t) e) u → DifferAt a b (AfterAssignment s before t e u)
    because (stays n d) = at_bit (tracks u hu)
      where
        at_bit : IsSame v w u ⊎ DifferAt a b (before u) → DifferAt a b (AfterAssignment s before t e u)
        at_bit (inl h) = absurd (d h)
        at_bit (inr h) = differ_so a b (before u) (AfterAssignment s before t e u) (λ y k. kept n k) h
    because (takes_bit j h d) =
        differ_so a b (λ y. (x : Bit) × IsGivenBy s t s e u x × before x y) (AfterAssignment s before t e u) (λ y k. given k.0 k.1 k.2)
        (outside s a b v w before (IsGivenBy s t s e u) tracks
        (given_found s s v w (HasBoth s a b) IsKnown g.scope (readable_now s a b v w IsKnown g kv kw) t e le u j h.0 h.1 d))
    because (by_index f) =
        differ_so a b (λ y. (x : Bit) × In (index_reads s t u) x × before x y) (AfterAssignment s before t e u) (λ y k. indexed k)
        (outside s a b v w before (In (index_reads s t u)) tracks f)

    over : IsSame (written s v (places s v t) (assigned_value s v (target_width s t) e)) (written s w (places s w t) (assigned_value s w (target_width s t) e)) u
        ⊎ Why v w (HasBoth s a b) (NotSurely s t u) (λ j. (j < target_width s t) × IsTrue (takes s t u j)) (In (index_reads s t u))
        (assigned_value s v (target_width s t) e) (assigned_value s w (target_width s t) e) u
        → IsSame (written s v (places s v t) (assigned_value s v (target_width s t) e)) (written s w (places s w t) (assigned_value s w (target_width s t) e)) u
        ⊎ DifferAt a b (AfterAssignment s before t e u)
    over (inl h) = inl h
    over (inr k) = inr (because k)

-- ---- choices

-- the outcome at one bit, where the effects keep the kinds of values
abbrev pub Ends : Scope → (outer_v outer_w : Valuation) → Bit → (x y : Effect) → (Bit → Type 0) → Type 0
Ends s a b u x y P =
    Keeps s a b a x.valuation → Keeps s a b b y.valuation → IsSame x.valuation y.valuation u ⊎ DifferAt a b P

pub ends_so : (s : Scope) (a b : Valuation) (u : Bit) (x y : Effect) (P Q : Bit → Type 0) → ((z : Bit) → P z → Q z) → Ends s a b u x y P → Ends s a b u x y Q
ends_so s a b u x y P Q k h kx ky = over (h kx ky)
  where
    over : IsSame x.valuation y.valuation u ⊎ DifferAt a b P → IsSame x.valuation y.valuation u ⊎ DifferAt a b Q
    over (inl e) = inl e
    over (inr d) = inr (differ_so a b P Q k d)

-- both sides go the same way
pub either_way : (s : Scope) (a b : Valuation) (u : Bit) (t t2 : Bool) (x x2 y y2 : Effect) (P Q : Bit → Type 0) → t ≡ t2
    → Ends s a b u x x2 P → Ends s a b u y y2 Q → Ends s a b u (cond t x y) (cond t2 x2 y2) (λ z. P z ⊎ Q z)
either_way s a b u t t2 x x2 y y2 P Q e f g =
    subst (λ c. Ends s a b u (cond t x y) (cond c x2 y2) (λ z. P z ⊎ Q z)) e (by_test t)
  where
    by_test : (c : Bool) → Ends s a b u (cond c x y) (cond c x2 y2) (λ z. P z ⊎ Q z)
    by_test true = ends_so s a b u x x2 P (λ z. P z ⊎ Q z) (λ z h. inl h) f
    by_test false = ends_so s a b u y y2 Q (λ z. P z ⊎ Q z) (λ z h. inr h) g

-- a bit that no branch assigns is as it was; another rests on the condition, or on the branches where the condition is the same
pub by_choice : (s : Scope) (a b v w : Valuation) (before : Dependences) (u : Bit) → HasBoth s a b u.of_name → Tracks s a b v w before
    → (x y : Effect) (assigns : Bool) (bits : BitSet) (Branches : Bit → Type 0)
    → (assigns ≡ false → Keeps s a b a x.valuation → value_bit (x.valuation u.of_name) u.word u.place ≡ value_bit (v u.of_name) u.word u.place)
    → (assigns ≡ false → Keeps s a b b y.valuation → value_bit (y.valuation u.of_name) u.word u.place ≡ value_bit (w u.of_name) u.word u.place)
    → Ends s a b u x y Branches ⊎ Found v w (HasBoth s a b) (In bits)
    → Ends s a b u x y (λ z. AfterChoice assigns (ThroughReads before bits z) (Branches z) (before u z))
by_choice s a b v w before u hu tracks x y false bits Branches kx ky h gx gy = as_before (tracks u hu)
  where
    as_before : IsSame v w u ⊎ DifferAt a b (before u) → IsSame x.valuation y.valuation u ⊎ DifferAt a b (before u)
    as_before (inl e) = inl (kx refl gx ∙ e ∙ sym (ky refl gy))
    as_before (inr d) = inr d
by_choice s a b v w before u hu tracks x y true bits Branches kx ky (inl h) gx gy =
    ends_so s a b u x y Branches (λ z. ThroughReads before bits z ⊎ Branches z) (λ z k. inr k) h gx gy
by_choice s a b v w before u hu tracks x y true bits Branches kx ky (inr f) gx gy =
    inr (differ_so a b (λ z. (r : Bit) × In bits r × before r z) (λ z. ThroughReads before bits z ⊎ Branches z) (λ z k. inl k)
    (outside s a b v w before (In bits) tracks f))

-- ---- items of a case

any_local : (s : Scope) (v w : Valuation) (HasValue IsKnown : Name → Type 0) → HasNoConstantMemory s → AreReadable s v w HasValue IsKnown
    → (kind : CaseKind) (width : ℕ) (signed : Bool) (x : ℕ) (es : Expressions) → AllLeavesAre IsKnown es
    → SameOr (any_matches s v kind width signed x es) (any_matches s w kind width signed x es) v w HasValue (reads_in_all s es)
any_local s v w HasValue IsKnown p r kind width signed x no_expressions l = inl refl
any_local s v w HasValue IsKnown p r kind width signed x (expression e es) l =
    two_parts (λ y t. matches kind (wild_bits e) x y || t) v w HasValue (reads s e) (reads_in_all s es)
    (value_local s v w HasValue IsKnown p r e width signed l.0) (any_local s v w HasValue IsKnown p r kind width signed x es l.1)

abbrev pub SameItems : Scope → Valuation → Valuation → CaseKind → ℕ → Bool → ℕ → CaseItems → Type 0
SameItems s v w kind width signed x no_items = Unit {0}
SameItems s v w kind width signed x (arm es y items) =
    (any_matches s v kind width signed x es ≡ any_matches s w kind width signed x es) × SameItems s v w kind width signed x items
SameItems s v w kind width signed x (default_arm y items) = SameItems s v w kind width signed x items

joined_items : (s : Scope) (v w : Valuation) (HasValue : Name → Type 0) (kind : CaseKind) (width : ℕ) (signed : Bool) (x : ℕ) (es : Expressions) (y : Statement)
    (items : CaseItems) → SameOr (any_matches s v kind width signed x es) (any_matches s w kind width signed x es) v w HasValue (reads_in_all s es)
    → SameItems s v w kind width signed x items ⊎ Found v w HasValue (In (items_read s items))
    → SameItems s v w kind width signed x (arm es y items) ⊎ Found v w HasValue (In (or_in (reads_in_all s es) (items_read s items)))
joined_items s v w HasValue kind width signed x es y items (inl e) (inl h) = inl (e, h)
joined_items s v w HasValue kind width signed x es y items (inr f) h = inr (found_left v w HasValue (reads_in_all s es) (items_read s items) f)
joined_items s v w HasValue kind width signed x es y items (inl e) (inr f) = inr (found_right v w HasValue (reads_in_all s es) (items_read s items) f)

pub items_local : (s : Scope) (v w : Valuation) (HasValue IsKnown : Name → Type 0) → HasNoConstantMemory s → AreReadable s v w HasValue IsKnown
    → (kind : CaseKind) (width : ℕ) (signed : Bool) (x : ℕ) (items : CaseItems) → ItemsAre IsKnown items
    → SameItems s v w kind width signed x items ⊎ Found v w HasValue (In (items_read s items))
items_local s v w HasValue IsKnown p r kind width signed x no_items l = inl tt
items_local s v w HasValue IsKnown p r kind width signed x (arm es y items) l =
    joined_items s v w HasValue kind width signed x es y items (any_local s v w HasValue IsKnown p r kind width signed x es l.0)
    (items_local s v w HasValue IsKnown p r kind width signed x items l.2)
items_local s v w HasValue IsKnown p r kind width signed x (default_arm y items) l = items_local s v w HasValue IsKnown p r kind width signed x items l.1
