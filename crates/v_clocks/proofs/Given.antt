-- Connections that give a port a clock net, and those in which a clock net stands as data.
use Rattle.std.proofs.Common.{◌≡◌, ◌∙◌, Bool, true, false, cond, List, [], ◌∷◌, inl, inr, refl, sym, ap, subst, Option, Some, None}
use Rattle.std.specs.Prelude.{◌||◌}
use Rattle.std.specs.List.{list_any}
use Rattle.std.proofs.lemmas.Bool.{false≢true}
use Rattle.wb_values.specs.Value.{Name, same_name, entry_of}
use Rattle.verilog_trees.specs.Syntax.{Expression, number, name, concatenation, replication, as_signed, as_unsigned, unary, reduction, binary, shift, power, comparison, logical, conditional, whole, one, two, Direction, input, output, Module}
use Rattle.verilog_meaning.specs.Settled.{Connection, port_meant, HasPort, port_directions, whole_name}
use Rattle.verilog_designs.specs.Names.{names_in}
use Rattle.verilog_designs.specs.Ports.{is_input}
use Rattle.verilog_unique.proofs.Options.{same_is, is_same, either_true, left_true, right_true}
use Rattle.verilog_unique.proofs.Descent.{IsAmong}
use Rattle.v_clocks.specs.Uses.{no_clock, as_data, as_clock, is_whole, mentions, is_whole_name, has_input, at_port_if_any, use_at, uses_of}
use Rattle.v_clocks.specs.Nets.{gives}
use Rattle.v_clocks.specs.Data.{is_data}

-- ---- lists of names

pub any_among : (p : Name → Bool) (ns : List Name) → list_any p ns ≡ true → (n : Name) × IsAmong ns n × (p n ≡ true)
any_among p [] h = absurd (false≢true h)
any_among p (n ∷ ns) h =
    elim (either_true (p n) (list_any p ns) h) as (λ _. (m : Name) × IsAmong (n ∷ ns) m × (p m ≡ true)) [
      | inl e ↦ (n, inl refl, e)
      | inr e ↦ let r = any_among p ns e in (r.0, inr r.1, r.2)
    ]

pub among_any : (p : Name → Bool) (ns : List Name) (n : Name) → IsAmong ns n → p n ≡ true → list_any p ns ≡ true
among_any p [] n h e = absurd h
among_any p (m ∷ ns) n (inl i) e = left_true (p m) (list_any p ns) (subst (λ z. p z ≡ true) (sym i) e)
among_any p (m ∷ ns) n (inr h) e = right_true (p m) (list_any p ns) (among_any p ns n h e)

pub mentioned : (p : Name → Bool) (e : Expression) → mentions p e ≡ true → (n : Name) × IsAmong (names_in e) n × (p n ≡ true)
unfolding mentions
mentioned p e h = any_among p (names_in e) h

pub mentions_it : (p : Name → Bool) (e : Expression) (n : Name) → IsAmong (names_in e) n → p n ≡ true → mentions p e ≡ true
unfolding mentions
mentions_it p e n h t = among_any p (names_in e) n h t

-- ---- the whole of a name

whole_so : (e : Expression) → is_whole e ≡ true → (n : Name) × (e ≡ whole_name n)
whole_so (number k) h = absurd (false≢true h)
whole_so (name n whole) h = (n, refl)
whole_so (name n (one x)) h = absurd (false≢true h)
whole_so (name n (two x y)) h = absurd (false≢true h)
whole_so (concatenation es) h = absurd (false≢true h)
whole_so (replication k es) h = absurd (false≢true h)
whole_so (as_signed x) h = absurd (false≢true h)
whole_so (as_unsigned x) h = absurd (false≢true h)
whole_so (unary op x) h = absurd (false≢true h)
whole_so (reduction op x) h = absurd (false≢true h)
whole_so (binary op x y) h = absurd (false≢true h)
whole_so (shift op x n) h = absurd (false≢true h)
whole_so (power x n) h = absurd (false≢true h)
whole_so (comparison op x y) h = absurd (false≢true h)
whole_so (logical op x y) h = absurd (false≢true h)
whole_so (conditional c x y) h = absurd (false≢true h)

pub name_of_whole : (e : Expression) → is_whole_name e ≡ true → (n : Name) × (e ≡ whole_name n)
unfolding is_whole_name
name_of_whole e h = whole_so e h

pub whole_is : (n : Name) → is_whole_name (whole_name n) ≡ true
unfolding is_whole_name
whole_is n = refl

-- the one name in it
pub one_name : (n m : Name) → IsAmong (names_in (whole_name n)) m → n ≡ m
one_name n m (inl e) = e
one_name n m (inr h) = absurd h

-- ---- inputs

input_so : (o : Option Direction) → is_input o ≡ true → o ≡ Some input
input_so None h = absurd (false≢true h)
input_so (Some input) h = refl
input_so (Some output) h = absurd (false≢true h)

pub input_port : (m : Module) (n : Name) → has_input m n ≡ true → HasPort m n input
unfolding has_input
input_port m n h = input_so (entry_of (port_directions m) n) h

pub port_input : (m : Module) (n : Name) → HasPort m n input → has_input m n ≡ true
unfolding has_input
port_input m n h = ap is_input h

-- ---- a port that is given a clock net

-- The connection is the whole of one of these names at the input of this name.
pub record IsGiven (clocks : Name → Bool) (m : Module) (c : Connection) (n : Name) : Type 0 where
  pub net : Name
  pub is_net : clocks net ≡ true
  pub is_whole : c.expression ≡ whole_name net
  pub is_meant : port_meant m c.to_port ≡ Some n
  pub is_port : HasPort m n input

module _ (clocks : Name → Bool) (m : Module) where
  given_one : (c : Connection) (n : Name) → gives n (use_at clocks m c.to_port c.expression) ≡ true → IsGiven clocks m c n
  given_one c n h = at_mention (mentions clocks c.expression) refl h
    where
      found : (p : Name) → port_meant m c.to_port ≡ Some p → has_input m p ≡ true → is_whole_name c.expression ≡ true → mentions clocks c.expression ≡ true
          → same_name p n ≡ true → IsGiven clocks m c n
      found p e i w t s =
          let f = name_of_whole c.expression w in
          let g = mentioned clocks c.expression t in
          let same : f.0 ≡ g.0 = one_name f.0 g.0 (subst (λ (z : Expression). IsAmong (names_in z) g.0) f.1 g.1) in
          let named : p ≡ n = same_is p n s in
          record {
            net = f.0;
            is_net = subst (λ z. clocks z ≡ true) (sym same) g.2;
            is_whole = f.1;
            is_meant = e ∙ ap Some named;
            is_port = subst (λ z. HasPort m z input) named (input_port m p i);
          }

      at_whole : (p : Name) (w : Bool) → port_meant m c.to_port ≡ Some p → has_input m p ≡ true → is_whole_name c.expression ≡ w → mentions clocks c.expression ≡ true
          → gives n (cond w (as_clock p) as_data) ≡ true → IsGiven clocks m c n
      at_whole p true e i w t g = found p e i w t g
      at_whole p false e i w t g = absurd (false≢true g)

      at_input : (p : Name) (i : Bool) → port_meant m c.to_port ≡ Some p → has_input m p ≡ i → mentions clocks c.expression ≡ true
          → gives n (cond i (cond (is_whole_name c.expression) (as_clock p) as_data) as_data) ≡ true → IsGiven clocks m c n
      at_input p true e i t g = at_whole p (is_whole_name c.expression) e i refl t g
      at_input p false e i t g = absurd (false≢true g)

      at_meant : (o : Option Name) → port_meant m c.to_port ≡ o → mentions clocks c.expression ≡ true → gives n (at_port_if_any m c.expression o) ≡ true → IsGiven clocks m c n
      at_meant None e t g = absurd (false≢true g)
      at_meant (Some p) e t g = at_input p (has_input m p) e refl t g

      at_mention : (t : Bool) → mentions clocks c.expression ≡ t → gives n (cond t (at_port_if_any m c.expression (port_meant m c.to_port)) no_clock) ≡ true → IsGiven clocks m c n
      at_mention true e g = at_meant (port_meant m c.to_port) refl e g
      at_mention false e g = absurd (false≢true g)

  -- what stands at an input as a whole
  pub as_given : (c : Connection) (p : Name) → port_meant m c.to_port ≡ Some p → has_input m p ≡ true → is_whole_name c.expression ≡ true → mentions clocks c.expression ≡ true
      → use_at clocks m c.to_port c.expression ≡ as_clock p
  as_given c p e i w t =
      ap (λ b. cond b (at_port_if_any m c.expression (port_meant m c.to_port)) no_clock) t ∙ ap (at_port_if_any m c.expression) e
      ∙ ap (λ b. cond b (cond (is_whole_name c.expression) (as_clock p) as_data) as_data) i ∙ ap (λ b. cond b (as_clock p) as_data) w

  one_given : (c : Connection) (n : Name) → IsGiven clocks m c n → gives n (use_at clocks m c.to_port c.expression) ≡ true
  one_given c n g =
      let w : is_whole_name c.expression ≡ true = ap is_whole_name g.is_whole ∙ whole_is g.net in
      let t : mentions clocks c.expression ≡ true
      = mentions_it clocks c.expression g.net (subst (λ (z : Expression). IsAmong (names_in z) g.net) (sym g.is_whole) (inl refl)) g.is_net in
      ap (gives n) (as_given c n g.is_meant (port_input m n g.is_port) w t) ∙ is_same n

  pub given_by : (cs : List Connection) (n : Name) → list_any (gives n) (uses_of clocks m cs) ≡ true → (c : Connection) × IsAmong cs c × IsGiven clocks m c n
  given_by [] n h = absurd (false≢true h)
  given_by (c ∷ cs) n h =
      elim (either_true (gives n (use_at clocks m c.to_port c.expression)) (list_any (gives n) (uses_of clocks m cs)) h)
      as (λ _. (d : Connection) × IsAmong (c ∷ cs) d × IsGiven clocks m d n) [
        | inl e ↦ (c, inl refl, given_one c n e)
        | inr e ↦ let r = given_by cs n e in (r.0, inr r.1, r.2)
      ]

  pub by_given : (cs : List Connection) (c : Connection) (n : Name) → IsAmong cs c → IsGiven clocks m c n → list_any (gives n) (uses_of clocks m cs) ≡ true
  by_given [] c n h g = absurd h
  by_given (d ∷ cs) c n (inl e) g =
      left_true (gives n (use_at clocks m d.to_port d.expression)) (list_any (gives n) (uses_of clocks m cs))
      (one_given d n (subst (λ (z : Connection). IsGiven clocks m z n) (sym e) g))
  by_given (d ∷ cs) c n (inr h) g =
      right_true (gives n (use_at clocks m d.to_port d.expression)) (list_any (gives n) (uses_of clocks m cs)) (by_given cs c n h g)

  -- ---- a clock net as data

  pub data_by : (cs : List Connection) → list_any is_data (uses_of clocks m cs) ≡ true → (c : Connection) × IsAmong cs c × (is_data (use_at clocks m c.to_port c.expression) ≡ true)
  data_by [] h = absurd (false≢true h)
  data_by (c ∷ cs) h =
      elim (either_true (is_data (use_at clocks m c.to_port c.expression)) (list_any is_data (uses_of clocks m cs)) h)
      as (λ _. (d : Connection) × IsAmong (c ∷ cs) d × (is_data (use_at clocks m d.to_port d.expression) ≡ true)) [
        | inl e ↦ (c, inl refl, e)
        | inr e ↦ let r = data_by cs e in (r.0, inr r.1, r.2)
      ]

  pub by_data : (cs : List Connection) (c : Connection) → IsAmong cs c → is_data (use_at clocks m c.to_port c.expression) ≡ true → list_any is_data (uses_of clocks m cs) ≡ true
  by_data [] c h g = absurd h
  by_data (d ∷ cs) c (inl e) g =
      left_true (is_data (use_at clocks m d.to_port d.expression)) (list_any is_data (uses_of clocks m cs))
      (subst (λ (z : Connection). is_data (use_at clocks m z.to_port z.expression) ≡ true) (sym e) g)
  by_data (d ∷ cs) c (inr h) g =
      right_true (is_data (use_at clocks m d.to_port d.expression)) (list_any is_data (uses_of clocks m cs)) (by_data cs c h g)

  -- it mentions a clock net
  pub data_mentions : (c : Connection) → is_data (use_at clocks m c.to_port c.expression) ≡ true → mentions clocks c.expression ≡ true
  data_mentions c h = at_mention (mentions clocks c.expression) refl h
    where
      at_mention : (t : Bool) → mentions clocks c.expression ≡ t → is_data (cond t (at_port_if_any m c.expression (port_meant m c.to_port)) no_clock) ≡ true
          → mentions clocks c.expression ≡ true
      at_mention true e g = e
      at_mention false e g = absurd (false≢true g)

  -- it is so where the connection is not that of the whole of a name with an input
  pub mentioned_data : (c : Connection) → mentions clocks c.expression ≡ true
      → ((p : Name) → port_meant m c.to_port ≡ Some p → has_input m p ≡ true → is_whole_name c.expression ≡ true → ⊥)
      → is_data (use_at clocks m c.to_port c.expression) ≡ true
  mentioned_data c t none = ap (λ b. is_data (cond b (at_port_if_any m c.expression (port_meant m c.to_port)) no_clock)) t ∙ at_meant (port_meant m c.to_port) refl
    where
      at_whole : (p : Name) (w : Bool) → port_meant m c.to_port ≡ Some p → has_input m p ≡ true → is_whole_name c.expression ≡ w → is_data (cond w (as_clock p) as_data) ≡ true
      at_whole p true e i w = absurd (none p e i w)
      at_whole p false e i w = refl

      at_input : (p : Name) (i : Bool) → port_meant m c.to_port ≡ Some p → has_input m p ≡ i
          → is_data (cond i (cond (is_whole_name c.expression) (as_clock p) as_data) as_data) ≡ true
      at_input p true e i = at_whole p (is_whole_name c.expression) e i refl
      at_input p false e i = refl

      at_meant : (o : Option Name) → port_meant m c.to_port ≡ o → is_data (at_port_if_any m c.expression o) ≡ true
      at_meant None e = refl
      at_meant (Some p) e = at_input p (has_input m p) e refl

-- ---- where there is no clock net

no_mention : (ns : List Name) → list_any (λ n. false) ns ≡ false
no_mention [] = refl
no_mention (n ∷ ns) = no_mention ns

nothing_mentioned : (e : Expression) → mentions (λ n. false) e ≡ false
unfolding mentions
nothing_mentioned e = no_mention (names_in e)

pub nothing_in : (ns : List Name) → false ≡ list_any (λ n. false) ns
nothing_in ns = sym (no_mention ns)

pub nothing_given : (m : Module) (cs : List Connection) (n : Name) → list_any (gives n) (uses_of (λ n. false) m cs) ≡ false
nothing_given m [] n = refl
nothing_given m (c ∷ cs) n =
    ap (λ b. gives n (cond b (at_port_if_any m c.expression (port_meant m c.to_port)) no_clock) || list_any (gives n) (uses_of (λ n. false) m cs)) (nothing_mentioned c.expression)
    ∙ nothing_given m cs n

pub nothing_as_data : (m : Module) (cs : List Connection) → list_any is_data (uses_of (λ n. false) m cs) ≡ false
nothing_as_data m [] = refl
nothing_as_data m (c ∷ cs) =
    ap (λ b. is_data (cond b (at_port_if_any m c.expression (port_meant m c.to_port)) no_clock) || list_any is_data (uses_of (λ n. false) m cs)) (nothing_mentioned c.expression)
    ∙ nothing_as_data m cs
