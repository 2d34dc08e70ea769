-- The lists of events that a block may have, where some names of the module are clock nets.
use Rattle.std.specs.Prelude.{◌≡◌, ◌≢◌, ℕ, Bool, true, false, not, ◌&&◌, ◌||◌, ◌==◌, List, [], ◌∷◌, Contains, is_none, IsTrue}
use Rattle.wb_values.specs.Value.{Name, same_name}
use Rattle.verilog_trees.specs.Syntax.{Statement, EdgeKind, posedge, negedge, any_edge, Event, Events, any_change, on_events}
use Rattle.verilog_meaning.specs.Expression.{Scope, object_width, is_memory}
use Rattle.verilog_meaning.specs.Register.{is_edge}
use Rattle.verilog_designs.specs.Names.{is_among}
use Rattle.verilog_designs.specs.Reads.{reads_outside}
use Rattle.verilog_designs.specs.Paths.{signals}
use Rattle.v_syntax.specs.declared.module.Event.{Event as CodeEvent}
use Rattle.v_syntax.specs.Source.{edge_of}

-- posedge of a clock net
abbrev pub IsClockEdgeIn : (is_clock_net : Name → Bool) → Event → Type 0
IsClockEdgeIn is_clock_net e = (e.edge ≡ posedge) × IsTrue (is_clock_net e.signal)

-- an edge of a net or variable of one bit
pub record IsBitEdgeIn (s : Scope) (e : Event) : Type 0 where
  pub edge : e.edge ≢ any_edge
  pub is_declared : IsTrue ((s e.signal).is_declared)
  pub no_constant : is_none (s e.signal).constant ≡ true
  pub no_memory : is_memory (s e.signal) ≡ false
  pub one_bit : object_width (s e.signal) ≡ 1

-- The names cover all that the statement reads from outside.
abbrev pub CoversIn : Scope → List Event → Statement → Type 0
CoversIn s es x = (n : Name) (k b : ℕ) → IsTrue (reads_outside s x n k b) → IsTrue (is_among (signals es) n)

-- names alone, which cover it
pub record CoversReadsIn (s : Scope) (es : List Event) (x : Statement) : Type 0 where
  pub plain : (e : Event) → Contains es e → e.edge ≡ any_edge
  pub covers : CoversIn s es x

-- A clock net's edge; that and another name's edge, in either order; `*`; names that cover what the block reads.
pub data IsEventListIn (s : Scope) (is_clock_net : Name → Bool) (x : Statement) : Events → Type 0 where
  star : IsEventListIn s is_clock_net x any_change
  one_clock : (c : Event) → IsClockEdgeIn is_clock_net c → IsEventListIn s is_clock_net x (on_events (c ∷ []))
  clock_first : (c e : Event) → IsClockEdgeIn is_clock_net c → IsBitEdgeIn s e → c.signal ≢ e.signal → IsEventListIn s is_clock_net x (on_events (c ∷ e ∷ []))
  clock_second : (c e : Event) → IsClockEdgeIn is_clock_net c → IsBitEdgeIn s e → c.signal ≢ e.signal → IsEventListIn s is_clock_net x (on_events (e ∷ c ∷ []))
  names : (es : List Event) → CoversReadsIn s es x → IsEventListIn s is_clock_net x (on_events es)

-- ---- the same as tests, of lists with an edge

abbrev pub event_of : CodeEvent → Event
event_of e = record { edge = edge_of e.edge; signal = e.signal.now }

abbrev pub is_posedge : EdgeKind → Bool
is_posedge posedge = true
is_posedge negedge = false
is_posedge any_edge = false

abbrev pub is_clock_edge : (is_clock_net : Name → Bool) → Event → Bool
is_clock_edge is_clock_net e = is_posedge e.edge && is_clock_net e.signal

abbrev pub is_bit_edge : Scope → Event → Bool
is_bit_edge s e =
    is_edge e.edge
    && ((s e.signal).is_declared && (is_none (s e.signal).constant && (not (is_memory (s e.signal)) && (object_width (s e.signal) == 1))))

abbrev pub is_clock_pair : Scope → (is_clock_net : Name → Bool) → Event → Event → Bool
is_clock_pair s is_clock_net c e = is_clock_edge is_clock_net c && (is_bit_edge s e && not (same_name c.signal e.signal))

abbrev pub is_clock_list : Scope → (is_clock_net : Name → Bool) → List Event → Bool
is_clock_list s is_clock_net [] = false
is_clock_list s is_clock_net (c ∷ []) = is_clock_edge is_clock_net c
is_clock_list s is_clock_net (c ∷ e ∷ []) = is_clock_pair s is_clock_net c e || is_clock_pair s is_clock_net e c
is_clock_list s is_clock_net (c ∷ e ∷ f ∷ es) = false
