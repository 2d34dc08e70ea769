-- Requests as the definitions see them.
use Rattle.std.specs.Prelude.{◌≡◌, ⊤, map, Option, Some, None, Result, Ok, Err}
use Rattle.clap.specs.declared.error.kind.ErrorKind.{ErrorKind}
use Rattle.clap.specs.declared.error.kind.ErrorKind.TheVariants.{OutOfMemory}
use Rattle.wb_words.specs.Requests as pure
use Rattle.wb_words.specs.declared.requests.Request.{Request}
use Rattle.wb_words.specs.declared.requests.Request.TheVariants as kind
use Rattle.wb_words.specs.declared.stop.WordsStop.{WordsStop}
use Rattle.wb_words.specs.declared.stop.WordsStop.TheVariants.{Usage, NoMemory}

-- a request as data
abbrev pub request_view : Request → pure.Request
request_view (kind.Check c) =
    pure.check c.model.now c.map.now c.budget (map (λ s. s.now) c.designs.items)
request_view (kind.Simulate s) = pure.simulate s.model.now s.script.now
request_view (kind.SimulateRtl s) =
    pure.simulate_rtl s.top.now s.clock.now s.script.now (map (λ d. d.now) s.designs.items)
request_view (kind.Replay r) =
    pure.replay r.model.now r.map.now r.trace.now (map (λ d. d.now) r.designs.items)
request_view (kind.SimulateBoth b) =
    pure.simulate_both b.model.now b.map.now b.script.now (map (λ d. d.now) b.designs.items)
request_view (kind.Emit e) = pure.emit e.model.now e.map_only

-- the result is what is asked for, or refuses where nothing is, unless memory ran out
abbrev pub IsAnswer : {T A : Type 0} → (T → A) → Result T WordsStop → Option A → Type 0
IsAnswer view (Ok r) asked = asked ≡ Some (view r)
IsAnswer view (Err Usage) asked = asked ≡ None
IsAnswer view (Err NoMemory) asked = ⊤

-- why words are not taken, by the kind of clap's error
abbrev pub stop_for : ErrorKind → WordsStop
stop_for OutOfMemory = NoMemory
stop_for _ = Usage
