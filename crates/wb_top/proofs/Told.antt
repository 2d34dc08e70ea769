-- From the first bytes that are read to the bytes that are held.
use Rattle.std.proofs.Common.{◌≡◌, ◌≤◌, ◌+◌, ℕ, Bool, cond, suc, nat_le, min, List, [], ◌∷◌, take, map, length, refl, ap, sym, ◌∙◌, subst, arith, Some, None, true, false}
use Rattle.std.proofs.lemmas.List.{take_all, length-take}
use Rattle.std.proofs.Math.Seq.{take-length}
use Rattle.std.specs.declared.option.Option.{Option}
use Rattle.std.specs.Option.{option_map}
use Rattle.wb_values.specs.Value.{Name}
use Rattle.refinement.specs.Map.{Setting}
use Rattle.check_limits.specs.Limits as limits
use Rattle.wb_outside.specs.Outside.{with_appended, GrewByPrefix, AreStartsOf}
use Rattle.wb_top.specs.Words.{Verb, check, simulate, simulate_rtl, replay, simulate_both, emit, Command, command_of}
use Rattle.std.proofs.lemmas.Bool.Decides.{nat_tests}
use Rattle.wb_top.specs.Files.{most_bytes, has_fitting_length, first_long, AreHeld}
use Rattle.wb_top.specs.Simulated.{Pair, runs, refused, pair_of, IsSimulated, AreSimulated}
use Rattle.rtl_simulation.specs.Ending.{Ending, broken, bad_line, missing_input, ran}
use Rattle.wb_top.specs.SimulatedRtl.{IsWrittenFor, IsSimulatedText, AreRtlSimulated}
use Rattle.trace_files.specs.Replay.{Replayed, falsifies, hypothesis_fails, obligation_holds}
use Rattle.replay_report.specs.Ending as replays
use Rattle.wb_top.specs.Replayed as replayed
use Rattle.wb_top.specs.Replayed.{status_for, is_refused, is_replayed, AreReplayed}
use Rattle.watched_runs.specs.Watched.{Watched, agrees, outside, disagrees}
use Rattle.watch_report.specs.Ending as watches
use Rattle.wb_top.specs.SimulatedBoth as both
use Rattle.wb_top.specs.SimulatedBoth.{files_refused, is_watched, AreSimulatedBoth}
use Rattle.wb_top.specs.Emitted as emitted
use Rattle.wb_top.specs.Emitted.{Subject, emits, subject_of, IsEmitted, AreEmitted}
use Rattle.wb_top.specs.Asked.{wanted_names, AskedAll, AskedSome}
use Rattle.wb_top.specs.Outcome.{Told, IsCheckedWithin, IsEnd, IsWithin, IsAnswer, IsAnswered, IsCallOutcome}
use Rattle.wb_top.specs.declared.status.Status.{Status}
use Rattle.wb_top.specs.declared.status.Status.TheVariants.{Done, Failed, Unknown, Usage, Refused, ReadFault, WriteFault, NoMemory, Limit}

-- the first bytes of a file that is no longer than the limit are all
whole : (n : ℕ) (bytes : List ℕ) → length bytes ≤ n → take (n + 1) bytes ≡ bytes
whole n bytes fits = take_all (n + 1) bytes (omega (arith, fits))

none_is_none : (k : ℕ) → ◌≡◌ {A = Option ℕ} (Some k) None → ⊥
none_is_none k h = subst is_some h tt
  where
    is_some : Option ℕ → Type 0
    is_some None = ⊥
    is_some (Some x) = Unit {0}

abbrev starts : List (List ℕ) → List (List ℕ)
starts contents = map (take (most_bytes + 1)) contents

fits_as_start : (n l : ℕ) (m : List ℕ) → l ≡ min (n + 1) (length m) → nat_le l n ≡ nat_le (length m) n
fits_as_start n l m is = grind (arith, nat_tests, is)

start_fits_as_all : (m : List ℕ) → has_fitting_length (take (most_bytes + 1) m) ≡ has_fitting_length m
unfolding has_fitting_length
start_fits_as_all m = fits_as_start most_bytes _ m (length-take (most_bytes + 1) m)

-- the first bytes are too long where all bytes are
first_long_of_starts : (k : ℕ) (contents : List (List ℕ)) → first_long k (starts contents) ≡ first_long k contents
first_long_of_starts k [] = refl
first_long_of_starts k (m ∷ ms) = λ i. cond (start_fits_as_all m i) (first_long_of_starts (suc k) ms i) (Some k)

at_most : (m : List ℕ) → has_fitting_length m ≡ true → length m ≤ most_bytes
unfolding has_fitting_length
at_most m h = grind (arith, nat_tests, h)

one_fits : (k : ℕ) (m : List ℕ) (ms : List (List ℕ)) (b : Bool) → has_fitting_length m ≡ b → (first_long (suc k) ms ≡ None → starts ms ≡ ms)
    → cond b (first_long (suc k) ms) (Some k) ≡ None → starts (m ∷ ms) ≡ m ∷ ms
one_fits k m ms true fit others rest = λ i. whole most_bytes m (at_most m fit) i ∷ others rest i
one_fits k m ms false fit others long = absurd (none_is_none k long)

-- Where no file is too long the first bytes are all.
starts_if_fit : (k : ℕ) (contents : List (List ℕ)) → first_long k contents ≡ None → starts contents ≡ contents
starts_if_fit k [] h = refl
starts_if_fit k (m ∷ ms) h = one_fits k m ms (has_fitting_length m) refl (λ rest. starts_if_fit (suc k) ms rest) h

-- so an answer on the first bytes is one on all bytes
pub answer_of_starts : (verb : Verb) (contents : List (List ℕ)) (status : Status) (text : Told) → IsAnswer verb (starts contents) status text
    → IsAnswer verb contents status text
answer_of_starts verb contents status text answer =
    within (first_long 0 contents) refl (subst (λ o. IsWithin o verb (starts contents) status text) (first_long_of_starts 0 contents) answer)
  where
    within : (o : Option ℕ) → first_long 0 contents ≡ o → IsWithin o verb (starts contents) status text → IsWithin o verb contents status text
    within None is ended = subst (λ bytes. IsEnd verb bytes status text) (starts_if_fit 0 contents is) ended
    within (Some k) is long = long

-- a file that begins so
record Begun (n : ℕ) (file : Option (List ℕ)) (start : List ℕ) : Type 0 where
  bytes : List ℕ
  is_file : file ≡ Some bytes
  is_start : start ≡ take n bytes

begun : (n : ℕ) (file : Option (List ℕ)) (start : List ℕ) → option_map (take n) file ≡ Some start → Begun n file start
begun n None start h = absurd (no_file h)
  where
    no_file : ◌≡◌ {A = Option (List ℕ)} None (Some start) → ⊥
    no_file e = subst is_none e tt
      where
        is_none : Option (List ℕ) → Type 0
        is_none None = Unit {0}
        is_none (Some x) = ⊥
begun n (Some bytes) start h = record { bytes = bytes; is_file = refl; is_start = ap (value_or start) (sym h) }
  where
    value_or : List ℕ → Option (List ℕ) → List ℕ
    value_or z None = z
    value_or z (Some w) = w

abbrev first_or : Option (List ℕ) → List (Option (List ℕ)) → Option (List ℕ)
first_or z [] = z
first_or z (x ∷ xs) = x

abbrev rest_of : List (Option (List ℕ)) → List (Option (List ℕ))
rest_of [] = []
rest_of (x ∷ xs) = xs

-- files that begin so
record AllBegun (n : ℕ) (files : Name → Option (List ℕ)) (names : List Name) (contents : List (List ℕ)) : Type 0 where
  all_bytes : List (List ℕ)
  are_files : map files names ≡ map Some all_bytes
  are_starts : contents ≡ map (take n) all_bytes

all_begun : (n : ℕ) (files : Name → Option (List ℕ)) (names : List Name) (contents : List (List ℕ))
    → map (λ name. option_map (take n) (files name)) names ≡ map Some contents → AllBegun n files names contents
all_begun n files [] [] h = record { all_bytes = []; are_files = refl; are_starts = refl }
all_begun n files [] (x ∷ xs) h = absurd (shorter h)
  where
    shorter : ◌≡◌ {A = List (Option (List ℕ))} [] (Some x ∷ map Some xs) → ⊥
    shorter e = subst is_empty e tt
      where
        is_empty : List (Option (List ℕ)) → Type 0
        is_empty [] = Unit {0}
        is_empty (y ∷ ys) = ⊥
all_begun n files (name ∷ names) [] h = absurd (longer (sym h))
  where
    longer : ◌≡◌ {A = List (Option (List ℕ))} [] (option_map (take n) (files name) ∷ map (λ name. option_map (take n) (files name)) names) → ⊥
    longer e = subst is_empty e tt
      where
        is_empty : List (Option (List ℕ)) → Type 0
        is_empty [] = Unit {0}
        is_empty (y ∷ ys) = ⊥
all_begun n files (name ∷ names) (x ∷ xs) h =
    let one : Begun n (files name) x = begun n (files name) x (ap (first_or None) h) in
    let rest : AllBegun n files names xs = all_begun n files names xs (ap rest_of h) in
    record {
      all_bytes = one.bytes ∷ rest.all_bytes;
      are_files = λ i. one.is_file i ∷ rest.are_files i;
      are_starts = λ i. one.is_start i ∷ rest.are_starts i;
    }

-- An answer on what was read is one on what is held.
record HeldAnswer (held : Option (Name → Option (List ℕ))) (verb : Verb) (names : List Name) (status : Status) (text : Told) : Type 0 where
  contents : List (List ℕ)
  are_held : AreHeld held names contents
  is_answer : IsAnswer verb contents status text

held_answer : (held : Option (Name → Option (List ℕ))) (verb : Verb) (names : List Name) (contents : List (List ℕ)) (status : Status) (text : Told)
    → AreStartsOf held names most_bytes contents → IsAnswer verb contents status text → HeldAnswer held verb names status text
held_answer None verb names contents status text begun answer = record { contents = contents; are_held = tt; is_answer = answer }
held_answer (Some files) verb names contents status text read answer =
    let all : AllBegun (most_bytes + 1) files names contents = all_begun (most_bytes + 1) files names contents read in
    record {
      contents = all.all_bytes;
      are_held = all.are_files;
      is_answer = answer_of_starts verb all.all_bytes status text (subst (λ bs. IsAnswer verb bs status text) all.are_starts answer);
    }

usage_is_no_limit : ◌≡◌ {A = Status} Usage Limit → ⊥
usage_is_no_limit h = subst is_usage h tt
  where
    is_usage : Status → Type 0
    is_usage Usage = Unit {0}
    is_usage _ = ⊥

no_pair_is_usage : (pair : Pair) (text : List ℕ) → IsSimulated pair Usage text → ⊥
no_pair_is_usage (runs m s) text h = h
no_pair_is_usage (refused kind) text h = h

no_simulation_is_usage : (contents : List (List ℕ)) (text : List ℕ) → AreSimulated contents Usage text → ⊥
no_simulation_is_usage [] text h = h
no_simulation_is_usage (m ∷ []) text h = h
no_simulation_is_usage (m ∷ s ∷ []) text h = no_pair_is_usage (pair_of m s) text h
no_simulation_is_usage (m ∷ s ∷ x ∷ xs) text h = h

no_ending_is_usage : (e : Ending) (text : List ℕ) → IsWrittenFor e Usage text → ⊥
no_ending_is_usage (broken kind) text h = h
no_ending_is_usage bad_line text h = h
no_ending_is_usage missing_input text h = h
no_ending_is_usage (ran lines) text h = h

no_design_is_usage : (top clock : Name) (script : List ℕ) (designs : List (List ℕ)) (kind : Option (List ℕ)) (text : List ℕ)
    → IsSimulatedText top clock script designs kind Usage text → ⊥
no_design_is_usage top clock script designs (Some kind) text h = h
no_design_is_usage top clock script designs None text h = no_ending_is_usage h.2.0 text h.2.2

no_rtl_is_usage : (top clock : Name) (contents : List (List ℕ)) (text : List ℕ) → AreRtlSimulated top clock contents Usage text → ⊥
no_rtl_is_usage top clock [] text h = h
no_rtl_is_usage top clock (script ∷ designs) text h = no_design_is_usage top clock script designs h.kind text h.is_simulated

usage_is_no_refusal : ◌≡◌ {A = Status} Usage Refused → ⊥
usage_is_no_refusal h = subst is_usage h tt
  where
    is_usage : Status → Type 0
    is_usage Usage = Unit {0}
    is_usage _ = ⊥

no_answer_is_usage : (a : Replayed) → ◌≡◌ {A = Status} Usage (status_for a) → ⊥
no_answer_is_usage a h = go a (subst is_usage h tt)
  where
    is_usage : Status → Type 0
    is_usage Usage = Unit {0}
    is_usage _ = ⊥

    go : (a : Replayed) → is_usage (status_for a) → ⊥
    go falsifies h = h
    go (hypothesis_fails k) h = h
    go obligation_holds h = h

no_replay_is_usage : (e : replays.Ending) (text : List ℕ) → replayed.IsWrittenFor e Usage text → ⊥
no_replay_is_usage (replays.told answer line) text h = no_answer_is_usage answer h.0
no_replay_is_usage (replays.broken rule) text h = usage_is_no_refusal h.0

no_files_replay_as_usage : (contents : List (List ℕ)) (text : List ℕ) → AreReplayed contents Usage text → ⊥
no_files_replay_as_usage [] text h = h
no_files_replay_as_usage (m ∷ []) text h = h
no_files_replay_as_usage (m ∷ p ∷ []) text h = h
no_files_replay_as_usage (m ∷ p ∷ x ∷ ds) text (is_refused kind of is by) = usage_is_no_refusal is
no_files_replay_as_usage (m ∷ p ∷ x ∷ ds) text (is_replayed s of ended) = no_replay_is_usage ended.0 text ended.2

no_watch_is_usage : (a : Watched) → ◌≡◌ {A = Status} Usage (both.status_for a) → ⊥
no_watch_is_usage a h = go a (subst is_usage h tt)
  where
    is_usage : Status → Type 0
    is_usage Usage = Unit {0}
    is_usage _ = ⊥

    go : (a : Watched) → is_usage (both.status_for a) → ⊥
    go (agrees n) h = h
    go (outside t premise) h = h
    go (disagrees t which) h = h

no_side_by_side_is_usage : (e : watches.Ending) (text : List ℕ) → both.IsWrittenFor e Usage text → ⊥
no_side_by_side_is_usage (watches.told answer line) text h = no_watch_is_usage answer h.0
no_side_by_side_is_usage watches.bad_line text h = usage_is_no_refusal h.0
no_side_by_side_is_usage watches.missing_input text h = usage_is_no_refusal h.0

no_files_simulate_as_usage : (contents : List (List ℕ)) (text : List ℕ) → AreSimulatedBoth contents Usage text → ⊥
no_files_simulate_as_usage [] text h = h
no_files_simulate_as_usage (m ∷ []) text h = h
no_files_simulate_as_usage (m ∷ p ∷ []) text h = h
no_files_simulate_as_usage (m ∷ p ∷ x ∷ ds) text (files_refused kind of is by) = usage_is_no_refusal is
no_files_simulate_as_usage (m ∷ p ∷ x ∷ ds) text (is_watched s of ended) = no_side_by_side_is_usage ended.0 text ended.2

no_subject_is_usage : (map_only : Bool) (x : Subject) (text : List ℕ) → IsEmitted map_only x Usage text → ⊥
no_subject_is_usage map_only (emits m) text h = h
no_subject_is_usage map_only (emitted.refused kind) text h = h

no_emission_is_usage : (map_only : Bool) (contents : List (List ℕ)) (text : List ℕ) → AreEmitted map_only contents Usage text → ⊥
no_emission_is_usage map_only [] text h = h
no_emission_is_usage map_only (m ∷ []) text h = no_subject_is_usage map_only (subject_of m) text h
no_emission_is_usage map_only (m ∷ x ∷ xs) text h = h

no_check_is_usage : (limit : Option limits.Limit) (s : Setting) (budget : ℕ) (text : Told) → IsCheckedWithin limit s budget Usage text → ⊥
no_check_is_usage None s budget text h = h
no_check_is_usage (Some limit) s budget text h = usage_is_no_limit h.0

no_end_is_usage : (o : Option ℕ) (verb : Verb) (contents : List (List ℕ)) (text : Told) → IsWithin o verb contents Usage text → ⊥
no_end_is_usage (Some k) verb contents text h = usage_is_no_limit h.0
no_end_is_usage None (check budget) contents text h = no_check_is_usage h.2.0 h.0 budget text h.2.2
no_end_is_usage None simulate contents text h = no_simulation_is_usage contents text.text h.0
no_end_is_usage None (simulate_rtl top clock) contents text h = no_rtl_is_usage top clock contents text.text h.0
no_end_is_usage None replay contents text h = no_files_replay_as_usage contents text.text h.0
no_end_is_usage None simulate_both contents text h = no_files_simulate_as_usage contents text.text h.0
no_end_is_usage None (emit map_only) contents text h = no_emission_is_usage map_only contents text.text h.0

-- an answer on files is never about the words
answered_outcome : (held : Option (Name → Option (List ℕ))) (words : List Name) (status : Status) (text : Told)
    → IsAnswered held words status text → IsCallOutcome held words status text
answered_outcome held words Done text answered = answered
answered_outcome held words Failed text answered = answered
answered_outcome held words Unknown text answered = answered
answered_outcome held words Usage text answered = absurd (no_end_is_usage (first_long 0 answered.2) answered.0.verb answered.2 text answered.4)
answered_outcome held words Refused text answered = answered
answered_outcome held words ReadFault text answered = answered
answered_outcome held words WriteFault text answered = answered
answered_outcome held words NoMemory text answered = answered
answered_outcome held words Limit text answered = answered

-- The words ask for this command on these files.
pub record AsksFor (words : List Name) (verb : Verb) (names : List Name) : Type 0 where
  pub command : Command
  pub is_command : command_of words ≡ Some command
  pub is_verb : verb ≡ command.verb
  pub are_names : names ≡ command.files

-- The outcome of a command.
pub outcome_of_answer : (held : Option (Name → Option (List ℕ))) (words : List Name) (verb : Verb) (names : List Name)
    (contents : List (List ℕ)) (status : Status) (text : Told) → AsksFor words verb names
    → AreStartsOf held names most_bytes contents → IsAnswer verb contents status text → IsCallOutcome held words status text
outcome_of_answer held words verb names contents status text asks read answer =
    let all : HeldAnswer held asks.command.verb asks.command.files status text =
    held_answer held asks.command.verb asks.command.files contents status text (subst (λ ns. AreStartsOf held ns most_bytes contents) asks.are_names read)
    (subst (λ v. IsAnswer v contents status text) asks.is_verb answer) in
    answered_outcome held words status text (asks.command, asks.is_command, all.contents, all.are_held, all.is_answer)

asks_option : (o : Option Command) (c : Command) → ◌≡◌ {A = Option Command} (Some c) o → o ≡ Some c
asks_option o c h = sym h

pub asks_for : (words : List Name) (c : Command) → ◌≡◌ {A = Option Command} (Some c) (command_of words) → AsksFor words c.verb c.files
asks_for words c h = record { command = c; is_command = asks_option (command_of words) c h; is_verb = refl; are_names = refl }

pub wanted_by : (words : List Name) (verb : Verb) (names : List Name) → AsksFor words verb names → wanted_names (command_of words) ≡ names
wanted_by words verb names asks = ap wanted_names asks.is_command ∙ sym asks.are_names

-- all names were asked for
pub asked_all : (words : List Name) (verb : Verb) (names : List Name) (before after : Option (List Name)) → AsksFor words verb names
    → after ≡ with_appended before names → AskedAll (command_of words) before after
asked_all words verb names before after asks asked = asked ∙ ap (with_appended before) (sym (wanted_by words verb names asks))

pub some_of_all : (command : Option Command) (before after : Option (List Name)) → AskedAll command before after → AskedSome command before after
some_of_all command before after all = (length (wanted_names command), all ∙ ap (with_appended before) (sym (take-length (wanted_names command))))

pub asked_some : (words : List Name) (verb : Verb) (names : List Name) (before after : Option (List Name)) → AsksFor words verb names
    → GrewByPrefix before after names → AskedSome (command_of words) before after
asked_some words verb names before after asks grew = subst (GrewByPrefix before after) (sym (wanted_by words verb names asks)) grew

pub asked_prefix : (words : List Name) (verb : Verb) (names : List Name) (before after : Option (List Name)) → AsksFor words verb names
    → after ≡ with_appended before names → AskedSome (command_of words) before after
asked_prefix words verb names before after asks asked =
    some_of_all (command_of words) before after (asked_all words verb names before after asks asked)
