-- Which words are taken.
use Rattle.std.proofs.Common.{◌≡◌, ◌∙◌, Bool, true, false, refl, sym, ap, subst, List, [], Option, None, Result, Ok, Err, IsErrAnd, is_some, true≢false}
use Rattle.std.specs.Prelude.{option_and_then}
use Rattle.clap.specs.Walk.{Row, Text}
use Rattle.clap.specs.Simple.{is_simple, subcommand_of}
use Rattle.clap.specs.Takes.{takes}
use Rattle.clap.specs.Faults.{fault_of, is_simple_and_free}
use Rattle.clap.specs.declared.error.kind.ErrorKind.{ErrorKind}
use Rattle.clap.specs.declared.error.kind.ErrorKind.TheVariants.{OutOfMemory}
use Rattle.clap.proofs.OnLiterals.{clap_on_literals}
use Rattle.wb_words.proofs.Faultless.{taken_without_fault}
use Rattle.wb_words.proofs.Asked.{taken_asks}
use Rattle.wb_words.specs.Application.{workbench_app}
use Rattle.wb_words.specs.Requests.{request_in, request_of}
use Rattle.wb_words.specs.Requests as pure
use Rattle.wb_words.specs.View.{IsAnswer, request_view, stop_for}
use Rattle.wb_words.specs.declared.requests.Request.{Request}
use Rattle.wb_words.specs.declared.stop.WordsStop.{WordsStop}
use Rattle.wb_words.specs.declared.stop.WordsStop.TheVariants.{NoMemory, Usage}

pub is_free : is_simple_and_free workbench_app ≡ true
unfolding clap_on_literals workbench_app
is_free = refl

pub is_simple_too : is_simple workbench_app ≡ true
unfolding clap_on_literals workbench_app
is_simple_too = refl

pub no_fault : (words : List Text) → fault_of workbench_app words ≡ [] → takes workbench_app words ≡ true
unfolding clap_on_literals workbench_app
no_fault words none = taken_without_fault workbench_app words refl refl refl none

is_usage : WordsStop → Bool
is_usage Usage = true
is_usage NoMemory = false

-- an error of another kind comes only where the words are not taken
pub refused_by : (b : Bool) (k : ErrorKind) → (b ≡ true → k ≡ OutOfMemory) → stop_for k ≡ Usage → b ≡ false
unfolding is_usage
refused_by false k memory is = refl
refused_by true k memory is = sym (ap is_usage (ap stop_for (sym (memory refl)) ∙ is))

pub asked : (words : List Text) (found : Option (Text × List Row)) (r : Result Request WordsStop) → takes workbench_app words ≡ true → found ≡ subcommand_of workbench_app words
    → IsAnswer request_view r (option_and_then (λ p. request_in p.0 p.1) found) → IsAnswer request_view r (request_of words)
unfolding request_of
asked words found r taken same h = rw taken (subst (λ o. IsAnswer request_view r (option_and_then (λ p. request_in p.0 p.1) o)) same h)

pub not_asked : (words : List Text) → takes workbench_app words ≡ false → request_of words ≡ None
unfolding request_of
not_asked words refused = rw refused refl

-- `?` passes a refusal up
pub refused_up : (r : Result Request WordsStop) (stop : WordsStop) (asked : Option pure.Request) → IsErrAnd r (λ s. s ≡ stop) → (stop ≡ Usage → asked ≡ None)
    → IsAnswer request_view r asked
refused_up (Ok x) stop asked is none = absurd is
refused_up (Err Usage) stop asked is none = none (sym is)
refused_up (Err NoMemory) stop asked is none = tt

none_taken : (b : Bool) (asked : Option pure.Request) → asked ≡ None → (b ≡ true → is_some asked ≡ true) → b ≡ false
none_taken true asked none h = sym (h refl) ∙ ap is_some none
none_taken false asked none h = refl

-- words that ask for nothing are not taken
pub not_taken : (words : List Text) → request_of words ≡ None → takes workbench_app words ≡ false
not_taken words none = none_taken (takes workbench_app words) (request_of words) none (taken_asks words)

pub refuses : (words : List Text) (r : Result Request WordsStop) → IsAnswer request_view r (request_of words) → IsErrAnd r (λ s. s ≡ Usage) → takes workbench_app words ≡ false
unfolding is_usage
refuses words (Ok x) h is = absurd is
refuses words (Err Usage) h is = not_taken words h
refuses words (Err NoMemory) h is = absurd (true≢false (sym (ap is_usage is)))
