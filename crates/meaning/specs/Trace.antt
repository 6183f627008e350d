-- The trace of a program: its events on an input, up to a verdict, up to a word that is wanted and not there, or without end.
use Rattle.std.specs.Prelude.{◌≡◌, ℕ, ◌<◌, ◌≤◌, List, [], ◌∷◌, ◌++◌, length, replicate, ℤ, pos, Some, None, Option}
use Rattle.outcomes.specs.declared.Verdict.{Verdict}
use Rattle.outcomes.specs.declared.Verdict.TheVariants.{Finished}
use Rattle.program.specs.Core.{Program}
use Rattle.meaning.specs.World.{Event, ended, World, Limits, verdict, starved, Outcome, done, stop, cut, Work, bind, fails}
use Rattle.meaning.specs.Evaluation.{calls}

-- no event yet, all globals 0, no array
abbrev pub begun : Program → List ℤ → World
begun p input = record { input = input; log = []; globals = replicate (length p.globals) (pos 0); arrays = [] }

-- the first call of main
abbrev pub from_main : Program → Limits → ℕ → Option ℕ → Work ℤ
from_main p L k None = cut
from_main p L k (Some m) = calls L p.methods k m [] 0 0

-- what is known of a program at depth k; the end of main's first call is verdict 0
abbrev pub up_to : Program → Limits → List ℤ → ℕ → Outcome ℤ
up_to p L input k = bind (from_main p L k p.main (begun p input)) (λ _. fails Finished)

-- the events so far, the latest first; a verdict is the last event
abbrev pub events_of : Outcome ℤ → List Event
events_of (done a w) = w.log
events_of (stop (verdict v) w) = ended v w.globals ∷ w.log
events_of (stop starved w) = w.log
events_of (cut w) = w.log

-- event number i of a list whose latest is first
pub record Numbered (i : ℕ) (e : Event) (es : List Event) : Type 0 where
  pub later : List Event
  pub earlier : List Event
  pub is : es ≡ later ++ (e ∷ earlier)
  pub number : length earlier ≡ i

-- a program on an input, with given lengths of the stores
pub record Case : Type 0 where
  pub program : Program
  pub limits : Limits
  pub input : List ℤ

abbrev pub known : Case → ℕ → Outcome ℤ
known c k = up_to c.program c.limits c.input k

-- event number i of the trace is e
abbrev pub InTrace : Case → ℕ → Event → Type 0
InTrace c i e = (k : ℕ) × Numbered i e (events_of (known c k))

-- the trace breaks off after n events: a word is wanted, and none is left
pub record BreaksOff (c : Case) (n : ℕ) : Type 0 where
  pub depth : ℕ
  pub world : World
  pub starves : known c depth ≡ stop starved world
  pub events : length world.log ≡ n

-- what is known at a depth stays known, no place has two events, and nothing comes behind a verdict or a break
pub record OneTrace (c : Case) : Type 0 where
  pub stays : (k j i : ℕ) (e : Event) → k ≤ j → Numbered i e (events_of (known c k)) → Numbered i e (events_of (known c j))
  pub one_event : (i : ℕ) (e f : Event) → InTrace c i e → InTrace c i f → e ≡ f
  pub ends : (i j : ℕ) (v : Verdict) (gs : List ℤ) (e : Event) → InTrace c i (ended v gs) → InTrace c j e → j ≤ i
  pub breaks : (n i : ℕ) (e : Event) → BreaksOff c n → InTrace c i e → i < n

abbrev pub EveryProgramHasOneTrace : Type 0
EveryProgramHasOneTrace = (c : Case) → OneTrace c
