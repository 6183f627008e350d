-- Runs one behind the other: their steps, what they exchange, and why they stop.
use Rattle.std.proofs.Common.{◌≡◌, ℕ, ◌+◌, ◌<◌, ◌≤◌, List, sym, refl, ap, ◌∙◌, subst, arith}
use Rattle.outcomes.specs.declared.Pause.{Pause}
use Rattle.outcomes.specs.declared.Pause.TheVariants.{Budget, Input, Output}
use Rattle.outcomes.specs.declared.Verdict.{Verdict}
use Rattle.step.specs.declared.registers.Registers.{Registers}
use Rattle.machine.specs.Laws.{after_more}
use Rattle.machine.specs.Runs.{View, Scene, scene, turn, Led}
use Rattle.step.specs.declared.interpreter.Stores.{Stores as Lent}
use Rattle.machine.specs.Machines.{Stores, SameStores, contents, lengths_of, state_with}
use Rattle.machine.specs.Answers.{EndsWith, PausesAt}
use Rattle.machine.proofs.Composing.{runs_compose}
use Rattle.machine.proofs.Stepping.{in_turn, same_store_on}
use Rattle.outcomes.specs.declared.Stop.TheVariants.{Ended, Paused}
use Rattle.samples.specs.Executing.{Drove}

pub led_joined : (m n : ℕ) (code code' : List ℕ) (from mid to : Scene) → code' ≡ code → Led code m from mid → Led code' n mid to → Led code (m + n) from to
led_joined m n code code' from mid to e a b' =
    let b : Led code n mid to = subst (λ (c : List ℕ). Led c n mid to) e b' in
    record {
      steps = runs_compose m n code from ∙ ap (after_more n code) a.steps ∙ b.steps;
      exchanged = in_turn from.console mid.console to.console a.exchanged b.exchanged;
    }

-- a last run that ends with a verdict
pub ends_joined : (verdict : Verdict) (made steps portion budget : ℕ) (code code' : List ℕ) (from mid : Scene) (s : Stores) (v : View) → code' ≡ code → Led code made from mid → EndsWith verdict code' portion steps mid s v → made + portion ≤ budget → Drove (record { stop = Ended verdict; steps = made + steps }) code budget from s v
ends_joined verdict made steps portion budget code code' from mid s v e a b fits = record {
  made = made + b.before;
  registers = b.registers;
  led = led_joined made b.before code code' from mid (scene (state_with b.registers s) v) e a b.led;
  stopped = (omega (arith, b.counts), omega (arith, b.within), ap (λ c. turn c (scene (state_with b.registers s) v)) (sym e) ∙ b.next);
}

-- why a run within a longer one pauses, where no other run is to follow
pauses_after : (pause : Pause) (made steps portion budget : ℕ) (code : List ℕ) (to : Scene) → PausesAt pause code portion steps to → made + portion ≤ budget → (pause ≡ Budget → made + steps < budget → ⊥) → PausesAt pause code budget (made + steps) to
pauses_after Budget made steps portion budget code to at fits last = let k : made + steps < budget → ⊥ = last refl in omega (arith, at)
pauses_after Input made steps portion budget code to at fits last = (omega (arith, at.0), at.1)
pauses_after Output made steps portion budget code to at fits last = (omega (arith, at.0), at.1)

-- a last run that pauses
pub pauses_joined : (pause : Pause) (made steps portion budget : ℕ) (code code' : List ℕ) (from mid : Scene) (r : Registers) (s : Stores) (v : View) → code' ≡ code → Led code made from mid → Led code' steps mid (scene (state_with r s) v) → PausesAt pause code' portion steps (scene (state_with r s) v) → made + portion ≤ budget → (pause ≡ Budget → made + steps < budget → ⊥) → Drove (record { stop = Paused pause; steps = made + steps }) code budget from s v
pauses_joined pause made steps portion budget code code' from mid r s v e a b at fits last =
    let to : Scene = scene (state_with r s) v in
    record {
      made = made + steps;
      registers = r;
      led = led_joined made steps code code' from mid to e a b;
      stopped = (refl, pauses_after pause made steps portion budget code to (subst (λ (c : List ℕ). PausesAt pause c portion steps to) e at) fits last);
    }

-- stores that stay the ones that were lent, and so as long as they were

pub same_stores_on : (k l m : Lent) → SameStores k l → SameStores l m → SameStores k m
same_stores_on k l m a b = record {
  datas = same_store_on _ _ _ a.datas b.datas;
  heap = same_store_on _ _ _ a.heap b.heap;
  call = same_store_on _ _ _ a.call b.call;
  operand = same_store_on _ _ _ a.operand b.operand;
}

pub as_long : (l m : Lent) → SameStores l m → lengths_of (contents m) ≡ lengths_of (contents l)
as_long l m a =
    let d = a.datas.long in
    let h = a.heap.long in
    let k = a.call.long in
    let o = a.operand.long in
    cc
