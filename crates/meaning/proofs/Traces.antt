-- There is one trace.
use Rattle.std.proofs.Common.{◌≡◌, ℕ, ◌+◌, ◌≤◌, List, [], ◌∷◌, ◌++◌, length, ℤ, Some, None, Option, sym, refl, ap, ◌∙◌, subst, append-nil, arith}
use Rattle.outcomes.specs.declared.Verdict.{Verdict}
use Rattle.program.specs.Core.{Program}
use Rattle.meaning.specs.World.{Event, ended, World, Limits, Ending, verdict, starved, Outcome, done, stop, cut}
use Rattle.meaning.specs.Trace.{begun, from_main, events_of, Numbered, Case, known, EveryProgramHasOneTrace}
use Rattle.meaning.proofs.Logs.{Plain, Prefix, same_prefix, trans_prefix, same, stays_numbered, below_length, same_event, no_verdict}
use Rattle.meaning.proofs.Growing.{log_of, Below, Grows, Follows, bind_grows, cut_grows, fails_follows}
use Rattle.meaning.proofs.Depths.{calls_follow}

main_follows : (p : Program) (L : Limits) (k j : ℕ) → k ≤ j → (m : Option ℕ) → Follows (from_main p L k m) (from_main p L j m)
main_follows p L k j h None w = cut_grows same
main_follows p L k j h (Some m) w = calls_follow L p.methods k j h m [] 0 0 w

known_grows : (c : Case) (k j : ℕ) → k ≤ j → Grows (begun c.program c.input) (known c k) (known c j)
known_grows c k j h = bind_grows (main_follows c.program c.limits k j h c.program.main (begun c.program c.input)) λ _. fails_follows _

-- the events are the log, and a verdict behind it
events_log : (x : Outcome ℤ) → Prefix (log_of x) (events_of x)
events_log (done a w) = same_prefix
events_log (stop (verdict v) w) = record { more = ended v w.globals ∷ []; is = refl }
events_log (stop starved w) = same_prefix
events_log (cut w) = same_prefix

below_before : (x y : Outcome ℤ) → Below x y → Prefix (events_of x) (events_of y)
below_before (done a w) y e = record { more = []; is = ap events_of e }
below_before (stop z w) y e = record { more = []; is = ap events_of e }
below_before (cut w) y e = trans_prefix e.prefix (events_log y)

known_before : (c : Case) (k j : ℕ) → k ≤ j → Prefix (events_of (known c k)) (events_of (known c j))
known_before c k j h = below_before (known c k) (known c j) (known_grows c k j h).below

-- what is known at one depth is known at any sum with it
at_first : (c : Case) (k j i : ℕ) (e : Event) → Numbered i e (events_of (known c k)) → Numbered i e (events_of (known c (k + j)))
at_first c k j i e n = stays_numbered (known_before c k (k + j) (omega arith)) n

at_second : (c : Case) (k j i : ℕ) (e : Event) → Numbered i e (events_of (known c j)) → Numbered i e (events_of (known c (k + j)))
at_second c k j i e n = stays_numbered (known_before c j (k + j) (omega arith)) n

-- the log has no verdict
plain_log : (c : Case) (k : ℕ) → Plain (log_of (known c k))
plain_log c k =
    let m = (known_grows c k k (omega arith)).more in
    subst Plain (sym (m.prefix.is ∙ append-nil m.prefix.more)) m.clean

-- a verdict is the last event of what has stopped
last_verdict : (i : ℕ) (v : Verdict) (gs : List ℤ) (x : Outcome ℤ) → Plain (log_of x) → Numbered i (ended v gs) (events_of x) → (w : World) × (u : Verdict) × (x ≡ stop (verdict u) w) × (length w.log ≡ i)
last_verdict i v gs (done a w) p n = absurd (no_verdict w.log n.later n.earlier (ended v gs) p n.is)
last_verdict i v gs (stop (verdict u) w) p n = (w, u, refl, at n.later n.is)
  where
    at : (later : List Event) → ended u w.globals ∷ w.log ≡ later ++ (ended v gs ∷ n.earlier) → length w.log ≡ i
    at [] e = let t : w.log ≡ n.earlier = cc in ap length t ∙ n.number
    at (y ∷ later) e = let t : w.log ≡ later ++ (ended v gs ∷ n.earlier) = cc in absurd (no_verdict w.log later n.earlier (ended v gs) p t)
last_verdict i v gs (stop starved w) p n = absurd (no_verdict w.log n.later n.earlier (ended v gs) p n.is)
last_verdict i v gs (cut w) p n = absurd (no_verdict w.log n.later n.earlier (ended v gs) p n.is)

-- what has stopped stays so
stays_stopped : (c : Case) (k j : ℕ) (z : Ending) (w : World) → known c k ≡ stop z w → known c (k + j) ≡ stop z w
stays_stopped c k j z w e = subst (λ x. Below x (known c (k + j))) e (known_grows c k (k + j) (omega arith)).below

pub one_trace : EveryProgramHasOneTrace
one_trace c = record {
  stays = λ k j i e h n. stays_numbered (known_before c k j h) n;
  one_event = λ i e f h g. same_event i e f _ (at_first c h.0 g.0 i e h.1) (at_second c h.0 g.0 i f g.1);
  ends = λ i j v gs e h g.
      let l = last_verdict i v gs (known c h.0) (plain_log c h.0) h.1 in
      let s = stays_stopped c h.0 g.0 (verdict l.1) l.0 l.2 in
      omega (arith, below_length (subst (λ x. Numbered j e (events_of x)) s (at_second c h.0 g.0 j e g.1)), l.3);
  breaks = λ n i e b g.
      let s = stays_stopped c b.depth g.0 starved b.world b.starves in
      omega (arith, below_length (subst (λ x. Numbered i e (events_of x)) s (at_second c b.depth g.0 i e g.1)), b.events);
}
