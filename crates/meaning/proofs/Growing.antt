-- What is worked out at two depths: the deeper one knows what the other knows.
use Rattle.std.proofs.Common.{◌≡◌, Bool, true, false, cond, List, sym, refl, subst}
use Rattle.outcomes.specs.declared.Verdict.{Verdict}
use Rattle.meaning.specs.World.{Event, World, Ending, Outcome, done, stop, cut, Work, ◌>>=◌, bind, fails}
use Rattle.meaning.specs.Evaluation.{choice}
use Rattle.meaning.proofs.Logs.{Before, same, trans}

abbrev pub log_of : {A : Type 0} → Outcome A → List Event
log_of (done a w) = w.log
log_of (stop e w) = w.log
log_of (cut w) = w.log

abbrev pub Below : {A : Type 0} → Outcome A → Outcome A → Type 0
Below (done a w) y = y ≡ done a w
Below (stop e w) y = y ≡ stop e w
Below (cut w) y = Before w.log (log_of y)

-- from w, y knows what x knows, and has at least the events of w
pub record Grows {A : Type 0} (w : World) (x y : Outcome A) : Type 0 where
  pub more : Before w.log (log_of y)
  pub below : Below x y

-- from every world
abbrev pub Follows : {A : Type 0} → Work A → Work A → Type 0
Follows f g = (w : World) → Grows w (f w) (g w)

pub done_grows : {A : Type 0} {w u : World} {a : A} → Before w.log u.log → Grows w (done a u) (done a u)
done_grows h = record { more = h; below = refl }

pub stop_grows : {A : Type 0} {w u : World} {e : Ending} → Before w.log u.log → Grows {A = A} w (stop e u) (stop e u)
stop_grows h = record { more = h; below = refl }

pub cut_grows : {A : Type 0} {w : World} {y : Outcome A} → Before w.log (log_of y) → Grows w (cut w) y
cut_grows h = record { more = h; below = h }

pub itself : {A : Type 0} {w : World} (x : Outcome A) → Before w.log (log_of x) → Grows w x x
itself (done a u) h = done_grows h
itself (stop e u) h = stop_grows h
itself (cut u) h = record { more = h; below = same }

through : {A B : Type 0} (es : List Event) (x : Outcome A) (f : A → Work B) → Before es (log_of x) → ((a : A) (u : World) → Before u.log (log_of (f a u))) → Before es (log_of (bind x f))
through es (done a u) f h g = trans h (g a u)
through es (stop e u) f h g = h
through es (cut u) f h g = h

pub bind_grows : {A B : Type 0} {w : World} {x y : Outcome A} {f g : A → Work B} → Grows w x y → ((a : A) → Follows (f a) (g a)) → Grows w (bind x f) (bind y g)
bind_grows {w = w} {x = done a u} {y} {f} {g} m h =
    subst (λ z. Grows w (f a u) (bind z g)) (sym m.below) (record { more = trans (subst (λ z. Before w.log (log_of z)) m.below m.more) (h a u).more; below = (h a u).below })
bind_grows {w = w} {x = stop e u} {y} {f} {g} m h =
    subst (λ z. Grows w (stop e u) (bind z g)) (sym m.below) (record { more = subst (λ z. Before w.log (log_of z)) m.below m.more; below = refl })
bind_grows {w = w} {x = cut u} {y} {f} {g} m h = record { more = through w.log y g m.more (λ a v. (h a v).more); below = through u.log y g m.below (λ a v. (h a v).more) }

pub done_follows : {A : Type 0} (a : A) → Follows (done a) (done a)
done_follows a w = done_grows same

pub fails_follows : {A : Type 0} (v : Verdict) → Follows {A = A} (fails v) (fails v)
fails_follows v w = stop_grows same

pub then_follows : {A B : Type 0} {x y : Work A} {f g : A → Work B} → Follows x y → ((a : A) → Follows (f a) (g a)) → Follows (x >>= f) (y >>= g)
then_follows m h w = bind_grows (m w) h

pub choice_follows : {A : Type 0} {x y f g : Work A} (b : Bool) → Follows x y → Follows f g → Follows (choice b x f) (choice b y g)
choice_follows true m h = m
choice_follows false m h = h

pub cond_follows : {A : Type 0} {x y f g : Work A} (b : Bool) → Follows x y → Follows f g → Follows (cond b x f) (cond b y g)
cond_follows true m h = m
cond_follows false m h = h

-- what grows from a later world grows from an earlier one
pub from_earlier : {A : Type 0} {w u : World} {x y : Outcome A} → Before w.log u.log → Grows u x y → Grows w x y
from_earlier h m = record { more = trans h m.more; below = m.below }

pub itself_follows : {A : Type 0} {x y : Work A} → Follows x y → Follows y y
itself_follows {y = y} m w = itself (y w) (m w).more
