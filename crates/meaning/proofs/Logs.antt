-- Lists of events that grow, the latest first.
use Rattle.std.proofs.Common.{◌≡◌, ℕ, ◌<◌, List, [], ◌∷◌, ◌++◌, length, sym, refl, ap, ◌∙◌, subst, append_assoc, arith, length-append}
use Rattle.meaning.specs.World.{Event, took, wrote, ended}
use Rattle.meaning.specs.Trace.{Numbered}

-- no verdict is among the events
abbrev pub plain : Event → Type 0
plain (took w) = Unit {0}
plain (wrote bs) = Unit {0}
plain (ended v gs) = ⊥

abbrev pub Plain : List Event → Type 0
Plain [] = Unit {0}
Plain (e ∷ es) = plain e × Plain es

plain_append : (a b : List Event) → Plain a → Plain b → Plain (a ++ b)
plain_append [] b p q = q
plain_append (e ∷ a) b p q = (p.0, plain_append a b p.1 q)

-- b has the events of a, and then perhaps more
pub record Prefix (a b : List Event) : Type 0 where
  pub more : List Event
  pub is : b ≡ more ++ a

-- and no verdict among those
pub record Before (a b : List Event) : Type 0 where
  pub prefix : Prefix a b
  pub clean : Plain prefix.more

abbrev pub same_prefix : {a : List Event} → Prefix a a
same_prefix = record { more = []; is = refl }

abbrev pub trans_prefix : {a b c : List Event} → Prefix a b → Prefix b c → Prefix a c
trans_prefix {a} {b} {c} p q = record { more = q.more ++ p.more; is = q.is ∙ ap (λ (x : List Event). q.more ++ x) p.is ∙ sym (append_assoc q.more p.more a) }

pub same : {a : List Event} → Before a a
same = record { prefix = same_prefix; clean = tt }

pub one_more : {a : List Event} (e : Event) → plain e → Before a (e ∷ a)
one_more e p = record { prefix = record { more = e ∷ []; is = refl }; clean = (p, tt) }

pub trans : {a b c : List Event} → Before a b → Before b c → Before a c
trans p q = record { prefix = trans_prefix p.prefix q.prefix; clean = plain_append q.prefix.more p.prefix.more q.clean p.clean }

pub stays_numbered : {i : ℕ} {e : Event} {a b : List Event} → Prefix a b → Numbered i e a → Numbered i e b
stays_numbered {i} {e} {a} {b} p h =
    record {
      later = p.more ++ h.later;
      earlier = h.earlier;
      is = p.is ∙ ap (λ (x : List Event). p.more ++ x) h.is ∙ sym (append_assoc p.more h.later (e ∷ h.earlier));
      number = h.number;
    }

pub below_length : {i : ℕ} {e : Event} {a : List Event} → Numbered i e a → i < length a
below_length {i} {e} {a} h = omega (arith, ap length h.is, length-append h.later (e ∷ h.earlier), h.number)

same_at : (n m o p : List Event) (e f : Event) → n ++ (e ∷ o) ≡ m ++ (f ∷ p) → length o ≡ length p → e ≡ f
same_at [] [] o p e f g h = cc
same_at [] (x ∷ m) o p e f g h = absurd (omega (arith, ap length g, length-append m (f ∷ p)))
same_at (x ∷ n) [] o p e f g h = absurd (omega (arith, ap length g, length-append n (e ∷ o)))
same_at (x ∷ n) (y ∷ m) o p e f g h = let t : n ++ (e ∷ o) ≡ m ++ (f ∷ p) = cc in same_at n m o p e f t h

-- one number has one event
pub same_event : (i : ℕ) (e f : Event) (a : List Event) → Numbered i e a → Numbered i f a → e ≡ f
same_event i e f a h g = same_at h.later g.later h.earlier g.earlier e f (sym h.is ∙ g.is) (h.number ∙ sym g.number)

-- a number among plain events is not that of a verdict
pub no_verdict : (es later earlier : List Event) (e : Event) → Plain es → es ≡ later ++ (e ∷ earlier) → plain e
no_verdict [] [] earlier e p h = absurd cc
no_verdict [] (x ∷ later) earlier e p h = absurd cc
no_verdict (x ∷ es) [] earlier e p h = let t : x ≡ e = cc in subst plain t p.0
no_verdict (x ∷ es) (y ∷ later) earlier e p h = let t : es ≡ later ++ (e ∷ earlier) = cc in no_verdict es later earlier e p.1 t
