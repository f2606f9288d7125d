-- Lists of events in which every call is lent the buffers as they are, or a begin buffers that do not fit: each such list is lawful where
-- its tells hand in the codes of their carries. Assumes nothing.
use Rattle.std.specs.Prelude.{Option, Some, None}
use Rattle.std.specs.Prelude.{◌≡◌, refl, Bool, true, false, ◌&&◌, not, List, [], ◌∷◌, ◌++◌, ℕ, eqb}
use Rattle.std.proofs.Common.{sym, ap, ◌∙◌, eqb-true}
use Rattle.std.proofs.lemmas.Bool.{false≢true}
use Rattle.arithmetic.specs.Refusals.{is_done}
use Rattle.arithmetic.specs.SettingsLaws.{and_left, and_right}
use Rattle.arithmetic.specs.Content.{changed, window}
use Rattle.dock.specs.declared.begin.Asked.{Asked}
use Rattle.dock.specs.Tell.{tell_of}
use Rattle.dock.specs.Computing.{computing}
use Rattle.theorem_lists.specs.Store.{Choice, pieces_from, gathered, landed}
use Rattle.theorem_lists.specs.PlainStore.{Plain, carried_out, plain_step}
use Rattle.theorem_lists.specs.Histories.{Lends, Event, begins, carries, tells, collects, World, fits_lent, step, fed, LentOf, CodeOf}
use Rattle.theorem_lists.specs.Histories.{HandsIn, Allowed, Lawful}

-- an event without its buffers: they are lent as they are, but to a begin that names others
pub data Act : Type 0 where
  begin : Asked → Act
  begin_lent : Lends → Asked → Act
  carry : ℕ → ℕ → Choice → Act
  tell : ℕ → ℕ → Act
  collect : ℕ → Act

abbrev pub own : World → Lends
own w = record { memory = w.memory; scratch = w.scratch }

abbrev pub event_of : World → Act → Event
event_of w (begin q) = begins q (own w)
event_of w (begin_lent l q) = begins q l
event_of w (carry p code c) = carries p code c
event_of w (tell p code) = tells p code (own w)
event_of w (collect p) = collects p (own w)

abbrev pub events_of : World → List Act → List Event
events_of w [] = []
events_of w (a ∷ rest) = event_of w a ∷ events_of (step w (event_of w a)) rest

-- the two sides after the acts
pub record Sides : Type 0 where
  pub real : World
  pub plain : Plain

abbrev pub run : World → Plain → List Act → Sides
run w m [] = record { real = w; plain = m }
run w m (a ∷ rest) = run (step w (event_of w a)) (plain_step m (fed w (event_of w a))) rest

-- ---- which acts a state allows

abbrev pub is_code : Option ℕ → ℕ → Bool
is_code None code = false
is_code (Some c) code = eqb c code

-- a tell that is accepted hands in the code of its carry
abbrev pub matches : Bool → Bool → Bool
matches true c = c
matches false c = true

abbrev pub is_allowed : World → Act → Bool
is_allowed w (begin q) = true
is_allowed w (begin_lent l q) = not (fits_lent w l)
is_allowed w (carry p code c) = true
is_allowed w (tell p code) = matches (is_done (tell_of w.dock p code w.memory w.scratch).outcome) (is_code (w.carried p) code)
is_allowed w (collect p) = true

abbrev pub all_allowed : World → List Act → Bool
all_allowed w [] = true
all_allowed w (a ∷ rest) = is_allowed w a && all_allowed (step w (event_of w a)) rest

lent_own : (w : World) (m : Plain) → LentOf w m (own w)
lent_own w m e = (refl, λ p k c. refl)

code_of : (o : Option ℕ) (code : ℕ) → is_code o code ≡ true → CodeOf o code
code_of None code e = absurd (false≢true e)
code_of (Some c) code e = eqb-true c code e

-- other buffers may be lent where they do not fit: 205
lent_other : (w : World) (m : Plain) (l : Lends) → not (fits_lent w l) ≡ true → LentOf w m l
lent_other w m l e f = absurd (false≢true (sym (ap not f) ∙ e))

hands_in : (w : World) (p code : ℕ) → is_allowed w (tell p code) ≡ true → HandsIn w p code (own w)
hands_in w p code e d = code_of (w.carried p) code (rw d at e)

-- a lawful list extends by each kind of event: a tell that is accepted by the code of its carry, every other in any state
pub allowed : (w : World) (m : Plain) (a : Act) → is_allowed w a ≡ true → Allowed w m (event_of w a)
allowed w m (begin q) e = lent_own w m
allowed w m (begin_lent l q) e = lent_other w m l e
allowed w m (carry p code c) e = tt
allowed w m (tell p code) e = (lent_own w m, hands_in w p code e)
allowed w m (collect p) e = lent_own w m

pub lawful : (w : World) (m : Plain) (rest : List Act) → all_allowed w rest ≡ true → Lawful w m (events_of w rest)
lawful w m [] e = tt
lawful w m (a ∷ rest) e = (
  allowed w m a (and_left _ _ e),
  lawful (step w (event_of w a)) (plain_step m (fed w (event_of w a))) rest (and_right (is_allowed w a) _ e),
)

-- ---- a lawful list goes on

-- the two sides after a list
abbrev pub after_all : World → Plain → List Event → Sides
after_all w m [] = record { real = w; plain = m }
after_all w m (e ∷ es) = after_all (step w e) (plain_step m (fed w e)) es

pub extends : (w : World) (m : Plain) (es : List Event) (e : Event)
    → Lawful w m es → Allowed (after_all w m es).real (after_all w m es).plain e
    → Lawful w m (es ++ (e ∷ []))
extends w m [] e k a = (a, tt)
extends w m (d ∷ es) e k a = (k.0, extends (step w d) (plain_step m (fed w d)) es e k.1 a)

-- ---- lists by computation

-- a declaration that says `unfolding computing_lists` sees through the dock, the store and both sides
unfoldable pub computing_lists : Unit {0}
unfolding computing changed window pieces_from gathered landed carried_out plain_step step fed
computing_lists = tt
