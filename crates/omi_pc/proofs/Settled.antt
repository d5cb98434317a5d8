-- An actor that has settled fits.
use Rattle.std.proofs.Common.{◌≡◌, ◌==◌, ℕ, zero, suc, ◌<◌, ◌≤◌, Bool, true, false, cond, List, [], ◌∷◌, length, get_or, ⊎_elim, Option, Some, None, refl, inl, inr, sym, subst, ◌∙◌, arith, eqb-true, eq-eqb}
use Rattle.std.specs.Prelude.{slice_get}
use Rattle.std.proofs.lemmas.Bool.{false≢true}
use Rattle.std.proofs.lemmas.Option.{slice_get_cases}
use Rattle.omi_script.specs.Bodies.{named_by}
use Rattle.omi_script.specs.declared.program.Program.{Program}
use Rattle.omi_script.specs.declared.statement.Stmt.{Stmt}
use Rattle.omi_script.specs.declared.statement.Stmt.TheVariants as stmt
use Rattle.omi_pc.specs.declared.actor.Actor.{Actor}
use Rattle.omi_pc.specs.declared.context.Context.{Context}
use Rattle.omi_pc.specs.declared.frame.Frame.{Frame}
use Rattle.omi_pc.specs.declared.frame.Opened.{Opened}
use Rattle.omi_pc.specs.declared.frame.Opened.TheVariants as opened
use Rattle.omi_pc.specs.Frames.{advanced, at_start, body_in, next_statement}
use Rattle.omi_pc.specs.Fits.{Fits, FitsCounter, HasTask}
use Rattle.omi_pc.specs.Moves.{context_under}
use Rattle.omi_pc.specs.OpenBodies.{AreOpen, IsAt, IsAtEnd, IsCalled, IsExplicit, IsMember, StandsOn}
use Rattle.omi_pc.specs.Settle.{statement_begun, calling, ended, ending_member, repeating, settled, settled_by, settled_in, skipping}
use Rattle.omi_pc.specs.declared.gathered.Gathered.{Gathered}
use Rattle.omi_pc.specs.declared.limits.TheConstants.{VARIABLE_WORDS}
use Rattle.omi_pc.proofs.Unmoved.{settled_differs}
use Rattle.omi_pc.proofs.NamedBelow.{named_below, stands_before}

-- a place where there is a statement, and one where there is none
slice_get-within : (xs : List Stmt) (i : ℕ) (s : Stmt) → slice_get xs i ≡ Some s → i < length xs
slice_get-within xs i s e =
    ⊎_elim (λ (here : (x : Stmt) × (i < length xs) × (slice_get xs i ≡ Some x) × (get_or xs i x ≡ x)). here.1)
    (λ (past : (length xs ≤ i) × (slice_get xs i ≡ None)). let none = past.1 in absurd (cc))
    (slice_get_cases xs i).1

slice_get-past : (xs : List Stmt) (i : ℕ) → slice_get xs i ≡ None → length xs ≤ i
slice_get-past xs i e =
    ⊎_elim
    (λ (here : (x : Stmt) × (i < length xs) × (slice_get xs i ≡ Some x) × (get_or xs i x ≡ x)). let some = here.2 in absurd (cc))
    (λ (past : (length xs ≤ i) × (slice_get xs i ≡ None)). past.0) (slice_get_cases xs i).1

-- an actor's bodies and its counter fit
record Comes (p : Program) (b : Actor) : Type 0 where
  pub bodies : AreOpen p b.context b.stack
  pub counter : FitsCounter p b b.counter

-- ---- a statement begins

-- a called body that has not begun stands on the statement that calls it
opens : (p : Program) (c : Context) (f : Frame) (fs : List Frame) (s : Stmt) (g : ℕ) (o : Opened)
    → AreOpen p c (f ∷ fs) → IsAt p (f ∷ fs) s → named_by s ≡ Some g
    → StandsOn p c g (f ∷ fs) o → context_under c o ≡ c → AreOpen p c (at_start g o ∷ f ∷ fs)
opens p c f fs s g o bodies at names stands same =
    let below = named_below p f fs s g at names in
    let there = bodies.0.frame.function in (
      record {
        frame = record { function = omega (arith, below, there); next = omega arith };
        context = bodies.0.context;
        stands = stands;
      },
      subst (λ (d : Context). AreOpen p d (f ∷ fs)) (sym same) bodies,
    )

-- the same of any stack
pub call_opens : (p : Program) (c : Context) (fs : List Frame) (s : Stmt) (g : ℕ) (o : Opened)
    → AreOpen p c fs → IsAt p fs s → named_by s ≡ Some g → StandsOn p c g fs o
    → context_under c o ≡ c → AreOpen p c (at_start g o ∷ fs)
call_opens p c [] s g o bodies at names stands same = absurd (cc)
call_opens p c (f ∷ fs) s g o bodies at names stands same = opens p c f fs s g o bodies at names stands same

-- a function that a statement names is there
pub named_there : (p : Program) (c : Context) (fs : List Frame) (s : Stmt) (g : ℕ) → AreOpen p c fs
    → IsAt p fs s → named_by s ≡ Some g → g < length p.funcs
named_there p c [] s g bodies at names = absurd (cc)
named_there p c (f ∷ fs) s g bodies at names =
    let below = named_below p f fs s g at names in let there = bodies.0.frame.function in omega (arith, below, there)

module _ (p : Program) (a : Actor) (f : Frame) (fs : List Frame) (bodies : AreOpen p a.context (f ∷ fs)) where
  abbrev there : Actor
  there = record a { stack = f ∷ fs }

  -- `only`, by whether the member has the number
  only_fits : (m g : ℕ) → IsAt p (f ∷ fs) (stmt.Only m g) → (b : Bool) → (a.context.number == m) ≡ b
      → Comes p (cond b (calling g opened.Call there) (skipping there))
  only_fits m g at true is =
      let same : a.context.number ≡ m = eqb-true a.context.number m is in
      let stands : IsAt p (f ∷ fs) (stmt.Only a.context.number g) =
      subst (λ (n : ℕ). IsAt p (f ∷ fs) (stmt.Only n g)) (sym same) at in
      record { bodies = opens p a.context f fs (stmt.Only m g) g opened.Call bodies at refl (inr stands) refl; counter = (refl, refl) }
  only_fits m g at false is =
      record { bodies = bodies; counter = (stmt.Only m g, at, λ same. absurd (false≢true (sym is ∙ eq-eqb a.context.number m same))) }

  -- `repeat`, by whether there is a round
  repeat_fits : (n g : ℕ) → IsAt p (f ∷ fs) (stmt.Repeat n g) → Comes p (repeating n g there)
  repeat_fits zero g at = record { bodies = bodies; counter = (stmt.Repeat zero g, at, tt) }
  repeat_fits (suc n) g at =
      record {
        bodies = opens p a.context f fs (stmt.Repeat (suc n) g) g (opened.Repeat (suc n)) bodies at refl (suc n, at, omega arith, omega arith) refl;
        counter = (refl, refl);
      }

  begun_fits : (s : Stmt) → IsAt p (f ∷ fs) s → Comes p (statement_begun s there)
  begun_fits (stmt.Call g) at =
      record { bodies = opens p a.context f fs (stmt.Call g) g opened.Call bodies at refl (inl at) refl; counter = (refl, refl) }
  begun_fits (stmt.Only m g) at = only_fits m g at (a.context.number == m) refl
  begun_fits (stmt.Repeat n g) at = repeat_fits n g at
  begun_fits (stmt.Tool x) at = record { bodies = bodies; counter = (x, at) }
  begun_fits stmt.Work at = record { bodies = bodies; counter = at }
  begun_fits s at = record { bodies = bodies; counter = (s, at, tt) }

-- a frame whose next statement is in work from now on
advances : (p : Program) (c : Context) (f : Frame) (fs : List Frame) (s : Stmt) → next_statement p f ≡ Some s
    → AreOpen p c (f ∷ fs) → AreOpen p c (advanced f ∷ fs)
advances p c f fs s next bodies =
    let within : f.next < length (body_in p f) = slice_get-within (body_in p f) f.next s next in (
      record {
        frame = record { function = bodies.0.frame.function; next = omega (arith, within) };
        context = bodies.0.context;
        stands = bodies.0.stands;
      },
      bodies.1,
    )

-- ---- a body ends

module _ (p : Program) (a : Actor) (f : Frame) (fs : List Frame) (bodies : AreOpen p a.context (f ∷ fs))
    (is : a.stack ≡ f ∷ fs)
    (end : f.next ≡ length (body_in p f)) where
  all : AreOpen p a.context a.stack
  all = subst (λ (gs : List Frame). AreOpen p a.context gs) (sym is) bodies

  -- the innermost body is at its end
  at_end : (P : Opened → Type 0) (o : Opened) → f.opened ≡ o → P o → IsAtEnd p P a.stack
  at_end P o how holds =
      subst (λ (gs : List Frame). IsAtEnd p P gs) (sym is) (end, subst (λ (w : Opened). P w) (sym how) holds)

  member_fits : (debug : Bool) → IsAtEnd p IsMember a.stack → a.context.implicit ≡ true
      → Comes p (ending_member debug a)
  member_fits true ends implicit = record { bodies = all; counter = (ends, implicit) }
  member_fits false ends implicit = record { bodies = all; counter = (ends, implicit) }

  ended_fits : (debug : Bool) (o : Opened) → f.opened ≡ o → StandsOn p a.context f.function fs o
      → Comes p (ended debug o a)
  ended_fits debug opened.Main how stands =
      member_fits debug (at_end IsMember opened.Main how tt) stands.1.implicit
  ended_fits debug opened.Worker how stands =
      member_fits debug (at_end IsMember opened.Worker how tt) stands.1.implicit
  ended_fits debug (opened.Master saved) how stands =
      member_fits debug (at_end IsMember (opened.Master saved) how tt) stands.2.implicit
  ended_fits debug (opened.Task w saved) how stands = record { bodies = all; counter = at_end IsExplicit (opened.Task w saved) how tt }
  ended_fits debug opened.Call how stands = record { bodies = all; counter = at_end IsCalled opened.Call how refl }
  ended_fits debug (opened.Repeat left) how stands = record { bodies = all; counter = at_end IsCalled (opened.Repeat left) how refl }
  ended_fits debug (opened.Critical k) how stands = record { bodies = all; counter = at_end IsCalled (opened.Critical k) how refl }
  ended_fits debug opened.Taskgroup how stands = record { bodies = all; counter = at_end IsCalled opened.Taskgroup how refl }

-- ---- the move

settles : (p : Program) (a : Actor) (f : Frame) (fs : List Frame) (o : Option Stmt) → a.stack ≡ f ∷ fs
    → AreOpen p a.context (f ∷ fs)
    → next_statement p f ≡ o → Comes p (settled_by p a f fs o)
settles p a f fs (Some s) is bodies next =
    begun_fits p a (advanced f) fs (advances p a.context f fs s next bodies) s
    (stands_before (body_in p f) f.next s next)
settles p a f fs None is bodies next =
    let past : length (body_in p f) ≤ f.next = slice_get-past (body_in p f) f.next next in
    let within = bodies.0.frame.next in
    ended_fits p a f fs bodies is (omega (arith, past, within)) p.env.debug f.opened refl bodies.0.stands

settles_in : (p : Program) (a : Actor) (fs : List Frame) → a.stack ≡ fs → AreOpen p a.context fs
    → 0 < length fs → Comes p (settled_in p a fs)
settles_in p a [] is bodies some = absurd (omega arith)
settles_in p a (f ∷ fs) is bodies some = settles p a f fs (next_statement p f) is bodies refl

-- an actor with a task fits once it has settled
pub settled_fits : (p : Program) (a : Actor) → HasTask p a → Fits p (settled p a)
settled_fits p a task =
    let comes = settles_in p a a.stack refl task.bodies task.some in
    let differs = settled_differs p a in
    record {
      thread = subst (λ (i : ℕ). i < p.threads) (sym differs.thread) task.thread;
      variables = subst (λ (g : Gathered). length g.variables ≡ VARIABLE_WORDS) (sym differs.gathered) task.variables;
      bodies = comes.bodies;
      counter = comes.counter;
    }

-- where bodies are open, they are once the actor has settled
opens_in : (p : Program) (a : Actor) (fs : List Frame) → a.stack ≡ fs → AreOpen p a.context fs
    → AreOpen p (settled_in p a fs).context (settled_in p a fs).stack
opens_in p a [] is bodies = subst (λ (gs : List Frame). AreOpen p a.context gs) (sym is) bodies
opens_in p a (f ∷ fs) is bodies = (settles p a f fs (next_statement p f) is bodies refl).bodies

pub settled_open : (p : Program) (a : Actor) → AreOpen p a.context a.stack
    → AreOpen p (settled p a).context (settled p a).stack
settled_open p a bodies = opens_in p a a.stack refl bodies
