-- Positions in bodies, and the room of a stack.
use Rattle.std.proofs.Common.{◌≡◌, ℕ, ◌<◌, ◌≤◌, List, [], ◌∷◌, length, Option, Some, None, get_or, ap, subst, ⊎_elim, arith}
use Rattle.std.specs.Prelude.{slice_get, sum_by}
use Rattle.std.specs.Option.{option_map_or}
use Rattle.std.proofs.lemmas.List.Sums.{get_or-le-sum_by}
use Rattle.std.proofs.lemmas.Option.{slice_get_cases}
use Rattle.omi_script.specs.Bodies.{body_of}
use Rattle.omi_script.specs.declared.limits.TheConstants.{MAX_STATEMENTS}
use Rattle.omi_script.specs.declared.program.Program.{Program}
use Rattle.omi_script.specs.declared.function.Func.{Func}
use Rattle.omi_script.proofs.RuleLemmas.{Rules-from_accepted}
use Rattle.omi_pc.specs.declared.context.Context.{Context}
use Rattle.omi_pc.specs.declared.frame.Frame.{Frame}
use Rattle.omi_pc.specs.declared.limits.TheConstants.{STACK_ROOM}
use Rattle.omi_pc.specs.Frames.{top_of, with_top}
use Rattle.omi_pc.specs.OpenBodies.{AreOpen}
use Rattle.omi_pc.proofs.Downwards.{bodies_have_room}

-- one function has at most the statements of all
body_within : (fs : List Func) (f : ℕ) → length (body_of fs f) ≤ sum_by (λ g. length g.body) fs
body_within fs f =
    ⊎_elim
    (λ (there : (g : Func) × (f < length fs) × (slice_get fs f ≡ Some g) × (get_or fs f g ≡ g)).
    let size : length (body_of fs f) ≡ length there.0.body = ap body_size there.2 in
    let same : length (get_or fs f there.0).body ≡ length there.0.body =
    ap (λ (g : Func). length g.body) there.3 in
    let part = get_or-le-sum_by (λ (g : Func). length g.body) fs f there.0 there.1 in
    omega (arith, size, same, part))
    (λ (past : (length fs ≤ f) × (slice_get fs f ≡ None)).
    let size : length (body_of fs f) ≡ 0 = ap body_size past.1 in omega (arith, size))
    (slice_get_cases fs f).1
  where
    body_size : Option Func → ℕ
    body_size o = length (option_map_or (λ (g : Func). g.body) o [])

-- a position is at most that behind all statements of a program
pub position_within : (p : Program) (c : Context) (f : Frame) (fs : List Frame) → AreOpen p c (f ∷ fs)
    → f.next ≤ MAX_STATEMENTS
position_within p c f fs bodies =
    let short = (Rules-from_accepted p).statements in
    let within = body_within p.funcs f.function in
    let next = bodies.0.frame.next in
    omega (arith, short, within, next)

-- another frame at the top leaves the room
pub room_with_top : (p : Program) (c : Context) (f : Frame) (fs : List Frame) → AreOpen p c fs
    → length (with_top f fs) < STACK_ROOM
room_with_top p c f [] bodies = omega arith
room_with_top p c f (g ∷ gs) bodies = let few = bodies_have_room p c (g ∷ gs) bodies in omega (arith, few)

-- the same of the innermost body
pub position_of_top : (p : Program) (c : Context) (fs : List Frame) (f : Frame) → top_of fs ≡ Some f
    → AreOpen p c fs → f.next ≤ MAX_STATEMENTS
position_of_top p c [] f is bodies = absurd (cc)
position_of_top p c (g ∷ gs) f is bodies =
    let same : g ≡ f = cc in subst (λ (h : Frame). h.next ≤ MAX_STATEMENTS) same (position_within p c g gs bodies)
