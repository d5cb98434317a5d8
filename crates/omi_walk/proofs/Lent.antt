-- A handle that is made of an object that was met, asked, and let go again.
use Rattle.std.proofs.Common.{◌≡◌, ◌≤◌, ◌+◌, ℕ, ap, ◌∙◌, arith}
use Rattle.std.specs.FinMap.{remove}
use Rattle.omi_calls.specs.Kept.{Kept}
use Rattle.omi_calls.specs.Told.{Told}
use Rattle.omi_handle.specs.declared.handle.Held.{Held}
use Rattle.omi_session.specs.Made.{AddsHandle}
use Rattle.omi_session.specs.Opened.{Opened, Stays}
use Rattle.omi_walk.specs.Leaves.{Leaves}
use Rattle.omi_walk.proofs.Names.{restored}
use Rattle.omi_walk.proofs.Steps.{stays_then}

-- once it is let go, all handles are as they were
pub lent_leaves : {C F : Type 0} {told : C → Told} {s given asked new : Opened C F} {h : Held} {pair : ℕ × ℕ} (n most : ℕ) → n + 1 ≤ most
    → AddsHandle s.handles given.handles pair h → Stays told s given → Leaves told n given asked
    → new.handles.held ≡ remove asked.handles.held pair
    → new.handles.made ≡ asked.handles.made → new.layout ≡ asked.layout → new.table ≡ asked.table → Leaves told most s new
lent_leaves {C} {F} {told} {s} {given} {asked} {new} {h} {pair} n most few adds stays leaves removed made layout table = record {
  stays = stays_then told s asked new (stays_then told s given asked stays leaves.stays) (record {
    table = record {
      same = ap (λ (t : Kept C F). told t.calls) table;
      order = ap (λ (t : Kept C F). t.order) table;
      to_host = ap (λ (t : Kept C F). t.to_host) table;
    };
    layout = layout;
  });
  held = removed ∙ ap (λ held. remove held pair) leaves.held ∙ ap (λ held. remove held pair) adds.added ∙ restored s.handles.held pair h adds.unheld;
  later = omega (arith, made, leaves.later, adds.counted);
  made = omega (arith, few, made, leaves.made, adds.counted);
}
