-- What is listed, by what is read and by the report.
use Rattle.std.proofs.Common.{◌≡◌, inl, inr, ℕ, List, Option, Some, Ok, Err, refl, sym, ap}
use Rattle.std.specs.Prelude.{Result}
use Rattle.omi_model.specs.declared.view.View.{View}
use Rattle.omi_process.specs.Contexts.{AreContexts}
use Rattle.omi_process.specs.declared.listed.Listed.TheVariants.{Threads}
use Rattle.omi_ps.specs.Listing.{GivesSome, IsListing, look_listing}
use Rattle.omi_ps.specs.Recorded.{look_recorded}
use Rattle.omi_ps.specs.declared.listing.Listing.{Listing}
use Rattle.omi_rep.specs.Look.{Look, and_then, mapped}
use Rattle.omi_rep.specs.LookView.{look_view}
use Rattle.omi_walk.specs.Gives.{Gives}
use Rattle.omi_walk.specs.declared.fault.WalkFault.{WalkFault}
use Rattle.omi_walk.specs.declared.fault.WalkFault.TheVariants.{Damaged, Cycle, Callback, OutOfMemory}
use Rattle.omi_word.specs.Words.{Words}

-- a report and how many other threads there are
abbrev pub as_listing : Option ℕ → Result View WalkFault → Result Listing WalkFault
as_listing others (Ok view) = Ok (record { view = view; others = others })
as_listing others (Err fault) = Err fault

module _ (w : List ℕ) (memory : Words) where
  -- a word of the records has a fault
  pub unread : (ids : List ℕ) (fault : WalkFault) → Gives {A = List ℕ} (Err fault) (look_recorded w memory)
      → GivesSome {A = Listing} (Err fault) (IsListing w memory (Threads ids))
  unread ids (Damaged addr field) is = inl (_, is, refl)
  unread ids (Cycle addr) is = inl (_, is, refl)
  unread ids Callback is = tt
  unread ids OutOfMemory is = tt

  -- the report of contexts is listed
  pub listed : (contexts : List ℕ) (others : Option ℕ) (holds : Look Listing → Type 0) (result : Result View WalkFault)
      → ((look : Look Listing) → look ≡ look_listing w memory contexts others → holds look)
      → Gives result (look_view w memory contexts) → GivesSome (as_listing others result) holds
  unfolding and_then
  listed contexts others holds (Ok view) by is =
      by (Ok (record { view = view; others = others })) (sym (ap (mapped (λ (v : View). record { view = v; others = others })) is))
  listed contexts others holds (Err (Damaged addr field)) by is =
      by _ (sym (ap (mapped (λ (v : View). record { view = v; others = others })) is))
  listed contexts others holds (Err (Cycle addr)) by is =
      by _ (sym (ap (mapped (λ (v : View). record { view = v; others = others })) is))
  listed contexts others holds (Err Callback) by is = tt
  listed contexts others holds (Err OutOfMemory) by is = tt

  -- and so is that of the listed threads that are recorded
  pub listed_among : (ids recorded contexts : List ℕ) (others : ℕ) (result : Result View WalkFault) → look_recorded w memory ≡ Ok recorded
      → AreContexts (Threads ids) recorded contexts others → Gives result (look_view w memory contexts)
      → GivesSome (as_listing (Some others) result) (IsListing w memory (Threads ids))
  listed_among ids recorded contexts others result read are is =
      listed contexts (Some others) (IsListing w memory (Threads ids)) result
      (λ look same. inr (record { recorded = recorded; contexts = contexts; others = others; read = read; are = are; is = same })) is
