use Rattle.std.proofs.Common.{◌≡◌, ℕ, Bool, Option, Some, None, refl}
use Rattle.omi_corefile.specs.Refusals.{Parts}
use Rattle.omi_outside.specs.Outside.{Told as FileTold}
use Rattle.omi_page.specs.Told.{parts_of_bytes, told_by_file, told_by_parts}
use Rattle.omi_page.proofs.pages.PagesCallbacks.read_memory.Goals as goal

-- nothing is told of failures
no_fails_by : (read : Option Parts) (fails : ℕ → Bool) → (told_by_parts read).fails ≡ Some fails → ⊥
no_fails_by (Some parts) fails told = (cc)
no_fails_by None fails told = (cc)

no_fails : (t : FileTold) (fails : ℕ → Bool) → (told_by_file t).fails ≡ Some fails → ⊥
no_fails (Some (Some bytes)) fails told = no_fails_by (parts_of_bytes bytes) fails told
no_fails (Some None) fails told = (cc)
no_fails None fails told = (cc)

pub returns-clause-asked : goal.returns-clause-asked
returns-clause-asked g c = record {
  answered = λ ok. (λ fails told. absurd (no_fails (g.F.Files.told c.args.self.now.files.now c.args.self.now.name.now) fails told), refl);
  failed = λ failed. (λ fails told. absurd (no_fails (g.F.Files.told c.args.self.now.files.now c.args.self.now.name.now) fails told), refl);
}
