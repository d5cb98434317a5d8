-- What is borrowed stays through calls one after another.
use Rattle.std.proofs.Common.{◌∙◌}
use Rattle.omi_outside.specs.declared.files.Files as files
use Rattle.omi_page.specs.declared.pages.Pages.{Pages}
use Rattle.omi_page.specs.Borrowed.{StaysBorrowed}

pub stays_then : {F : Type 0} {g : files.Ghosts F} (old middle new : Pages F g) → StaysBorrowed old middle
    → StaysBorrowed middle new → StaysBorrowed old new
stays_then old middle new first second = record {
  reference = second.reference ∙ first.reference;
  told = second.told ∙ first.told;
  writes = second.writes ∙ first.writes;
  name = second.name ∙ first.name;
  contexts = second.contexts ∙ first.contexts;
  order = second.order ∙ first.order;
}
