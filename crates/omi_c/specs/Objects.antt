-- What is held of an object that C names.
use Rattle.std.specs.Prelude.{ℕ, List, Option}
use Rattle.omi_handle.specs.declared.handle.Kind.{Kind}
use Rattle.omi_handle.specs.declared.handle.Held.{Held}
use Rattle.omi_session.specs.Inquiry.{object_at}
use Rattle.omi_c.specs.declared.answers.Object.{Object}

-- nothing where no live record of the kind can stand at the address with the life word
abbrev pub held_in : List ℕ → Kind → Object → Option Held
held_in w kind o = object_at w kind o.addr o.life
