-- What a tool looks into, and that it has looked.
use Rattle.std.specs.Prelude.{◌≡◌, ℕ, List, Option, Some}
use Rattle.omi_calls.specs.Memory.{told_by}
use Rattle.omi_calls.specs.Told.{Told}
use Rattle.omi_corefile.specs.declared.core_image.CoreImage.{CoreImage}
use Rattle.omi_layout.specs.Given.{GivesLayout}
use Rattle.omi_outside.specs.Outside.{Told as FileTold}
use Rattle.omi.specs.Opened.{HoldsCore, words_of_core}

-- a stopped program: what is told of it, the words of its layout's table, and the native ids of its threads
pub record Target : Type 0 where
  pub told : Told
  pub layout : List ℕ
  pub threads : List ℕ

-- these are what is told, the layout and the threads of a core
pub record IsTargetOf (core : CoreImage) (target : Target) : Type 0 where
  pub told : target.told ≡ told_by core
  pub layout : GivesLayout (words_of_core core) target.layout
  pub threads : target.threads ≡ core.contexts

-- the file is there, and stands for the target's core
abbrev pub IsTargetIn : Option (List ℕ) → Target → Type 0
IsTargetIn content target = (core : CoreImage) × HoldsCore content core × IsTargetOf core target

-- A tool looked into a target, and became what such a look may make of it. Where the file is told, it holds the target's core
pub record HasLooked {T : Type 0} (file : FileTold) (looks : T → Target → T → Type 0) (old new : T) : Type 0 where
  pub target : Target
  pub looked : looks old target new
  pub there : (content : Option (List ℕ)) → file ≡ Some content → IsTargetIn content target

-- ---- between the file and the session

-- this is told of the core for which the file stands, and these are its threads
pub record TellsCore (content : Option (List ℕ)) (told : Told) (threads : List ℕ) : Type 0 where
  pub core : CoreImage
  pub holds : HoldsCore content core
  pub told_is : told ≡ told_by core
  pub threads_are : threads ≡ core.contexts

-- a tool looked into the core of which this is told, and which has these threads
pub record HasLookedAt {T : Type 0} (told : Told) (threads : List ℕ) (looks : T → Target → T → Type 0) (old new : T) : Type 0 where
  pub target : Target
  pub looked : looks old target new
  pub is : (core : CoreImage) → told ≡ told_by core → threads ≡ core.contexts → IsTargetOf core target
