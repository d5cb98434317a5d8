-- What a fault of a core's file, and the code of a session that doesn't open, are handed on as.
use Rattle.omi_page.specs.declared.fault.PageError.{PageError}
use Rattle.omi_page.specs.declared.fault.PageError.TheVariants as page
use Rattle.omi_session.specs.declared.rc.Rc.{Rc}
use Rattle.omi_session.specs.declared.rc.Rc.TheVariants as code
use Rattle.omi.specs.declared.fault.OpenError.{OpenError}
use Rattle.omi.specs.declared.fault.OpenError.TheVariants.{NoFile, NotRead, NoCore, NoElf, NoTarget, OutOfMemory}

abbrev pub open_error_of_page : PageError → OpenError
open_error_of_page (page.Fault at why) = NoCore at why
open_error_of_page (page.Elf at why) = NoElf at why
open_error_of_page page.NoFile = NoFile
open_error_of_page page.Failed = NotRead
open_error_of_page page.OutOfMemory = OutOfMemory

-- a callback that failed is a read that failed
abbrev pub open_error_of_code : Rc → OpenError
open_error_of_code code.CallbackError = NotRead
open_error_of_code rc = NoTarget rc
