-- What a fault of a core file or of an ELF core file and a refused call of files are to pages.
use Rattle.omi_corefile.specs.declared.fault.CoreError.{CoreError}
use Rattle.omi_corefile.specs.declared.fault.CoreError.TheVariants as core
use Rattle.omi_elf.specs.declared.fault.ElfReadError.{ElfReadError}
use Rattle.omi_elf.specs.declared.fault.ElfReadError.TheVariants as elf
use Rattle.omi_outside.specs.declared.files.Refused.{Refused}
use Rattle.omi_outside.specs.declared.files.Refused.TheVariants as refused
use Rattle.omi_page.specs.declared.fault.PageError.{PageError}
use Rattle.omi_page.specs.declared.fault.PageError.TheVariants as page

abbrev pub page_error_of : CoreError → PageError
page_error_of (core.Fault at why) = page.Fault at why
page_error_of core.OutOfMemory = page.OutOfMemory

abbrev pub page_error_of_elf : ElfReadError → PageError
page_error_of_elf (elf.Fault at why) = page.Elf at why
page_error_of_elf elf.Failed = page.Failed
page_error_of_elf elf.OutOfMemory = page.OutOfMemory

abbrev pub page_error_of_refused : Refused → PageError
page_error_of_refused refused.Failed = page.Failed
page_error_of_refused refused.OutOfMemory = page.OutOfMemory
