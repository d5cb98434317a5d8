-- What a refused call of files is to a whole read.
use Rattle.omi_outside.specs.declared.files.Refused.{Refused}
use Rattle.omi_outside.specs.declared.files.Refused.TheVariants as refused
use Rattle.omi_outside.specs.declared.whole.ReadError.{ReadError}
use Rattle.omi_outside.specs.declared.whole.ReadError.TheVariants as error

abbrev pub read_error_of : Refused → ReadError
read_error_of refused.Failed = error.Failed
read_error_of refused.OutOfMemory = error.OutOfMemory
