-- What an error of `clap` is to a line.
use Rattle.clap.specs.declared.error.kind.ErrorKind.{ErrorKind}
use Rattle.clap.specs.declared.error.kind.ErrorKind.TheVariants as kind
use Rattle.omi_line.specs.declared.line.LineError.{LineError}
use Rattle.omi_line.specs.declared.line.LineError.TheVariants as error

abbrev pub line_error_of : ErrorKind → LineError
line_error_of kind.OutOfMemory = error.OutOfMemory
line_error_of _ = error.Usage
