-- What stays of files that are read and of files that are written, which a call keeps apart: it reads the first alone, and writes the second alone.
use Rattle.std.specs.Prelude.{◌≡◌}
use Rattle.omi_frame.specs.Seen.{SeenFiles}

pub record KeptApart (files files_now dest dest_now : SeenFiles) : Type 0 where
  pub files_told : files_now.told ≡ files.told
  pub files_writes : files_now.writes ≡ files.writes
  pub dest_reads : dest_now.reads ≡ dest.reads
