use Rattle.omi_page.specs.Lending.{lending_of}
use Rattle.omi.proofs.tool.look_into.Given as goal

-- the files that are lent, as they are then
abbrev pub ghosts-look_on : goal.ghosts-look_on
ghosts-look_on g a = record { lending = lending_of a.pages }
