use Rattle.omi_page.specs.Lending.{lending_of}
use Rattle.omi.proofs.opened.open_core.Given as goal

-- the files that are lent, as they are then
abbrev pub ghosts-layout_on : goal.ghosts-layout_on
ghosts-layout_on g a = record { lending = lending_of a.pages }
