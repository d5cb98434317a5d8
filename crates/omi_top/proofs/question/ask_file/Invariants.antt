use Rattle.omi_page.specs.Lending.{lending_of}
use Rattle.omi_top.proofs.question.ask_file.Given as goal

-- the files that are lent, as they are then
abbrev pub ghosts-ask_pages : goal.ghosts-ask_pages
ghosts-ask_pages g a = record { lending = lending_of a.pages }
