-- The texts of what is listed.
use Rattle.std.specs.Prelude.{ℕ, Bool, List, [], ◌∷◌, ◌++◌, codes, Option, Some, None, if◌then◌else◌}
use Rattle.std.specs.Fmt.{decimal}
use Rattle.omi_listing.specs.Threads.{threads_text}
use Rattle.omi_model.specs.declared.view.View.{View}
use Rattle.omi_ps.specs.declared.form.Form.{Form}
use Rattle.omi_ps.specs.declared.form.Form.TheVariants.{Report, Threads}
use Rattle.omi_ps.specs.declared.listing.Listing.{Listing}
use Rattle.omi_text.specs.Report.{report}

-- the line that says so, where the file ends inside a segment of memory
abbrev pub cut_off_line : Bool → List ℕ
cut_off_line cut_off = if cut_off then codes "cut off\n" else []

-- the line that counts the threads which are none of OpenMP, where the file lists all threads
abbrev pub others_line : Option ℕ → List ℕ
others_line None = []
others_line (Some n) = codes "others " ++ (decimal n ++ 10 ∷ [])

abbrev pub head_text : Bool → Option ℕ → List ℕ
head_text cut_off others = cut_off_line cut_off ++ others_line others

-- a table of threads, or the lines of a report
abbrev pub body_text : Form → View → List ℕ
body_text Threads view = threads_text view
body_text Report view = report view

abbrev pub listing_text : Form → Listing → Bool → List ℕ
listing_text form listing cut_off = head_text cut_off listing.others ++ body_text form listing.view
