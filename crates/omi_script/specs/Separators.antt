-- What stands between the pieces of a text.
use Rattle.std.specs.Prelude.{ℕ, Bool}
use Rattle.omi_script.specs.Lines.{is_line_feed, is_blank}
use Rattle.omi_script.specs.Numbers.{is_comma}
use Rattle.omi_script.specs.declared.pieces.Separator.{Separator}
use Rattle.omi_script.specs.declared.pieces.Separator.TheVariants.{LineFeed, Blank, Comma}

-- the byte is such a separator
abbrev pub separates : Separator → ℕ → Bool
separates LineFeed = is_line_feed
separates Blank = is_blank
separates Comma = is_comma
