-- A word is what an option's value is to be exactly where the option isn't refused.
use Rattle.std.proofs.Common.{◌≡◌, ◌∙◌, ◌&&◌, ◌||◌, ℕ, Bool, true, false, cond, not, refl, List, Option, Some, None, codes, is_some}
use Rattle.std.specs.Str.{bytes_eq}
use Rattle.omi_core.specs.declared.stop.Break.{Break}
use Rattle.omi_core.specs.declared.stop.Break.TheVariants as kind
use Rattle.omi_line.specs.declared.line.Line.{Line}
use Rattle.omi_usage.specs.Form.{Want, bare_form, fits, options_fit, value_fits}
use Rattle.omi_commands.specs.Options.{break_named, has_option, layout_of}
use Rattle.omi_commands.specs.Forms.{a_breakpoint, a_layout}

pub breakpoint_fits : (name : List ℕ) → fits a_breakpoint name ≡ is_some (break_named name)
breakpoint_fits name =
    go (bytes_eq name (codes "parallel_begin")) (bytes_eq name (codes "parallel_end"))
    (bytes_eq name (codes "task_begin")) (bytes_eq name (codes "task_end")) (bytes_eq name (codes "thread_begin"))
  where
    go : (a b c d e : Bool) → (a || (b || (c || (d || (e || false))))) ≡ is_some (cond a (Some kind.ParallelBegin) (cond b (Some kind.ParallelEnd) (cond c (Some kind.TaskBegin) (cond d (Some kind.TaskEnd) (cond e (Some kind.ThreadBegin) None)))))
    go true b c d e = refl
    go false true c d e = refl
    go false false true d e = refl
    go false false false true e = refl
    go false false false false true = refl
    go false false false false false = refl

pub layout_fits : (layout : Option (List ℕ)) → value_fits (Some a_layout) layout ≡ is_some (layout_of layout)
layout_fits None = refl
layout_fits (Some text) = refl

-- a command without options
pub no_options : (words : List Want) (line : Line) → options_fit (bare_form words) line ≡ not (has_option line)
no_options words line = go line.seed line.on line.count line.layout
  where
    go : (seed on count layout : Option (List ℕ))
        → (value_fits None seed && (value_fits None on && (value_fits None count && (value_fits None layout && true)))) ≡ not (is_some seed || is_some on || is_some count || is_some layout)
    go (Some seed) on count layout = refl
    go None (Some on) count layout = refl
    go None None (Some count) layout = refl
    go None None None (Some layout) = refl
    go None None None None = refl

-- what there is unless the line has an option
pub unless_has : {C : Type 0} (has words : Bool) (command : Option C) → words ≡ is_some command
    → (words && not has) ≡ is_some (cond has None command)
unless_has true words command is = go words
  where
    go : (w : Bool) → (w && false) ≡ false
    go true = refl
    go false = refl
unless_has false words command is = go words ∙ is
  where
    go : (w : Bool) → (w && true) ≡ w
    go true = refl
    go false = refl
