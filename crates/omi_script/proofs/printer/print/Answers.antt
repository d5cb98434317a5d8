use Rattle.std.proofs.Common.{◌≡◌, ◌≤◌, ◌∙◌, ◌++◌, length, sym, ap, subst, List, ℕ}
use Rattle.std.specs.Prelude.{flat_map}
use Rattle.omi_script.specs.Canonical.{canonical, function_text, head_words, line_text}
use Rattle.omi_script.specs.Grammar.{Grammar}
use Rattle.omi_script.specs.declared.limits.TheConstants.{MAX_BYTES}
use Rattle.omi_script.specs.declared.program.Program.{Program}
use Rattle.omi_script.proofs.CanonicalPrograms.{canonical_again}
use Rattle.omi_script.proofs.printer.print.Goals as goal

pub returns-clause-again : goal.returns-clause-again
returns-clause-again c short =
    let p : Program = c.args.p.now in
    let head : c.push_head.new.text.items ≡ flat_map line_text (head_words p.threads p.env) =
    c.in_ok-push_head.ensures
    ∙ ap (λ bs. bs ++ flat_map line_text (head_words p.threads p.env)) c.new-text.ensures.items in
    let text : c.push_functions.new.text.items ≡ canonical p =
    c.in_ok-push_functions.ensures ∙ ap (λ bs. bs ++ flat_map (function_text p.funcs) p.funcs) head in
    let Again : List ℕ → Type 0 = λ bytes. length bytes ≤ MAX_BYTES → Grammar bytes p in
    subst Again (sym text) (canonical_again p) short
