use Rattle.std.proofs.Common.{ℕ, Bool, Some, None, sym, ◌∙◌, rules, tests}
use Rattle.std.specs.Prelude.{if◌then◌else◌}
use Rattle.std.proofs.lemmas.Iterator.{YieldsList-from_slice}
use Rattle.std.proofs.lemmas.Iterator.Adapters.{option_map_id}
use Rattle.std.proofs.lemmas.Iterator.Consumers.{YieldsList-from_filter_map, nth_from_yields_List}
use Rattle.omi_machine_legal.proofs.fork_rules.got_thread.Goals as goal

pub returns : goal.returns
returns c =
    sym (option_map_id _)
    ∙ nth_from_yields_List c.nth.result c.nth.new.self c.args.at c.nth.ensures.ran
    (YieldsList-from_filter_map _ (λ (a : ℕ × Bool). if a.1 then Some a.0 else None) (YieldsList-from_slice c.args.h.now.asks cc) c.filter_map.ensures.closure (λ x r q k. search (rules, tests)))
