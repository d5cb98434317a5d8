use Rattle.std.proofs.Common.{◌≡◌, ap, subst, ◌∙◌}
use Rattle.std.specs.Prelude.{IfOk, IsErr}
use Rattle.omi_calls.specs.Asked.{AsksWord}
use Rattle.omi_session.proofs.Told.{as_told}
use Rattle.omi_session.proofs.session.Session.peek.Goals as goal

pub returns-clause-word : goal.returns-clause-word
returns-clause-word g c = λ memory t.
    as_told _ (g.C.Callbacks.told c.self.inside.table.calls) memory
    (ap (λ s. g.C.Callbacks.told s.table.calls) c.self.view_is) t
    (λ m. IfOk c.word.result (λ word. word ≡ m c.args.addr)) c.word.ensures.word

pub returns-clause-asked : goal.returns-clause-asked
returns-clause-asked g c =
    subst
    (λ k. AsksWord (g.C.Callbacks.told k.calls) c.args.addr (g.C.Callbacks.asked k.calls) (g.C.Callbacks.asked c.word.new.self.calls) (IsErr c.word.result))
    (ap (λ s. s.table) c.self.view_is) c.word.ensures.asked

pub returns-clause-mapped : goal.returns-clause-mapped
returns-clause-mapped g c = λ words rest told.
    c.word.ensures.mapped words rest
    (ap (λ s. (g.C.Callbacks.told s.table.calls).words rest) c.self.view_is ∙ told)
