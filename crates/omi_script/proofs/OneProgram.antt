-- Programs with equal fields are one program.
use Rattle.std.proofs.Common.{◌≡◌, Bool, true, List, ℕ, ap, subst}
use mathlib.Core.Bool.{Bool-set}
use Rattle.std.specs.Prelude.{IsTrue}
use Rattle.omi_script.specs.Grammar.{AreEqual, Grammar}
use Rattle.omi_script.specs.Program.{is_program}
use Rattle.omi_script.specs.declared.program.Program.{Program}
use Rattle.omi_script.proofs.VerdictLemmas.{AreEqual-from_workload}

one_test : (b : Bool) (x y : IsTrue b) → x ≡ y
one_test b x y = Bool-set b true x y

pub same_program : (p q : Program) → AreEqual p q → p ≡ q
same_program p q e =
    subst
    (λ n. (a : IsTrue (is_program n q.env q.funcs q.main)) → p ≡ record { threads = n; env = q.env; funcs = q.funcs; main = q.main; accepted = a }) e.threads
    (subst (λ env. (a : IsTrue (is_program p.threads env q.funcs q.main)) → p ≡ record { threads = p.threads; env = env; funcs = q.funcs; main = q.main; accepted = a }) e.env
    (subst (λ funcs. (a : IsTrue (is_program p.threads p.env funcs q.main)) → p ≡ record { threads = p.threads; env = p.env; funcs = funcs; main = q.main; accepted = a }) e.funcs
    (subst (λ main. (a : IsTrue (is_program p.threads p.env p.funcs main)) → p ≡ record { threads = p.threads; env = p.env; funcs = p.funcs; main = main; accepted = a }) e.main
    (λ a. ap (λ b. record { threads = p.threads; env = p.env; funcs = p.funcs; main = p.main; accepted = b }) (one_test (is_program p.threads p.env p.funcs p.main) p.accepted a)))))
    q.accepted

-- a text is one program
pub one_program : (bytes : List ℕ) (p q : Program) → Grammar bytes p → Grammar bytes q → p ≡ q
one_program bytes p q g h = same_program p q (AreEqual-from_workload bytes p q g h)
