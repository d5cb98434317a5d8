-- The native ids of threads rise, and there is one for each thread.
use Rattle.std.proofs.Common.{◌≡◌, ◌≤◌, ◌+◌, ◌&&◌, ◌++◌, ℕ, zero, suc, [], ◌∷◌, length, map, refl, sym, ap, ◌∙◌, arith}
use Rattle.std.proofs.lemmas.Bool.{le-leb}
use Rattle.std.specs.Prelude.{IsTrue}
use Rattle.std.specs.List.{range_with_len}
use Rattle.std.proofs.lemmas.List.FromFn.{length-map-range_with_len, map-range_with_len_more}
use Rattle.omi_corefile.specs.Limits.{rises_from}
use Rattle.omi_numbers.specs.Words.{native_id}
use Rattle.omi_commands.specs.Cores.{thread_ids}

rising_from : (n a least : ℕ) → least ≤ native_id a
    → IsTrue (rises_from least (map native_id (range_with_len a n)))
rising_from zero a least below = refl
rising_from (suc n) a least below =
    ap (λ b. b && rises_from (native_id a + 1) (map native_id (range_with_len (a + 1) n)))
    (le-leb least (native_id a) below)
    ∙ rising_from n (a + 1) (native_id a + 1) (omega arith)

pub rising : (threads : ℕ) → IsTrue (rises_from 0 (thread_ids threads))
rising threads = rising_from threads 0 0 (omega arith)

pub count : (threads : ℕ) → length (thread_ids threads) ≡ threads
count threads = length-map-range_with_len native_id 0 threads

pub one_more : (threads : ℕ) → thread_ids threads ++ native_id threads ∷ [] ≡ thread_ids (threads + 1)
one_more threads = sym (map-range_with_len_more native_id 0 threads threads (omega arith))
