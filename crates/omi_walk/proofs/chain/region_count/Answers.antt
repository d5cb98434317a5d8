use Rattle.std.proofs.Common.{◌≤◌, ◌*◌, arith, mul-le-mul}
use Rattle.omi_layout.proofs.Arenas.{threads_of_valid, regions_of_valid}
use Rattle.omi_walk.proofs.chain.region_count.Goals as goal

pub returns-clause-few : goal.returns-clause-few
returns-clause-few c =
    let threads = threads_of_valid c.args.layout.now.table c.args.layout.now.valid in
    let slots = regions_of_valid c.args.layout.now.table c.args.layout.now.valid in
    let first : c.from.result ≤ 64 = omega (arith, threads, c.from.ensures, c.threads.ensures) in
    let second : c.from-2.result ≤ 64 =
    omega (arith, slots, c.from-2.ensures, c.regions_per_thread.ensures) in
    let most : c.from.result * c.from-2.result ≤ 64 * 64 = mul-le-mul first second in
    omega (arith, most)
