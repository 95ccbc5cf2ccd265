use Rattle.std.proofs.Common.{rules, arith, ◌≡◌, length, vec_len}
use Rattle.round_tests.proofs.Stores.{store_is}
use Rattle.round_tests.proofs.made.make.Goals as goal

pub returns-in-Ok-clause-store : goal.returns-in-Ok-clause-store
returns-in-Ok-clause-store g c =
    let made = c.in-Ok.ensures.prepares in
    let graphs : vec_len c.prepare.new.store.graphs ≡ length c.prepare.new.store.graphs.items = first_of (search rules, omega arith) in
    let rows : vec_len c.rows.result ≡ length c.rows.result.items = first_of (search rules, omega arith) in
    let spills : vec_len c.devices-3.result ≡ length c.devices-3.result.items = first_of (search rules, omega arith) in
    store_is c.args.job.now c.prepare.new.beat c.prepare.new.store c.rows.result c.devices-3.result c.prepare.ensures.rest.0 c.prepare.ensures.rest.1
    (omega (arith, graphs, made.many.0)) made.many.1 made.value_beats (λ e d below. (made.blank e d below).size)
    (omega (arith, rows, c.rows.ensures.many)) c.rows.ensures.rows (omega (arith, spills, c.devices-3.ensures.many)) c.devices-3.ensures.beats
