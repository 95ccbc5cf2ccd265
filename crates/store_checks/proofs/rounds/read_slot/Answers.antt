use Rattle.std.proofs.Common.{◌≡◌, ◌∙◌, ◌==◌, ◌&&◌, ◌<◌, ◌^◌, ℕ, List, nat_le, Some, IfSome, sym, subst, rules, arith}
use Rattle.std.proofs.lemmas.Bool.{not-false}
use Rattle.ports.specs.Faults.{Rose}
use Rattle.store_model.specs.Slots.{slot_of, slot_start}
use Rattle.store_model.specs.Damage.{slot_fault, ValuesDamaged}
use Rattle.store_reader.specs.Reading.{own_in, TellsHead}
use Rattle.store_checks.specs.Causes.{HasRecoverCause}
use Rattle.store_checks.proofs.SlotReads.{round_read, changed_read, open_read, open_slot_test, bad_slot}
use Rattle.store_checks.proofs.rounds.read_slot.Goals as goal

pub returns-clause-read : goal.returns-clause-read
returns-clause-read g c = λ told is.
    let own = own_in c.args.split.now c.args.engine in
    let head = c.in-Ok.head in
    let tells = subst (λ x. IfSome x (TellsHead own c.args.slot head)) is c.in-Ok.ensures.head in
    let round_fits : head.round < 2 ^ 64 = first_of (omega arith, search rules) in
    let changed_fits : head.changed < 2 ^ 64 = first_of (omega arith, search rules) in
    (open_read own c.args.slot head told tells ∙ not-false head.is_open c.if-not-head.false, round_read own c.args.slot head told round_fits tells, changed_read own c.args.slot head told changed_fits tells)

pub returns-clause-sound : goal.returns-clause-sound
returns-clause-sound g c = λ told is.
    let own = own_in c.args.split.now c.args.engine in
    let head = c.in-Ok.head in
    let tells = subst (λ x. IfSome x (TellsHead own c.args.slot head)) is c.in-Ok.ensures.head in
    let round_fits : head.round < 2 ^ 64 = first_of (omega arith, search rules) in
    let changed_fits : head.changed < 2 ^ 64 = first_of (omega arith, search rules) in
    let test : c.is_round_of.result ≡ ((slot_of head.round == c.args.slot) && nat_le head.round 1000000 && nat_le head.changed own) =
    subst (λ n. c.is_round_of.result ≡ ((slot_of head.round == c.args.slot) && nat_le head.round 1000000 && nat_le head.changed n)) c.own-own.ensures c.is_round_of.ensures in
    open_slot_test own c.args.slot head told c.is_round_of.result round_fits changed_fits tells (not-false head.is_open c.if-not-head.false) test ∙ c.if-not-is_round_of.false

pub returns-then-not-is_round_of-clause-cause : goal.returns-then-not-is_round_of-clause-cause
returns-then-not-is_round_of-clause-cause g c =
    let own = own_in c.args.split.now c.args.engine in
    let head = c.in-Ok.head in
    let e = c.args.engine in
    let slot = c.args.slot in
    let round_fits : head.round < 2 ^ 64 = first_of (omega arith, search rules) in
    let changed_fits : head.changed < 2 ^ 64 = first_of (omega arith, search rules) in
    let test : c.is_round_of.result ≡ ((slot_of head.round == slot) && nat_le head.round 1000000 && nat_le head.changed own) =
    subst (λ n. c.is_round_of.result ≡ ((slot_of head.round == slot) && nat_le head.round 1000000 && nat_le head.changed n)) c.own-own.ensures c.is_round_of.ensures in
    subst (HasRecoverCause (Rose (g.D.M.Meter.faults c.args.meter.now) (g.D.M.Meter.faults c.slot_head.new.meter))
    (λ fault. (told : List ℕ) → (g.D.Disk.state c.args.disk.now).bytes ≡ Some told → slot_fault own e slot told ≡ Some fault))
    (sym c.damaged_slot.ensures)
    (λ told is.
    let tells = subst (λ x. IfSome x (TellsHead own slot head)) is c.in-Ok.ensures.head in
    subst (λ n. slot_fault own e slot told ≡ Some (ValuesDamaged e (slot_start n slot))) (sym c.own-own.ensures)
    (bad_slot own e slot told (open_slot_test own slot head told c.is_round_of.result round_fits changed_fits tells (not-false head.is_open c.if-not-head.false) test ∙ c.if-not-is_round_of.true)))
