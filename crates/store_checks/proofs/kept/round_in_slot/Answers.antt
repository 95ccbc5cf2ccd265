use Rattle.std.proofs.Common.{◌≡◌, ◌∙◌, ◌<◌, ◌+◌, ◌%◌, ℕ, List, length, Some, subst, sym, arith}
use Rattle.ports.specs.Faults.{Rose}
use Rattle.store_model.specs.Kept.{device}
use Rattle.store_model.specs.Damage.{slot_fault}
use Rattle.store_reader.specs.Reading.{own_in}
use Rattle.store_checks.specs.Causes.{Tell}
use Rattle.store_checks.specs.Rounds.{FindsRound, TellsSlot, IsWithin}
use Rattle.store_checks.proofs.HeadChecks.{cause_by, tell_at}
use Rattle.store_checks.proofs.KeptRounds.{first_found, none_of_more, no_slot_fault, few_changed, own_few}
use Rattle.store_checks.proofs.kept.round_in_slot.Goals as goal

pub returns-in-Err-clause-cause : goal.returns-in-Err-clause-cause
returns-in-Err-clause-cause g c =
    let x = c.index-values-0.result in
    let own = own_in c.args.split.now in
    let rose = Rose (g.D.M.Meter.faults c.args.meter.now) (g.D.M.Meter.faults c.read_slot.new.meter) in
    let some : 0 < length c.args.values.now = omega (arith, c.requires.many, c.requires.split.engines) in
    cause_by rose rose
    (λ fault. (told : List ℕ) → (g.D.Disk.state x).bytes ≡ Some told → slot_fault (own 0) 0 c.args.slot told ≡ Some fault)
    (λ fault. (told : List (List ℕ)) → Tell g.D.Disk.state c.args.values.now told → ⊥)
    c.in-Err.fault
    (λ r. r)
    (λ fault found told tell. no_slot_fault own told 0 c.args.slot fault (c.requires.sound told tell) (subst (λ n. 0 < n) (sym tell.many) some) c.requires.slot
    (found (device told 0) (tell_at g.D.Disk.state c.args.values.now told 0 x tell some c.index-values-0.is)))
    c.in-Err.ensures.cause

pub loop-e-init : goal.loop-e-init
loop-e-init g c =
    let x = c.index-values-0.result in
    let own = own_in c.args.split.now in
    let some : 0 < length c.args.values.now = omega (arith, c.requires.many, c.requires.split.engines) in
    let few = own_few c.args.split.now 0 c.requires.split in
    let within = subst (IsWithin (own 0) c.args.slot) c.in-Ok-Some.field-0-is c.in-Ok-Some.ensures.within in
    record {
      some = omega arith;
      finds = λ told tell. first_found own told c.args.slot c.in-Ok-Some.first
          (subst (TellsSlot (own 0) c.args.slot (device told 0)) c.in-Ok-Some.field-0-is
          (c.in-Ok-Some.ensures.read (device told 0) (tell_at g.D.Disk.state c.args.values.now told 0 x tell some c.index-values-0.is)));
      small = omega (arith, within.2, few);
      slot = within.0;
      within = within.1;
      later = c.in-Ok-Some.ensures.later;
      calm = c.in-Ok-Some.ensures.calm (λ is. absurd cc);
    }

pub returns-in-Err-read_slot-clause-cause : goal.returns-in-Err-read_slot-clause-cause
returns-in-Err-read_slot-clause-cause g c =
    let x = c.index-values-e.result in
    let own = own_in c.args.split.now in
    let e = c.loop-e.e in
    cause_by (Rose (g.D.M.Meter.faults c.loop-e.meter) (g.D.M.Meter.faults c.read_slot-in-loop-e.new.meter))
    (Rose (g.D.M.Meter.faults c.args.meter.now) (g.D.M.Meter.faults c.read_slot-in-loop-e.new.meter))
    (λ fault. (told : List ℕ) → (g.D.Disk.state x).bytes ≡ Some told → slot_fault (own e) e c.args.slot told ≡ Some fault)
    (λ fault. (told : List (List ℕ)) → Tell g.D.Disk.state c.args.values.now told → ⊥)
    c.in-Err-read_slot.fault
    (λ rose. omega (arith, rose, c.loop-e.invariant.later))
    (λ fault found told tell. no_slot_fault own told e c.args.slot fault (c.requires.sound told tell) (subst (λ n. e < n) (sym tell.many) c.loop-e-test.true) c.requires.slot
    (found (device told e) (tell_at g.D.Disk.state c.args.values.now told e x tell c.loop-e-test.true c.index-values-e.is)))
    c.in-Err-read_slot.ensures.cause

pub joined-requires-clause-next : goal.joined-requires-clause-next
joined-requires-clause-next g c = few_changed (own_in c.args.split.now c.loop-e.e) c.args.slot c.in-Ok.next (own_few c.args.split.now c.loop-e.e c.requires.split) c.in-Ok.ensures.within

pub returns-in-None-clause-finds : goal.returns-in-None-clause-finds
returns-in-None-clause-finds g c = λ told tell.
    let x = c.index-values-e.result in
    let e = c.loop-e.e in
    none_of_more (own_in c.args.split.now) told c.args.slot (e + 1) (length told) (omega (arith, tell.many, c.loop-e-test.true))
    (c.in-None.ensures.joins (own_in c.args.split.now) told c.args.slot e c.loop-e.invariant.some (c.loop-e.invariant.finds told tell)
    (c.in-Ok.ensures.read (device told e) (tell_at g.D.Disk.state c.args.values.now told e x tell c.loop-e-test.true c.index-values-e.is)))

pub loop-e-preserved : goal.loop-e-preserved
loop-e-preserved g c =
    let x = c.index-values-e.result in
    let e = c.loop-e.e in
    record {
      some = omega arith;
      finds = λ told tell. c.in-Some.ensures.joins (own_in c.args.split.now) told c.args.slot e c.loop-e.invariant.some (c.loop-e.invariant.finds told tell)
          (c.in-Ok.ensures.read (device told e) (tell_at g.D.Disk.state c.args.values.now told e x tell c.loop-e-test.true c.index-values-e.is));
      small = omega (arith, c.loop-e.invariant.small, c.in-Some.ensures.small);
      slot = subst (λ r. r % 2 ≡ c.args.slot) (sym c.in-Some.ensures.round) c.loop-e.invariant.slot;
      within = omega (arith, c.in-Some.ensures.round, c.loop-e.invariant.within);
      later = omega (arith, c.loop-e.invariant.later, c.in-Ok.ensures.later);
      calm = c.in-Ok.ensures.calm (λ is. absurd cc) ∙ c.loop-e.invariant.calm;
    }

pub returns-clause-finds : goal.returns-clause-finds
returns-clause-finds g c = λ told tell.
    let all : c.loop-e.e ≡ length told = omega (arith, tell.many) in
    subst (λ (n : ℕ). FindsRound (own_in c.args.split.now) told c.args.slot n (Some c.loop-e.so_far)) all (c.loop-e.invariant.finds told tell)
